-- Laws: how the delays fit together, whatever the numbers. `delays_fit_together` proves them, and callers take them from there.
use Rattle.std.specs.Prelude.{ℕ, ◌+◌, ◌<◌, ◌≤◌, List}
use Rattle.pr_wire.specs.declared.delay.Kind.TheVariants.{Bb, Aw, Ne, R, Cr, At, Ye, Ei, F, Dr}
use Rattle.pr_wire.specs.Delays.{delay_at}

-- without end-or-identify CLOCK is pulled before any listener takes its wait for the sign of end-or-identify
abbrev pub NoAnswerByMistake : Type 0
NoAnswerByMistake = (computer printer : List ℕ) (i j : ℕ) → delay_at Ne computer i < delay_at Ye printer j

-- a listener's acknowledgement comes before the computer's next act, though the computer goes on at the first one
abbrev pub SlowerListenerHasAcknowledged : Type 0
SlowerListenerHasAcknowledged =
    (computer printer : List ℕ) (i j : ℕ)
    → (delay_at F printer j < delay_at Bb computer i) × (delay_at F printer j < delay_at R computer i)
    × (delay_at F printer j < delay_at Aw computer i)

-- a printer that does not listen releases DATA before the computer's next act
abbrev pub SlowerPrinterHasReleased : Type 0
SlowerPrinterHasReleased =
    (computer printer : List ℕ) (i j : ℕ)
    → (delay_at Dr printer j < delay_at Bb computer i) × (delay_at Dr printer j < delay_at Cr computer i)

-- an answer to end-or-identify begins before another one ends, so that two make one pulse
abbrev pub AnswersOverlap : Type 0
AnswersOverlap = (one other : List ℕ) (i j k : ℕ) → delay_at Ye one i < delay_at Ye other j + delay_at Ei other k

-- a printer has answered ATN when the computer looks
abbrev pub AnsweredByTheLook : Type 0
AnsweredByTheLook = (computer printer : List ℕ) (i j : ℕ) → delay_at At printer j ≤ delay_at Aw computer i

-- Machine steps: how a follower refuses an edge. No reader needs to believe them.
use Rattle.std.specs.Prelude.{◌≡◌, ℕ, Option, Result, Ok, Err}
use Rattle.pr_wire.specs.declared.Frame.{Frame}
use Rattle.pr_wire.specs.declared.WaveFault.{WaveFault}
use Rattle.pr_wire.specs.declared.follower.Refusal.{Refusal}
use Rattle.pr_wire.specs.Following.{refusal_at}

-- an edge at an index is refused with this fault
abbrev pub RefusesAs : ℕ → WaveFault → Result (Option Frame) Refusal → Type 0
RefusesAs n w (Ok frame) = ⊥
RefusesAs n w (Err refusal) = refusal_at refusal n ≡ w

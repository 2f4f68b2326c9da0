-- Machine steps: what the talker keeps of the lines and of the printers. No reader needs to believe it.
use Rattle.std.specs.Prelude.{◌≡◌, ℕ, ◌+◌, List, [], ◌∷◌, map, Option, Some, None}
use Rattle.pr_bus.specs.declared.lines.Lines as talker
use Rattle.pr_bus.specs.declared.lines.Lines.TheVariants as kept
use Rattle.pr_bus.specs.declared.timing.LineTiming.{LineTiming}
use Rattle.pr_bus.specs.Timed.{Lines, Free, Pulled, Due, ListenerTiming, greatest, least}

-- what is on the lines, by what the talker keeps of them
abbrev pub lines_of : talker.Lines → Lines
lines_of kept.Free = Free
lines_of kept.Pulled = Pulled
lines_of (kept.Due d) = Due d

-- none or one
abbrev pub option_list : {A : Type 0} → Option A → List A
option_list None = []
option_list (Some x) = x ∷ []

-- what hearers wait together
pub record IsLineTiming (hs : List ListenerTiming) (t : LineTiming) : Type 0 where
  pub hold : t.hold ≡ greatest (map (λ (h : ListenerTiming). h.hold) hs)
  pub wait : t.wait ≡ least (map (λ (h : ListenerTiming). h.wait) hs)
  pub end : t.end ≡ greatest (map (λ (h : ListenerTiming). h.wait + h.answer) hs)
  pub accept : t.accept ≡ least (map (λ (h : ListenerTiming). h.accept) hs)

-- DATA is pulled in answer to ATN at a moment, unless it is pulled
abbrev pub answer_moment : Lines → ℕ → Option ℕ
answer_moment Pulled t = None
answer_moment _ t = Some t

-- Machine steps: what a tally keeps of lengths, and what one length more comes to. No reader needs to believe them.
use Rattle.std.specs.Prelude.{◌≡◌, ℕ, ◌+◌, ◌-◌, ◌^◌, ◌<◌, ◌==◌, cond, min, max, nat_le, Bool, List, [], ◌∷◌, length, get_or, Option, Some, None, codes, if◌then◌else◌}
use Rattle.pr_wire.specs.declared.Edge.{Edge}
use Rattle.pr_wire.specs.declared.Levels.{Levels}
use Rattle.pr_report.specs.declared.brief_pulses.Turn.{Turn}
use Rattle.pr_report.specs.BriefPulses.{brief_at}
use Rattle.pr_report.specs.declared.outside.Outside.{Outside}
use Rattle.pr_report.specs.declared.tally.Tally.{Tally}
use Rattle.pr_report.specs.Intervals.{is_beyond}
use Rattle.pr_report.specs.Summary.{figures_text}

-- a count, with one more where a test holds
abbrev pub counted : Bool → ℕ → ℕ
counted test n = min (n + cond test 1 0) (2 ^ 64 - 1)

-- the counter of n, with a length more
abbrev pub counter_with : (more n : ℕ) → ℕ → ℕ
counter_with more n counter = if n == more then min (counter + 1) (2 ^ 64 - 1) else counter

-- the least of some lengths and one more, by how many they are
abbrev pub least_with : (count : ℕ) → ℕ → ℕ → ℕ
least_with count low more = if count == 0 then more else min low more

-- the first length at which the counters make at least half, from n on, after this many
abbrev pub first_half : (count so_far n : ℕ) → List ℕ → Option ℕ
first_half count so_far n [] = None
first_half count so_far n (c ∷ cs) =
    if nat_le (count - min (so_far + c) (2 ^ 64 - 1)) (min (so_far + c) (2 ^ 64 - 1)) then Some n
    else first_half count (min (so_far + c) (2 ^ 64 - 1)) (n + 1) cs

-- a tally takes a length
pub record Adds (n : ℕ) (old new : Tally) : Type 0 where
  pub interval : new.interval ≡ old.interval
  pub bounds : new.bounds ≡ old.bounds
  pub lowest : new.lowest ≡ old.lowest
  pub highest : new.highest ≡ old.highest
  pub count : new.count ≡ min (old.count + 1) (2 ^ 64 - 1)
  pub least : new.least ≡ least_with old.count old.least n
  pub greatest : new.greatest ≡ max old.greatest n
  pub outside : new.outside ≡ counted (is_beyond n old.lowest old.highest) old.outside
  pub room : length new.counters.items ≡ length old.counters.items
  pub counters : (k : ℕ) → k < length old.counters.items
      → get_or new.counters.items k 0 ≡ counter_with n k (get_or old.counters.items k 0)

-- the first of what was found before, and of what is found now
abbrev pub earlier : (before now : Option Outside) → Option Outside
earlier None now = now
earlier (Some o) now = Some o

-- what a tally says
abbrev pub known_text : Tally → List ℕ
known_text t =
    if t.count == 0 then codes ": none"
    else figures_text t.bounds t.interval t.count t.least (first_half t.count 0 0 t.counters.items) t.greatest t.outside

-- the levels of the first edge, after one edge more
abbrev pub first_or : Option Levels → (next : Levels) → Levels
first_or None next = next
first_or (Some first) next = first

-- how many brief pulses the next edge ends, after the last one, if there is one
abbrev pub brief_with : Option Turn → (next : Edge) → ℕ
brief_with None f = 0
brief_with (Some t) f = brief_at t.before t.edge f

-- the next edge, with the levels before it
abbrev pub turn_with : Option Turn → (next : Edge) → Turn
turn_with None f = record { before = f.levels; edge = f }
turn_with (Some t) f = record { before = t.edge.levels; edge = f }

-- Trusted: a device that is shown each change of the lines, and called at each wake.
use Rattle.std.specs.Prelude.{◌≡◌, ℕ, ◌<◌, ◌≤◌, Bool, true, false, List, [], ◌∷◌, Option, Some, None}
use Rattle.pr_wire.specs.declared.Edge.{Edge}
use Rattle.pr_wire.specs.declared.Levels.{Levels}
use Rattle.pr_device.specs.Data.{pulls, wake, standing}
use Rattle.pr_device.specs.Course.{Party}

-- what a device is shown: a change of the lines, or a call at its wake, with the lines as they are
pub data Moment : Type 0 where
  Change : Edge → Moment
  Wake : ℕ → Moment

-- the levels of the lines after these moments, and the last of them
abbrev pub levels_after : List Edge → Levels
levels_after [] = record { atn = true; clock = true; line = true }
levels_after (e ∷ history) = e.levels

abbrev pub time_after : List Edge → ℕ
time_after [] = 0
time_after (e ∷ history) = e.time

-- all that it is shown, the latest first, and the changes among it
abbrev pub moments_shown : List Moment → List Edge
moments_shown [] = []
moments_shown (Change e ∷ ms) = e ∷ moments_shown ms
moments_shown (Wake now ∷ ms) = record { time = now; levels = levels_after (moments_shown ms) } ∷ moments_shown ms

abbrev pub changes_shown : List Moment → List Edge
changes_shown [] = []
changes_shown (Change e ∷ ms) = e ∷ changes_shown ms
changes_shown (Wake now ∷ ms) = changes_shown ms

-- what it does after the last of these moments, by the clause `data` of `Device::step`, where it never prints
abbrev pub does_after : Party → List Edge → Bool
does_after p [] = false
does_after p (e ∷ history) =
    pulls p.timing 0 (does_after p history) (standing p.timing.wait p.device (e ∷ history)) e.time

-- and when it wants to be called, by the clause `wake`
abbrev pub wake_after : Party → List Edge → Option ℕ
wake_after p [] = None
wake_after p (e ∷ history) =
    wake p.timing 0 (does_after p (e ∷ history)) (standing p.timing.wait p.device (e ∷ history)) e.time

-- a moment comes before a wake, if there is one
abbrev pub IsBefore : ℕ → Option ℕ → Type 0
IsBefore moment None = Unit {0}
IsBefore moment (Some next) = moment < next

-- it is called at each wake before anything changes, and finds DATA pulled where it pulls DATA
abbrev pub AreInTime : Party → List Moment → Type 0
AreInTime p [] = Unit {0}
AreInTime p (Change e ∷ ms) =
    (time_after (moments_shown ms) ≤ e.time) × IsBefore e.time (wake_after p (moments_shown ms)) × AreInTime p ms
AreInTime p (Wake now ∷ ms) =
    (wake_after p (moments_shown ms) ≡ Some now)
    × (does_after p (moments_shown ms) ≡ true → (levels_after (moments_shown ms)).line ≡ false) × AreInTime p ms

-- a device can be called at its wakes between these edges, the latest first
pub record CanBeCalled (p : Party) (edges : List Edge) : Type 0 where
  pub moments : List Moment
  pub changes : changes_shown moments ≡ edges
  pub in_time : AreInTime p moments

-- the moments of edges do not go back
abbrev pub GoForward : ℕ → List Edge → Type 0
GoForward now [] = Unit {0}
GoForward now (e ∷ es) = (now ≤ e.time) × GoForward e.time es

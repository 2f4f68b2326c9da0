-- Trusted: edges without brief pulses, as cross-talk makes them. A line's level at an edge is a pulse if the line has another
-- level within a limit of microseconds, and within the next 15 edges. Without pulses the line keeps the level from before.
use Rattle.std.specs.Prelude.{ℕ, ◌-◌, ◌&&◌, Bool, not, nat_le, List, [], ◌∷◌, take, Option, Some, None, if◌then◌else◌}
use Rattle.std.specs.List.{list_any}
use Rattle.pr_wire.specs.declared.Levels.{Levels}
use Rattle.pr_wire.specs.declared.Edge.{Edge}
use Rattle.pr_wire.specs.Table.{same}
use Rattle.pr_capture.specs.declared.fault.Wire.{Wire}
use Rattle.pr_capture.specs.declared.fault.Wire.TheVariants.{Atn, Clock, Data}
use Rattle.pr_capture.specs.Samples.{is_new}

-- a line's level
abbrev pub level_of : Wire → Levels → Bool
level_of Atn l = l.atn
level_of Clock l = l.clock
level_of Data l = l.line

-- at a later edge, at most so many microseconds after this one, the line has another level
abbrev pub changes_within : (limit : ℕ) → Wire → (edge later : Edge) → Bool
changes_within limit wire e f =
    nat_le (f.time - e.time) limit && not (same (level_of wire f.levels) (level_of wire e.levels))

-- a line's level at an edge is a pulse, before these edges
abbrev pub is_brief : (limit : ℕ) → Wire → Edge → (later : List Edge) → Bool
is_brief limit wire e later = list_any (λ f. changes_within limit wire e f) later

-- the line's level at an edge, after these levels: that from before if its own is a pulse
abbrev pub steady_level : (limit : ℕ) → Wire → (told : Option Levels) → Edge → (later : List Edge) → Bool
steady_level limit wire None e later = level_of wire e.levels
steady_level limit wire (Some before) e later =
    if is_brief limit wire e later then level_of wire before else level_of wire e.levels

abbrev pub steady_levels : (limit : ℕ) → (told : Option Levels) → Edge → (later : List Edge) → Levels
steady_levels limit told e later = record {
  atn = steady_level limit Atn told e later;
  clock = steady_level limit Clock told e later;
  line = steady_level limit Data told e later;
}

-- an edge without pulses, before others
abbrev pub steady_edge : (limit : ℕ) → (told : Option Levels) → Edge → (later : List Edge) → Edge
steady_edge limit told e later = record { time = e.time; levels = steady_levels limit told e (take 15 later) }

-- the edges without pulses, after these levels: those at which a level changes then
abbrev pub steady_after : (limit : ℕ) → (told : Option Levels) → List Edge → List Edge
steady_after limit told [] = []
steady_after limit told (e ∷ es) =
    let s = steady_edge limit told e es in
    if is_new told s.levels then s ∷ steady_after limit (Some s.levels) es else steady_after limit told es

abbrev pub without_pulses : (limit : ℕ) → List Edge → List Edge
without_pulses limit edges = steady_after limit None edges

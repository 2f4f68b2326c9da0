-- Trusted: the edges that samples make. A sample says the levels from a moment on, as an edge does;
-- but several samples may have one moment, and a sample may repeat the levels before it.
use Rattle.std.specs.Prelude.{ℕ, ◌-◌, ◌==◌, Bool, true, false, List, [], ◌∷◌, map, Option, Some, None, if◌then◌else◌}
use Rattle.pr_wire.specs.declared.Levels.{Levels}
use Rattle.pr_wire.specs.declared.Edge.{Edge}
use Rattle.pr_wire.specs.Table.{differ}

-- a sample, with its moment counted from a start; what is earlier than the start counts as at the start
abbrev pub counted_from : (start : ℕ) → Edge → Edge
counted_from start s = record { time = s.time - start; levels = s.levels }

-- the first of some samples has this moment
abbrev pub begin_at : ℕ → List Edge → Bool
begin_at time [] = false
begin_at time (s ∷ ss) = time == s.time

-- the last sample of each moment
abbrev pub last_at_each : List Edge → List Edge
last_at_each [] = []
last_at_each (s ∷ ss) = if begin_at s.time ss then last_at_each ss else s ∷ last_at_each ss

-- levels that differ from the last ones, or there are no last ones
abbrev pub is_new : (told : Option Levels) → Levels → Bool
is_new None l = true
is_new (Some b) l = differ b l

-- the samples with other levels than the sample before
abbrev pub changes_after : (told : Option Levels) → List Edge → List Edge
changes_after told [] = []
changes_after told (s ∷ ss) =
    if is_new told s.levels then s ∷ changes_after (Some s.levels) ss else changes_after told ss

-- the edges that samples make, from a start on
unfoldable pub edges_of : (start : ℕ) → (samples : List Edge) → List Edge
edges_of start samples = changes_after None (last_at_each (map (counted_from start) samples))

-- an edge as a list of one, or no edge as the empty list
abbrev pub listed : Option Edge → List Edge
listed None = []
listed (Some e) = e ∷ []

-- Linking words: which samples a detector has taken, and which edges it has given. The clauses of `EdgeDetector` say all that a
-- caller needs of them. No reader needs to believe them.
use Rattle.std.specs.Prelude.{◌≡◌, ℕ, ◌==◌, List, ◌++◌, map, Option, Some, None, if◌then◌else◌}
use Rattle.pr_wire.specs.declared.Levels.{Levels}
use Rattle.pr_wire.specs.declared.Edge.{Edge}
use Rattle.pr_capture.specs.declared.edge_detector.EdgeDetector.{EdgeDetector}
use Rattle.pr_capture.specs.Samples.{changes_after, counted_from, edges_of, is_new, last_at_each, listed}

-- a sample held makes an edge, if the next one is elsewhere and its levels are new
abbrev pub edge_before : (held : Option Edge) → (told : Option Levels) → (next : ℕ) → Option Edge
edge_before None told next = None
edge_before (Some h) told next = if h.time == next then None else (if is_new told h.levels then Some h else None)

-- the last sample makes an edge, if its levels are new
abbrev pub edge_at_end : (held : Option Edge) → (told : Option Levels) → Option Edge
edge_at_end None told = None
edge_at_end (Some h) told = if is_new told h.levels then Some h else None

-- the levels that were reported last
abbrev pub told_with : (told : Option Levels) → Option Edge → Option Levels
told_with told None = told
told_with told (Some e) = Some e.levels

-- the levels of the sample held, if they were reported already
abbrev pub settled_by : (held : Option Edge) → (told : Option Levels) → Option Levels
settled_by None told = None
settled_by (Some h) told = if is_new told h.levels then None else Some h.levels

abbrev pub settled : EdgeDetector → Option Levels
settled g = settled_by g.held g.told

-- the edges that come yet, of the sample held and those that follow
abbrev pub still_to_come : EdgeDetector → List Edge → List Edge
still_to_come g more = changes_after g.told (last_at_each (listed g.held ++ map (counted_from g.start) more))

-- these samples were taken, and these edges were given: whatever samples follow, all edges are these and those that come yet
abbrev pub HasGathered : (start : ℕ) (samples edges : List Edge) → EdgeDetector → Type 0
HasGathered start samples edges g =
    (more : List Edge) → edges_of start (samples ++ more) ≡ edges ++ still_to_come g more

-- whatever follows the samples that a detector has taken, the edges that it has given come first
abbrev pub GivenEdgesComeFirst : Type 0
GivenEdgesComeFirst =
    (start : ℕ) (samples more given : List Edge) (g : EdgeDetector) → HasGathered start samples given g
    → (later : List Edge) × (edges_of start (samples ++ more) ≡ given ++ later)

-- Trusted: traces as Value Change Dumps, as they are written.
use Rattle.std.specs.Prelude.{ℕ, ◌+◌, Bool, true, false, List, [], ◌∷◌, ◌++◌, Option, Some, None, codes, decimal}
use Rattle.pr_wire.specs.declared.Levels.{Levels}
use Rattle.pr_wire.specs.declared.Edge.{Edge}
use Rattle.pr_wire.specs.TraceText.{level_digit}

-- what comes before the changes: the unit of time, microseconds, and the three wires of the bus,
-- which the changes call A, C and D
unfoldable pub head : List ℕ
head =
    codes "$timescale 1 us $end\n$scope module bus $end\n$var wire 1 A ATN $end\n$var wire 1 C CLOCK $end\n$var wire 1 D DATA $end\n$upscope $end\n$enddefinitions $end\n"

-- the time stamp of a moment
unfoldable pub stamp : ℕ → List ℕ
stamp time = codes "#" ++ decimal time ++ codes "\n"

-- the line that gives a wire a level: 1 is released
unfoldable pub change : ℕ → Bool → List ℕ
change wire level = level_digit level ∷ wire ∷ 10 ∷ []

-- the same line, only where the level was another before
abbrev pub change_if : ℕ → (before level : Bool) → List ℕ
change_if wire true true = []
change_if wire false false = []
change_if wire true false = change wire false
change_if wire false true = change wire true

-- the levels that differ from those of the edge before; all three where there is none before
abbrev pub levels_changes : (before : Option Edge) → Levels → List ℕ
levels_changes None l = change 65 l.atn ++ change 67 l.clock ++ change 68 l.line
levels_changes (Some b) l =
    change_if 65 b.levels.atn l.atn ++ change_if 67 b.levels.clock l.clock ++ change_if 68 b.levels.line l.line

-- an edge, with the edge before it if there is one
unfoldable pub edge_changes : (before : Option Edge) → Edge → List ℕ
edge_changes before e = stamp e.time ++ levels_changes before e.levels

-- edges, with the edge before them if there is one
abbrev pub vcd_changes : (before : Option Edge) → List Edge → List ℕ
vcd_changes before [] = []
vcd_changes before (e ∷ es) = edge_changes before e ++ vcd_changes (Some e) es

-- the last of edges, or the edge before them where there are none
abbrev pub last_edge : (before : Option Edge) → List Edge → Option Edge
last_edge before [] = before
last_edge before (e ∷ es) = last_edge (Some e) es

-- a time stamp a millisecond after the last edge, so that viewers show the last levels
abbrev pub vcd_end : (last : Option Edge) → List ℕ
vcd_end None = []
vcd_end (Some e) = stamp (e.time + 1000)

-- the Value Change Dump of a trace
unfoldable pub vcd_of : List Edge → List ℕ
vcd_of edges = head ++ vcd_changes None edges ++ vcd_end (last_edge None edges)

-- Trusted: traces as text: which texts spell which edges, which line is the first bad one, and the
-- text that is written.
use Rattle.std.specs.Prelude.{◌≡◌, ℕ, ◌+◌, ◌^◌, ◌<◌, Bool, true, false, List, [], ◌∷◌, ◌++◌, length, flat_map, decimal, Option, Some, None}
use Rattle.std.specs.List.{list_all}
use Rattle.pr_base.specs.Digits.{is_digit, number_after}
use Rattle.pr_base.specs.Lines.{lines_of}
use Rattle.pr_wire.specs.declared.Edge.{Edge}

-- a level's digit: 1 is released
abbrev pub level_digit : Bool → ℕ
level_digit true = 49
level_digit false = 48

-- a space, and the digits of ATN, CLOCK and DATA
abbrev pub levels_text : Edge → List ℕ
levels_text e = 32 ∷ level_digit e.levels.atn ∷ level_digit e.levels.clock ∷ level_digit e.levels.line ∷ []

-- an edge's line, as it is written: the time in decimal, the levels, the line's end
unfoldable pub edge_text : Edge → List ℕ
edge_text e = decimal e.time ++ (levels_text e ++ 10 ∷ [])

-- the text of a trace: a line for each edge
abbrev pub trace_text : List Edge → List ℕ
trace_text edges = flat_map edge_text edges

-- a line may end with a byte 13
pub data Return : Type 0 where
  WithReturn : Return
  Without : Return

abbrev pub return_text : Return → List ℕ
return_text WithReturn = 13 ∷ []
return_text Without = []

-- a line spells an edge: one or more digits that spell its time, below 2 ^ 64, its levels, and perhaps a byte 13
pub record IsEdgeLine (line : List ℕ) (e : Edge) : Type 0 where
  pub digits : List ℕ
  pub some : 0 < length digits
  pub all : list_all is_digit digits ≡ true
  pub time : number_after 0 digits ≡ e.time
  pub small : e.time < 2 ^ 64
  pub end : Return
  pub spelled : line ≡ digits ++ (levels_text e ++ return_text end)

-- each line spells an edge
abbrev pub AreEdgeLines : List (List ℕ) → List Edge → Type 0
AreEdgeLines [] [] = Unit {0}
AreEdgeLines (l ∷ ls) (e ∷ es) = IsEdgeLine l e × AreEdgeLines ls es
AreEdgeLines _ _ = ⊥

-- a text spells these edges
abbrev pub IsTraceText : List ℕ → List Edge → Type 0
IsTraceText text edges = AreEdgeLines (lines_of text) edges

-- the line of this number, from 1, is the first that spells no edge
pub record IsFirstBad (n : ℕ) (text : List ℕ) : Type 0 where
  pub good : List (List ℕ)
  pub edges : List Edge
  pub bad : List ℕ
  pub more : List (List ℕ)
  pub lines : lines_of text ≡ good ++ bad ∷ more
  pub are_edges : AreEdgeLines good edges
  pub is_bad : (e : Edge) → IsEdgeLine bad e → ⊥
  pub number : n ≡ length good + 1

-- the edges of a text: those that it spells, or those of the lines before its first bad line
abbrev pub SaysEdges : (text : List ℕ) → (edges : List Edge) → (bad : Option ℕ) → Type 0
SaysEdges text edges None = IsTraceText text edges
SaysEdges text edges (Some n) = (first : IsFirstBad n text) × (first.edges ≡ edges)

-- Linking words: what a reader of trace texts has taken. The clauses of `TraceReader` say all that a caller needs of them. No
-- reader needs to believe them.
use Rattle.std.specs.Prelude.{◌≡◌, ℕ, List, ◌++◌, length, Option}
use Rattle.pr_wire.specs.declared.Edge.{Edge}
use Rattle.pr_wire.specs.declared.reader.TraceReader.{TraceReader}
use Rattle.pr_wire.specs.Checked.{IsScanned}
use Rattle.pr_wire.specs.TraceText.{SaysEdges}

-- how many edges a reader has given
abbrev pub edge_count : TraceReader → ℕ
edge_count r = r.count

-- the reader has taken a text, and has given these edges
pub record HasReadTrace (text : List ℕ) (edges : List Edge) (r : TraceReader) : Type 0 where
  pub scanned : IsScanned text edges r.part
  pub count : length edges ≡ r.count

-- whatever follows what a reader has taken, the edges that it has given come first
abbrev pub GivenEdgesComeFirst : Type 0
GivenEdgesComeFirst =
    (text more : List ℕ) (given edges : List Edge) (bad : Option ℕ) (r : TraceReader) → HasReadTrace text given r
    → SaysEdges (text ++ more) edges bad
    → (later : List Edge) × (edges ≡ given ++ later)

-- Trusted: what each call of a reader of trace texts does. `HasReadTrace` holds of a new reader
-- with no text; each call says for which text and edges it holds next; and the answers are right
-- for each text and all edges for which it holds.
use Rattle.std.specs.Prelude.{ℕ, List, ◌++◌, Option, Some, None, Result, Ok, Err}
use Rattle.std.specs.Option.{option_to_list}
use Rattle.pr_wire.specs.declared.Edge.{Edge}
use Rattle.pr_wire.specs.declared.reader.TraceReader.{TraceReader}
use Rattle.pr_wire.specs.declared.text.TraceFault.{TraceFault}
use Rattle.pr_wire.specs.declared.text.TraceFault.TheVariants.{BadLine, NoMemory}
use Rattle.pr_wire.specs.TraceReading.{HasReadTrace}
use Rattle.pr_wire.specs.TraceText.{SaysEdges}

-- the reader has taken these bytes after those before, and has given this edge, if there is one
abbrev pub ReadsMore : (bytes : List ℕ) → Option Edge → (old new : TraceReader) → Type 0
ReadsMore bytes edge old new = (text : List ℕ) (edges : List Edge) → HasReadTrace text edges old
    → HasReadTrace (text ++ bytes) (edges ++ option_to_list edge) new

-- the fault of every text that begins with the bytes taken before and these
abbrev pub FaultsIn : (bytes : List ℕ) → (old : TraceReader) → TraceFault → Type 0
FaultsIn bytes old (BadLine n) = (text : List ℕ) (edges : List Edge) → HasReadTrace text edges old
    → (more : List ℕ) → SaysEdges ((text ++ bytes) ++ more) edges (Some n)
FaultsIn bytes old NoMemory = ⊥

-- what a reader answers at the text's end
abbrev pub EndsText : TraceReader → Result (Option Edge) TraceFault → Type 0
EndsText r (Ok edge) =
    (text : List ℕ) (edges : List Edge) → HasReadTrace text edges r
    → SaysEdges text (edges ++ option_to_list edge) None
EndsText r (Err (BadLine n)) =
    (text : List ℕ) (edges : List Edge) → HasReadTrace text edges r → SaysEdges text edges (Some n)
EndsText r (Err NoMemory) = ⊥

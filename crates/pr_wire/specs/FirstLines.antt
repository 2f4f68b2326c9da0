-- Linking words, for proofs: which edges the first lines of a text spell. No reader needs to believe them.
use Rattle.std.specs.Prelude.{◌≡◌, List, ◌++◌, ℕ, length, take}
use Rattle.pr_wire.specs.declared.first_lines.FirstLines.{FirstLines}
use Rattle.pr_wire.specs.AheadSteps.{answered_edges}
use Rattle.pr_wire.specs.TraceText.{AreEdgeLines}
use Rattle.pr_base.specs.Lines.{lines_of}

-- the first lines of a text spell these edges, whatever is after them; there is room for those of a frame
pub record AreFirstLines (text : List ℕ) (f : FirstLines) : Type 0 where
  pub room : length f.edges ≡ answered_edges
  pub good : List (List ℕ)
  pub lines : (more : List ℕ) → lines_of (take f.len text ++ more) ≡ good ++ lines_of more
  pub are_edges : AreEdgeLines good (take f.count f.edges)

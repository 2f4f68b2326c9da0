use Rattle.std.proofs.Common.{◌≡◌, ◌++◌, length}
use Rattle.std.specs.Prelude.{flat_map}
use Rattle.pr_wire.specs.TraceText.{edge_text}
use Rattle.pr_wire.proofs.line_writer.Writer.push_edges.Given as goal

-- the text so far and that of what is left make the whole
abbrev pub invariant-loop-rest : goal.invariant-loop-rest
invariant-loop-rest l = l.text.items ++ flat_map edge_text l.rest ≡ l.fn.text.items ++ flat_map edge_text l.edges

abbrev pub decreases-loop-rest : goal.decreases-loop-rest
decreases-loop-rest l = length l.rest

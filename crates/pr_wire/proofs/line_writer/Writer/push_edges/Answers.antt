use Rattle.std.proofs.lemmas.List.{take_rest}
use Rattle.pr_wire.proofs.TextLaws.{more_edges}
use Rattle.pr_wire.proofs.line_writer.Writer.push_edges.Goals as goal

pub loop-rest-preserved : goal.loop-rest-preserved
loop-rest-preserved c =
    rw take_rest (more_edges c.loop-rest.text.items c.extend_from_slice.new.self.items _ _ c.loop-rest.rest.now c.min-count.result c.in_ok-extend_from_slice.ensures.items c.fill-end.ensures.text c.loop-rest.invariant)

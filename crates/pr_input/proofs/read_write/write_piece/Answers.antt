use Rattle.std.proofs.Common.{rules}
use Rattle.pr_input.proofs.KnownSteps.{appends_rest, front_rest, tail_from}
use Rattle.pr_input.proofs.read_write.write_piece.Goals as goal

pub loop-rest-preserved : goal.loop-rest-preserved
loop-rest-preserved g c = record {
  whole = λ new h. c.loop-rest.invariant.whole new (appends_rest _ (g.W.Write.contents c.write.new.self.inner) new c.in-Ok.n c.loop-rest.rest.now c.in-Ok.ensures.bytes (rw tail_from at h));
  front = λ new h. c.loop-rest.invariant.front new (front_rest _ (g.W.Write.contents c.write.new.self.inner) new c.in-Ok.n c.loop-rest.rest.now c.in-Ok.ensures.bytes (rw tail_from at h));
  fresh = search rules;
}

use Rattle.std.proofs.Common.{arith, take}
use Rattle.pr_input.proofs.KnownSteps.{all_taken, too_many}
use Rattle.pr_input.proofs.read_write.read_whole.Goals as goal

pub returns-in-Ok-eq0-clause-ok : goal.returns-in-Ok-eq0-clause-ok
returns-in-Ok-eq0-clause-ok g c =
    all_taken _ (g.R.Read.remaining c.pieces.input.inner) (g.R.Read.remaining c.read.new.self.inner) c.pieces.bytes.items c.read.new.buf c.in-Ok-eq0.field-0 c.in-Ok-eq0.field-0-test c.pieces.invariant.taken c.in-Ok-eq0.ensures.bytes.0
    (c.in-Ok-eq0.ensures.bytes.1 c.in-Ok-eq0.field-0-test (omega arith))

pub returns-then-n-limit-clause-large : goal.returns-then-n-limit-clause-large
returns-then-n-limit-clause-large g c = λ _.
    too_many _ (g.R.Read.remaining c.pieces.input.inner) (g.R.Read.remaining c.read.new.self.inner) c.pieces.bytes.items (take c.in-Ok.n c.read.new.buf) c.args.limit c.pieces.invariant.taken c.in-Ok.ensures.bytes.0
    (omega (arith, c.in-Ok.ensures.bound, c.pieces.bytes.ok.0))

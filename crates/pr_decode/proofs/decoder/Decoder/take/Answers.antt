use Rattle.std.proofs.Common.{Some}
use Rattle.pr_decode.proofs.Taken.{first-taken, more-taken}
use Rattle.pr_decode.proofs.decoder.Decoder.take.Goals as goal

pub returns-in_default-clause-read : goal.returns-in_default-clause-read
returns-in_default-clause-read c = λ edges given h. rw c.begun.ensures (first-taken edges given c.args.self.now c.args.edge c.in_default.is h)

pub returns-clause-read : goal.returns-clause-read
returns-clause-read c = λ edges given h.
    more-taken edges given c.args.self.now (record { stretch = Some c.step.new.stretch; transfer = c.step.new.transfer }) c.args.edge
    c.in-Some.stretch c.step.result c.in-Some.is c.step.ensures.reading c.step.ensures.new h

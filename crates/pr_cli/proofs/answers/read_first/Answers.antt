use Rattle.std.proofs.Common.{◌-◌, arith}
use Rattle.std.proofs.lemmas.List.{length-take-le}
use Rattle.pr_input.specs.Watched.{wrapped}
use Rattle.pr_cli.proofs.FirstBytes.{all_first, enough_first}
use Rattle.pr_cli.proofs.answers.read_first.Goals as goal

pub returns-in-Ok-eq0-clause-front : goal.returns-in-Ok-eq0-clause-front
returns-in-Ok-eq0-clause-front g c =
    let room = length-take-le (4096 - c.len-wanted.result) c.reads.block (omega (arith, c.reads.invariant.room)) in
    all_first 4096 _ (g.R.Read.remaining (wrapped c.reads.input)) (g.R.Read.remaining (wrapped c.read.new.self)) c.reads.first.items c.read.new.buf c.in-Ok-eq0.field-0 c.in-Ok-eq0.field-0-test c.reads.invariant.taken c.in-Ok-eq0.ensures.bytes.0
    (c.in-Ok-eq0.ensures.bytes.1 c.in-Ok-eq0.field-0-test (omega (arith, room))) c.reads.invariant.within

pub returns-clause-front : goal.returns-clause-front
returns-clause-front g c =
    enough_first 4096 _ (g.R.Read.remaining (wrapped c.reads.input)) c.reads.first.items c.reads.invariant.taken (omega (arith, c.reads.invariant.within))

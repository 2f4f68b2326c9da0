use Rattle.std.proofs.Common.{arith, ap, length, ◌-◌}
use Rattle.pr_basic.proofs.LineLaws.{return_within}
use Rattle.pr_basic.proofs.script.read_line.Goals as goal

pub returns-in-Err-clause-within : goal.returns-in-Err-clause-within
returns-in-Err-clause-within c = omega (arith, c.column.ensures, ap length c.without_return-line.ensures, return_within c.args.line.now)

use Rattle.std.proofs.Common.{◌≡◌, ◌<◌, length, arith}
use Rattle.std.proofs.lemmas.Grind.{common_steps}
use Rattle.pr_explain.proofs.FirstLines.{ended_alone, stands_alone}
use Rattle.pr_explain.proofs.lines.alone.Goals as goal

pub returns-then-is_empty : goal.returns-then-is_empty
returns-then-is_empty c =
    let none : length c.args.line.now ≡ 0 = grind (arith, common_steps, c.is_empty.ensures, c.if-is_empty.true) in
    λ text more cut. ended_alone c.args.line.now none

pub returns-else-is_empty : goal.returns-else-is_empty
returns-else-is_empty c =
    let some : 0 < length c.args.line.now = grind (arith, common_steps, c.is_empty.ensures, c.if-is_empty.false) in
    λ text more cut. stands_alone text c.args.line.now more some cut

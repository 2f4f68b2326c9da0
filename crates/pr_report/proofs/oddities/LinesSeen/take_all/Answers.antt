use Rattle.std.proofs.Common.{◌<◌, Some, ap, arith, length, refl}
use Rattle.std.proofs.lemmas.Grind.{common_steps}
use Rattle.pr_wire.specs.declared.Levels.{Levels}
use Rattle.pr_report.proofs.LinesLooked.{many-seen}
use Rattle.pr_report.proofs.oddities.LinesSeen.take_all.Goals as goal

pub returns : goal.returns
returns c =
    let some : 0 < length c.args.edges.now = grind (arith, common_steps, c.is_empty.ensures, c.if-is_empty.false) in
    many-seen c.args.self.now _ c.args.edges.now _ _ some c.with_calls-self.ensures (ap (λ (l : Levels). Some l) c.first_or.ensures) refl c.take_all.ensures

use Rattle.std.proofs.Common.{Some, ap, refl}
use Rattle.pr_wire.specs.declared.Levels.{Levels}
use Rattle.pr_report.specs.declared.oddities.LinesSeen.{LinesSeen}
use Rattle.pr_report.proofs.LinesLooked.{seen-more}
use Rattle.pr_report.proofs.oddities.LinesSeen.take.Goals as goal

pub returns : goal.returns
returns c =
    let new : LinesSeen = record { has_attention = c.with_attention-self.result; first = Some c.first_or.result; last = Some c.args.edge.levels; pulses = c.take.new.self } in
    seen-more c.args.self.now new c.args.edge c.with_attention-self.ensures (ap (λ (l : Levels). Some l) c.first_or.ensures) refl c.take.ensures

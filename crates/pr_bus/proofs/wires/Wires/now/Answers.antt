use Rattle.std.proofs.Common.{◌≤◌, arith, subst}
use Rattle.pr_bus.specs.Timed.{wires}
use Rattle.pr_bus.specs.Sums.{time_bound}
use Rattle.pr_bus.specs.WiresState.{WiresState}
use Rattle.pr_bus.specs.Wired.{numbers_of}
use Rattle.pr_bus.proofs.Sooner.{after-soon}
use Rattle.pr_bus.proofs.wires.Wires.now.Goals as goal

pub returns-clause-soon : goal.returns-clause-soon
returns-clause-soon c =
    let d = numbers_of c.self.inside.offsets c.self.inside.talker in
    subst (λ (w : WiresState). c.self.inside.time ≤ time_bound w.items) c.self.view_is
    (omega (arith, c.self.invariant.time, after-soon (wires c.self.inside.present d.computer d.four d.five) c.self.inside.log.items.items c.self.invariant.items))

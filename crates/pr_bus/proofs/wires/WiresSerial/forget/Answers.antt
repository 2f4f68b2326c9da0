use Rattle.std.proofs.Common.{◌≡◌, length, arith}
use Rattle.std.proofs.lemmas.Grind.{common_steps}
use Rattle.pr_bus.proofs.WiredLemmas.{wired-forgotten}
use Rattle.pr_bus.proofs.wires.WiresSerial.forget.Goals as goal

pub invariant_of-self : goal.invariant_of-self
invariant_of-self c =
    let count : c.len.result ≡ length c.forget.new.self.items.items = grind (arith, common_steps) in
    wired-forgotten c.self.inside c.forget.new.self c.len.result c.self.invariant count c.forget.ensures.items c.forget.ensures.trace c.forget.ensures.four c.forget.ensures.five

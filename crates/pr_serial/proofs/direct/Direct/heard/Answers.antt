use Rattle.std.proofs.Common.{arith}
use Rattle.std.proofs.lemmas.Grind.{common_steps}
use Rattle.pr_serial.specs.HeardSinceMark.{items_before}
use Rattle.pr_serial.proofs.HeardLemmas.{length-heard_by, length-heard_since}
use Rattle.pr_serial.proofs.direct.Direct.heard.Goals as goal

pub returns-in-4 : goal.returns-in-4
returns-in-4 c =
    let inside = c.self.inside in
    record {
      heard = grind (arith, common_steps);
      absent = grind (arith, common_steps);
      bounded = length-heard_by c.args.self.now.present c.args.device c.args.self.now.items;
      short = rw (← c.self.view_is) (length-heard_since inside.present 4 (items_before inside.mark inside.items.items) inside.items.items _ _ c.deref.ensures.value c.self.invariant.0.inputs);
    }

pub returns-in-5 : goal.returns-in-5
returns-in-5 c =
    let inside = c.self.inside in
    record {
      heard = grind (arith, common_steps);
      absent = grind (arith, common_steps);
      bounded = length-heard_by c.args.self.now.present c.args.device c.args.self.now.items;
      short = rw (← c.self.view_is) (length-heard_since inside.present 5 (items_before inside.mark inside.items.items) inside.items.items _ _ c.deref-in-5.ensures.value c.self.invariant.1.inputs);
    }

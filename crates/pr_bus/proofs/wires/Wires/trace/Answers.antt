use Rattle.std.proofs.Common.{◌+◌, ◌≤◌, List, length, ap, arith, length-append, subst}
use Rattle.pr_wire.specs.declared.Edge.{Edge}
use Rattle.pr_bus.specs.Sums.{edge_bound}
use Rattle.pr_bus.specs.WiresState.{WiresState, trace_until}
use Rattle.pr_bus.specs.Wired.{numbers_of}
use Rattle.pr_bus.proofs.wires.Wires.trace.Goals as goal

pub returns-clause-short : goal.returns-clause-short
returns-clause-short c =
    let w = c.self.inside in
    let d = numbers_of w.offsets w.talker in
    subst (λ (v : WiresState). length c.deref.result.now ≤ 1 + edge_bound v.items) c.self.view_is
    (omega (
      arith,
      ap {A = List Edge} (λ l. length l) c.deref.ensures.value,
      ap {A = List Edge} (λ l. length l) c.self.invariant.trace,
      length-append (trace_until w.present d w.mark w.log.items.items) w.log.trace.items,
      (c.timed_traces_are_bounded.ensures.whole w.present d w.log.items.items c.self.invariant.items).1,
    ))

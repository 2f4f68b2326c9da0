use Rattle.std.proofs.Common.{arith, drop, sym, subst, take, ◌++◌}
use Rattle.std.proofs.lemmas.List.{take-append-drop}
use Rattle.pr_wire.specs.Table.{IsAllowed}
use Rattle.pr_bus.specs.PortState.{IsHearing, IsReady, MayHear}
use Rattle.pr_bus.proofs.PortLemmas.{first-is, hears-passed, less-ready, room-for-passed}
use Rattle.pr_bus.proofs.port.WiredPort.hear_front.Goals as goal

pub push_given-requires : goal.push_given-requires
push_given-requires c =
    let edges = c.args.edges.now in
    let n = c.pass_frame-passed.result.count in
    let port = c.args.self.now in
    let forgotten = c.requires.may.0 in
    let trace = c.requires.may.1 in
    let ready : IsReady forgotten trace (take n edges ++ drop n edges) port = subst (λ l. IsReady forgotten trace l port) (sym (take-append-drop n edges)) c.requires.may.2 in
    let first = less-ready c.fronts_are_allowed.ensures.fronts c.inputs_add_up.ensures.two_parts forgotten trace (take n edges) (drop n edges) port ready in
    room-for-passed forgotten trace (take n edges) port c.pass_frame-passed.result.input first (c.pass_frame-passed.ensures.inputs trace ready.hears.taken)

pub hear_one-requires-clause-may : goal.hear_one-requires-clause-may
hear_one-requires-clause-may c =
    let edges = c.args.edges.now in
    let port = c.args.self.now in
    let forgotten = c.requires.may.0 in
    let trace = c.requires.may.1 in
    let s = c.pass_frame-passed.ensures.stays (omega (arith, c.if-passed-gt0.false)) in
    let ready : IsReady forgotten trace (take 1 edges ++ drop 1 edges) port = subst (λ l. IsReady forgotten trace l port) (sym (take-append-drop 1 edges)) c.requires.may.2 in
    let first = less-ready c.fronts_are_allowed.ensures.fronts c.inputs_add_up.ensures.two_parts forgotten trace (take 1 edges) (drop 1 edges) port ready in
    let may : MayHear (take 1 edges) port = (forgotten, trace, first) in
    rw s.0 (subst (λ l. MayHear l port) (first-is edges _ c.requires.some) may)

pub returns-clause-hears : goal.returns-clause-hears
returns-clause-hears c = λ forgotten trace a h.
    let s = c.pass_frame-passed.ensures.stays (omega (arith, c.if-passed-gt0.false)) in
    let e = first-is c.args.edges.now _ c.requires.some in
    subst (λ l. IsHearing forgotten (trace ++ l) c.hear_one.new.self) (sym e)
    (c.hear_one.ensures.hears forgotten trace (subst (λ l. IsAllowed (trace ++ l)) e a) (rw s.0 h))

pub returns-then-passed-gt0-clause-hears : goal.returns-then-passed-gt0-clause-hears
returns-then-passed-gt0-clause-hears c = λ forgotten trace a h.
    let passed = c.pass_frame-passed.ensures in
    hears-passed forgotten trace (take c.pass_frame-passed.result.count c.args.edges.now) c.args.self.now _ c.pass_frame-passed.result.input h (passed.taken trace h.taken) passed.refusal passed.device (passed.inputs trace h.taken) c.push_given.ensures.items

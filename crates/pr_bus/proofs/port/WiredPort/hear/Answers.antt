use Rattle.std.proofs.Common.{◌∙◌, ◌++◌, arith, drop, length-drop, subst, take}
use Rattle.std.proofs.lemmas.List.{take_all, take_rest}
use Rattle.pr_bus.specs.PortState.{IsHearing, MayHear}
use Rattle.pr_bus.proofs.PortLemmas.{front-is, front-allowed, rest-ready}
use Rattle.pr_bus.proofs.port.WiredPort.hear.Goals as goal

pub loop-at-preserved : goal.loop-at-preserved
loop-at-preserved c =
    let i = c.loop-at.at in
    let n = c.hear_front-at.result in
    let edges = c.args.edges.now in
    let hears = rw take_rest at c.hear_front-at.ensures.hears in
    let within = rw take_rest at c.hear_front-at.ensures.within in
    record {
      hears = λ forgotten trace a h.
          subst (λ l. IsHearing forgotten l c.hear_front-at.new.self) (front-is trace edges i n)
          (hears forgotten (trace ++ take i edges) (front-allowed c.fronts_are_allowed.ensures.fronts trace edges i n a) (c.loop-at.invariant.hears forgotten trace a h));
      within = omega (arith, within, length-drop i edges, c.loop-at.invariant.within);
      device = c.hear_front-at.ensures.device ∙ c.loop-at.invariant.device;
      present = c.hear_front-at.ensures.present ∙ c.loop-at.invariant.present;
      count = omega (arith, c.hear_front-at.ensures.count, c.loop-at.invariant.count);
      capacity = c.hear_front-at.ensures.capacity ∙ c.loop-at.invariant.capacity;
    }

pub hear_front-at-requires-clause-may : goal.hear_front-at-requires-clause-may
hear_front-at-requires-clause-may c =
    let i = c.loop-at.at in
    let edges = c.args.edges.now in
    let forgotten = c.requires.may.0 in
    let trace = c.requires.may.1 in
    let ready = c.requires.may.2 in
    let heard = c.loop-at.invariant.hears forgotten trace ready.allowed ready.hears in
    let may : MayHear (drop i edges) c.loop-at.self = (forgotten, trace ++ take i edges, rest-ready forgotten trace edges i c.args.self.now c.loop-at.self ready heard c.loop-at.invariant.device c.loop-at.invariant.capacity) in
    rw take_rest may

pub returns-clause-hears : goal.returns-clause-hears
returns-clause-hears c = λ forgotten trace a h.
    subst (λ l. IsHearing forgotten (trace ++ l) c.loop-at.self) (take_all c.loop-at.at c.args.edges.now c.loop-at-test.false) (c.loop-at.invariant.hears forgotten trace a h)

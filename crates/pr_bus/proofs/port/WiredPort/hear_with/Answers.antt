use Rattle.std.proofs.Common.{◌≡◌, arith, drop, length, length-drop, subst}
use Rattle.std.proofs.lemmas.List.{take_rest}
use Rattle.pr_bus.specs.PortState.{MayHear}
use Rattle.pr_bus.specs.Together.{HearsMore}
use Rattle.pr_bus.proofs.HearingMore.{heard-on, rest-may}
use Rattle.pr_bus.proofs.port.WiredPort.hear_with.Goals as goal

pub loop-at-preserved : goal.loop-at-preserved
loop-at-preserved c =
    let i = c.loop-at.at in
    let n = c.hear_front_with-at.result in
    let edges = c.args.edges.now in
    let law = c.fronts_are_allowed.ensures.fronts in
    let within = rw take_rest at c.hear_front_with-at.ensures.within in
    let hears = rw take_rest at c.hear_front_with-at.ensures.hears in
    let other = rw take_rest at c.hear_front_with-at.ensures.other_hears in
    record {
      within = omega (arith, within, length-drop i edges, c.loop-at.invariant.within);
      hears = heard-on law edges i n c.args.self.now c.loop-at.self c.hear_front_with-at.new.self c.loop-at.invariant.hears hears;
      other = heard-on law edges i n c.args.other.now c.loop-at.other c.hear_front_with-at.new.other c.loop-at.invariant.other other;
    }

pub hear_front_with-at-requires-clause-may : goal.hear_front_with-at-requires-clause-may
hear_front_with-at-requires-clause-may c =
    let may : MayHear (drop c.loop-at.at c.args.edges.now) c.loop-at.self =
    rest-may c.fronts_are_allowed.ensures.fronts c.args.edges.now c.loop-at.at c.args.self.now c.loop-at.self c.requires.may c.loop-at.invariant.hears in
    rw take_rest may

pub hear_front_with-at-requires-clause-other_may : goal.hear_front_with-at-requires-clause-other_may
hear_front_with-at-requires-clause-other_may c =
    let may : MayHear (drop c.loop-at.at c.args.edges.now) c.loop-at.other =
    rest-may c.fronts_are_allowed.ensures.fronts c.args.edges.now c.loop-at.at c.args.other.now c.loop-at.other c.requires.other_may c.loop-at.invariant.other in
    rw take_rest may

pub returns-clause-hears : goal.returns-clause-hears
returns-clause-hears c =
    let all : c.loop-at.at ≡ length c.args.edges.now = omega (arith, c.loop-at.invariant.within, c.loop-at-test.false) in
    subst (λ n. HearsMore c.args.edges.now n c.args.self.now c.loop-at.self) all c.loop-at.invariant.hears

pub returns-clause-other_hears : goal.returns-clause-other_hears
returns-clause-other_hears c =
    let all : c.loop-at.at ≡ length c.args.edges.now = omega (arith, c.loop-at.invariant.within, c.loop-at-test.false) in
    subst (λ n. HearsMore c.args.edges.now n c.args.other.now c.loop-at.other) all c.loop-at.invariant.other

use Rattle.std.proofs.Common.{◌≡◌, ◌++◌, ◌∷◌, [], List, ap, append-nil, arith, length, sym, ◌∙◌}
use Rattle.pr_wire.specs.declared.Edge.{Edge}
use Rattle.pr_capture.specs.Samples.{listed}
use Rattle.pr_capture.specs.Pulses.{steady_after}
use Rattle.pr_capture.proofs.Sifting.{last_decided, sifts_all}
use Rattle.pr_capture.proofs.pulse_filter.PulseFilter.finish.Goals as goal

pub returns-clause-all : goal.returns-clause-all
returns-clause-all c =
    let f = c.args.self in
    let all : c.loop-front.edges.items ++ [] ≡ c.args.edges.now.items ++ steady_after f.limit f.told f.held = rw c.in_default.ensures.none at c.loop-front.invariant.same in
    sifts_all f _ _ (sym (append-nil c.loop-front.edges.items) ∙ all)

pub loop-front-preserved-in-Continue-branch-2 : goal.loop-front-preserved-in-Continue-branch-2
loop-front-preserved-in-Continue-branch-2 c =
    let f = c.loop-front.self in
    let held = c.pop_front.new.self in
    let before = c.loop-front.edges.items in
    let all : List Edge = c.args.edges.now.items ++ steady_after c.args.self.limit c.args.self.told c.args.self.held in
    let first : before ++ steady_after f.limit f.told (c.in-Some.front ∷ held) ≡ all = rw c.in-Some.ensures.first at c.loop-front.invariant.same in
    let added : c.push.new.self.items ≡ before ++ listed c.decide.result = rw c.in-Some-decide.is c.in_ok-push.ensures.items in
    record {
      same = rw (c.decide.ensures.limit, c.decide.ensures.told, c.decide.ensures.held) (last_decided f.limit f.told c.in-Some.front held before _ all c.decide.result c.decide.ensures.known added first);
      few = omega (arith, ap length c.in-Some.ensures.first, ap length c.decide.ensures.held, c.in_ok-push.ensures.len, c.loop-front.invariant.few);
    }

pub loop-front-preserved : goal.loop-front-preserved
loop-front-preserved c =
    let f = c.loop-front.self in
    let held = c.pop_front.new.self in
    let before = c.loop-front.edges.items in
    let all : List Edge = c.args.edges.now.items ++ steady_after c.args.self.limit c.args.self.told c.args.self.held in
    let first : before ++ steady_after f.limit f.told (c.in-Some.front ∷ held) ≡ all = rw c.in-Some.ensures.first at c.loop-front.invariant.same in
    let same : before ≡ before ++ listed c.decide.result = rw c.in_default-decide.is (sym (append-nil before)) in
    record {
      same = rw (c.decide.ensures.limit, c.decide.ensures.told, c.decide.ensures.held) (last_decided f.limit f.told c.in-Some.front held before _ all c.decide.result c.decide.ensures.known same first);
      few = omega (arith, ap length c.in-Some.ensures.first, ap length c.decide.ensures.held, c.loop-front.invariant.few);
    }

use Rattle.std.proofs.Common.{arith, refl}
use Rattle.pr_bus.proofs.HearingMore.{first-may, heard-at-once, heard-first, room-at-once}
use Rattle.pr_bus.proofs.port.WiredPort.hear_front_with.Goals as goal

pub push_given-requires : goal.push_given-requires
push_given-requires c =
    let passed = c.pass_frame_with-passed in
    room-at-once c.fronts_are_allowed.ensures.fronts c.inputs_add_up.ensures.two_parts c.args.edges.now passed.result.count c.args.self.now passed.result.input passed.new.self c.requires.may passed.ensures.takes

pub push_given-requires-then-passed-gt0 : goal.push_given-requires-then-passed-gt0
push_given-requires-then-passed-gt0 c =
    let passed = c.pass_frame_with-passed in
    room-at-once c.fronts_are_allowed.ensures.fronts c.inputs_add_up.ensures.two_parts c.args.edges.now passed.result.count c.args.other.now passed.result.other passed.new.other c.requires.other_may passed.ensures.other_takes

pub hear_one-requires-clause-may : goal.hear_one-requires-clause-may
hear_one-requires-clause-may c =
    let s = c.pass_frame_with-passed.ensures.takes.stays (omega (arith, c.if-passed-gt0.false)) in
    rw s.0 (first-may c.fronts_are_allowed.ensures.fronts c.inputs_add_up.ensures.two_parts c.args.edges.now _ c.args.self.now c.requires.some c.requires.may)

pub hear_one-requires-2-clause-may : goal.hear_one-requires-2-clause-may
hear_one-requires-2-clause-may c =
    let s = c.pass_frame_with-passed.ensures.other_takes.stays (omega (arith, c.if-passed-gt0.false)) in
    rw s.0 (first-may c.fronts_are_allowed.ensures.fronts c.inputs_add_up.ensures.two_parts c.args.edges.now _ c.args.other.now c.requires.some c.requires.other_may)

pub returns-then-passed-gt0-clause-hears : goal.returns-then-passed-gt0-clause-hears
returns-then-passed-gt0-clause-hears c =
    let passed = c.pass_frame_with-passed in
    heard-at-once c.args.edges.now passed.result.count c.args.self.now _ passed.result.input passed.ensures.takes refl c.push_given.ensures.items c.push_given.ensures.capacity

pub returns-then-passed-gt0-clause-other_hears : goal.returns-then-passed-gt0-clause-other_hears
returns-then-passed-gt0-clause-other_hears c =
    let passed = c.pass_frame_with-passed in
    heard-at-once c.args.edges.now passed.result.count c.args.other.now _ passed.result.other passed.ensures.other_takes refl c.push_given-then-passed-gt0.ensures.items c.push_given-then-passed-gt0.ensures.capacity

pub returns-clause-hears : goal.returns-clause-hears
returns-clause-hears c =
    let s = c.pass_frame_with-passed.ensures.takes.stays (omega (arith, c.if-passed-gt0.false)) in
    let one = c.hear_one.ensures in
    heard-first c.args.edges.now _ c.args.self.now c.hear_one.new.self c.requires.some (λ forgotten trace a h. one.hears forgotten trace a (rw s.0 h)) (rw s.0 at one.device) one.present (rw s.0 at one.count) one.capacity

pub returns-clause-other_hears : goal.returns-clause-other_hears
returns-clause-other_hears c =
    let s = c.pass_frame_with-passed.ensures.other_takes.stays (omega (arith, c.if-passed-gt0.false)) in
    let one = c.hear_one-2.ensures in
    heard-first c.args.edges.now _ c.args.other.now c.hear_one-2.new.self c.requires.some (λ forgotten trace a h. one.hears forgotten trace a (rw s.0 h)) (rw s.0 at one.device) one.present (rw s.0 at one.count) one.capacity

use Rattle.std.proofs.Common.{sym, refl}
use Rattle.pr_receiver.proofs.Ended.{faulty}
use Rattle.pr_receiver.proofs.WholeTrace.{gives-next, refused-whole, handed_on, given-all, heard-whole}
use Rattle.pr_receiver.proofs.receiver.replay.Goals as goal

pub returns-in_err-input-clause-fault : goal.returns-in_err-input-clause-fault
returns-in_err-input-clause-fault c =
    handed_on _ c.in_err-input.field-0.0 _ c.from_residual.ensures.1
    (λ n. refused-whole c.allowed_traces.ensures.allowed c.allowed_traces.ensures.fault c.args.device c.args.edges.now _ _ _ _ _ c.loop-edge.invariant c.loop-edge-test.true c.in_err-input.ensures.allowed c.in_err-input.ensures.fault)

pub returns-in_err-input-clause-not_lawful : goal.returns-in_err-input-clause-not_lawful
returns-in_err-input-clause-not_lawful c =
    handed_on _ c.in_err-input.field-0.0 _ c.from_residual.ensures.1
    (λ n. faulty c.lawful_traces.ensures.faultless c.args.edges.now _ (refused-whole c.allowed_traces.ensures.allowed c.allowed_traces.ensures.fault c.args.device c.args.edges.now _ _ _ _ _ c.loop-edge.invariant c.loop-edge-test.true c.in_err-input.ensures.allowed c.in_err-input.ensures.fault))

pub loop-edge-preserved : goal.loop-edge-preserved
loop-edge-preserved c =
    gives-next c.allowed_traces.ensures.allowed c.args.device c.args.edges.now _ _ _ _ _ _ c.in_ok-input.input c.loop-edge.invariant c.loop-edge-test.true
    c.in_ok-input.ensures.allowed c.in_ok-input.ensures.taken c.in_ok-input.ensures.works.1 c.in_ok-input.ensures.device c.in_ok-input.ensures.count c.in_ok-keep.ensures.kept

pub returns-in_err-finish-clause-fault : goal.returns-in_err-finish-clause-fault
returns-in_err-finish-clause-fault c =
    let g = given-all c.args.device c.args.edges.now _ _ _ c.loop-edge.invariant c.loop-edge-test.false in
    handed_on _ c.in_err-finish.field-0.0 _ c.from_residual-in_err-finish.ensures.1
    (λ n. sym (c.in_err-finish.ensures.fault c.args.edges.now g.0 c.loop-edge.invariant.refusal))

pub returns-in_err-finish-clause-not_lawful : goal.returns-in_err-finish-clause-not_lawful
returns-in_err-finish-clause-not_lawful c =
    let g = given-all c.args.device c.args.edges.now _ _ _ c.loop-edge.invariant c.loop-edge-test.false in
    handed_on _ c.in_err-finish.field-0.0 _ c.from_residual-in_err-finish.ensures.1
    (λ n. faulty c.lawful_traces.ensures.faultless c.args.edges.now _ (sym (c.in_err-finish.ensures.fault c.args.edges.now g.0 c.loop-edge.invariant.refusal)))

pub returns-clause-heard : goal.returns-clause-heard
returns-clause-heard c =
    let g = given-all c.args.device c.args.edges.now _ _ _ c.loop-edge.invariant c.loop-edge-test.false in
    heard-whole c.allowed_traces.ensures.spelled c.args.device c.args.edges.now _ ((c.in_ok-finish.ensures.lawful c.args.edges.now g.0 c.loop-edge.invariant.refusal).0 refl) g.1

use Rattle.std.proofs.Common.{sym}
use Rattle.pr_wire.proofs.Reached.{faulty}
use Rattle.pr_wire.proofs.WholeLists.{analysed-fault, analysed-all, handed_on}
use Rattle.pr_wire.proofs.analysis.analyse.Goals as goal

pub returns-in_err-frame-clause-fault : goal.returns-in_err-frame-clause-fault
returns-in_err-frame-clause-fault c =
    handed_on _ c.in_err-frame.field-0.0 _ c.from_residual.ensures.1
    (λ n. analysed-fault c.args.edges.now _ _ c.loop-edge.follower _ _ c.loop-edge-test.true c.loop-edge.invariant c.in_err-frame.ensures.fault)

pub returns-in_err-frame-clause-not_lawful : goal.returns-in_err-frame-clause-not_lawful
returns-in_err-frame-clause-not_lawful c =
    handed_on _ c.in_err-frame.field-0.0 _ c.from_residual.ensures.1
    (λ n. faulty c.args.edges.now _ (analysed-fault c.args.edges.now _ _ c.loop-edge.follower _ _ c.loop-edge-test.true c.loop-edge.invariant c.in_err-frame.ensures.fault))

pub returns-in_err-finish-clause-not_lawful : goal.returns-in_err-finish-clause-not_lawful
returns-in_err-finish-clause-not_lawful c =
    handed_on _ c.in_err-finish.field-0.0 _ c.from_residual-in_err-finish.ensures.1
    (λ n. faulty c.args.edges.now _ (sym (c.in_err-finish.ensures.fault c.args.edges.now c.loop-edge.frames.items (analysed-all c.args.edges.now _ _ c.loop-edge.follower c.loop-edge-test.false c.loop-edge.invariant))))

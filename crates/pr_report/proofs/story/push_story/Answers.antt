use Rattle.std.proofs.Common.{Some, None, sym, ◌∙◌, append-nil}
use Rattle.pr_report.proofs.WholeStory.{finished-story, refused-fault-whole, refused-story, telling-more}
use Rattle.pr_report.proofs.story.push_story.Goals as goal

pub returns-in-Err-clause-story : goal.returns-in-Err-clause-story
returns-in-Err-clause-story c =
    refused-story c.args.edges.now _ _ _ _ _ _ c.in-Err.fault c.loop-edge-test.true c.loop-edge.invariant c.in-Err.ensures.fault c.in-Err.ensures.ends

pub returns-in-Err-clause-fault : goal.returns-in-Err-clause-fault
returns-in-Err-clause-fault c =
    refused-fault-whole c.args.edges.now _ _ _ _ _ _ c.in-Err.fault c.loop-edge-test.true c.loop-edge.invariant c.in-Err.ensures.fault

pub loop-edge-preserved : goal.loop-edge-preserved
loop-edge-preserved c =
    let k = c.in_ok-behind_data-in-Ok.ensures in
    telling-more c.args.edges.now _ _ _ _ _ _ _ _ _ c.in-Ok.frame c.loop-edge-test.true c.loop-edge.invariant c.in-Ok.ensures.told c.in-Ok.ensures.count k.line k.behind

pub returns-in_ok-extend_from_slice-in-Ok-finish-clause-story : goal.returns-in_ok-extend_from_slice-in-Ok-finish-clause-story
returns-in_ok-extend_from_slice-in-Ok-finish-clause-story c =
    c.in_ok-extend_from_slice-in-Ok-finish.ensures.items
    ∙ (finished-story c.args.edges.now _ _ _ _ _ None c.loop-edge-test.false c.loop-edge.invariant c.in-Ok-finish.ensures.told c.in-Ok-finish.ensures.fault).0

pub returns-in_ok-extend_from_slice-in-Ok-finish-clause-fault : goal.returns-in_ok-extend_from_slice-in-Ok-finish-clause-fault
returns-in_ok-extend_from_slice-in-Ok-finish-clause-fault c =
    (finished-story c.args.edges.now _ _ _ _ _ None c.loop-edge-test.false c.loop-edge.invariant c.in-Ok-finish.ensures.told c.in-Ok-finish.ensures.fault).1

pub returns-in-Err-finish-clause-story : goal.returns-in-Err-finish-clause-story
returns-in-Err-finish-clause-story c =
    sym (append-nil _)
    ∙ (finished-story c.args.edges.now _ _ _ _ _ (Some c.in-Err-finish.fault) c.loop-edge-test.false c.loop-edge.invariant c.in-Err-finish.ensures.told c.in-Err-finish.ensures.fault).0

pub returns-in-Err-finish-clause-fault : goal.returns-in-Err-finish-clause-fault
returns-in-Err-finish-clause-fault c =
    (finished-story c.args.edges.now _ _ _ _ _ (Some c.in-Err-finish.fault) c.loop-edge-test.false c.loop-edge.invariant c.in-Err-finish.ensures.told c.in-Err-finish.ensures.fault).1

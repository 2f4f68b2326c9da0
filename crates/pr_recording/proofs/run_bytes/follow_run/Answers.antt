use Rattle.std.proofs.Common.{◌≡◌, List, ap, subst, ◌∙◌}
use Rattle.pr_wire.specs.declared.Frame.{Frame}
use Rattle.pr_bus.specs.Answers.{answered_frames}
use Rattle.pr_receiver.specs.Heard.{heard_of}
use Rattle.pr_system.specs.RunningState.{RunningState, trace_so_far}
use Rattle.pr_system.specs.StepByStep.{stepped_through}
use Rattle.pr_recording.specs.Logged.{AreHeard}
use Rattle.pr_recording.proofs.RunLogging.{follows_first, heard_as_spelled}
use Rattle.pr_recording.proofs.run_bytes.follow_run.Goals as goal

pub returns-clause-heard : goal.returns-clause-heard
returns-clause-heard c =
    let first = c.args.running.now in
    let run = c.follow_steps.new.running in
    let frames = answered_frames run.present run.items in
    let began = follows_first c.lawful_traces.ensures.faultless c.args.device first c.edges.result.now (answered_frames first.present first.items) c.new-log.result c.take_all.new.self
    c.requires.none c.edges.ensures.edges c.edges.ensures.spells c.new-log.ensures c.in_ok-take_all.ensures in
    let all = c.in_ok-ending.ensures.followed c.args.device began in
    let heard = heard_as_spelled c.traces_are_heard_as_spelled.ensures c.args.device (trace_so_far run) frames c.in_ok-heard.heard c.edges-edges.ensures.spells (c.in_ok-heard.ensures c.args.device (trace_so_far run) all) in
    let P : List Frame → Type 0 = λ fs. AreHeard (heard_of c.args.device fs) c.in_ok-heard.heard in
    let whole = stepped_through first c.args.statements.now in
    let same : frames ≡ answered_frames first.present whole.items =
    ap (λ p. answered_frames p run.items) c.in_ok-ending.ensures.present ∙ ap (λ (r : RunningState). answered_frames first.present r.items) c.in_ok-ending.ensures.steps in
    subst P same heard

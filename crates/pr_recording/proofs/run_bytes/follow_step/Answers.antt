use Rattle.pr_bus.specs.Answers.{answered_frames}
use Rattle.pr_recording.proofs.RunLogging.{follows_step}
use Rattle.pr_recording.proofs.run_bytes.follow_step.Goals as goal

pub returns-clause-followed : goal.returns-clause-followed
returns-clause-followed c =
    let run = c.step.new.self in
    follows_step c.lawful_traces.ensures.faultless c.steps_make_the_run.ensures.edges c.args.running.now run c.args.statement.now c.edges-edges.result.now (answered_frames run.present run.items) c.args.log.now c.take_all.new.self
    c.requires.sent c.in_ok-stop.ensures.ok c.edges-edges.ensures.edges c.edges-edges.ensures.spells c.in_ok-take_all.ensures

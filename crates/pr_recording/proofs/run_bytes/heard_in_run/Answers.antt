use Rattle.std.proofs.Common.{List, ℕ, subst, sym}
use Rattle.pr_bus.specs.Answers.{answered_frames}
use Rattle.pr_basic.specs.declared.statement.Statement.{Statement}
use Rattle.pr_basic.specs.Grammar.{IsScript}
use Rattle.pr_receiver.specs.Heard.{heard_of}
use Rattle.pr_system.specs.StepByStep.{stepped_through}
use Rattle.pr_recording.specs.Logged.{AreHeard}
use Rattle.pr_recording.proofs.RunAnswering.{run_given}
use Rattle.pr_recording.proofs.run_bytes.heard_in_run.Goals as goal

pub returns : goal.returns
returns c =
    let start = c.args.start in
    let statements = c.deref-2.result.now in
    let running = c.in_ok-running.running in
    let P : List ℕ → Type 0 = λ bytes. IsScript bytes c.in_ok-statements.statements.items in
    let Q : List Statement → Type 0 = λ list. IsScript c.args.script.items list in
    let is = subst Q (sym c.deref-2.ensures.value) (subst P c.deref.ensures.value c.in_ok-statements.ensures.read) in
    let R : ℕ → Type 0 = λ device. AreHeard (heard_of device (answered_frames running.present (stepped_through running statements).items)) c.in_ok-run.run'.heard in
    run_given c.steps_make_the_run.ensures.run start c.args.device c.args.script.items statements running c.in_ok-run.run' c.if_present.result c.in_ok-running.ensures is c.in_ok-run.ensures.ending
    (subst R c.number_of.ensures.value c.in_ok-run.ensures.heard) c.if_present.ensures.ending c.if_present.ensures.there c.if_present.ensures.absent

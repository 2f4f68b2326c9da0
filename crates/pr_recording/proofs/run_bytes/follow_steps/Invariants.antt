use Rattle.std.proofs.Common.{◌≡◌, ◌+◌, None, false, drop, length}
use Rattle.pr_serial.specs.Items.{items_of}
use Rattle.pr_system.specs.StepByStep.{stepped_through}
use Rattle.pr_recording.specs.RunLogged.{FollowsRun}
use Rattle.pr_recording.proofs.run_bytes.follow_steps.Given as goal

-- the steps of what is left lead where all steps lead, and the edges so far are taken
abbrev pub invariant-loop-statement : goal.invariant-loop-statement
invariant-loop-statement l = record {
  steps : stepped_through l.running (drop l.statement-index l.statements) ≡ stepped_through l.fn.running l.statements;
  going : l.running.stop ≡ None;
  count : length l.running.statuses ≡ length l.fn.running.statuses + l.statement-index;
  there : l.running.present ≡ l.fn.running.present;
  sent : l.running.items ≡ items_of l.running.elements;
  works : l.running.failed ≡ false;
  followed : FollowsRun l.fn.running l.running l.fn.log l.log;
}

use Rattle.pr_bus.specs.DelaysLeft.{numbers_left}
use Rattle.pr_system.specs.RunningState.{begun, trace_so_far}
use Rattle.pr_system.specs.StepByStep.{stepped_through}
use Rattle.pr_jobs.specs.Bus.{trace_in}
use Rattle.pr_jobs.proofs.TraceSteps.{memory_front, no_ending, none_front}
use Rattle.pr_jobs.proofs.bus.write_run.Goals as goal

pub returns-in_err-running-clause-trace : goal.returns-in_err-running-clause-trace
returns-in_err-running-clause-trace g c =
    let start = c.args.start in
    let all = trace_so_far (stepped_through (begun start.mode start.present (numbers_left start.delays)) c.args.statements.now) in
    let old = g.W.Write.contents c.args.output.now.inner in
    record {
      text = memory_front c.from_residual.result (trace_in c.args.format all) old old c.from_residual.ensures.1 (none_front old _);
      ending = no_ending c.from_residual.result _ _ c.from_residual.ensures.1;
    }

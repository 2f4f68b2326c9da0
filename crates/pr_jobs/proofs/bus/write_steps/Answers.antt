use Rattle.std.proofs.Common.{◌+◌, ◌∙◌, sym, ap, drop}
use Rattle.pr_system.specs.RunningState.{stepped_by, trace_so_far}
use Rattle.pr_system.specs.StepByStep.{stepped_through}
use Rattle.pr_jobs.specs.Traced.{text_so_far}
use Rattle.pr_jobs.proofs.TraceSteps.{cut_at, fault_front, front_of_all}
use Rattle.pr_jobs.proofs.bus.write_steps.Goals as goal

pub returns-in_err-stop-clause-edges : goal.returns-in_err-stop-clause-edges
returns-in_err-stop-clause-edges g c = λ f start w h.
    let inv = c.loop-statement.invariant in
    let at = c.loop-statement.statement-index in
    let run = c.loop-statement.running in
    let all = stepped_through c.args.running.now c.args.statements.now in
    let statement = c.statement-item.result in
    let new = g.W.Write.contents c.write_step.new.output.inner in
    let cut = cut_at c.args.statements.now at statement c.loop-statement-test.true c.statement-item.is in
    fault_front c.in_err-stop.field-0.0 c.from_residual.result (text_so_far f (trace_so_far (stepped_by run statement))) (text_so_far f (trace_so_far all)) start start new c.from_residual.ensures.1
    (c.in_err-stop.ensures.edges f start (inv.written f w) (inv.wrote f start w h))
    (λ k. front_of_all c.vcd_adds_up.ensures c.steps_make_the_run.ensures.grow f run all statement (drop (at + 1) c.args.statements.now) start new (sym (ap (stepped_through run) cut) ∙ inv.steps) k)

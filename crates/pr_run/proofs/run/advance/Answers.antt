use Rattle.std.proofs.Common.{sym, ◌∙◌}
use Rattle.pr_run.proofs.StepLemmas.{step_stops}
use Rattle.pr_run.proofs.run.advance.Goals as goal

pub returns-else-is_memory : goal.returns-else-is_memory
returns-else-is_memory c =
    step_stops c.args.program.now c.args.performed.now.items c.args.run.now c.step.new.run c.in-Err.ending
    c.in-Err.ensures.err (sym c.is_memory.ensures ∙ c.if-is_memory.false)

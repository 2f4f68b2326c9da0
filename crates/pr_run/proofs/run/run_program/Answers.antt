use Rattle.std.proofs.Common.{List, ap, ◌∙◌}
use Rattle.pr_run.specs.declared.performed.Performed.{Performed}
use Rattle.pr_run.specs.Runs.{outcome}
use Rattle.pr_run.proofs.StepLemmas.{runs_ended}
use Rattle.pr_run.proofs.run.run_program.Goals as goal

pub returns-in-Some : goal.returns-in-Some
returns-in-Some c =
    let leads = rw c.in-Some.is at c.in_ok-ending.ensures in
    ap (λ (ps : List Performed). outcome ps c.in-Some.ending c.steps.run.skipped_poke) c.from_vec-in-Some.ensures
    ∙ runs_ended c.args.program.now c.steps.left c.steps.performed.items c.advance.new.performed.items c.steps.run
    c.advance.new.run c.in-Some.ending _ c.steps-test.true leads c.steps.invariant

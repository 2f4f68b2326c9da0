use Rattle.std.proofs.Common.{◌≤◌, length, arith, sym, ◌∙◌}
use Rattle.std.specs.List.{position_or_len}
use Rattle.pr_interpreter.specs.Memory.{same_name}
use Rattle.pr_run.specs.Assignments.{with_variable}
use Rattle.pr_run.proofs.ReplacedLemmas.{replaced_end}
use Rattle.pr_run.proofs.assignments.set_variable.Goals as goal

pub returns-clause-ok : goal.returns-clause-ok
unfolding with_variable
returns-clause-ok c =
    let place = rw c.as_slice.ensures.value at c.variable_place-place.ensures in
    let all : length c.args.variables.now.items
    ≤ position_or_len (λ x. same_name c.args.name x.name) c.args.variables.now.items =
    omega arith in
    c.in_ok-put.ensures.ok ∙ sym (replaced_end _ _ _ all)

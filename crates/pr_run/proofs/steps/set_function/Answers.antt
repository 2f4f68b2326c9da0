use Rattle.std.proofs.Common.{◌≤◌, length, arith, sym, ◌∙◌}
use Rattle.std.specs.List.{position_or_len}
use Rattle.pr_interpreter.specs.Memory.{same_name}
use Rattle.pr_run.specs.Steps.{with_function}
use Rattle.pr_run.proofs.ReplacedLemmas.{replaced_end}
use Rattle.pr_run.proofs.steps.set_function.Goals as goal

pub returns-clause-ok : goal.returns-clause-ok
unfolding with_function
returns-clause-ok c =
    let place = rw c.as_slice.ensures.value at c.function_place-place.ensures in
    let all : length c.args.functions.now.items
    ≤ position_or_len (λ x. same_name c.args.function.name x.name) c.args.functions.now.items =
    omega arith in
    c.in_ok-put.ensures.ok ∙ sym (replaced_end _ _ _ all)

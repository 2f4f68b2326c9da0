use Rattle.std.proofs.Common.{◌<◌, ◌≤◌, ◌++◌, ◌∷◌, [], List, length, arith, ap, sym, ◌∙◌}
use Rattle.std.specs.List.{position_or_len}
use Rattle.pr_interpreter.specs.declared.memory.Variable.{Variable}
use Rattle.pr_interpreter.specs.declared.values.Value.{Value}
use Rattle.pr_interpreter.specs.Memory.{same_name}
use Rattle.pr_run.specs.Assignments.{declared}
use Rattle.pr_run.proofs.ReplacedLemmas.{added_at, added_end}
use Rattle.pr_run.proofs.assignments.declare.Goals as goal

pub returns-then-place-len-clause-ok : goal.returns-then-place-len-clause-ok
unfolding declared
returns-then-place-len-clause-ok c =
    let place = rw c.as_slice.ensures.value at c.variable_place-place.ensures in
    let within : position_or_len (λ x. same_name c.args.name x.name) c.args.variables.now.items
    < length c.args.variables.now.items =
    omega arith in
    sym (added_at _ _ _ within)

pub returns-clause-ok : goal.returns-clause-ok
unfolding declared
returns-clause-ok c =
    let place = rw c.as_slice.ensures.value at c.variable_place-place.ensures in
    let all : length c.args.variables.now.items
    ≤ position_or_len (λ x. same_name c.args.name x.name) c.args.variables.now.items =
    omega arith in
    let with : Value → List Variable =
    (λ v. c.args.variables.now.items ++ record { name = c.args.name; value = v } ∷ []) in
    c.in_ok-put.ensures.ok ∙ (ap with c.first_value-value.ensures ∙ sym (added_end _ _ _ all))

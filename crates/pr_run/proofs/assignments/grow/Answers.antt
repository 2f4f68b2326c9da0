use Rattle.std.proofs.Common.{◌≡◌, ◌+◌, ◌∷◌, ◌++◌, [], length, arith, ap, ◌∙◌}
use Rattle.std.proofs.lemmas.List.{length_push}
use Rattle.pr_interpreter.specs.declared.values.Value.{Value}
use Rattle.pr_interpreter.specs.Memory.{first_value}
use Rattle.pr_run.proofs.ElementLemmas.{enough, grown}
use Rattle.pr_run.proofs.assignments.grow.Goals as goal

pub grow-preserved : goal.grow-preserved
grow-preserved c =
    let put : c.push.new.self.items ≡ c.grow.elements.items ++ first_value c.args.kind ∷ [] =
    c.in_ok-push.ensures.items ∙ ap (λ (v : Value). c.grow.elements.items ++ v ∷ []) c.first_value.ensures in
    let size : length c.push.new.self.items ≡ length c.grow.elements.items + 1 = rw put (length_push _ _) in
    record {
      longer = omega arith;
      within = omega arith;
      items = grown _ _ _ _ c.grow.invariant.longer c.grow.invariant.items put;
    }

pub returns-clause-items : goal.returns-clause-items
returns-clause-items c =
    enough _ c.grow.elements.items _ c.args.place c.grow.invariant.longer c.grow.invariant.within (omega arith)
    c.grow.invariant.items

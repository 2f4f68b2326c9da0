use Rattle.std.proofs.Common.{◌≡◌, ◌-◌}
use Rattle.pr_interpreter.specs.Powers.{IsPart, with_factors}
use Rattle.pr_interpreter.proofs.powers.product_of.Given as goal

abbrev pub invariant-more : goal.invariant-more
invariant-more l = record {
  rest : with_factors l.left l.part l.factor ≡ with_factors (l.count - 1) l.factor l.factor;
  part : IsPart l.part;
}

abbrev pub decreases-more : goal.decreases-more
decreases-more l = l.left

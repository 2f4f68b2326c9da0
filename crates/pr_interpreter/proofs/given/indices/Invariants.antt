use Rattle.std.proofs.Common.{◌≡◌, [], drop}
use Rattle.pr_interpreter.specs.Evaluation.{indices}
use Rattle.pr_interpreter.proofs.given.indices.Given as goal

abbrev pub invariant-loop-part : goal.invariant-loop-part
invariant-loop-part l = indices l.place l.found.items (drop l.part-index l.given) ≡ indices l.place [] l.given

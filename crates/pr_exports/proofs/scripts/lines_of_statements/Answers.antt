use Rattle.std.proofs.Common.{arith}
use Rattle.pr_exports.proofs.Lines.{all_passed, none_passed, one_passed}
use Rattle.pr_exports.proofs.scripts.lines_of_statements.Goals as goal

pub loop-rest-init : goal.loop-rest-init
loop-rest-init c = record { lines = rw c.new-numbers.ensures.items (none_passed _); count = omega arith }

pub loop-rest-preserved : goal.loop-rest-preserved
loop-rest-preserved c = record {
  lines =
      rw c.in_ok-push_times.ensures (one_passed _ _ _ _ c.in_ok-first.first.bytes.now _ c.in_ok-first.first.count c.loop-rest.invariant.lines
      c.in_ok-first.ensures.lines c.in_ok-first.ensures.count);
  count = omega (arith, c.loop-rest.invariant.count, c.in_ok-first.ensures.less);
}

pub returns : goal.returns
returns c = λ statements is. all_passed _ _ _ _ c.loop-rest.invariant.lines (grind arith) statements is

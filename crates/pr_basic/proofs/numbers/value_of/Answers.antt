use Rattle.std.proofs.Common.{arith, ◌∙◌, ◌≡◌, min, ◌+◌, ◌-◌, ◌*◌, get_or}
use Rattle.pr_basic.proofs.NumberLaws.{one_digit}
use Rattle.pr_basic.proofs.numbers.value_of.Goals as goal

pub loop-d-preserved : goal.loop-d-preserved
loop-d-preserved c =
    let e : c.min-n.result ≡ min (10 * c.loop-d.n + (get_or c.args.digits.now c.loop-d.d-index 0 - 48)) 100000 = omega (arith, c.min-n.ensures, c.from.ensures, c.saturating_sub.ensures) in
    record {
      number = rw e (one_digit c.loop-d.n c.args.digits.now c.loop-d.d-index c.loop-d-test.true ∙ c.loop-d.invariant.number);
      small = omega (arith, e);
    }

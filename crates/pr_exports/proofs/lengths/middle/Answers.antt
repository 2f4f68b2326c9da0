use Rattle.std.proofs.Common.{◌≡◌, ◌+◌, ◌-◌, ◌/◌, ◌∙◌, arith, sym}
use Rattle.pr_exports.proofs.Middles.{below_more, middle_found}
use Rattle.pr_exports.proofs.lengths.middle.Goals as goal

pub returns : goal.returns
returns c =
    let meet : c.loop-low.low ≡ c.loop-low.high = omega (arith, c.loop-low.invariant.order, c.loop-low-test.false) in
    middle_found c.args.lengths.now c.loop-low.low c.middles_are_least.ensures c.loop-low.invariant.below (rw meet c.loop-low.invariant.half)

pub loop-low-preserved : goal.loop-low-preserved
loop-low-preserved c = record {
  below = below_more c.args.lengths.now (c.loop-low.low + (c.loop-low.high - c.loop-low.low) / 2) (sym c.is_half.ensures ∙ c.if-is_half.false);
  half = c.loop-low.invariant.half;
  order = omega (arith, c.loop-low.invariant.order, c.loop-low-test.true);
}

use Rattle.std.proofs.Common.{arith}
use Rattle.pr_listing.proofs.NameLemmas.{above}
use Rattle.pr_listing.proofs.names.count_of.Goals as goal

pub returns-then-n-gt-MOST : goal.returns-then-n-gt-MOST
returns-then-n-gt-MOST c =
    above c.loop-d.n c.args.digits.now c.loop-d.d-index c.loop-d-test.true c.loop-d.invariant.number (omega (arith, c.from.ensures, c.saturating_sub.ensures))

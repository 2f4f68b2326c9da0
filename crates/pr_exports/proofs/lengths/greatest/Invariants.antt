use Rattle.std.proofs.Common.{◌≡◌, drop}
use Rattle.pr_decode.specs.Readings.{greatest}
use Rattle.pr_exports.proofs.lengths.greatest.Given as goal

-- the greatest so far, with the lengths that are left
abbrev pub invariant-loop-length : goal.invariant-loop-length
invariant-loop-length l = greatest l.greatest (drop l.length-index l.lengths) ≡ greatest 0 l.lengths

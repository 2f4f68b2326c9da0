use Rattle.std.proofs.Common.{◌≡◌, drop}
use Rattle.pr_decode.specs.Readings.{least}
use Rattle.pr_exports.proofs.lengths.least.Given as goal

-- the least so far, with the lengths that are left
abbrev pub invariant-loop-length : goal.invariant-loop-length
invariant-loop-length l = least l.least (drop l.length-index l.rest) ≡ least l.first l.rest

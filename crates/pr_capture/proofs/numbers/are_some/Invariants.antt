use Rattle.std.proofs.Common.{◌≡◌, drop}
use Rattle.pr_capture.specs.Numbers.{are_some}
use Rattle.pr_capture.proofs.numbers.are_some.Given as goal

-- the digits left decide
abbrev pub invariant-loop-digit : goal.invariant-loop-digit
invariant-loop-digit l = are_some (drop l.digit-index l.digits) ≡ are_some l.digits

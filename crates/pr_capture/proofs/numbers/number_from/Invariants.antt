use Rattle.std.proofs.Common.{◌≡◌, drop}
use Rattle.pr_capture.specs.Numbers.{number_from}
use Rattle.pr_capture.proofs.numbers.number_from.Given as goal

-- the number so far leads to that of all
abbrev pub invariant-loop-digit : goal.invariant-loop-digit
invariant-loop-digit l = number_from l.number (drop l.digit-index l.digits) ≡ number_from l.front l.digits

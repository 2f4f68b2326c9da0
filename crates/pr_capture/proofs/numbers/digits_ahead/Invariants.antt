use Rattle.std.proofs.Common.{◌≡◌, drop}
use Rattle.pr_capture.specs.CsvSteps.{digits_ahead, digits_left}
use Rattle.pr_capture.proofs.numbers.digits_ahead.Given as goal

-- the digits left go on with the number so far
abbrev pub invariant-loop-i : goal.invariant-loop-i
invariant-loop-i l = digits_left l.number l.i (drop l.i l.text) ≡ digits_ahead l.text

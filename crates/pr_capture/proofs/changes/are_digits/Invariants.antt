use Rattle.std.proofs.Common.{◌≡◌, drop}
use Rattle.std.specs.List.{list_all}
use Rattle.pr_base.specs.Digits.{is_digit}
use Rattle.pr_capture.proofs.changes.are_digits.Given as goal

-- the bytes left decide
abbrev pub invariant-loop-b : goal.invariant-loop-b
invariant-loop-b l = list_all is_digit (drop l.b-index l.bytes) ≡ list_all is_digit l.bytes

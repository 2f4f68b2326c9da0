use Rattle.std.proofs.Common.{◌≡◌, ◌≤◌, drop, min}
use Rattle.pr_base.specs.Digits.{number_after, number_of}
use Rattle.pr_basic.proofs.numbers.value_of.Given as goal

-- the number so far leads to the number of all, up to 100000
abbrev pub invariant-loop-d : goal.invariant-loop-d
invariant-loop-d l = record {
  number : min (number_after l.n (drop l.d-index l.digits)) 100000 ≡ min (number_of l.digits) 100000;
  small : l.n ≤ 100000;
}

use Rattle.std.proofs.Common.{◌≡◌, ◌≤◌, drop}
use Rattle.pr_base.specs.Digits.{number_after, number_of}
use Rattle.pr_listing.proofs.names.count_of.Given as goal

-- the number so far leads to the number of all
abbrev pub invariant-loop-d : goal.invariant-loop-d
invariant-loop-d l = record {
  number : number_after l.n (drop l.d-index l.digits) ≡ number_of l.digits;
  small : l.n ≤ 255;
}

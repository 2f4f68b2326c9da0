use Rattle.std.proofs.Common.{◌≡◌, ◌<◌, ◌^◌, drop}
use Rattle.pr_base.specs.Digits.{number_after}
use Rattle.pr_wire.proofs.line.read_time.Given as goal

-- the number so far leads to the number of all
abbrev pub invariant-loop-digit : goal.invariant-loop-digit
invariant-loop-digit l = record {
  number : number_after l.time (drop l.digit-index l.digits) ≡ number_after 0 l.digits;
  small : l.time < 2 ^ 64;
}

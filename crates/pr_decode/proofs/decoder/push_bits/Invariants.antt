use Rattle.std.proofs.Common.{◌≡◌, ◌-◌, ◌≤◌, length}
use Rattle.pr_decode.proofs.Passing.{HasBits}
use Rattle.pr_decode.proofs.decoder.push_bits.Given as goal

-- whole bits were taken so far
abbrev pub invariant-loop-transfer : goal.invariant-loop-transfer
invariant-loop-transfer l = record {
  bits : HasBits l.edges l.len l.fn.last l.last l.fn.transfer l.transfer;
  none : l.len ≡ 0 → l.transfer ≡ l.fn.transfer;
  within : l.len ≤ length l.edges;
}

abbrev pub decreases-loop-transfer : goal.decreases-loop-transfer
decreases-loop-transfer l = length l.edges - l.len

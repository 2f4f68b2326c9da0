use Rattle.std.proofs.Common.{ℕ, ◌+◌, ◌-◌, ◌≤◌, length, take}
use Rattle.pr_recording.specs.Taped.{ReadsMore}
use Rattle.pr_recording.proofs.tape.Head.read_all.Given as goal

-- the edges so far were read
abbrev pub invariant-loop-len : goal.invariant-loop-len
invariant-loop-len g l = record {
  read : ReadsMore g.T.Takes.takes (take l.len l.edges) l.fn.self l.self l.fn.taker l.taker;
  within : l.len ≤ length l.edges;
  room : (n : ℕ) → g.T.Takes.may_take (l.len + n) l.fn.taker → g.T.Takes.may_take n l.taker;
}

abbrev pub decreases-loop-len : goal.decreases-loop-len
decreases-loop-len g l = length l.edges - l.len

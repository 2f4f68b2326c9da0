use Rattle.std.proofs.Common.{◌+◌, ◌-◌, ◌≤◌, length, take}
use Rattle.pr_recording.specs.Judged.{JudgesMore, edges_judged}
use Rattle.pr_recording.proofs.judge.Judge.take_all.Given as goal

-- the edges so far were judged
abbrev pub invariant-loop-len : goal.invariant-loop-len
invariant-loop-len l = record {
  judged : JudgesMore (take l.len l.edges) l.fn.self l.self;
  within : l.len ≤ length l.edges;
  count : edges_judged l.self ≤ edges_judged l.fn.self + l.len;
}

abbrev pub decreases-loop-len : goal.decreases-loop-len
decreases-loop-len l = length l.edges - l.len

use Rattle.std.proofs.Common.{◌+◌, ◌≤◌, length}
use Rattle.pr_wire.specs.Checked.{line_count}
use Rattle.pr_jobs.proofs.CheckLemmas.{TellsFront}
use Rattle.pr_jobs.proofs.check.check_block.Given as goal

-- what was written holds of the bytes so far too
abbrev pub invariant-loop-rest : goal.invariant-loop-rest
invariant-loop-rest l = record {
  told : TellsFront l.block l.rest l.fn.lines.items l.fn.checker l.lines.items l.checker;
  count : line_count l.checker + length l.rest ≤ line_count l.fn.checker + length l.block;
}

abbrev pub decreases-loop-rest : goal.decreases-loop-rest
decreases-loop-rest l = length l.rest

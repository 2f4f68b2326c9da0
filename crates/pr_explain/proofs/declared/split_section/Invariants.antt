use Rattle.std.proofs.Common.{◌≤◌, length}
use Rattle.pr_explain.proofs.declared.split_section.Given as goal

-- what is left is no longer than all
abbrev pub invariant-loop-word : goal.invariant-loop-word
invariant-loop-word l = record { within : length l.rest ≤ length l.bytes }

abbrev pub decreases-loop-word : goal.decreases-loop-word
decreases-loop-word l = length l.rest

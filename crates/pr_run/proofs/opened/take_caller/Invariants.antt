use Rattle.std.proofs.Common.{◌≡◌, length, reverse}
use Rattle.pr_run.specs.Opened.{caller_of}
use Rattle.pr_run.proofs.opened.take_caller.Given as goal

abbrev pub invariant-loop-last : goal.invariant-loop-last
invariant-loop-last l = caller_of (reverse l.opened.items) ≡ caller_of (reverse l.fn.opened.items)

abbrev pub decreases-loop-last : goal.decreases-loop-last
decreases-loop-last l = length l.opened.items

use Rattle.std.proofs.Common.{◌≡◌, ◌++◌, length}
use Rattle.std.specs.Prelude.{map}
use Rattle.pr_cli.specs.Words.{with_lines}
use Rattle.pr_cli.proofs.meant.with_lines.Given as goal

-- this many words are left
abbrev pub decreases-loop-left : goal.decreases-loop-left
decreases-loop-left l = length l.left

-- the words so far, and what those that are left mean
abbrev pub invariant-loop-left : goal.invariant-loop-left
invariant-loop-left l = record {
  words : map (λ s. s.now) l.read.items ++ with_lines (map (λ s. s.now) l.left) ≡ with_lines (map (λ s. s.now) l.words);
}

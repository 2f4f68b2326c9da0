use Rattle.std.proofs.Common.{◌≤◌, ◌+◌, length}
use Rattle.pr_programs.specs.Seen.{IsReadTo}
use Rattle.pr_programs.proofs.saved.saved_text.Given as goal

-- the lines before what is left were read
abbrev pub invariant-lines : goal.invariant-lines
invariant-lines l = record {
  read : IsReadTo l.file l.text.items l.rest l.number l.least;
  count : l.number + length l.rest ≤ length l.file;
}

abbrev pub decreases-lines : goal.decreases-lines
decreases-lines l = length l.rest

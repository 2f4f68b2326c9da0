use Rattle.std.proofs.Common.{◌≤◌, ◌+◌, length}
use Rattle.pr_listing.specs.Pieces.{IsReadTo}
use Rattle.pr_listing.proofs.typed.typed_text.Given as goal

-- the lines before the rest were read
abbrev pub invariant-loop-rest : goal.invariant-loop-rest
invariant-loop-rest l = record {
  read : IsReadTo l.spelling l.file l.text.items l.rest l.number;
  count : l.number + length l.rest ≤ length l.file + 1;
}

abbrev pub decreases-loop-rest : goal.decreases-loop-rest
decreases-loop-rest l = length l.rest

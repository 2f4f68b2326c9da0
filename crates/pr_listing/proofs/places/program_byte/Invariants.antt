use Rattle.std.proofs.Common.{◌≤◌, length}
use Rattle.pr_listing.specs.Containers.{program_in}
use Rattle.pr_listing.specs.Places.{IsPassedTo}
use Rattle.pr_listing.proofs.places.program_byte.Given as goal

-- the lines before the next one were passed, and the line is not among them
abbrev pub invariant-lines : goal.invariant-lines
invariant-lines l = record {
  passed : IsPassedTo (program_in l.file) l.rest l.next;
  within : l.next ≤ l.number;
}

abbrev pub decreases-lines : goal.decreases-lines
decreases-lines l = length l.rest

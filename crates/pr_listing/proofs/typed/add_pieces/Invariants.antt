use Rattle.std.proofs.Common.{◌≤◌, length}
use Rattle.pr_listing.specs.Pieces.{ArePiecesTaken}
use Rattle.pr_listing.proofs.typed.add_pieces.Given as goal

-- the pieces before the rest were taken
abbrev pub invariant-loop-rest : goal.invariant-loop-rest
invariant-loop-rest l = record {
  taken : ArePiecesTaken l.spelling l.front l.rest l.quoted l.initial.text.items l.text.items;
  within : length l.rest ≤ length l.front;
}

abbrev pub decreases-loop-rest : goal.decreases-loop-rest
decreases-loop-rest l = length l.rest

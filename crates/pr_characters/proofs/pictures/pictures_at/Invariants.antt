use Rattle.std.proofs.Common.{◌≡◌, ℕ, ◌+◌, ◌<◌, [], get_or, length}
use Rattle.pr_characters.specs.Rows.{columns_at}
use Rattle.pr_characters.proofs.pictures.pictures_at.Given as goal

-- the pictures so far are there
abbrev pub invariant-loop-place : goal.invariant-loop-place
invariant-loop-place l = record {
  whole : length l.pictures ≡ 128;
  given : (k : ℕ) → k < l.place → get_or l.pictures k [] ≡ columns_at l.rows (l.first + k);
}

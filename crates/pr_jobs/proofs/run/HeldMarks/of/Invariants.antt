use Rattle.std.proofs.Common.{◌≡◌, ◌+◌, ◌≤◌, drop}
use Rattle.std.specs.Prelude.{count_by, not}
use Rattle.pr_jobs.specs.Runs.{is_character}
use Rattle.pr_jobs.proofs.run.HeldMarks.of.Given as goal

-- those of each kind so far, and those of the marks that are left
abbrev pub invariant-loop-placed : goal.invariant-loop-placed
invariant-loop-placed l = record {
  characters : l.characters + count_by (λ placed. is_character placed.mark) (drop l.placed-index l.marks)
      ≡ count_by (λ placed. is_character placed.mark) l.marks;
  columns : l.columns + count_by (λ placed. not (is_character placed.mark)) (drop l.placed-index l.marks)
      ≡ count_by (λ placed. not (is_character placed.mark)) l.marks;
  few : l.characters ≤ l.placed-index;
  fewer : l.columns ≤ l.placed-index;
}

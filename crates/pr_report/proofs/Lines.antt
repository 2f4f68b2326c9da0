-- The lines of one reading more.
use Rattle.std.proofs.Common.{[], ◌∷◌, ◌++◌, sym, ap, ◌∙◌, append-nil, refl}
use Rattle.std.proofs.lemmas.List.{append_assoc}
use Rattle.pr_report.specs.ReadingLaws.{LinesAddUp}
use Rattle.pr_report.specs.Contexts.{after_reading, behind_all}
use Rattle.pr_report.specs.ReadingText.{all_lines, reading_lines}

pub lines-more : LinesAddUp
lines-more d b [] r = (append-nil (reading_lines d b r), refl)
lines-more d b (s ∷ rs) r =
    let rest = lines-more d (after_reading b s) rs r in (
      ap (λ z. reading_lines d b s ++ z) rest.0
          ∙ sym (append_assoc (reading_lines d b s) (all_lines d (after_reading b s) rs) (reading_lines d (behind_all (after_reading b s) rs) r)),
      rest.1,
    )

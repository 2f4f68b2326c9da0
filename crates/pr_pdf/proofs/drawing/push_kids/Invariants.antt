use Rattle.std.proofs.Common.{◌≡◌, ◌++◌}
use Rattle.std.specs.Prelude.{flat_map}
use Rattle.pr_pdf.specs.Pdf.{kid_pdf}
use Rattle.pr_pdf.specs.Words.{numbers_from}
use Rattle.pr_pdf.proofs.drawing.push_kids.Given as goal

-- the text so far
abbrev pub invariant-loop-sheet : goal.invariant-loop-sheet
invariant-loop-sheet l = l.text.items ≡ l.fn.text.items ++ flat_map (kid_pdf l.first) (numbers_from 0 l.sheet)

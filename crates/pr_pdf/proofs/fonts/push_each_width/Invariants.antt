use Rattle.std.proofs.Common.{◌≡◌, ◌++◌}
use Rattle.std.specs.Prelude.{flat_map}
use Rattle.pr_pdf.specs.Fonts.{width_pdf}
use Rattle.pr_pdf.specs.Words.{numbers_from}
use Rattle.pr_pdf.proofs.fonts.push_each_width.Given as goal

-- the text so far
abbrev pub invariant-loop-code : goal.invariant-loop-code
invariant-loop-code l = l.text.items ≡ l.fn.text.items ++ flat_map (width_pdf l.columns) (numbers_from 0 l.code)

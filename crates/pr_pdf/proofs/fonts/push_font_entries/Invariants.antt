use Rattle.std.proofs.Common.{◌≡◌, ◌++◌}
use Rattle.std.specs.Prelude.{flat_map}
use Rattle.pr_pdf.specs.Fonts.{font_entry}
use Rattle.pr_pdf.specs.Words.{numbers_from}
use Rattle.pr_pdf.proofs.fonts.push_font_entries.Given as goal

-- the text so far
abbrev pub invariant-loop-font : goal.invariant-loop-font
invariant-loop-font l = l.text.items ≡ l.fn.text.items ++ flat_map font_entry (numbers_from 0 l.font)

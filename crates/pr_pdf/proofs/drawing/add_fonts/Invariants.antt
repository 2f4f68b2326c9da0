use Rattle.std.proofs.Common.{◌≡◌, ◌*◌}
use Rattle.std.specs.Prelude.{map}
use Rattle.pr_pdf.specs.Fonts.{font_pdf, glyph_object}
use Rattle.pr_pdf.specs.Linked.{Adds}
use Rattle.pr_pdf.specs.Words.{numbers_from}
use Rattle.pr_pdf.proofs.drawing.add_fonts.Given as goal

abbrev pub invariant-loop-font : goal.invariant-loop-font
invariant-loop-font l = record {
  fonts : Adds (map (font_pdf l.used) (numbers_from 0 l.font)) l.fn.document l.document;
  object : l.object ≡ glyph_object l.used (256 * l.font);
}

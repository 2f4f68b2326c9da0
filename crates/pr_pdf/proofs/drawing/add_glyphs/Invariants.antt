use Rattle.std.specs.Prelude.{map}
use Rattle.pr_pdf.specs.Fonts.{used_among}
use Rattle.pr_pdf.specs.Linked.{Adds}
use Rattle.pr_pdf.specs.Pdf.{glyph_body}
use Rattle.pr_pdf.proofs.drawing.add_glyphs.Given as goal

abbrev pub invariant-loop-number : goal.invariant-loop-number
invariant-loop-number l = Adds (map (glyph_body l.shapes) (used_among l.used 0 l.number)) l.fn.document l.document

use Rattle.pr_pdf.specs.Pdf.{glyph_body}
use Rattle.pr_pdf.proofs.Objects.{used_adds, used_adds_none}
use Rattle.pr_pdf.proofs.drawing.add_glyphs.Goals as goal

pub loop-number-init : goal.loop-number-init
loop-number-init c = used_adds_none (glyph_body c.args.shapes.now) c.args.used.now c.args.document.now

pub loop-number-preserved : goal.loop-number-preserved
loop-number-preserved c = used_adds (glyph_body c.args.shapes.now) c.args.used.now c.loop-number.number c.loop-number.invariant c.in_ok-add_glyph.ensures

use Rattle.std.proofs.Common.{◌≡◌, ◌/◌, ◌%◌, arith, true, false}
use Rattle.std.specs.Prelude.{slice_index_or}
use Rattle.std.proofs.lemmas.Grind.{common_steps}
use Rattle.pr_pdf.specs.Fonts.{glyph_pdf}
use Rattle.pr_pdf.specs.Pdf.{glyph_body}
use Rattle.pr_pdf.proofs.Objects.{glyph_added, one_used_adds, unused_adds}
use Rattle.pr_pdf.proofs.drawing.add_glyph.Goals as goal

pub returns-then-not-has : goal.returns-then-not-has
returns-then-not-has c =
    let is : slice_index_or c.args.used.now c.args.number false ≡ false = grind (arith, c.has.ensures, c.if-not-has.true) in
    unused_adds (glyph_body c.args.shapes.now) c.args.used.now c.args.number c.args.document.now is

pub returns : goal.returns
returns c =
    let is : slice_index_or c.args.used.now c.args.number false ≡ true = grind (arith, c.has.ensures, c.if-not-has.false) in
    let text : c.deref.result.now ≡ glyph_pdf c.args.shapes.now (c.args.number / 256) (c.args.number % 256) = grind (arith, common_steps) in
    one_used_adds (glyph_body c.args.shapes.now) c.args.used.now c.args.number is (glyph_added c.args.shapes.now c.args.number c.deref.result.now text c.in_ok-add_stream.ensures)

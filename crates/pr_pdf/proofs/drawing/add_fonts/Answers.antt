use Rattle.std.proofs.Common.{◌≡◌, ◌+◌, ◌*◌, ◌∙◌, ap, arith, sym}
use Rattle.pr_pdf.specs.Fonts.{font_pdf, glyph_object}
use Rattle.pr_pdf.proofs.Numbers.{before_none}
use Rattle.pr_pdf.proofs.Objects.{map_adds, map_adds_none}
use Rattle.pr_pdf.proofs.drawing.add_fonts.Goals as goal

pub loop-font-init : goal.loop-font-init
loop-font-init c = record {
  fonts = map_adds_none (font_pdf c.args.used.now) c.args.document.now;
  object = ap (λ n. 19 + n) (sym (before_none c.args.used.now));
}

pub loop-font-preserved : goal.loop-font-preserved
loop-font-preserved c =
    let next : 256 * c.loop-font.font + 256 ≡ 256 * (c.loop-font.font + 1) = omega arith in record {
      fonts = map_adds (font_pdf c.args.used.now) c.loop-font.font c.loop-font.invariant.fonts c.in_ok-object.ensures.font;
      object = c.in_ok-object.ensures.next ∙ ap (glyph_object c.args.used.now) next;
    }

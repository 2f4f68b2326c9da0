use Rattle.std.proofs.Common.{◌≡◌, ◌+◌, ◌∙◌, ap, arith, sym, append-nil}
use Rattle.std.proofs.lemmas.Grind.{common_steps}
use Rattle.pr_pdf.specs.Fonts.{glyph_object}
use Rattle.pr_pdf.proofs.Numbers.{procs_more, used_none}
use Rattle.pr_pdf.proofs.glyphs.push_procs.Goals as goal

pub loop-place-init : goal.loop-place-init
loop-place-init c =
    let first : c.args.first ≡ c.args.first + 0 = omega arith in record {
      text = rw (used_none c.args.used.now c.args.first) (sym (append-nil c.args.text.now.items));
      next = c.requires.object ∙ ap (glyph_object c.args.used.now) first;
    }

pub loop-place-preserved : goal.loop-place-preserved
loop-place-preserved c =
    let number : c.args.first + c.loop-place.place + 1 ≡ c.args.first + (c.loop-place.place + 1) = omega arith in record {
      text = grind (arith, common_steps, procs_more c.args.used.now c.args.first c.loop-place.place);
      next = c.in_ok-next.ensures.next ∙ ap (glyph_object c.args.used.now) number;
    }

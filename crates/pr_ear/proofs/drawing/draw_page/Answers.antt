use Rattle.std.proofs.Common.{map, subst}
use Rattle.pr_ear.specs.Drawing.{ShowsRegion, dots_of_marks, paper}
use Rattle.pr_ear.specs.MarkNumbers.{mark_by}
use Rattle.pr_ear.proofs.Inked.{shows-page}
use Rattle.pr_ear.proofs.drawing.draw_page.Goals as goal

pub returns-in-Pixels : goal.returns-in-Pixels
returns-in-Pixels c =
    let r = c.args.region.now in
    let fits = c.in-Pixels.ensures.room in (
      fits.0,
      subst (λ shapes. ShowsRegion (dots_of_marks shapes (map mark_by c.args.marks.now)) r paper c.args.out.now c.ink_marks.new.out) c.own.ensures
          (shows-page r (dots_of_marks c.own.result (map mark_by c.args.marks.now)) c.in-Pixels.size c.args.out.now c.blank.new.out c.ink_marks.new.out
          fits.0 fits.1 c.blank.ensures c.ink_marks.ensures),
    )

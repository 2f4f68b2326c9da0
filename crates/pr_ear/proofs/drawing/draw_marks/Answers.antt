use Rattle.std.proofs.Common.{◌*◌, ◌≤◌, length, map, subst, arith}
use Rattle.pr_ear.specs.Drawing.{ShowsRegion, dots_of_marks, pixels_in}
use Rattle.pr_ear.specs.MarkNumbers.{mark_by}
use Rattle.pr_ear.proofs.Inked.{shows-marks}
use Rattle.pr_ear.proofs.drawing.draw_marks.Goals as goal

pub returns-in-Pixels : goal.returns-in-Pixels
returns-in-Pixels c =
    let r = c.args.region.now in
    let fits = c.in-Pixels.ensures.room in
    let room : r.width * r.height ≤ length c.args.out.now = omega (arith, fits.0, fits.1) in (
      fits.0,
      subst (λ shapes. ShowsRegion (dots_of_marks shapes (map mark_by c.args.marks.now)) r (pixels_in c.args.out.now) c.args.out.now c.ink_marks.new.out) c.own.ensures
          (shows-marks r (dots_of_marks c.own.result (map mark_by c.args.marks.now)) c.args.out.now c.ink_marks.new.out room c.ink_marks.ensures),
    )

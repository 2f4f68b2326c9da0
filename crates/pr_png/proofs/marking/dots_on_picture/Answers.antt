use Rattle.std.proofs.Common.{◌≡◌, length, ap, ◌∙◌}
use Rattle.std.specs.Prelude.{flat_map}
use Rattle.pr_dots.specs.Dots.{row_dots}
use Rattle.pr_dots.specs.Sheets.{lowered, lowered_rows}
use Rattle.pr_png.specs.Marking.{marked}
use Rattle.pr_png.proofs.OnPicture.{marked-length, shows, written-back}
use Rattle.pr_png.proofs.marking.dots_on_picture.Goals as goal

pub returns : goal.returns
returns c =
    let made : c.mark_rows.new.dark ≡ marked c.args.extent (flat_map (row_dots c.args.shapes.now) (lowered_rows c.args.above c.args.paper.now.rows)) c.in_ok-dark.dark.items =
    rw (c.as_slice.ensures, c.deref_mut.ensures.value) at c.mark_rows.ensures in
    let kept : length c.mark_rows.new.dark ≡ length c.in_ok-dark.dark.items =
    ap length made ∙ marked-length c.args.extent (flat_map (row_dots c.args.shapes.now) (lowered_rows c.args.above c.args.paper.now.rows)) c.in_ok-dark.dark.items in
    rw (written-back c.in_ok-dark.dark.len c.mark_rows.new.dark c.in_ok-dark.dark.items kept (c.in_ok-dark.dark.ok.0))
    (shows c.args.shapes.now (lowered c.args.above c.args.paper.now) c.args.extent c.in_ok-dark.dark.items c.mark_rows.new.dark
    c.in_ok-dark.ensures.length c.in_ok-dark.ensures.blank made)

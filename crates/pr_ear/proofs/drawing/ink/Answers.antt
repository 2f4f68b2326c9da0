use Rattle.std.proofs.Common.{◌-◌, arith}
use Rattle.pr_ear.proofs.Inked.{in_bitmap, within}
use Rattle.pr_ear.proofs.drawing.ink.Goals as goal

pub bounds-out-place : goal.bounds-out-place
bounds-out-place c =
    let r = c.args.region.now in
    let is = c.in-Some.ensures.some in
    let there = within r c.args.x c.args.y is.0 in
    let place = in_bitmap r.width r.height (c.args.x - r.x) (c.args.y - r.y) there.1 there.3 in
    omega (arith, place, is.1, c.requires.room)

use Rattle.std.proofs.Common.{arith, length-take-le, sym}
use Rattle.pr_render.proofs.uses.push_use.Goals as goal

pub put_small-at-requires : goal.put_small-at-requires
put_small-at-requires c =
    omega (
      arith,
      c.put-at-2.ensures.end,
      c.put-at-2.ensures.length,
      c.use_place.ensures.short,
      c.put_name-at.ensures.within,
      c.put_name-at.ensures.length,
      c.put-at.ensures.end,
      c.put-at.ensures.length,
      c.use_begin.ensures.short,
    )

pub put-end-requires : goal.put-end-requires
put-end-requires c =
    omega (
      arith,
      c.put_small-at.ensures.within,
      c.put_small-at.ensures.length,
      c.use_end.ensures.short,
      c.put-at-2.ensures.end,
      c.put-at-2.ensures.length,
      c.use_place.ensures.short,
      c.put_name-at.ensures.within,
      c.put_name-at.ensures.length,
      c.put-at.ensures.end,
      c.put-at.ensures.length,
      c.use_begin.ensures.short,
    )

pub slice_bounds-block-end : goal.slice_bounds-block-end
slice_bounds-block-end c =
    omega (
      arith,
      c.put-end.ensures.end,
      c.put-end.ensures.length,
      c.put_small-at.ensures.within,
      c.put_small-at.ensures.length,
      c.use_end.ensures.short,
      c.put-at-2.ensures.end,
      c.put-at-2.ensures.length,
      c.use_place.ensures.short,
      c.put_name-at.ensures.within,
      c.put_name-at.ensures.length,
      c.put-at.ensures.end,
      c.put-at.ensures.length,
      c.use_begin.ensures.short,
    )

pub slice_bounds-extend_from_slice-end : goal.slice_bounds-extend_from_slice-end
slice_bounds-extend_from_slice-end c =
    sym (length-take-le c.put-end.result c.put-end.new.block
    (omega (
      arith,
      c.put-end.ensures.end,
      c.put-end.ensures.length,
      c.put_small-at.ensures.within,
      c.put_small-at.ensures.length,
      c.use_end.ensures.short,
      c.put-at-2.ensures.end,
      c.put-at-2.ensures.length,
      c.use_place.ensures.short,
      c.put_name-at.ensures.within,
      c.put_name-at.ensures.length,
      c.put-at.ensures.end,
      c.put-at.ensures.length,
      c.use_begin.ensures.short,
    )))

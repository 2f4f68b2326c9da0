use Rattle.std.proofs.Common.{◌≡◌, ◌++◌, length}
use Rattle.std.specs.Prelude.{flat_map}
use Rattle.std.specs.Vec.Iter.{into_iter_items, into_iter_len}
use Rattle.pr_render.specs.Sheets.{joined}
use Rattle.pr_render.specs.Svg.{row_svg}
use Rattle.pr_render.proofs.sheets.move_rows.Given as goal

-- the text so far and that of the rows left make the whole
abbrev pub invariant-loop-row : goal.invariant-loop-row
invariant-loop-row l = record {
  text : joined l.blocks.items ++ l.block.items ++ flat_map row_svg (into_iter_items l.row-iterator)
      ≡ joined l.fn.blocks.items ++ flat_map row_svg (into_iter_items l.initial.row-iterator);
  count : into_iter_len l.row-iterator ≡ length (into_iter_items l.row-iterator);
}

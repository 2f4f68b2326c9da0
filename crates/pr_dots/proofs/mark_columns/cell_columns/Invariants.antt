use Rattle.std.proofs.Common.{◌≡◌, ◌*◌, ◌≤◌, ◌++◌, drop}
use Rattle.std.specs.Prelude.{flat_map}
use Rattle.arrayvec.specs.ArrayVec.{array_vec_len}
use Rattle.pr_dots.specs.Dots.{printed_columns}
use Rattle.pr_dots.specs.Shapes.{shape}
use Rattle.pr_dots.proofs.mark_columns.cell_columns.Given as goal

-- the columns so far and those of what is left are the cell's
abbrev pub invariant-loop-column : goal.invariant-loop-column
invariant-loop-column l = record {
  columns : l.columns.items ++ flat_map (printed_columns l.reverse l.wide) (drop l.column-index l.column-items)
      ≡ flat_map (printed_columns l.reverse l.wide) (shape l.shapes l.lower l.code);
  few : array_vec_len l.columns ≤ 2 * l.column-index;
}

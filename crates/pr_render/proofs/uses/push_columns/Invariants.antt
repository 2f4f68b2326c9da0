use Rattle.std.proofs.Common.{◌≡◌, ◌++◌, drop}
use Rattle.std.specs.Prelude.{flat_map, map}
use Rattle.pr_dots.specs.Dots.{columns_dots}
use Rattle.pr_render.specs.Svg.{disc_of, disc_svg}
use Rattle.pr_render.proofs.uses.push_columns.Given as goal

-- the text so far and the discs of what is left make the whole
abbrev pub invariant-loop-value : goal.invariant-loop-value
invariant-loop-value l = record {
  text : l.text.items ++ flat_map disc_svg (map disc_of (columns_dots l.x 0 (drop l.value-index l.columns)))
      ≡ l.fn.text.items ++ flat_map disc_svg (map disc_of (columns_dots 0 0 l.columns));
  at : l.x ≡ l.value-index;
}

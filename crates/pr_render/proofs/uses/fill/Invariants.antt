use Rattle.std.proofs.Common.{◌≡◌, ◌*◌, ◌≤◌, ◌++◌, drop, length, take}
use Rattle.std.specs.Prelude.{flat_map}
use Rattle.pr_render.specs.Svg.{use_svg}
use Rattle.pr_render.proofs.uses.fill.Given as goal

-- the elements in the block and those of what is left make the whole
abbrev pub invariant-loop-count : goal.invariant-loop-count
invariant-loop-count l = record {
  text : take l.end l.block ++ flat_map use_svg (drop l.count l.marks) ≡ flat_map use_svg l.marks;
  within : l.end ≤ 32 * l.count;
  few : l.count ≤ 32;
  length : length l.block ≡ 1024;
}

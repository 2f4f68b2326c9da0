use Rattle.std.proofs.Common.{◌≡◌, ◌*◌, ◌≤◌, ◌++◌, drop, length, take}
use Rattle.pr_render.specs.Tables.{letters_of}
use Rattle.pr_render.proofs.letters.fill.Given as goal

-- the letters in the block and those of what is left make the whole
abbrev pub invariant-loop-count : goal.invariant-loop-count
invariant-loop-count l = record {
  text : take l.end l.block ++ letters_of (drop l.count l.marks) ≡ letters_of l.marks;
  within : l.end ≤ 16 * l.count;
  few : l.count ≤ 32;
  length : length l.block ≡ 512;
}

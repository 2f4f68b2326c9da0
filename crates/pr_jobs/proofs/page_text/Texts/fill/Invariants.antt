use Rattle.std.proofs.Common.{◌≡◌, ◌*◌, ◌≤◌, ◌++◌, drop, length, take}
use Rattle.std.specs.Prelude.{flat_map}
use Rattle.pr_jobs.specs.PageText.{mark_text}
use Rattle.pr_jobs.proofs.page_text.Texts.fill.Given as goal

-- the lines in the block and those of what is left make the whole
abbrev pub invariant-loop-count : goal.invariant-loop-count
invariant-loop-count l = record {
  text : take l.end l.block ++ flat_map mark_text (drop l.count l.marks) ≡ flat_map mark_text l.marks;
  within : l.end ≤ 32 * l.count;
  few : l.count ≤ 32;
  length : length l.block ≡ 1024;
}

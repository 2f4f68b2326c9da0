use Rattle.std.proofs.Common.{◌≡◌, ◌+◌, ◌≤◌, drop}
use Rattle.pr_render.specs.Tables.{joined_count}
use Rattle.pr_render.proofs.letters.joined_count.Given as goal

-- the marks so far and those of what is left that join
abbrev pub invariant-loop-count : goal.invariant-loop-count
invariant-loop-count l = record {
  count : l.count + joined_count l.wide l.end (drop l.count l.marks) ≡ joined_count l.wide l.fn.end l.marks;
  few : l.count ≤ l.end;
  within : l.end ≤ 65547;
}

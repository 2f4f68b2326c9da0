use Rattle.std.proofs.Common.{◌≡◌, ◌≤◌, ◌+◌, ◌-◌, ◌*◌}
use Rattle.pr_listing.specs.Containers.{entry_count}
use Rattle.pr_listing.specs.Hints.{used_count}
use Rattle.pr_listing.proofs.containers.tape_files.Given as goal

-- the files so far, and those left, are all
abbrev pub invariant-loop-number : goal.invariant-loop-number
invariant-loop-number l = record {
  counted : l.count + used_count l.file l.place (entry_count l.file - l._number) ≡ used_count l.file 64 (entry_count l.file);
  few : l.count ≤ l._number;
  at : l.place ≡ 64 + 32 * l._number;
}

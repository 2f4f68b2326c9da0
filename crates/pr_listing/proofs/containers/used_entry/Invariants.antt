use Rattle.std.proofs.Common.{◌≡◌, ◌+◌, ◌-◌, ◌*◌}
use Rattle.pr_listing.specs.Containers.{entry_count, used_from}
use Rattle.pr_listing.proofs.containers.used_entry.Given as goal

-- no entry so far is of a file
abbrev pub invariant-loop-number : goal.invariant-loop-number
invariant-loop-number l = record {
  none : used_from l.file l.place (entry_count l.file - l._number) ≡ used_from l.file 64 (entry_count l.file);
  at : l.place ≡ 64 + 32 * l._number;
}

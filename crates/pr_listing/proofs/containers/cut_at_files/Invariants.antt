use Rattle.std.proofs.Common.{◌≡◌, ◌+◌, ◌-◌, ◌*◌}
use Rattle.pr_listing.specs.Containers.{cut_at_files, entry_count}
use Rattle.pr_listing.proofs.containers.cut_at_files.Given as goal

-- the nearest file so far, and those left, say where the file ends
abbrev pub invariant-loop-number : goal.invariant-loop-number
invariant-loop-number l = record {
  nearest : cut_at_files l.file l.start l.place l.stop (entry_count l.file - l._number) ≡ cut_at_files l.file l.start 64 l.limit (entry_count l.file);
  at : l.place ≡ 64 + 32 * l._number;
}

use Rattle.std.proofs.Common.{◌≡◌, ◌≤◌, ◌+◌, length}
use Rattle.std.specs.List.{position_from}
use Rattle.pr_base.specs.Lines.{lines_of}
use Rattle.pr_listing.specs.Names.{is_name, place_of}
use Rattle.pr_listing.proofs.names.place_of.Given as goal

-- the name is none of those so far
abbrev pub invariant-loop-rest : goal.invariant-loop-rest
invariant-loop-rest l = record {
  none : position_from (is_name l.name) l.place (lines_of l.rest) ≡ place_of l.table l.name;
  count : l.place + length l.rest ≤ length l.table;
}

abbrev pub decreases-loop-rest : goal.decreases-loop-rest
decreases-loop-rest l = length l.rest

use Rattle.std.proofs.Common.{◌≡◌, drop}
use Rattle.std.specs.List.{list_all}
use Rattle.pr_run.specs.Items.{is_blank}
use Rattle.pr_run.proofs.items.is_blank.Given as goal

abbrev pub invariant-loop-b : goal.invariant-loop-b
invariant-loop-b l = list_all is_blank (drop l.b-index l.bytes) ≡ list_all is_blank l.bytes

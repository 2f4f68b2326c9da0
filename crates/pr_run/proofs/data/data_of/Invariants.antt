use Rattle.std.proofs.Common.{◌≡◌, ◌++◌, drop}
use Rattle.pr_run.specs.Data.{data_of}
use Rattle.pr_run.proofs.data.data_of.Given as goal

abbrev pub invariant-each : goal.invariant-each
invariant-each l = l.found.items ++ data_of l.text (drop l.line-index l.rows) ≡ data_of l.text l.rows

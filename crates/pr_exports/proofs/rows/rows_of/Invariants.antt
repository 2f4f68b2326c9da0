use Rattle.std.proofs.Common.{◌≡◌, ◌++◌, drop}
use Rattle.pr_report.specs.Contexts.{at_start}
use Rattle.pr_exports.specs.Numbers.{reading_rows}
use Rattle.pr_exports.proofs.rows.rows_of.Given as goal

-- the rows so far, and those of the readings that are left
abbrev pub invariant-loop-reading : goal.invariant-loop-reading
invariant-loop-reading l =
    l.rows.items ++ reading_rows l.detail l.before (drop l.reading-index l.readings) ≡ reading_rows l.detail at_start l.readings

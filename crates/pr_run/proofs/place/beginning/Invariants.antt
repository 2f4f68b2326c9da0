use Rattle.std.proofs.Common.{◌≡◌, drop}
use Rattle.pr_run.specs.Places.{begin_from}
use Rattle.pr_run.proofs.place.beginning.Given as goal

abbrev pub invariant-loop-line : goal.invariant-loop-line
invariant-loop-line l = begin_from l.number l.line (drop l.line l.lines) ≡ begin_from l.number 0 l.lines

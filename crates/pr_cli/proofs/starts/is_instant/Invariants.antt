use Rattle.std.proofs.Common.{◌≡◌, drop}
use Rattle.pr_cli.specs.Starts.{is_instant}
use Rattle.pr_cli.proofs.starts.is_instant.Given as goal

-- the bytes left decide
abbrev pub invariant-loop-b : goal.invariant-loop-b
invariant-loop-b l = is_instant (drop l.b-index l.row) ≡ is_instant l.row

use Rattle.std.proofs.Common.{◌≡◌, ◌≤◌, ◌-◌, length}
use Rattle.std.specs.Io.KnownBytes.{Consumes}
use Rattle.pr_input.specs.Watched.{wrapped}
use Rattle.pr_cli.proofs.answers.read_first.Given as goal

-- the bytes so far were taken from the front
abbrev pub invariant-reads : goal.invariant-reads
invariant-reads g l = record {
  taken : Consumes (g.R.Read.remaining (wrapped l.fn.input)) (g.R.Read.remaining (wrapped l.input)) l.first.items;
  within : length l.first.items ≤ 4096;
  room : length l.block ≡ 4096;
}

abbrev pub decreases-reads : goal.decreases-reads
decreases-reads g l = 4096 - length l.first.items

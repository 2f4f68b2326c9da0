use Rattle.std.specs.Io.KnownBytes.{Keeps}
use Rattle.pr_input.proofs.watched.read_again.Given as goal

-- an interrupted call takes nothing
abbrev pub invariant-tries : goal.invariant-tries
invariant-tries g l = Keeps (g.R.Read.remaining l.fn.inner) (g.R.Read.remaining l.inner)

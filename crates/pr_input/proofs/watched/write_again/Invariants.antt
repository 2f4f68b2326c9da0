use Rattle.std.specs.Io.KnownBytes.{Keeps}
use Rattle.pr_input.proofs.watched.write_again.Given as goal

-- an interrupted call writes nothing
abbrev pub invariant-tries : goal.invariant-tries
invariant-tries g l = Keeps (g.W.Write.contents l.fn.inner) (g.W.Write.contents l.inner)

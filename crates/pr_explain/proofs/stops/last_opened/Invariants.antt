use Rattle.std.proofs.Common.{◌≡◌, length, None}
use Rattle.pr_explain.specs.StopPlaces.{opened}
use Rattle.pr_explain.proofs.stops.last_opened.Given as goal

-- the last OPEN is that of the statements that are left, or else that of those before
abbrev pub invariant-loop-rest : goal.invariant-loop-rest
invariant-loop-rest l = opened l.file l.fn.statements None ≡ opened l.file l.rest l.found

abbrev pub decreases-loop-rest : goal.decreases-loop-rest
decreases-loop-rest l = length l.rest

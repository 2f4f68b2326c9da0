use Rattle.std.proofs.Common.{◌≡◌, drop, false}
use Rattle.pr_listing.specs.Hints.{has_typed}
use Rattle.pr_listing.proofs.hints.has_typed.Given as goal

-- none so far
abbrev pub invariant-loop-b : goal.invariant-loop-b
invariant-loop-b l = has_typed l.quoted (drop l.b-index l.front) ≡ has_typed false l.front

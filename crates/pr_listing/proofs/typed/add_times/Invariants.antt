use Rattle.std.proofs.Common.{◌≡◌, ◌++◌}
use Rattle.pr_listing.specs.Listing.{string_text}
use Rattle.pr_listing.specs.Typed.{repeated}
use Rattle.pr_listing.proofs.typed.add_times.Given as goal

-- the byte this many times so far
abbrev pub invariant-loop-time : goal.invariant-loop-time
invariant-loop-time l = l.text.items ≡ l.initial.text.items ++ repeated l._time (string_text l.b)

use Rattle.std.proofs.Common.{◌≡◌, drop}
use Rattle.pr_listing.specs.Places.{byte_under}
use Rattle.pr_listing.specs.declared.line.Mode.TheVariants.{Plain}
use Rattle.pr_listing.proofs.places.byte_under.Given as goal

-- the place is not in the text so far
abbrev pub invariant-loop-b : goal.invariant-loop-b
invariant-loop-b l = byte_under l.mode l.left (drop l.b-index l.bytes) ≡ byte_under Plain l.place l.bytes

use Rattle.std.proofs.Common.{◌≡◌, ◌++◌, drop}
use Rattle.pr_listing.specs.Listing.{bytes_text}
use Rattle.pr_listing.specs.declared.line.Mode.TheVariants.{Plain}
use Rattle.pr_listing.proofs.line.add_bytes.Given as goal

-- the text so far and that of the bytes that are left are the whole
abbrev pub invariant-loop-b : goal.invariant-loop-b
invariant-loop-b l =
    l.text.items ++ bytes_text l.mode (drop l.b-index l.bytes) ≡ l.initial.text.items ++ bytes_text Plain l.bytes

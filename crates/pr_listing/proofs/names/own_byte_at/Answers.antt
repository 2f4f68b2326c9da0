use Rattle.std.proofs.Common.{arith, sym}
use Rattle.std.proofs.lemmas.List.{get_or_past}
use Rattle.pr_listing.specs.declared.names.TheConstants.{MAGAZINE_BYTES}
use Rattle.pr_listing.proofs.names.own_byte_at.Goals as goal

pub returns : goal.returns
returns c = sym (get_or_past MAGAZINE_BYTES c.args.place 0 (omega (arith, c.if-place-lt94.false)))

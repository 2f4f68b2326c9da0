use Rattle.std.proofs.Common.{◌≡◌, length}
use Rattle.std.specs.List.{list_any}
use Rattle.pr_base.specs.Lines.{lines_of}
use Rattle.pr_listing.specs.Hints.{has_typed_string}
use Rattle.pr_listing.proofs.hints.has_typed_strings.Given as goal

-- none in the lines so far
abbrev pub invariant-loop-rest : goal.invariant-loop-rest
invariant-loop-rest l = list_any has_typed_string (lines_of l.rest) ≡ list_any has_typed_string (lines_of l.script)

abbrev pub decreases-loop-rest : goal.decreases-loop-rest
decreases-loop-rest l = length l.rest

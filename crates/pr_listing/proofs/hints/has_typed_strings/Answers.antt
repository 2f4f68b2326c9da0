use Rattle.std.proofs.Common.{◌≡◌, length, ap, sym, ◌∙◌, arith}
use Rattle.std.proofs.lemmas.Grind.{common_steps}
use Rattle.std.specs.List.{list_any}
use Rattle.pr_listing.specs.Hints.{has_typed_string}
use Rattle.pr_listing.proofs.HintLemmas.{has, has_not, no_lines}
use Rattle.pr_listing.proofs.hints.has_typed_strings.Goals as goal

pub loop-rest-preserved : goal.loop-rest-preserved
loop-rest-preserved c =
    sym (ap (list_any has_typed_string) c.cut_line.ensures.lines ∙ has_not has_typed_string _ _ (sym c.has_typed_string.ensures ∙ c.if-has_typed_string.false)) ∙ c.loop-rest.invariant

pub returns-then-has_typed_string : goal.returns-then-has_typed_string
returns-then-has_typed_string c =
    sym (ap (list_any has_typed_string) c.cut_line.ensures.lines ∙ has has_typed_string _ _ (sym c.has_typed_string.ensures ∙ c.if-has_typed_string.true)) ∙ c.loop-rest.invariant

pub returns : goal.returns
returns c =
    let empty : length c.loop-rest.rest.now ≡ 0 = grind (arith, common_steps) in
    sym (no_lines has_typed_string c.loop-rest.rest.now empty) ∙ c.loop-rest.invariant

use Rattle.std.proofs.Common.{◌≡◌, length, arith, sym, ◌∙◌, ap, List, ℕ}
use Rattle.std.proofs.lemmas.Grind.{common_steps}
use Rattle.std.specs.List.{position_from}
use Rattle.pr_listing.specs.Names.{is_name}
use Rattle.pr_listing.proofs.NameLemmas.{found, not_found, passed}
use Rattle.pr_listing.proofs.names.place_of.Goals as goal

pub loop-rest-preserved : goal.loop-rest-preserved
loop-rest-preserved c = record {
  none =
      sym (ap (λ (ls : List (List ℕ)). position_from (is_name c.args.name.now) c.loop-rest.place ls) c.cut_line.ensures.lines
      ∙ passed (is_name c.args.name.now) _ _ c.loop-rest.place (sym c.is_name.ensures ∙ c.if-is_name.false))
      ∙ c.loop-rest.invariant.none;
  count = omega (arith, c.loop-rest.invariant.count, c.cut_line.ensures.less);
}

pub returns-then-is_name : goal.returns-then-is_name
returns-then-is_name c =
    sym (ap (λ (ls : List (List ℕ)). position_from (is_name c.args.name.now) c.loop-rest.place ls) c.cut_line.ensures.lines
    ∙ found (is_name c.args.name.now) _ _ c.loop-rest.place (sym c.is_name.ensures ∙ c.if-is_name.true))
    ∙ c.loop-rest.invariant.none

pub returns : goal.returns
returns c =
    let empty : length c.loop-rest.rest.now ≡ 0 = grind (arith, common_steps) in
    sym (not_found (is_name c.args.name.now) c.loop-rest.rest.now c.loop-rest.place empty) ∙ c.loop-rest.invariant.none

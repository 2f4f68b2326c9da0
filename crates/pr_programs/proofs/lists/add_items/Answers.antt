use Rattle.std.proofs.Common.{◌≡◌, ◌∙◌, arith, length, sym}
use Rattle.std.proofs.lemmas.Grind.{common_steps}
use Rattle.pr_programs.proofs.ItemLemmas.{no_items}
use Rattle.pr_programs.proofs.lists.add_items.Goals as goal

pub returns : goal.returns
returns c =
    let empty : length c.loop-rest.rest.now ≡ 0 = grind (arith, common_steps) in
    sym (no_items c.loop-rest.text.items c.loop-rest.rest.now empty) ∙ c.loop-rest.invariant

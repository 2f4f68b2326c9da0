use Rattle.std.proofs.Common.{◌≡◌, ◌<◌, arith, length}
use Rattle.std.proofs.lemmas.Grind.{common_steps}
use Rattle.pr_programs.proofs.ItemLemmas.{last_item, next_item}
use Rattle.pr_programs.proofs.lists.add_next.Goals as goal

pub returns-then-is_empty-clause-text : goal.returns-then-is_empty-clause-text
returns-then-is_empty-clause-text c =
    let empty : length c.in_ok-rest.rest.now ≡ 0 = grind (arith, common_steps) in
    last_item _ _ _ _ c.in_ok-rest.ensures empty

pub returns-clause-text : goal.returns-clause-text
returns-clause-text c =
    let some : 0 < length c.in_ok-rest.rest.now = grind (arith, common_steps) in
    next_item _ _ _ _ _ c.in_ok-rest.ensures some c.in_ok-push.ensures.items

use Rattle.std.proofs.Common.{◌≡◌, rules}
use Rattle.std.proofs.lemmas.Result.{err_from_is_err_and}
use Rattle.pr_basic.specs.Lexemes.{Word}
use Rattle.pr_basic.specs.Seen.{seen}
use Rattle.pr_basic.specs.declared.lexemes.Keyword.TheVariants.{Chr}
use Rattle.pr_basic.proofs.ListLaws.{chr_fails}
use Rattle.pr_basic.proofs.lists.list_item.Goals as goal

pub returns-in_err-rest-in-Word-Chr-clause-takes : goal.returns-in_err-rest-in-Word-Chr-clause-takes
returns-in_err-rest-in-Word-Chr-clause-takes c =
    let p = err_from_is_err_and c.from_residual-in_err-rest-in-Word-Chr.result c.from_residual-in_err-rest-in-Word-Chr.ensures.1 in
    let is : seen c.args.lexeme ≡ Word Chr = search rules in
    rw (p.1, p.2, ← c.line.view_is) (chr_fails _ _ _ _ _ _ is (rw c.requires.item at c.in_err-rest-in-Word-Chr.ensures.added))

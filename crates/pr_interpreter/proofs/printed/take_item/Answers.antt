use Rattle.pr_interpreter.specs.Statements.{has_item, item}
use Rattle.pr_interpreter.proofs.RepeatLemmas.{repeated_more}
use Rattle.pr_interpreter.proofs.printed.take_item.Goals as goal

pub returns-clause-ok : goal.returns-clause-ok
returns-clause-ok c = λ taken.
    repeated_more has_item (item c.args.end) _ _ taken c.args.lexemes.now c.in_ok-item.item c.in_ok-item.size c.requires
    c.in_ok-item.ensures.ok c.in_ok-item.ensures.some c.in_ok-item.ensures.within c.in_ok-put.ensures.ok

use Rattle.std.proofs.Common.{eq-eqb}
use Rattle.pr_interpreter.specs.Expressions.{expression}
use Rattle.pr_interpreter.specs.Reading.{after, begins_comma}
use Rattle.pr_interpreter.proofs.RepeatLemmas.{repeated_more}
use Rattle.pr_interpreter.proofs.reading.take_value.Goals as goal

pub returns-clause-ok : goal.returns-clause-ok
returns-clause-ok c = λ taken.
    repeated_more begins_comma (after 44 expression c.args.end) _ _ taken c.args.lexemes.now c.in_ok-value.value
    c.in_ok-value.size (eq-eqb _ _ c.requires) c.in_ok-value.ensures.ok c.in_ok-value.ensures.some
    c.in_ok-value.ensures.within c.in_ok-put.ensures.ok

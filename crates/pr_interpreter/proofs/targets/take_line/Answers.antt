use Rattle.std.proofs.Common.{eq-eqb}
use Rattle.pr_interpreter.specs.Statements.{line}
use Rattle.pr_interpreter.specs.Reading.{after, begins_comma}
use Rattle.pr_interpreter.proofs.RepeatLemmas.{repeated_more}
use Rattle.pr_interpreter.proofs.targets.take_line.Goals as goal

pub returns-clause-ok : goal.returns-clause-ok
returns-clause-ok c = λ taken.
    repeated_more begins_comma (after 44 line c.args.end) _ _ taken c.args.lexemes.now c.in_ok-line.line
    c.in_ok-line.size (eq-eqb _ _ c.requires) c.in_ok-line.ensures.ok c.in_ok-line.ensures.some
    c.in_ok-line.ensures.within c.in_ok-put.ensures.ok

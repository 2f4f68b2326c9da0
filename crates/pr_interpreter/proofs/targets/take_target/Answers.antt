use Rattle.std.proofs.Common.{eq-eqb}
use Rattle.pr_interpreter.specs.Statements.{further_target}
use Rattle.pr_interpreter.specs.Reading.{after, begins_comma}
use Rattle.pr_interpreter.proofs.RepeatLemmas.{repeated_more}
use Rattle.pr_interpreter.proofs.targets.take_target.Goals as goal

pub returns-clause-ok : goal.returns-clause-ok
returns-clause-ok c = λ taken.
    repeated_more begins_comma (after 44 further_target c.args.end) _ _ taken c.args.lexemes.now c.in_ok-target.target
    c.in_ok-target.size (eq-eqb _ _ c.requires) c.in_ok-target.ensures.ok c.in_ok-target.ensures.some
    c.in_ok-target.ensures.within c.in_ok-put.ensures.ok

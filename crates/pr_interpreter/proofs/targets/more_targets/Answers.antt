use Rattle.std.proofs.Common.{◌≡◌, ◌∙◌, true, false, drop, sym, eq-eqb, rules}
use Rattle.std.proofs.lemmas.Bool.{ne_eqb}
use Rattle.std.proofs.lemmas.List.{take_rest}
use Rattle.pr_interpreter.specs.Statements.{further_target}
use Rattle.pr_interpreter.specs.Reading.{after, begins_comma}
use Rattle.pr_interpreter.proofs.RepeatLemmas.{comma_some, repeated_ends, repeated_faults, repeated_on}
use Rattle.pr_interpreter.proofs.targets.more_targets.Goals as goal

pub more-preserved : goal.more-preserved
more-preserved c = record {
  found =
      repeated_on begins_comma (after 44 further_target c.args.end) c.more.found.items _ c.more.passed c.in-Ok.size
      c.args.lexemes.now _ (rw (take_rest c.args.lexemes.now c.more.passed) at (c.in-Ok.ensures.ok c.more.passed))
      c.more.invariant.found;
  within = search rules;
}

pub returns-in-Err-clause-err : goal.returns-in-Err-clause-err
returns-in-Err-clause-err c =
    let front = rw (take_rest c.args.lexemes.now c.more.passed) at c.front_code.ensures.value in
    let comma : begins_comma (drop c.more.passed c.args.lexemes.now) ≡ true =
    eq-eqb _ _ (sym front ∙ c.more-test.true) in
    repeated_faults begins_comma (after 44 further_target c.args.end) c.more.found.items c.more.passed
    (drop c.more.passed c.args.lexemes.now) c.in-Err.fault _ (comma_some _ comma) comma
    (rw (take_rest c.args.lexemes.now c.more.passed) at c.in-Err.ensures.err) c.more.invariant.found

pub returns-clause-ok : goal.returns-clause-ok
returns-clause-ok c =
    let front = rw (take_rest c.args.lexemes.now c.more.passed) at c.front_code.ensures.value in
    let none : begins_comma (drop c.more.passed c.args.lexemes.now) ≡ false =
    ne_eqb _ _ (λ same. c.more-test.false (front ∙ same)) in
    sym c.more.invariant.found
    ∙ repeated_ends begins_comma (after 44 further_target c.args.end) c.more.found.items c.more.passed
    (drop c.more.passed c.args.lexemes.now) none

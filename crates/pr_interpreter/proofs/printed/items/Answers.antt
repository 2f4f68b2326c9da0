use Rattle.std.proofs.Common.{◌≡◌, ◌∙◌, ℕ, true, false, List, drop, sym, ap, rules, Ok}
use Rattle.std.proofs.lemmas.List.{take_rest}
use Rattle.pr_interpreter.specs.declared.statements.Item.{Item}
use Rattle.pr_interpreter.specs.Reading.{Read}
use Rattle.pr_interpreter.specs.Statements.{has_item, item, items}
use Rattle.pr_interpreter.proofs.RepeatLemmas.{item_some, repeated_ends, repeated_faults, repeated_on}
use Rattle.pr_interpreter.proofs.printed.items.Goals as goal

abbrev items_read : List Item → ℕ → Read (List Item)
items_read found n = Ok (found, n)

pub more-preserved : goal.more-preserved
more-preserved c = record {
  found =
      repeated_on has_item (item c.args.end) c.more.found.items _ c.more.passed c.in-Ok.size c.args.lexemes.now _
      (rw (take_rest c.args.lexemes.now c.more.passed) at (c.in-Ok.ensures.ok c.more.passed)) c.more.invariant.found;
  within = search rules;
}

pub returns-in-Err-clause-err : goal.returns-in-Err-clause-err
unfolding items
returns-in-Err-clause-err c =
    let front = rw (take_rest c.args.lexemes.now c.more.passed) at c.has_item.ensures in
    let more : has_item (drop c.more.passed c.args.lexemes.now) ≡ true = sym front ∙ c.more-test.true in
    repeated_faults has_item (item c.args.end) c.more.found.items c.more.passed
    (drop c.more.passed c.args.lexemes.now) c.in-Err.fault _ (item_some _ more) more
    (rw (take_rest c.args.lexemes.now c.more.passed) at c.in-Err.ensures.err) c.more.invariant.found

pub returns-clause-ok : goal.returns-clause-ok
unfolding items
returns-clause-ok c =
    let front = rw (take_rest c.args.lexemes.now c.more.passed) at c.has_item.ensures in
    let none : has_item (drop c.more.passed c.args.lexemes.now) ≡ false = sym front ∙ c.more-test.false in
    sym c.more.invariant.found
    ∙ (repeated_ends has_item (item c.args.end) c.more.found.items c.more.passed
    (drop c.more.passed c.args.lexemes.now) none
    ∙ ap (λ (found : List Item). items_read found c.more.passed) (sym c.from_vec.ensures))

use Rattle.std.proofs.Common.{◌∙◌, ◌<◌, length, sym, refl, arith}
use Rattle.pr_interpreter.proofs.SymbolLemmas.{begins_all, begins_fails, begins_more, begins_short}
use Rattle.pr_interpreter.proofs.symbols.begins.Goals as goal

pub returns-then-text-word-clause-test : goal.returns-then-text-word-clause-test
returns-then-text-word-clause-test c = sym (begins_short _ _ c.if-text-word.true)

pub loop-i-init : goal.loop-i-init
loop-i-init c = refl

pub returns-then-to_ascii_uppercase-w-clause-test : goal.returns-then-to_ascii_uppercase-w-clause-test
returns-then-to_ascii_uppercase-w-clause-test c =
    let k : c.loop-i.i < length c.args.text.now = omega arith in
    sym (begins_fails _ _ c.loop-i.i _ c.loop-i-test.true k c.to_ascii_uppercase.ensures.value
    c.if-to_ascii_uppercase-w.true)
    ∙ c.loop-i.invariant

pub loop-i-preserved : goal.loop-i-preserved
loop-i-preserved c =
    let k : c.loop-i.i < length c.args.text.now = omega arith in
    begins_more _ _ c.loop-i.i _ c.loop-i-test.true k c.to_ascii_uppercase.ensures.value c.if-to_ascii_uppercase-w.false
    ∙ c.loop-i.invariant

pub returns-clause-test : goal.returns-clause-test
returns-clause-test c = sym (begins_all _ _ c.loop-i.i c.loop-i-test.false) ∙ c.loop-i.invariant

use Rattle.std.proofs.Common.{rules}
use Rattle.std.proofs.lemmas.List.{take_rest}
use Rattle.pr_interpreter.proofs.LexemeLemmas.{lexemes_all, lexemes_more}
use Rattle.pr_interpreter.proofs.lexemes.grouped.Goals as goal

pub loop-passed-preserved : goal.loop-passed-preserved
loop-passed-preserved c = record {
  found =
      lexemes_more c.loop-passed.passed _ c.args.symbols.now _ _ _
      (rw (take_rest c.args.symbols.now c.loop-passed.passed) at c.in_ok-passed.ensures.lexemes)
      c.loop-passed.invariant.found;
  within = search rules;
}

pub returns : goal.returns
returns c = lexemes_all c.loop-passed.passed c.args.symbols.now _ _ c.loop-passed-test.false
    c.loop-passed.invariant.found

use Rattle.std.proofs.Common.{rules}
use Rattle.std.proofs.lemmas.List.{take_rest}
use Rattle.pr_interpreter.proofs.SymbolLemmas.{symbols_all, symbols_more}
use Rattle.pr_interpreter.proofs.symbols.symbols_of.Goals as goal

pub loop-passed-preserved : goal.loop-passed-preserved
loop-passed-preserved c = record {
  found =
      symbols_more c.args.writing c.args.place c.loop-passed.passed _ c.args.line.now _ _ _
      (rw (take_rest c.args.line.now c.loop-passed.passed) at c.in_ok-passed.ensures.symbols)
      c.loop-passed.invariant.found;
  within = search rules;
}

pub returns : goal.returns
returns c = symbols_all c.args.writing c.args.place c.loop-passed.passed c.args.line.now _ _ c.loop-passed-test.false
    c.loop-passed.invariant.found

use Rattle.std.proofs.Common.{◌+◌, ap, arith}
use Rattle.pr_programs.proofs.SavedLemmas.{read-one_more}
use Rattle.pr_programs.proofs.saved.saved_text.Goals as goal

pub lines-preserved : goal.lines-preserved
lines-preserved c = record {
  read = read-one_more _ _ _ _ _ _ _ _ _ c.lines.invariant.read c.in-Line.ensures.0 c.in_default.ensures (ap (λ v. v + 1) c.from-least.ensures);
  count = omega (arith, c.lines.invariant.count, c.in-Line.ensures.1);
}

use Rattle.std.proofs.lemmas.Result.{err_from_is_err_and}
use Rattle.std.proofs.Common.{refl}
use Rattle.pr_basic.proofs.ScriptLaws.{line_fails, number_fails, read_on}
use Rattle.pr_basic.proofs.script.read_parts.Goals as goal

pub returns-in_err-rest-clause-reads : goal.returns-in_err-rest-clause-reads
returns-in_err-rest-clause-reads c =
    let p = err_from_is_err_and c.from_residual-in_err-rest.result c.from_residual-in_err-rest.ensures.1 in
    rw (p.1, p.2) (line_fails _ _ _ _ _ _ _ (rw c.in-Some.is at c.loop-rest.invariant.read) c.in_err-rest.ensures.reads)

pub loop-rest-preserved : goal.loop-rest-preserved
loop-rest-preserved c = record {
  read = read_on _ _ _ _ _ _ _ refl (rw c.in-Some.is at c.loop-rest.invariant.read) c.in_ok-rest.ensures.reads c.in_ok-rest.ensures.left;
  few = c.in_ok-rest.ensures.few;
}

pub returns-in_err-after_number-clause-reads : goal.returns-in_err-after_number-clause-reads
returns-in_err-after_number-clause-reads c =
    let p = err_from_is_err_and c.from_residual.result c.from_residual.ensures.1 in
    rw (p.1, p.2) (number_fails _ _ _ _ _ c.in_err-after_number.ensures.number c.in_err-after_number.ensures.left)

use Rattle.std.proofs.Common.{◌+◌, ◌∙◌, ap, arith, sym}
use Rattle.pr_pdf.proofs.Numbers.{before_none, before_unused, before_used}
use Rattle.pr_pdf.proofs.used.Used.before.Goals as goal
use Rattle.pr_pdf.proofs.used.Used.before.Goals.{then-has, else-has}

pub loop-number-init : goal.loop-number-init
loop-number-init c = record { count = sym (before_none c.args.self.now); within = omega arith }

pub loop-number-preserved : goal.loop-number-preserved
loop-number-preserved c =
    elim c.if-has.branch [
      | then-has w ↦ record {
        count = w.count-is ∙ (ap (λ n. n + 1) c.loop-number.invariant.count ∙ sym (before_used c.args.self.now c.loop-number.number (sym c.has.ensures ∙ w.if-has.true)));
        within = omega arith;
      }
      | else-has w ↦ record {
        count = w.count-is ∙ (c.loop-number.invariant.count ∙ sym (before_unused c.args.self.now c.loop-number.number (sym c.has.ensures ∙ w.if-has.false)));
        within = omega arith;
      }
    ]

use Rattle.std.proofs.Common.{[], refl}
use Rattle.pr_ear.proofs.Printers.{laid-none, printed-first}
use Rattle.pr_ear.proofs.printing.answer_any.Goals as goal

pub returns-clause-printed : goal.returns-clause-printed
returns-clause-printed c = λ inputs marks few h. (
  c.print_any.result,
  printed-first inputs marks c.args.byte c.print_any.result _ _ _ _
      (c.print_any.ensures.printed inputs marks [] c.args.out.now few h refl (laid-none c.args.out.now)),
  c.printed_answer.ensures,
)

use Rattle.std.proofs.Common.{◌++◌, [], ◌∷◌, append-nil, refl, ap, ◌∙◌, subst}
use Rattle.pr_page.specs.Marks.{marks_made}
use Rattle.pr_page.specs.declared.input.Input.TheVariants.{Select}
use Rattle.pr_ear.specs.Printing.{HasPrinted}
use Rattle.pr_ear.proofs.Printers.{printed-more}
use Rattle.pr_ear.proofs.printing.select_set.Goals as goal

pub returns : goal.returns
returns c =
    λ inputs marks few h.
    subst (λ marks. HasPrinted (inputs ++ Select c.args.lower ∷ []) marks c.store.result)
    (ap (λ more. marks ++ more) (c.take-nothing.ensures.selects c.args.lower refl) ∙ append-nil marks)
    (printed-more inputs marks (Select c.args.lower) c.args.printer.now c.store.result c.restore-head.result c.take-nothing.new.self
    (marks_made c.take-nothing.result) few h c.restore-head.ensures.value c.store.ensures c.take-nothing.ensures.made)

use Rattle.std.proofs.lemmas.Result.{on_ok_weaker}
use Rattle.pr_pdf.proofs.Objects.{cons_adds}
use Rattle.pr_pdf.proofs.drawing.add_first.Goals as goal

pub returns : goal.returns
returns c =
    on_ok_weaker c.add_characters-3.result
    (λ last.
    cons_adds c.in_ok-add_catalog.ensures
    (cons_adds c.in_ok-add_resources.ensures
    (cons_adds c.in_ok-add_encoding.ensures
    (cons_adds c.in_ok-add_widths.ensures
    (cons_adds c.in_ok-add_widths-2.ensures
    (cons_adds c.in_ok-add_widths-3.ensures
    (cons_adds c.in_ok-add_characters.ensures
    (cons_adds c.in_ok-add_characters-2.ensures last))))))))
    c.add_characters-3.ensures

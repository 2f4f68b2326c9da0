use Rattle.pr_ear.proofs.Printers.{next-at-printers, printers-print}
use Rattle.pr_ear.proofs.printing.printers_print_pages.Goals as goal

pub returns : goal.returns
returns c = record { pages = printers-print c.heads_make_pages.ensures.pages; next = next-at-printers c.heads_make_pages.ensures.next }

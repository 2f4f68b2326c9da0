use Rattle.std.specs.Prelude.{map}
use Rattle.pr_pdf.specs.Linked.{Adds}
use Rattle.pr_pdf.specs.Pdf.{bookmark_pdf}
use Rattle.pr_pdf.specs.Words.{numbers_from}
use Rattle.pr_pdf.proofs.drawing.add_each.Given as goal

abbrev pub invariant-loop-index : goal.invariant-loop-index
invariant-loop-index l = Adds (map (bookmark_pdf l.root l.first l.count4 l.count) (numbers_from 0 l.index)) l.fn.document l.document

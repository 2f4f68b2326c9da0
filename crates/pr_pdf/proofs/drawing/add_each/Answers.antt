use Rattle.pr_pdf.specs.Pdf.{bookmark_pdf}
use Rattle.pr_pdf.proofs.Objects.{map_adds, map_adds_none}
use Rattle.pr_pdf.proofs.drawing.add_each.Goals as goal

pub loop-index-init : goal.loop-index-init
loop-index-init c = map_adds_none (bookmark_pdf c.args.root c.args.first c.args.count4 c.args.count) c.args.document.now

pub loop-index-preserved : goal.loop-index-preserved
loop-index-preserved c =
    map_adds (bookmark_pdf c.args.root c.args.first c.args.count4 c.args.count) c.loop-index.index c.loop-index.invariant c.in_ok-add_bookmark.ensures

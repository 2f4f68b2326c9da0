use Rattle.std.proofs.Common.{◌≡◌, arith, false, true}
use Rattle.std.proofs.lemmas.Result.{on_ok_weaker}
use Rattle.pr_pdf.specs.Pdf.{are_two}
use Rattle.pr_pdf.proofs.Objects.{cons_adds, none_adds}
use Rattle.pr_pdf.proofs.drawing.add_bookmarks.Goals as goal

pub returns-then-not-are_two : goal.returns-then-not-are_two
returns-then-not-are_two c =
    let one : are_two c.args.count4 c.args.count5 ≡ false = grind (arith, c.are_two.ensures, c.if-not-are_two.true) in
    rw one (none_adds c.args.document.now)

pub returns : goal.returns
returns c =
    let two : are_two c.args.count4 c.args.count5 ≡ true = grind (arith, c.are_two.ensures, c.if-not-are_two.false) in
    rw two (on_ok_weaker c.add_each.result (λ each. cons_adds c.in_ok-add_root.ensures each) c.add_each.ensures)

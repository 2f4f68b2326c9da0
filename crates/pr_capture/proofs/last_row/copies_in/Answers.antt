use Rattle.std.proofs.Common.{◌≡◌, ◌+◌, ◌-◌, add-mul, ap, arith, drop, sym, take, ◌∙◌}
use Rattle.std.proofs.lemmas.Slice.Eq.{bytes_eq-Decides}
use Rattle.pr_capture.proofs.CsvCopies.{copies-twice}
use Rattle.pr_capture.proofs.last_row.copies_in.Goals as goal

pub loop-end-preserved : goal.loop-end-preserved
loop-end-preserved c =
    let count = c.loop-end.count in
    let end = c.loop-end.end in
    let text = c.args.text.now in
    let inv = c.loop-end.invariant in
    let rest = drop end text in
    let o : (end + end) - end ≡ end = omega arith in
    let same : take end rest ≡ take end text =
    ap (λ j. take j rest) (sym o) ∙ (bytes_eq-Decides (take ((end + end) - end) rest) (take end text)).0 (sym c.is_word.ensures ∙ c.if-not-is_word.false) in
    record {
      found = copies-twice count end (take c.args.len text) text inv.found same;
      long = ap (λ v. v + v) inv.long ∙ sym (add-mul count count c.args.len);
      some = omega (arith, inv.some);
      within = omega (arith, c.loop-end-test.true, inv.within);
    }

use Rattle.std.proofs.Common.{sym, ◌∙◌}
use Rattle.std.proofs.lemmas.Bool.{false≢true}
use Rattle.std.proofs.lemmas.List.{take_rest}
use Rattle.pr_listing.proofs.PieceLemmas.{line_taken}
use Rattle.pr_listing.proofs.typed.add_line.Goals as goal

pub returns-in-Ok : goal.returns-in-Ok
returns-in-Ok c = record {
  line =
      line_taken _ _ _ _ _ _ c.before_remark-n.ensures.count (λ h. false≢true (sym c.if-is_heading.false ∙ c.is_heading.ensures.1 h)) c.in_ok-add_pieces.ensures.pieces
      (rw (take_rest c.args.line.now c.before_remark-n.result) at c.in-Ok.ensures.items);
  within = tt;
}

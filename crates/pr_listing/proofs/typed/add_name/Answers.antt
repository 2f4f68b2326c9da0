use Rattle.std.proofs.Common.{◌<◌, ◌+◌, length, take, arith, sym, ◌∙◌, refl, inr, length-drop}
use Rattle.std.proofs.lemmas.List.{take_rest}
use Rattle.pr_listing.proofs.PieceLemmas.{name_closed, name_cut, none_closes, none_named}
use Rattle.pr_listing.proofs.typed.add_name.Goals as goal

pub returns-then-n-bytes : goal.returns-then-n-bytes
returns-then-n-bytes c = inr (refl, none_closes _ _ _ (sym c.count_within-n.ensures.count ∙ c.if-n-bytes.true))

pub returns-in-None : goal.returns-in-None
returns-in-None c =
    inr (refl, none_named _ _ _ _ c.count_within-n.ensures.count (omega (arith, c.count_within-n.ensures.within, c.if-n-bytes.false)) (sym c.in-None.ensures))

pub returns-in-Ok : goal.returns-in-Ok
returns-in-Ok c =
    let lt : c.count_within-n.result < length c.args.bytes.now = omega (arith, c.count_within-n.ensures.within, c.if-n-bytes.false) in
    rw (take_rest c.args.bytes.now (c.count_within-n.result + 1)) (
      record {
        name = take c.count_within-n.result c.args.bytes.now;
        count = c.in-Some.count;
        byte = c.in-Some.b;
        cut = name_cut c.args.brackets c.args.bytes.now c.count_within-n.result c.count_within-n.ensures.count lt;
        closed = name_closed c.args.brackets c.args.bytes.now c.count_within-n.result c.count_within-n.ensures.count;
        known = sym c.in-Some.ensures;
        is_text = c.in-Ok.ensures;
      },
      omega (arith, length-drop (c.count_within-n.result + 1) c.args.bytes.now),
    )

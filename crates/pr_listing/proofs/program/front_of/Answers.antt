use Rattle.std.proofs.Common.{drop, arith, sym, ◌∙◌, ◌+◌, length-drop}
use Rattle.std.proofs.lemmas.List.{take_rest}
use Rattle.pr_listing.proofs.FrontLemmas.{at_end, cut_in_line, cut_in_number, line_at}
use Rattle.pr_listing.proofs.program.front_of.Goals as goal

pub returns-then-link-eq0 : goal.returns-then-link-eq0
returns-then-link-eq0 c = at_end _ (omega arith) (omega arith)

pub returns-then-bytes-lt4 : goal.returns-then-bytes-lt4
returns-then-bytes-lt4 c = cut_in_number _ (omega arith) (omega arith) (omega arith)

pub returns-then-n-after : goal.returns-then-n-after
returns-then-n-after c =
    let after = take_rest c.args.bytes.now 4 in
    cut_in_line _ (omega arith) (omega arith) (rw after at (sym c.count_to_zero-n.ensures.count ∙ c.if-n-after.true))

pub returns : goal.returns
returns c =
    let after = take_rest c.args.bytes.now 4 in
    let count = rw after at c.count_to_zero-n.ensures.count in
    let within = rw after at c.count_to_zero-n.ensures.within in
    let more = rw after at c.if-n-after.false in
    rw (after, take_rest (drop 4 c.args.bytes.now) (c.count_to_zero-n.result + 1)) (
      line_at c.args.bytes.now _ _ (omega arith) (omega arith) (omega arith) count (omega (arith, within, more)),
      omega (arith, length-drop (c.count_to_zero-n.result + 1) (drop 4 c.args.bytes.now), length-drop 4 c.args.bytes.now),
    )

use Rattle.std.proofs.Common.{◌+◌, ◌∙◌, suc, drop, sym, ap, arith}
use Rattle.pr_render.specs.Tables.{joined_count}
use Rattle.pr_render.proofs.Joined.{count-next, width-least}
use Rattle.pr_render.proofs.letters.joined_count.Goals as goal

pub loop-count-preserved : goal.loop-count-preserved
loop-count-preserved c =
    let step = count-next c.args.wide c.loop-count.end c.loop-count.count c.args.marks.now _ (omega arith) (sym c.is_next.ensures.next ∙ c.if-not-is_next.false)
    ∙ ap (λ w. suc (joined_count c.args.wide (c.loop-count.end + w) (drop (c.loop-count.count + 1) c.args.marks.now))) (sym c.cells_width-width.ensures.width) in
    record {
      count = omega (arith, step, c.loop-count.invariant.count);
      few = omega (arith, c.loop-count.invariant.few, c.cells_width-width.ensures.width, width-least c.args.wide);
      within = omega (arith, c.is_next.ensures.within c.if-not-is_next.false, c.cells_width-width.ensures.within);
    }

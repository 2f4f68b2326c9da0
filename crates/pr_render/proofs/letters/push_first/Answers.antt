use Rattle.std.proofs.Common.{◌+◌, ◌-◌, ◌++◌, ◌∙◌, drop, length, length-drop, take_all, sym, ap, arith, append_assoc}
use Rattle.pr_render.specs.Svg.{no_strip, strips_svg}
use Rattle.pr_render.specs.Tables.{joined_count}
use Rattle.pr_render.proofs.Joined.{first-cells}
use Rattle.pr_render.proofs.letters.push_first.Goals as goal

pub returns-in_ok-push_strip-in-Cell-clause-text : goal.returns-in_ok-push_strip-in-Cell-clause-text
returns-in_ok-push_strip-in-Cell-clause-text c =
    ap (λ t. t ++ strips_svg no_strip (drop (1 + c.joined_count-count.result) c.args.marks.now)) c.in_ok-push_strip-in-Cell.ensures
    ∙ append_assoc c.args.text.now.items _ (strips_svg no_strip (drop (1 + c.joined_count-count.result) c.args.marks.now))
    ∙ ap (λ t. c.args.text.now.items ++ t) (sym (first-cells c.args.marks.now _ c.in-Cell.code c.in-Cell.lower c.in-Cell.reverse c.in-Cell.wide c.joined_count-count.result
    c.requires c.in-Cell.is
    (c.joined_count-count.ensures.count
    ∙ ap (λ ps. joined_count c.in-Cell.wide c.end_of_cell-end.result ps)
    (take_all (length c.args.marks.now - 1) (drop 1 c.args.marks.now) (omega (arith, length-drop 1 c.args.marks.now)))
    ∙ ap (λ e. joined_count c.in-Cell.wide e (drop 1 c.args.marks.now)) c.end_of_cell-end.ensures.end)
    (omega arith)))

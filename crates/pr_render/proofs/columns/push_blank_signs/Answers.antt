use Rattle.pr_render.proofs.Signs.{blanks-after}
use Rattle.pr_render.proofs.columns.push_blank_signs.Goals as goal

pub returns : goal.returns
returns c =
    blanks-after c.args.look c.args.on c.args.blanks c.args.text.now.items c.push_turn.new.text.items c.push_blanks.new.text.items c.if-blanks-eq0.false
    c.in_ok-push_turn.ensures c.in_ok-push_blanks.ensures

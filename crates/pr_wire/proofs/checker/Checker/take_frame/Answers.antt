use Rattle.std.proofs.Common.{◌≡◌, ◌+◌, arith, ap, refl, sym, false, ◌∙◌}
use Rattle.pr_wire.proofs.CheckLaws.{taken_at}
use Rattle.pr_wire.proofs.FrameText.{taken_frame}
use Rattle.pr_wire.proofs.checker.Checker.take_frame.Goals as goal

pub returns-clause-checked : goal.returns-clause-checked
returns-clause-checked c = λ before frames h.
    let now = c.args.self.now in
    let t = c.in_ok-frame.ensures.takes in
    taken_at false _ _ _ _ _ _ (sym c.if-self.false)
    (taken_frame before c.args.text.now frames now.part now.part _ _ c.read_frame.new.lines c.in_ok-frame.frame now.follower c.pass_edges.new.self
    (sym c.is_nothing.ensures ∙ c.if-not-is_nothing.false) refl (c.read_frame.ensures.lines (c.new-lines.ensures.lines c.args.text.now)) c.read_frame.ensures.few
    (ap (λ n. n + now.later) t.count ∙ (let e : now.follower.taken + c.read_frame.new.lines.count + now.later ≡ now.follower.taken + now.later + c.read_frame.new.lines.count = omega arith in e)) t
    (taken_at _ false before frames _ _ _ c.if-self.false h))

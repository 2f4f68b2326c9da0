use Rattle.std.proofs.Common.{true, false, ◌∙◌, sym}
use Rattle.pr_wire.proofs.CheckLaws.{taken_at, ended_bad, same_lines, same_answer}
use Rattle.pr_wire.proofs.checker.Checker.finish.Goals as goal

pub returns-clause-answer : goal.returns-clause-answer
returns-clause-answer c = λ text frames h.
    let now = c.args.self in
    same_answer _ text frames _
    (same_lines text frames now.part _ now.follower (sym c.is_nothing.ensures ∙ c.if-is_nothing.false) (taken_at _ false text frames now.part _ now.follower c.if-self.false h))
    (c.answer-2.ensures.answer _ frames (c.end_line-last.ensures.checked text frames h))

pub returns-then-self-clause-answer : goal.returns-then-self-clause-answer
returns-then-self-clause-answer c = λ text frames h.
    let now = c.args.self in
    rw c.count.ensures (ended_bad text frames now.part _ now.follower (taken_at _ true text frames now.part _ now.follower c.if-self.true h))

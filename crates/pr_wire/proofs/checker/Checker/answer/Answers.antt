use Rattle.std.proofs.Common.{true, false}
use Rattle.pr_wire.specs.Checking.{with_frame}
use Rattle.pr_wire.proofs.CheckLaws.{taken_at, ended_bad, ended_lawful, ended_faulty}
use Rattle.pr_wire.proofs.checker.Checker.answer.Goals as goal

pub returns-then-self-clause-answer : goal.returns-then-self-clause-answer
returns-then-self-clause-answer c = λ text frames h.
    let now = c.args.self.now in
    rw c.count.ensures (ended_bad text (with_frame frames c.args.last) now.part _ now.follower (taken_at _ true text _ now.part _ now.follower c.if-self.true h))

pub returns-in-Ok-clause-answer : goal.returns-in-Ok-clause-answer
returns-in-Ok-clause-answer c = λ text frames h.
    let now = c.args.self.now in
    ended_lawful text frames c.args.last now.part _ now.follower c.requires.whole c.in-Ok.ensures.spells (taken_at _ false text _ now.part _ now.follower c.if-self.false h)

pub returns-in-Err-clause-answer : goal.returns-in-Err-clause-answer
returns-in-Err-clause-answer c = λ text frames h.
    let now = c.args.self.now in
    ended_faulty text frames (with_frame frames c.args.last) now.part _ now.follower c.in-Err.fault c.requires.whole c.in-Err.ensures.fault (taken_at _ false text _ now.part _ now.follower c.if-self.false h)

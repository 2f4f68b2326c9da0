use Rattle.std.proofs.Common.{arith}
use Rattle.pr_interpreter.specs.Working.{seen}
use Rattle.pr_interpreter.proofs.EvaluationLemmas.{new_added, new_full, new_large}
use Rattle.pr_interpreter.proofs.evaluation.Work.in_new.Goals as goal

pub returns-in_default : goal.returns-in_default
returns-in_default c =
    new_large c.args.room c.args.place c.args.name c.args.indices.now (seen c.args.self.now) (seen c.give.new.self)
    (omega (arith, c.ranges.room)) c.in_default.ensures.value c.in_ok-give.ensures

pub returns-then-is_added : goal.returns-then-is_added
returns-then-is_added c =
    new_added c.args.room c.args.place c.args.name c.args.indices.now (seen c.args.self.now)
    (seen c.give-then-is_added.new.self) c.in_ok-array.array c.in_ok-given.given c.in-Some.bytes c.in_ok-is_added.is_added c.add.new.self
    c.in_ok-array.ensures
    c.in_ok-given.ensures c.in-Some.ensures.value c.in_ok-is_added.ensures.room c.in_ok-is_added.ensures.added
    c.if-is_added.true c.in_ok-give-2.ensures

pub returns : goal.returns
returns c =
    new_full c.args.room c.args.place c.args.name c.args.indices.now (seen c.args.self.now) (seen c.give-2.new.self)
    c.in_ok-array.array c.in-Some.bytes c.in_ok-is_added.is_added c.add.new.self c.in-Some.ensures.value
    c.in_ok-is_added.ensures.room c.in_ok-is_added.ensures.added c.if-is_added.false c.in_ok-give-3.ensures

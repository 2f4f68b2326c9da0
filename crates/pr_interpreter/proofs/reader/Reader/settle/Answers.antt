use Rattle.std.proofs.Common.{◌∙◌}
use Rattle.pr_interpreter.specs.Reader.{seen}
use Rattle.pr_interpreter.proofs.ReaderLemmas.{less_waits, settle_goes, settle_none, settle_stays}
use Rattle.pr_interpreter.proofs.reader.Reader.settle.Goals as goal

pub loop-last-smaller : goal.loop-last-smaller
loop-last-smaller c =
    less_waits (seen c.loop-last.self) (seen c.take_last.new.self) (seen c.put.new.self) c.in-Some.last
    c.in-Some-bound.operator c.in-Some.ensures.waiting c.in_ok-put-in-Some-bound.ensures

pub loop-last-preserved : goal.loop-last-preserved
loop-last-preserved c =
    settle_goes _ (seen c.loop-last.self) (seen c.take_last.new.self) _ c.in-Some.last c.in-Some-bound.operator
    c.in-Some.ensures.nodes c.in-Some.ensures.waiting c.in-Some-bound.ensures c.in_ok-put-in-Some-bound.ensures
    ∙ c.loop-last.invariant

pub returns-in-None : goal.returns-in-None
returns-in-None c =
    settle_stays c.args.least (seen c.loop-last.self) (seen c.take_last.new.self) _ c.in-Some.last
    c.in-Some.ensures.nodes
    c.in-Some.ensures.waiting c.in-None.ensures c.in_ok-wait-in-None.ensures
    ∙ c.loop-last.invariant

pub returns : goal.returns
returns c =
    settle_none c.args.least (seen c.loop-last.self) (seen c.take_last.new.self) c.in_default.ensures.nodes
    c.in_default.ensures.waiting.0 c.in_default.ensures.waiting.1
    ∙ c.loop-last.invariant

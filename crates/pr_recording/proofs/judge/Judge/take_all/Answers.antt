use Rattle.std.proofs.Common.{List, arith, length-drop, subst}
use Rattle.std.proofs.lemmas.List.{take_all, take_rest}
use Rattle.pr_wire.specs.declared.Edge.{Edge}
use Rattle.pr_recording.specs.Judged.{JudgesMore}
use Rattle.pr_recording.proofs.Judges.{judges_front, judges_none}
use Rattle.pr_recording.proofs.judge.Judge.take_all.Goals as goal

pub loop-len-init : goal.loop-len-init
loop-len-init c = record {
  judged = judges_none c.args.self.now;
  within = omega arith;
  count = omega arith;
}

pub loop-len-preserved : goal.loop-len-preserved
loop-len-preserved c =
    let inv = c.loop-len.invariant in
    let front = rw take_rest at c.take_front-len.ensures.judged in
    let within = rw take_rest at c.take_front-len.ensures.within in
    record {
      judged = judges_front c.loop-len.len c.take_front-len.result c.args.edges.now _ _ _ inv.judged front;
      within = omega (arith, within, length-drop c.loop-len.len c.args.edges.now, c.loop-len-test.true);
      count = omega (arith, inv.count, c.take_front-len.ensures.count);
    }

pub returns-clause-judged : goal.returns-clause-judged
returns-clause-judged c =
    let all = take_all c.loop-len.len c.args.edges.now (omega (arith, c.loop-len-test.false)) in
    let P : List Edge → Type 0 = λ l. JudgesMore l c.args.self.now c.loop-len.self in
    subst P all c.loop-len.invariant.judged

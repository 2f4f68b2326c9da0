use Rattle.std.proofs.Common.{◌++◌, ◌+◌, ◌<◌, ◌≤◌, length, take, sym, ap, ◌∙◌, subst, arith}
use Rattle.pr_page.specs.Marks.{marks_made}
use Rattle.pr_ear.specs.Printing.{IsLaid}
use Rattle.pr_ear.proofs.Printers.{laid-next, laid-nothing, laid-single, no_mark}
use Rattle.pr_ear.proofs.printing.put.Goals.{in-Some, in_default}
use Rattle.pr_ear.proofs.printing.put.Goals as goal

pub loop-index-preserved : goal.loop-index-preserved
loop-index-preserved c =
    let made = marks_made c.args.made.now in
    let i = c.loop-index.index in
    let inside : i < length made = omega (arith, c.loop-index-test.true, c.len-index-end.ensures) in
    let room : c.args.at + length made ≤ length c.loop-index.out = omega (arith, c.requires.room, c.loop-index.auto.out) in
    λ marks first at laid.
    let before = c.loop-index.invariant marks first at laid in
    elim c.match-get.branch [
      | in-Some w ↦
          subst (λ out. IsLaid (marks ++ take (i + 1) made) first out) (sym w.out-is)
          (laid-next marks made first _ c.args.at i _ _ _ at room (sym c.get.ensures ∙ w.in-Some.is) (ap (λ n. c.args.at + n) w.from.ensures) w.numbers_of_mark-in-Some.ensures before)
      | in_default w ↦ absurd (no_mark made i inside (sym c.get.ensures ∙ w.in_default.is))
    ]

pub returns-then-made-eq0 : goal.returns-then-made-eq0
returns-then-made-eq0 c = record {
  laid = λ marks first at laid.
      laid-single marks c.args.made.now first c.args.out.now c.args.at c.numbers_of_mark.result c.if-made-eq1.true c.if-made-eq0.true at c.requires.room
      c.numbers_of_mark.ensures laid;
}

pub returns-then-len-eq0 : goal.returns-then-len-eq0
returns-then-len-eq0 c = record {
  laid = λ marks first at laid. laid-nothing marks (marks_made c.args.made.now) first c.args.out.now (sym c.len.ensures ∙ c.if-len-eq0.true) laid;
}

use Rattle.std.proofs.Common.{◌≡◌, ◌∙◌, ap, arith, drop, length, length-drop}
use Rattle.std.proofs.lemmas.List.{take_rest}
use Rattle.pr_programs.specs.Typed.{with_front}
use Rattle.pr_programs.proofs.TypedLemmas.{typed_end, typed_step, typed_stop}
use Rattle.pr_programs.proofs.typed.typed_text.Goals as goal

pub loop-place-preserved : goal.loop-place-preserved
loop-place-preserved c =
    let within = rw (take_rest c.args.text.now c.loop-place.place) at c.in-Ok.ensures.within in
    let value = rw (take_rest c.args.text.now c.loop-place.place) at c.in-Ok.ensures.value in
    record {
      leads = typed_step c.args.text.now c.loop-place.made.items _ c.loop-place.place c.loop-place.part _
          c.in-Ok.piece c.loop-place-test.true value c.in-Ok.ensures.some
          c.in_default.ensures c.part_after-part.ensures c.loop-place.invariant.leads;
      within = omega (arith, within, length-drop c.loop-place.place c.args.text.now, c.loop-place.invariant.within);
    }

pub returns-in-Err-clause-err : goal.returns-in-Err-clause-err
returns-in-Err-clause-err c =
    let value = rw (take_rest c.args.text.now c.loop-place.place) at c.in-Err.ensures.value in
    c.loop-place.invariant.leads ∙ ap (with_front c.loop-place.made.items)
    (typed_stop c.args.text.now c.loop-place.place c.loop-place.part c.in-Err.reason c.loop-place-test.true value)

pub returns-clause-ok : goal.returns-clause-ok
returns-clause-ok c =
    let empty : length (drop c.loop-place.place c.args.text.now) ≡ 0 =
    omega (arith, length-drop c.loop-place.place c.args.text.now, c.loop-place-test.false) in
    c.loop-place.invariant.leads ∙ typed_end c.loop-place.place c.loop-place.part c.loop-place.made.items
    (drop c.loop-place.place c.args.text.now) empty

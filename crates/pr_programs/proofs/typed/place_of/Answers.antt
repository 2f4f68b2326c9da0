use Rattle.std.proofs.Common.{◌≡◌, ◌∙◌, arith, drop, length, length-drop, sym}
use Rattle.std.proofs.lemmas.List.{take_rest}
use Rattle.pr_programs.proofs.TypedLemmas.{place_end, place_found, place_step, place_stop}
use Rattle.pr_programs.proofs.typed.place_of.Goals as goal

pub returns-in-Err : goal.returns-in-Err
returns-in-Err c =
    let value = rw (take_rest c.args.text.now c.loop-place.place) at c.in-Err.ensures.value in
    sym (c.loop-place.invariant.leads ∙ place_stop c.args.text.now c.loop-place.place c.loop-place.part
    c.loop-place.left c.in-Err._reason c.loop-place-test.true value)

pub returns-then-left-count : goal.returns-then-left-count
returns-then-left-count c =
    let value = rw (take_rest c.args.text.now c.loop-place.place) at c.in-Ok.ensures.value in
    sym (c.loop-place.invariant.leads ∙ place_found c.args.text.now c.loop-place.place c.loop-place.part
    c.loop-place.left c.in-Ok.piece c.loop-place-test.true value c.if-left-count.true)

pub loop-place-preserved : goal.loop-place-preserved
loop-place-preserved c =
    let within = rw (take_rest c.args.text.now c.loop-place.place) at c.in-Ok.ensures.within in
    let value = rw (take_rest c.args.text.now c.loop-place.place) at c.in-Ok.ensures.value in
    record {
      leads = c.loop-place.invariant.leads
          ∙ place_step c.args.text.now c.loop-place.place c.loop-place.part _ c.loop-place.left c.in-Ok.piece
          c.loop-place-test.true value c.in-Ok.ensures.some within c.if-left-count.false
          c.part_after-part.ensures;
      within = omega (arith, within, length-drop c.loop-place.place c.args.text.now, c.loop-place.invariant.within);
    }

pub returns : goal.returns
returns c =
    let empty : length (drop c.loop-place.place c.args.text.now) ≡ 0 =
    omega (arith, length-drop c.loop-place.place c.args.text.now, c.loop-place-test.false) in
    sym (c.loop-place.invariant.leads ∙ place_end c.loop-place.place c.loop-place.part c.loop-place.left
    (drop c.loop-place.place c.args.text.now) empty)

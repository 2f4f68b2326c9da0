use Rattle.std.proofs.Common.{take, refl, sym, ap, ◌∙◌, arith}
use Rattle.std.proofs.lemmas.List.{take_more}
use Rattle.pr_basic.specs.Performing.{printing}
use Rattle.pr_basic.proofs.PrintingLemmas.{laws_of, printing_none, printing_push, chrout_output, chrout_screen}
use Rattle.pr_basic.proofs.performing.print_bytes.Goals as goal

pub loop-byte-init : goal.loop-byte-init
loop-byte-init g c = record {
  printed = λ working. sym (printing_none (laws_of c.elements_add_up.ensures.two_parts c.elements_add_up.ensures.none) c.args.channels.now working);
  failed = refl;
  room = omega arith;
  keeps = record { present = refl; delays = refl; mark = refl };
  output = refl;
  screen = λ low. refl;
}

pub loop-byte-preserved : goal.loop-byte-preserved
loop-byte-preserved g c = record {
  printed = λ working.
      let before = c.loop-byte.invariant.printed working in
      c.in_ok-chrout.ensures.ok
      ∙ printing_push (laws_of c.elements_add_up.ensures.two_parts c.elements_add_up.ensures.none) (take c.loop-byte.byte-index c.args.bytes.now) _ c.args.channels.now c.loop-byte.channels working before
      ∙ ap (λ xs. printing xs c.args.channels.now) (sym (take_more c.args.bytes.now c.loop-byte.byte-index 0 c.loop-byte-test.true));
  failed = c.in_ok-chrout.ensures.failed ∙ c.loop-byte.invariant.failed;
  room = omega (arith, c.loop-byte.invariant.room, c.chrout.ensures.room);
  keeps = record {
    present = c.chrout.ensures.keeps.present ∙ c.loop-byte.invariant.keeps.present;
    delays = c.chrout.ensures.keeps.delays ∙ c.loop-byte.invariant.keeps.delays;
    mark = c.chrout.ensures.keeps.mark ∙ c.loop-byte.invariant.keeps.mark;
  };
  output = chrout_output _ _ _ c.in_ok-chrout.ensures.ok ∙ c.loop-byte.invariant.output;
  screen = λ low. chrout_screen _ c.args.channels.now c.loop-byte.channels _ low c.loop-byte.invariant.output (c.loop-byte.invariant.screen low) c.in_ok-chrout.ensures.ok;
}

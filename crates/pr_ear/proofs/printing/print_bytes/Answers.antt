use Rattle.std.proofs.Common.{◌≡◌, ◌+◌, length, arith, ap}
use Rattle.pr_ear.proofs.Printers.{bytes-all, bytes-more, bytes-stop}
use Rattle.pr_ear.proofs.printing.print_bytes.Goals as goal

pub returns-in-TooSmall-clause-printed : goal.returns-in-TooSmall-clause-printed
returns-in-TooSmall-clause-printed c =
    λ inputs marks few h.
    let before = c.loop-byte.invariant.printed inputs marks few h in
    bytes-stop inputs marks before.0 c.args.bytes.now c.loop-byte.byte-index _ c.in-TooSmall.field-0 c.loop-byte.run _ _ c.args.out.now _ _
    c.loop-byte-test.true few c.loop-byte.invariant.taken before.1 before.2 before.3 c.in-TooSmall.ensures.printed

pub loop-byte-preserved : goal.loop-byte-preserved
loop-byte-preserved c = record {
  printed = λ inputs marks few h.
      let before = c.loop-byte.invariant.printed inputs marks few h in
      bytes-more inputs marks before.0 c.args.bytes.now c.loop-byte.byte-index _ c.loop-byte.run.marks c.in-Marks.count _ _ c.args.out.now _ _
      c.loop-byte-test.true few before.1 before.2 before.3 c.in-Marks.ensures.printed;
  taken = ap (λ n. n + 1) c.loop-byte.invariant.taken;
  room = omega (arith, c.in-Marks.ensures.any.1, c.loop-byte.auto.out);
}

pub returns-clause-printed : goal.returns-clause-printed
returns-clause-printed c =
    let all : c.loop-byte.byte-index ≡ length c.args.bytes.now = omega arith in
    λ inputs marks few h.
    let before = c.loop-byte.invariant.printed inputs marks few h in
    bytes-all inputs marks before.0 c.args.bytes.now c.loop-byte.byte-index c.loop-byte.run _ c.args.out.now _
    all c.loop-byte.invariant.taken before.1 before.2 before.3

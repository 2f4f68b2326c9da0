use Rattle.std.proofs.Common.{◌≡◌, ◌∙◌, arith, refl, sym, true}
use Rattle.pr_decode.proofs.Passing.{more-bits, no-bits}
use Rattle.pr_decode.proofs.decoder.push_bits.Goals as goal

pub loop-transfer-init : goal.loop-transfer-init
loop-transfer-init c = record {
  bits = no-bits c.args.edges.now c.args.last.now c.args.transfer.now;
  none = λ _. refl;
  within = omega arith;
}

pub loop-transfer-preserved : goal.loop-transfer-preserved
loop-transfer-preserved c =
    let n = c.loop-transfer.len in
    let t = c.args.transfer.now in
    let u = c.loop-transfer.transfer in
    let is : c.is_bit.result ≡ true = c.if-not-is_bit.false in
    record {
      bits = more-bits c.args.edges.now n c.args.last.now c.loop-transfer.last _ t u c.push_bit.new.self (omega (arith, c.if-len-edges.true)) c.loop-transfer-test.true
          (sym c.is_bit.ensures ∙ is) c.push_bit.ensures c.loop-transfer.invariant.bits;
      none = λ z. absurd (omega (arith, z));
      within = omega (arith, c.if-len-edges.true);
    }

pub returns-else-len-edges-clause-passes : goal.returns-else-len-edges-clause-passes
returns-else-len-edges-clause-passes c = λ s pulled is. c.loop-transfer.invariant.bits.passes s pulled is

pub returns-then-not-is_bit-clause-passes : goal.returns-then-not-is_bit-clause-passes
returns-then-not-is_bit-clause-passes c = λ s pulled is. c.loop-transfer.invariant.bits.passes s pulled is

pub returns-after-loop-transfer-clause-passes : goal.returns-after-loop-transfer-clause-passes
returns-after-loop-transfer-clause-passes c = λ s pulled is. c.loop-transfer.invariant.bits.passes s pulled is

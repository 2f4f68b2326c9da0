use Rattle.std.proofs.Common.{◌<◌, ◌-◌, arith, get_or, ℕ}
use Rattle.pr_wire.proofs.FrontLaws.{front-of}
use Rattle.pr_wire.proofs.time_prefix.TimePrefix.of.Goals as goal

pub invariant_of-result : goal.invariant_of-result
invariant_of-result c =
    let bytes : (k : ℕ) → get_or c.args.text.now k 0 < 256 = λ k. omega (arith, c.type_inv.text k) in
    record {
      right = rw (c.word.ensures, c.word-2.ensures) (front-of c.args.text.now c.args.line (c.args.line.len - 8) c.requires (omega (arith, c.if-line.false)) (omega (arith, c.if-line.false)) (omega (arith, c.if-line-2.false)) (omega (arith, c.if-text-len.false)) bytes);
    }

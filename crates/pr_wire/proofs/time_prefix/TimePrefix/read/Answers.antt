use Rattle.std.proofs.Common.{◌<◌, ◌^◌, arith, get_or, ℕ}
use Rattle.std.proofs.lemmas.List.{take_rest}
use Rattle.pr_wire.proofs.FrontLaws.{front-line}
use Rattle.pr_wire.proofs.time_prefix.TimePrefix.read.Goals as goal

pub returns-clause-line : goal.returns-clause-line
returns-clause-line c =
    let bytes : (k : ℕ) → get_or c.args.text.now k 0 < 256 = λ k. omega (arith, c.type_inv.text k) in
    let small : c.in_ok-time.time < 2 ^ 64 = omega (arith, c.in_ok-time.ensures) in
    front-line c.args.text.now c.args.self.len c.args.self.first c.args.self.last c.args.self.time c.in_ok-time.time c.is_digit.result c.is_digit-2.result c.is_digit-3.result c.read_ended.result
    c.args.self.right bytes (omega (arith, c.if-text-lt-MOST_LEN.false)) (omega (arith, c.word.ensures, c.if-word-self.false)) (omega (arith, c.word-else-word-self.ensures, c.if-word-self-2.false))
    c.is_digit.ensures c.is_digit-2.ensures c.is_digit-3.ensures c.if-not-is_digit.false
    (omega (arith, c.in_ok-time.ensures, c.from.ensures, c.from-2.ensures, c.from-3.ensures)) small
    (rw take_rest at c.read_ended.ensures.line)

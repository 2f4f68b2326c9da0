use Rattle.std.proofs.Common.{◌≡◌, ◌/◌, ◌%◌, arith, refl}
use Rattle.pr_wire.proofs.line_writer.tail_line.Goals as goal

pub returns : goal.returns
returns c =
    let tens : c.args.tail % 100 / 10 ≡ c.args.tail / 10 % 10 = omega arith in
    let ones : c.args.tail % 100 % 10 ≡ c.args.tail % 10 = omega arith in
    rw (c.two_digits.ensures, c.ending.ensures, tens, ones) refl

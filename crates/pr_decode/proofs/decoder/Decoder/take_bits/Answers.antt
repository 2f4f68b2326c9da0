use Rattle.std.proofs.Common.{◌≡◌, arith}
use Rattle.pr_decode.proofs.Passing.{none-pass, some-pass, stays-same}
use Rattle.pr_decode.proofs.decoder.Decoder.take_bits.Goals as goal

pub returns-then-len-gt0 : goal.returns-then-len-gt0
returns-then-len-gt0 c =
    let p = some-pass c.args.self.now c.in-Some.stretch c.begin.new.self c.in-Some-transfer.transfer c.push_bits-len.new.transfer c.push_bits-len.result
    c.push_bits-len.new.last c.args.edges.now c.in-Some.is c.in-Some-transfer.is c.if-stretch.false c.begin.ensures c.if-len-gt0.true c.push_bits-len.ensures.passes in
    record {
      read = λ before given h. p.read before given h;
      order = p.order;
      last = p.last;
      within = c.push_bits-len.ensures.within;
      none = λ zero. absurd (omega (arith, zero, c.if-len-gt0.true));
    }

pub returns-else-len-gt0 : goal.returns-else-len-gt0
returns-else-len-gt0 c =
    let zero : c.push_bits-len.result ≡ 0 = omega (arith, c.if-len-gt0.false) in
    let same = stays-same c.args.self.now c.in-Some.stretch c.in-Some-transfer.transfer c.push_bits-len.new.transfer c.in-Some.is c.in-Some-transfer.is
    (c.push_bits-len.ensures.none zero) in
    let p = none-pass c.args.self.now _ c.push_bits-len.result c.args.edges.now zero same in
    record {
      read = λ before given h. p.read before given h;
      order = p.order;
      last = p.last;
      within = c.push_bits-len.ensures.within;
      none = λ _. same;
    }

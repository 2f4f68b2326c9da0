use Rattle.std.proofs.Common.{◌≡◌, ap, arith, refl, rules, subst, sym, ◌∙◌, true, false, Option, None}
use Rattle.std.specs.Option.{option_to_list}
use Rattle.pr_decode.specs.declared.decoder.Decoder.{Decoder}
use Rattle.pr_decode.specs.declared.reading.Reading.{Reading}
use Rattle.pr_recording.specs.declared.tape.Head.{Head}
use Rattle.pr_recording.proofs.Taping.{first_read, or_false, reads_none, reads_quietly}
use Rattle.pr_recording.proofs.tape.Head.read_front.Goals as goal

pub returns-then-bits-gt0-clause-read : goal.returns-then-bits-gt0-clause-read
returns-then-bits-gt0-clause-read g c =
    reads_quietly g.T.Takes.takes _ _ _ _ (g.met.T.Takes.takes_none c.args.taker.now) refl c.take_bits-bits.ensures.read c.take_bits-bits.ensures.order c.take_bits-bits.ensures.last

pub returns-in-Ok-None-clause-read : goal.returns-in-Ok-None-clause-read
returns-in-Ok-None-clause-read g c =
    let old = c.args.self.now in
    let with : Decoder → Head = λ d. record { decoder = d; has_byte = old.has_byte } in
    let zero : c.take_bits-bits.result ≡ 0 = omega (arith, c.if-bits-gt0.false) in
    let none : c.in-Ok-None.field-0 ≡ None = search rules in
    let P : Option Reading → Type 0 = λ r. g.T.Takes.takes (option_to_list r) c.args.taker.now c.args.taker.now in
    first_read g.T.Takes.takes c.args.edges.now _ c.in-Ok-None.field-0 _ (with c.take_bits-bits.new.decoder) _ _ _ (ap with (c.take_bits-bits.ensures.none zero)) c.requires.some
    (λ before. absurd (let e : false ≡ true = c.in-Ok-None.ensures.back.1 before in cc)) c.in-Ok-None.ensures.read c.in-Ok-None.ensures.last
    (rw none (or_false old.has_byte)) (subst P (sym none) (g.met.T.Takes.takes_none c.args.taker.now))

pub returns-in-Err-clause-read : goal.returns-in-Err-clause-read
returns-in-Err-clause-read g c =
    let old = c.args.self.now in
    let with : Decoder → Head = λ d. record { decoder = d; has_byte = old.has_byte } in
    let zero : c.take_bits-bits.result ≡ 0 = omega (arith, c.if-bits-gt0.false) in
    reads_none g.T.Takes.takes old (with c.take.new.self) c.args.taker.now (g.met.T.Takes.takes_none c.args.taker.now)
    (ap with (c.in-Err.ensures.stays ∙ c.take_bits-bits.ensures.none zero))

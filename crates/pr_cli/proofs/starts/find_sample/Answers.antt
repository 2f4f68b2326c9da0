use Rattle.std.proofs.Common.{arith, length, length-drop, sym, ◌∙◌}
use Rattle.std.proofs.lemmas.List.{take_rest}
use Rattle.pr_cli.proofs.FirstRows.{fault_found, no_length, passed_all, passed_more, refused_on, sample_found}
use Rattle.pr_cli.proofs.starts.find_sample.Goals as goal

pub returns-in_err-len-clause-found : goal.returns-in_err-len-clause-found
returns-in_err-len-clause-found c =
    let rest = c.loop-rest.rest.now in
    let f = c.in_err-len.field-0.0 in
    refused_on c.args.bytes.now f c.from_residual.result c.args.reader.now c.take_front.new.self c.from_residual.ensures.1
    (fault_found c.args.bytes.now rest f c.args.reader.now c.loop-rest.reader c.take_front.new.self c.loop-rest.invariant.passed c.in_err-len.ensures.refused)

pub returns-then-is_some-clause-found : goal.returns-then-is_some-clause-found
returns-then-is_some-clause-found c =
    sample_found c.args.bytes.now c.loop-rest.rest.now c.in_ok-len.len c.in_ok-len.sample c.args.reader.now c.loop-rest.reader c.take_front.new.self (sym c.is_some.ensures ∙ c.if-is_some.true) c.loop-rest.invariant.passed
    c.in_ok-len.ensures.read

pub loop-rest-preserved : goal.loop-rest-preserved
loop-rest-preserved c =
    let n = c.in_ok-len.len in
    let rest = c.loop-rest.rest.now in
    let inv = c.loop-rest.invariant in
    rw take_rest (record {
      passed = passed_more c.args.bytes.now rest n c.in_ok-len.sample c.args.reader.now c.loop-rest.reader c.take_front.new.self (sym c.is_some.ensures ∙ c.if-is_some.false) inv.passed c.in_ok-len.ensures.read;
      lines = omega (arith, length-drop n rest, c.in_ok-len.ensures.number, c.in_ok-len.ensures.some, c.in_ok-len.ensures.within, inv.lines);
    })

pub returns-clause-found : goal.returns-clause-found
returns-clause-found c = passed_all c.args.bytes.now c.loop-rest.rest.now c.args.reader.now c.loop-rest.reader (no_length (length c.loop-rest.rest.now) (sym c.is_empty.ensures ∙ c.loop-rest-test.false)) c.loop-rest.invariant.passed

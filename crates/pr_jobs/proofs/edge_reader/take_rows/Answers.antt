use Rattle.std.proofs.Common.{◌≡◌, arith, length-drop}
use Rattle.std.proofs.lemmas.List.{take_rest}
use Rattle.pr_jobs.proofs.InputLemmas.{front_faulty, front_kept, front_more, front_skipped}
use Rattle.pr_jobs.proofs.edge_reader.take_rows.Goals as goal

pub loop-rest-preserved : goal.loop-rest-preserved
loop-rest-preserved c =
    let n = c.in-Ok.len in
    let rest = c.loop-rest.rest.now in
    let inv = c.loop-rest.invariant in
    let zero : c.skip_repeats-len.result ≡ 0 = omega (arith, c.if-len-gt0.false) in
    let kept = front_kept _ rest _ _ _ _ c.skip_repeats-len.new.reader _ _ c.skip_repeats-len.new.maker c.skip_repeats-len.result zero inv.taken c.skip_repeats-len.ensures.known in
    rw take_rest (record {
      taken = front_more _ rest _ _ _ _ _ _ _ _ _ n c.in-Ok.sample kept c.in-Ok.ensures.given c.in_ok-push_sample-in-Ok.ensures.known;
      lines = omega (arith, length-drop n rest, c.in-Ok.ensures.lines, c.in-Ok.ensures.some, c.in-Ok.ensures.within, zero, c.skip_repeats-len.ensures.lines, inv.lines);
      few = omega (arith, length-drop n rest, c.in_ok-push_sample-in-Ok.ensures.few, c.in-Ok.ensures.some, c.in-Ok.ensures.within, inv.few);
    })

pub loop-rest-preserved-then-len-gt0 : goal.loop-rest-preserved-then-len-gt0
loop-rest-preserved-then-len-gt0 c =
    let n = c.skip_repeats-len.result in
    let rest = c.loop-rest.rest.now in
    let inv = c.loop-rest.invariant in
    let skip = c.skip_repeats-len.ensures in
    rw take_rest (record {
      taken = front_skipped _ rest _ _ _ _ _ _ _ _ n inv.taken skip.known;
      lines = omega (arith, length-drop n rest, skip.lines, skip.within, inv.lines);
      few = omega (arith, length-drop n rest, skip.within, inv.few);
    })

pub returns-in-Err-clause-known : goal.returns-in-Err-clause-known
returns-in-Err-clause-known c =
    let zero : c.skip_repeats-len.result ≡ 0 = omega (arith, c.if-len-gt0.false) in
    let kept = front_kept _ c.loop-rest.rest.now _ _ _ _ c.skip_repeats-len.new.reader _ _ c.skip_repeats-len.new.maker c.skip_repeats-len.result zero c.loop-rest.invariant.taken
    c.skip_repeats-len.ensures.known in
    front_faulty _ c.loop-rest.rest.now _ _ _ _ c.take_front.new.self _ _ c.in-Err.fault c.in_ok-own_fault-in-Err.field-0 c.in_ok-own_fault-in-Err.ensures.same c.in_ok-own_fault-in-Err.ensures.own
    c.in-Err.ensures.refused kept

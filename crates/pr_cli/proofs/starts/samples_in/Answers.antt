use Rattle.std.proofs.Common.{arith, length, length-drop, sym, ◌∙◌}
use Rattle.std.proofs.lemmas.List.{take_rest}
use Rattle.pr_cli.proofs.FirstRows.{no_length, read_ended, read_faulty, read_on, read_refused}
use Rattle.pr_cli.proofs.starts.samples_in.Goals as goal

pub loop-rest-preserved : goal.loop-rest-preserved
loop-rest-preserved c =
    let n = c.in-Ok.len in
    let rest = c.loop-rest.rest.now in
    let inv = c.loop-rest.invariant in
    rw take_rest (record {
      read = read_on c.args.trace c.args.table.now rest n c.loop-rest.samples.items _ c.in-Ok.sample c.loop-rest.reader c.take_front.new.self inv.read c.in-Ok.ensures.read c.in_ok-push_sample-in-Ok.ensures;
      lines = omega (arith, length-drop n rest, c.in-Ok.ensures.number, c.in-Ok.ensures.some, c.in-Ok.ensures.within, inv.lines);
    })

pub returns-in-Err : goal.returns-in-Err
returns-in-Err c =
    read_refused c.args.trace c.args.table.now c.loop-rest.rest.now c.loop-rest.samples.items c.in-Err.fault c.loop-rest.reader c.loop-rest.invariant.read c.in_ok-check_memory-in-Err.ensures c.in-Err.ensures.refused

pub returns-in_ok-push_sample-in-Ok-finish : goal.returns-in_ok-push_sample-in-Ok-finish
returns-in_ok-push_sample-in-Ok-finish c =
    read_ended c.args.trace c.args.table.now c.loop-rest.rest.now c.loop-rest.samples.items _ c.in-Ok-finish.sample c.loop-rest.reader c.loop-rest.invariant.read
    (no_length (length c.loop-rest.rest.now) (sym c.is_empty.ensures ∙ c.loop-rest-test.false)) c.in-Ok-finish.ensures c.in_ok-push_sample-in-Ok-finish.ensures

pub returns-in-Err-finish : goal.returns-in-Err-finish
returns-in-Err-finish c =
    read_faulty c.args.trace c.args.table.now c.loop-rest.rest.now c.loop-rest.samples.items c.in-Err-finish.field-0 c.loop-rest.reader c.loop-rest.invariant.read
    (no_length (length c.loop-rest.rest.now) (sym c.is_empty.ensures ∙ c.loop-rest-test.false)) c.in-Err-finish.ensures

use Rattle.std.proofs.Common.{arith, length-drop}
use Rattle.std.proofs.lemmas.List.{take_rest}
use Rattle.pr_jobs.specs.declared.source_reader.SourceReader.TheVariants as reader
use Rattle.pr_jobs.proofs.InputLemmas.{front_faulty, front_more}
use Rattle.pr_jobs.proofs.SourceLemmas.{text_more, text_refused}
use Rattle.pr_jobs.proofs.edge_reader.take_text.Goals as goal

pub loop-rest-preserved : goal.loop-rest-preserved
loop-rest-preserved c =
    let n = c.in-Ok.len in
    let rest = c.loop-rest.rest.now in
    let inv = c.loop-rest.invariant in
    rw take_rest (record {
      taken = front_more _ rest _ _ _ _ _ _ _ _ _ n c.in-Ok.sample inv.taken (text_more c.loop-rest.reader c.take_front.new.self _ c.in-Ok.sample c.in-Ok.ensures.read)
          c.in_ok-push_sample-in-Ok.ensures.known;
      lines = omega (arith, length-drop n rest, c.in-Ok.ensures.count, c.in-Ok.ensures.some, c.in-Ok.ensures.within, inv.lines);
      few = omega (arith, length-drop n rest, c.in_ok-push_sample-in-Ok.ensures.few, c.in-Ok.ensures.some, c.in-Ok.ensures.within, inv.few);
    })

pub returns-in-Err-clause-known : goal.returns-in-Err-clause-known
returns-in-Err-clause-known c =
    front_faulty _ c.loop-rest.rest.now _ _ _ _ (reader.Text c.take_front.new.self) _ _ c.from.result c.in_ok-own_fault-in-Err.field-0 c.in_ok-own_fault-in-Err.ensures.same c.in_ok-own_fault-in-Err.ensures.own
    (rw c.from.ensures (text_refused c.loop-rest.reader c.loop-rest.rest.now c.in-Err.fault c.in-Err.ensures.refused)) c.loop-rest.invariant.taken

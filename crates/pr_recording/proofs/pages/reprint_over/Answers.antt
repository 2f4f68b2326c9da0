use Rattle.std.proofs.Common.{arith, rules}
use Rattle.std.specs.Io.KnownBytes.{Keeps}
use Rattle.pr_recording.proofs.PageAnswers.{all_answered, none_answered, uncalled}
use Rattle.pr_recording.proofs.pages.reprint_over.Goals as goal

pub returns-in_err-call_first-clause-pages : goal.returns-in_err-call_first-clause-pages
returns-in_err-call_first-clause-pages g c =
    let old = g.W.Write.contents c.args.output.now.inner in
    let keeps : Keeps old old = search rules in
    uncalled c.read_edges_come_first.ensures.some (g.R.Read.remaining c.args.input.now.inner) old c.args.shapes.now c.args.trace c.args.listening c.args.format c.from_residual.result c.from_residual.ensures.1 keeps

pub read_into-requires-clause-room : goal.read_into-requires-clause-room
read_into-requires-clause-room g c = c.in_ok-call_first.ensures.room 4000000019 (omega (arith, c.new.ensures.count), omega (arith, c.new-2.ensures.count))

pub returns-in_err-end-clause-pages : goal.returns-in_err-end-clause-pages
returns-in_err-end-clause-pages g c =
    let old = g.W.Write.contents c.args.output.now.inner in
    let keeps : Keeps old old = search rules in
    none_answered c.read_edges_come_first.ensures.some (g.R.Read.remaining c.args.input.now.inner) old c.args.shapes.now c.args.trace c.args.listening c.args.format c.call_first.new.taker c.read_into.new.taker c.in_err-end.field-0.0 c.from_residual-in_err-end.result c.from_residual-in_err-end.ensures.1
    c.in_err-end.ensures.own keeps c.in_err-end.ensures.read

pub returns-clause-pages : goal.returns-clause-pages
returns-clause-pages g c =
    all_answered (g.R.Read.remaining c.args.input.now.inner) (g.W.Write.contents c.args.output.now.inner) (g.W.Write.contents c.write_pages.new.output.inner) c.args.shapes.now c.args.trace c.args.listening c.args.format (record { first = c.new.result; second = c.new-2.result }) _ _ c.finish.result c.finish-2.result c.in_ok-end.end
    c.write_pages.result c.in_ok-end.ensures.read c.new.ensures.taken c.new-2.ensures.taken c.in_ok-call_first.ensures.taken c.finish.ensures c.finish-2.ensures c.in_ok-end.ensures.stop c.write_pages.ensures.written

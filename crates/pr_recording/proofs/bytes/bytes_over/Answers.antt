use Rattle.std.proofs.Common.{ℕ, [], arith, rules, subst}
use Rattle.std.specs.Io.KnownBytes.{Keeps}
use Rattle.pr_recording.specs.Logged.{HasHeard}
use Rattle.pr_recording.proofs.ByteAnswers.{all_answered, none_answered, uncalled}
use Rattle.pr_recording.proofs.bytes.bytes_over.Goals as goal

pub returns-in_err-call_first-clause-bytes : goal.returns-in_err-call_first-clause-bytes
returns-in_err-call_first-clause-bytes g c =
    let old = g.W.Write.contents c.args.output.now.inner in
    let keeps : Keeps old old = search rules in
    uncalled c.read_edges_come_first.ensures.some (g.R.Read.remaining c.args.input.now.inner) old c.args.trace c.args.listening c.args.device c.from_residual.result c.from_residual.ensures.1 keeps

pub read_into-requires-clause-room : goal.read_into-requires-clause-room
read_into-requires-clause-room g c = c.in_ok-call_first.ensures.room 1099511627795 (tt, omega (arith, c.new-2.ensures.count))

pub returns-in_err-end-clause-bytes : goal.returns-in_err-end-clause-bytes
returns-in_err-end-clause-bytes g c =
    let old = g.W.Write.contents c.args.output.now.inner in
    let keeps : Keeps old old = search rules in
    none_answered c.read_edges_come_first.ensures.some (g.R.Read.remaining c.args.input.now.inner) old c.args.trace c.args.listening c.args.device c.call_first.new.taker c.read_into.new.taker c.in_err-end.field-0.0 c.from_residual-in_err-end.result c.from_residual-in_err-end.ensures.1
    c.in_err-end.ensures.own keeps c.in_err-end.ensures.read

pub returns-clause-bytes : goal.returns-clause-bytes
returns-clause-bytes g c =
    let P : ℕ → Type 0 = λ device. HasHeard device [] c.new.result in
    all_answered (g.R.Read.remaining c.args.input.now.inner) (g.W.Write.contents c.args.output.now.inner) (g.W.Write.contents c.write_heard.new.output.inner) c.args.trace c.args.listening c.args.device (record { first = c.new.result; second = c.new-2.result }) _ _ c.finish.result c.finish-2.result c.in_ok-end.end
    c.write_heard.result c.in_ok-end.ensures.read (subst P c.number_of.ensures.value c.new.ensures) c.new-2.ensures.taken c.in_ok-call_first.ensures.taken c.finish.ensures c.finish-2.ensures c.in_ok-end.ensures.stop c.write_heard.ensures.written

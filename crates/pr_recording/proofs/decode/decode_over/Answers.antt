use Rattle.pr_jobs.specs.Check.{trace_limit}
use Rattle.pr_recording.proofs.Answering.{decoded}
use Rattle.pr_recording.proofs.decode.decode_over.Goals as goal

pub returns-clause-decode : goal.returns-clause-decode
returns-clause-decode g c =
    decoded c.args.wording trace_limit (g.R.Read.remaining c.args.input.now.inner) (g.W.Write.contents c.args.output.now.inner) (g.W.Write.contents c.tell_input.new.output.inner) c.args.trace c.tell_input.result
    c.tell_input.ensures.told

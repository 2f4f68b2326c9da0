use Rattle.pr_input.specs.Watched.{wrapped}
use Rattle.pr_cli.proofs.FirstBytes.{work_found}
use Rattle.pr_cli.proofs.answers.found_work.Goals as goal

pub returns-clause-work : goal.returns-clause-work
returns-clause-work g c =
    work_found (g.R.Read.remaining (wrapped c.args.input.now)) (g.R.Read.remaining (wrapped c.read_first.new.input)) c.in_ok-first.first.items c.args.work.before c.args.work.job c.found_job-job.result c.in_ok-job.job
    c.in_ok-first.ensures.taken c.in_ok-first.ensures.front (rw c.as_slice.ensures.value at c.found_job-job.ensures) c.in_ok-job.ensures.started

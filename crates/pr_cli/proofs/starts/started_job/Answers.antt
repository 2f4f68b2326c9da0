use Rattle.pr_input.specs.Watched.{wrapped}
use Rattle.pr_cli.proofs.FirstBytes.{starts_before, starts_there}
use Rattle.pr_cli.proofs.starts.started_job.Goals as goal

pub returns-in_default-clause-started : goal.returns-in_default-clause-started
returns-in_default-clause-started g c = starts_there (g.R.Read.remaining (wrapped c.args.input.now)) c.args.first.now.items c.args.before c.args.job c.in_default.is

pub returns-clause-started : goal.returns-clause-started
returns-clause-started g c =
    rw c.in-Some.is (starts_before (g.R.Read.remaining (wrapped c.args.input.now)) c.args.first.now.items c.in_ok-zero.zero c.saturating_sub.result c.in-Some.before c.args.job c.restarted_job.result
    c.in_ok-zero.ensures.zero c.saturating_sub.ensures c.restarted_job.ensures)

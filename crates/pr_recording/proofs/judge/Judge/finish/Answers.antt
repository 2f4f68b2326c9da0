use Rattle.std.proofs.Common.{◌∙◌}
use Rattle.pr_jobs.specs.Report.{edges_checked}
use Rattle.pr_recording.proofs.judge.Judge.finish.Goals as goal

pub returns : goal.returns
returns c = λ source edges h. c.err.ensures.value ∙ c.finish.ensures.fault (edges_checked source edges) h.followed.0 h.followed.1

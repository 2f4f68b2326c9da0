use Rattle.pr_jobs.specs.Report.{edges_checked}
use Rattle.pr_jobs.specs.Reported.{EndsReport, EndsReported, HasCounted, CountsMore}
use Rattle.pr_jobs.proofs.InputLemmas.{reading_ends}
use Rattle.pr_jobs.proofs.ReporterLemmas.{if_ok}
use Rattle.pr_jobs.proofs.report.last_report.Goals as goal

pub returns : goal.returns
returns c =
    let takes : CountsMore c.in_ok-last.last.edges.items c.args.frames c.take_all.new.self = rw c.as_slice.ensures.value at c.in_ok-take_all.ensures.counted in
    if_ok c.finish-2.result _ (λ text. EndsReported c.args.reader c.args.frames text) c.finish-2.ensures
    (λ text ends source report. reading_ends c.args.reader c.in_ok-last.last (λ edges. HasCounted source report edges c.args.frames) (λ edges own. EndsReport report (edges_checked source edges) own text) c.in_ok-last.ensures.ends
    (λ given h. ends source report _ (takes source report given h)))

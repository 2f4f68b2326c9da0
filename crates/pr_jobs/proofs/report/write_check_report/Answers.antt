use Rattle.std.proofs.Common.{subst}
use Rattle.pr_jobs.specs.Report.{AnswersReport}
use Rattle.pr_jobs.specs.Reported.{WritesText}
use Rattle.pr_jobs.specs.declared.reporter.ReportText.{ReportText}
use Rattle.pr_jobs.proofs.ReportLemmas.{frames_refused_on, if_known, report_written}
use Rattle.pr_jobs.proofs.report.write_check_report.Goals as goal

pub returns-in_err-text-2-clause-check : goal.returns-in_err-text-2-clause-check
returns-in_err-text-2-clause-check g c =
    let old = g.W.Write.contents c.args.output.now.inner in
    let result = c.from_residual-in_err-text-2.result in
    if_known _ _ (λ bytes. AnswersReport c.args.trace c.args.report bytes old old result) c.in_ok-text.ensures.report
    (λ bytes h. frames_refused_on c.args.trace c.args.report bytes c.in_ok-text.text c.in_err-text-2.field-0.0 result old c.from_residual-in_err-text-2.ensures.1 c.in_err-text-2.ensures.frames
    c.in_err-text-2.ensures.refused c.in_ok-text.ensures.refused h)

pub returns-clause-check : goal.returns-clause-check
returns-clause-check g c =
    let old = g.W.Write.contents c.args.output.now.inner in
    let new = g.W.Write.contents c.write_report_text.new.output.inner in
    let P : ReportText → Type 0 = λ t. WritesText t old new c.write_report_text.result in
    if_known _ _ (λ bytes. AnswersReport c.args.trace c.args.report bytes old new c.write_report_text.result) c.in_ok-text.ensures.report
    (λ bytes h. report_written c.args.trace c.args.report bytes c.in_ok-text.text old new c.write_report_text.result c.in_ok-text-2.ensures.told c.in_ok-text.ensures.refused h
    (subst P c.in_ok-text-2.ensures.same c.write_report_text.ensures.written))

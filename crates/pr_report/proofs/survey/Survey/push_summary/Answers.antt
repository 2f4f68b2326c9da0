use Rattle.pr_report.proofs.Surveyed.{summary-told}
use Rattle.pr_report.proofs.survey.Survey.push_summary.Goals as goal

pub returns : goal.returns
returns c = λ b rs h.
    summary-told c.args.has_intervals b rs c.args.self.now.counts c.args.text.now.items c.push_intervals_if.new.text.items c.push_lines.new.text.items h.counts
    (c.in_ok-push_intervals_if.ensures b rs h) c.in_ok-push_lines.ensures

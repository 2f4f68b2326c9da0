use Rattle.pr_report.proofs.Surveyed.{verdict-told}
use Rattle.pr_report.proofs.survey.Survey.push_conclusion.Goals as goal

pub returns : goal.returns
returns c = λ b rs h.
    let s = c.args.self.now in
    verdict-told b s.bounds c.args.fault rs s.damaged s.taken s.outside c.args.text.now.items c.push_verdict.new.text.items h.bounds h.damaged h.taken
    h.outside c.in_ok-push_verdict.ensures

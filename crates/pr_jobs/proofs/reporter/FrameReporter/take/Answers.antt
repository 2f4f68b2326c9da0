use Rattle.std.proofs.Common.{◌≡◌, ◌∙◌, ◌∷◌, [], rules, Some, None}
use Rattle.pr_jobs.specs.Reported.{ReportsMore}
use Rattle.pr_jobs.proofs.ReporterLemmas.{edge_more, on_ok, told_as}
use Rattle.pr_jobs.proofs.reporter.FrameReporter.take.Goals as goal

pub returns-in-Ok-Some-clause-reported : goal.returns-in-Ok-Some-clause-reported
returns-in-Ok-Some-clause-reported c =
    let none : c.args.self.now.fault ≡ None = search rules in
    let some : c.in-Ok-Some.field-0 ≡ Some c.in-Ok-Some.frame = search rules in
    on_ok c.push.result _ (ReportsMore (c.args.edge ∷ []) c.args.self.now c.push.new.self) c.push.ensures
    (λ adds. edge_more c.args.self.now c.push.new.self c.args.edge (Some c.in-Ok-Some.frame) none (adds.fault_is ∙ none) adds.report_is adds.lines adds.behind
    (told_as c.args.self.now.timer c.take.new.self c.push.new.self.timer c.args.edge c.in-Ok-Some.field-0 (Some c.in-Ok-Some.frame) some adds.timer_is c.in-Ok-Some.ensures.told))

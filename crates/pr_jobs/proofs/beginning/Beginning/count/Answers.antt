use Rattle.std.proofs.Common.{◌≡◌, ◌-◌, ◌∙◌, ap, Some}
use Rattle.std.specs.Prelude.{unwrap_or}
use Rattle.pr_jobs.proofs.BegunLemmas.{counts_on}
use Rattle.pr_jobs.specs.declared.beginning.Beginning.{Beginning}
use Rattle.pr_jobs.proofs.beginning.Beginning.count.Goals as goal

pub returns : goal.returns
returns c =
    let new : Beginning = record { moment = Some c.unwrap_or-moment.result } in
    let begun : c.unwrap_or-moment.result ≡ unwrap_or c.args.self.now.moment c.args.edge.time = search in
    counts_on c.args.edge c.saturating_sub.result c.args.self.now new (c.saturating_sub.ensures ∙ ap (λ m. c.args.edge.time - m) begun) (ap (λ m. Some m) begun)

use Rattle.std.proofs.Common.{◌≡◌, Some, rules}
use Rattle.pr_jobs.proofs.BegunLemmas.{keeps_times}
use Rattle.pr_jobs.proofs.beginning.Beginning.keeps_times.Goals as goal

pub returns : goal.returns
returns c = λ is. let zero : c.args.self.now.moment ≡ Some 0 = search rules in keeps_times c.args.self.now zero

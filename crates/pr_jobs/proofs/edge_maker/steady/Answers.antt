use Rattle.std.proofs.Common.{Some}
use Rattle.pr_jobs.specs.Sources.{SteadiesMore}
use Rattle.pr_jobs.proofs.EdgeLemmas.{steadies_sifted}
use Rattle.pr_jobs.proofs.ReporterLemmas.{if_ok}
use Rattle.pr_jobs.proofs.edge_maker.steady.Goals as goal

pub returns-in-Some-filter : goal.returns-in-Some-filter
returns-in-Some-filter c =
    rw (c.in-Some.is, c.in-Some-filter.is) (if_ok c.take.result _ (λ known. SteadiesMore (Some c.in-Some.edge) (Some c.in-Some-filter.filter) known (Some c.take.new.self)) c.take.ensures
    (λ known more. steadies_sifted c.in-Some.edge known c.in-Some-filter.filter c.take.new.self more))

use Rattle.pr_dots.specs.Shapes.{own_shapes}
use Rattle.pr_cli.proofs.ListPages.{list_draws_nothing}
use Rattle.pr_cli.proofs.jobs.list_run.Goals as goal

pub returns-clause-pages : goal.returns-clause-pages
returns-clause-pages g c =
    list_draws_nothing (g.R.Read.remaining c.args.input.now.inner) own_shapes c.args.shapes.now c.args.start
    (g.W.Write.contents c.args.output.now.inner) (g.W.Write.contents c.pages_over.new.output.inner) c.pages_over.result c.pages_over.ensures.pages

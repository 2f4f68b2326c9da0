use Rattle.pr_jobs.proofs.InputLemmas.{each_says_edges, edges_first}
use Rattle.pr_jobs.proofs.input_reader.read_edges_come_first.Goals as goal

pub returns-clause-first : goal.returns-clause-first
returns-clause-first c = edges_first c.texts_say_samples.ensures.first c.texts_say_samples.ensures.some c.made_edges_come_first.ensures

pub returns-clause-some : goal.returns-clause-some
returns-clause-some c = each_says_edges c.texts_say_samples.ensures.some

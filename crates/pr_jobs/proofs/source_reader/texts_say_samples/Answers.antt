use Rattle.pr_jobs.proofs.SourceLemmas.{each_says, given_first}
use Rattle.pr_jobs.proofs.source_reader.texts_say_samples.Goals as goal

pub returns-clause-first : goal.returns-clause-first
returns-clause-first c = given_first c.given_edges_come_first.ensures c.given_samples_come_first.ensures.dump c.given_samples_come_first.ensures.table

pub returns-clause-some : goal.returns-clause-some
returns-clause-some c = each_says c.trace_texts.ensures.some

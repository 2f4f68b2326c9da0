use Rattle.pr_channels.proofs.TableLemmas.{table_opened, table_filter, openable_filter}
use Rattle.pr_channels.proofs.laws.tables_stay_tables.Goals as goal

pub returns-clause-one_more : goal.returns-clause-one_more
returns-clause-one_more c = table_opened

pub returns-clause-some : goal.returns-clause-some
returns-clause-some c = table_filter

pub returns-clause-openable : goal.returns-clause-openable
returns-clause-openable c = openable_filter

use Rattle.pr_jobs.proofs.SourceLemmas.{csv_repeats_if}
use Rattle.pr_jobs.proofs.source_reader.SourceReader.take_repeats.Goals as goal

pub returns-in-Csv-clause-given : goal.returns-in-Csv-clause-given
returns-in-Csv-clause-given c =
    csv_repeats_if c.in-Csv.reader c.take_repeats.new.self c.args.self.now c.args.block.now c.take_repeats.result c.in-Csv.is c.take_repeats.ensures.read

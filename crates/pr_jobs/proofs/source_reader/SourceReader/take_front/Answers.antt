use Rattle.pr_jobs.specs.InputReads.{RefusesInput}
use Rattle.pr_jobs.proofs.SourceLemmas.{csv_more, csv_refused, handed_on, text_more, text_refused, vcd_more, vcd_refused}
use Rattle.pr_jobs.proofs.source_reader.SourceReader.take_front.Goals as goal

pub returns-in_err-take_front-in-Text-clause-refused : goal.returns-in_err-take_front-in-Text-clause-refused
returns-in_err-take_front-in-Text-clause-refused c =
    handed_on c.from_residual.result _ (RefusesInput c.args.block.now c.args.self.now) c.from_residual.ensures.1
    (rw c.in-Text.is (text_refused c.in-Text.reader c.args.block.now c.in_err-take_front-in-Text.field-0.0 c.in_err-take_front-in-Text.ensures.refused))

pub returns-in_err-take_front-in-Vcd-clause-refused : goal.returns-in_err-take_front-in-Vcd-clause-refused
returns-in_err-take_front-in-Vcd-clause-refused c =
    handed_on c.from_residual-in_err-take_front-in-Vcd.result _ (RefusesInput c.args.block.now c.args.self.now) c.from_residual-in_err-take_front-in-Vcd.ensures.1
    (rw c.in-Vcd.is (vcd_refused c.in-Vcd.reader c.args.block.now c.in_err-take_front-in-Vcd.field-0.0 c.in_err-take_front-in-Vcd.ensures.refused))

pub returns-in_err-take_front-in-Csv-clause-refused : goal.returns-in_err-take_front-in-Csv-clause-refused
returns-in_err-take_front-in-Csv-clause-refused c =
    handed_on c.from_residual-in_err-take_front-in-Csv.result _ (RefusesInput c.args.block.now c.args.self.now) c.from_residual-in_err-take_front-in-Csv.ensures.1
    (rw c.in-Csv.is (csv_refused c.in-Csv.reader c.args.block.now c.in_err-take_front-in-Csv.field-0.0 c.in_err-take_front-in-Csv.ensures.refused))

pub returns-in_ok-take_front-in-Text-clause-given : goal.returns-in_ok-take_front-in-Text-clause-given
returns-in_ok-take_front-in-Text-clause-given c = rw c.in-Text.is (text_more c.in-Text.reader c.take_front.new.self _ c.in_ok-take_front-in-Text.field-0.1 c.in_ok-take_front-in-Text.ensures.read)

pub returns-in_ok-take_front-in-Vcd-clause-given : goal.returns-in_ok-take_front-in-Vcd-clause-given
returns-in_ok-take_front-in-Vcd-clause-given c = rw c.in-Vcd.is (vcd_more c.in-Vcd.reader c.take_front-in-Vcd.new.self _ c.in_ok-take_front-in-Vcd.field-0.1 c.in_ok-take_front-in-Vcd.ensures.read)

pub returns-in_ok-take_front-in-Csv-clause-given : goal.returns-in_ok-take_front-in-Csv-clause-given
returns-in_ok-take_front-in-Csv-clause-given c = rw c.in-Csv.is (csv_more c.in-Csv.reader c.take_front-in-Csv.new.self _ c.in_ok-take_front-in-Csv.field-0.1 c.in_ok-take_front-in-Csv.ensures.read)

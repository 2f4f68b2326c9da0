use Rattle.pr_jobs.proofs.SourceLemmas.{csv_end_refused, csv_ends, ended_on, text_end_refused, vcd_end_refused, vcd_ends}
use Rattle.pr_jobs.proofs.source_reader.SourceReader.finish.Goals as goal

pub returns-in_err-finish-in-Text : goal.returns-in_err-finish-in-Text
returns-in_err-finish-in-Text c =
    ended_on c.args.self c.from_residual.result _ c.from_residual.ensures.1
    (rw c.in-Text.is (text_end_refused c.in-Text.reader c.in_err-finish-in-Text.field-0.0 c.in_err-finish-in-Text.ensures.ends))

pub returns-in_err-finish-in-Vcd : goal.returns-in_err-finish-in-Vcd
returns-in_err-finish-in-Vcd c =
    ended_on c.args.self c.from_residual-in_err-finish-in-Vcd.result _ c.from_residual-in_err-finish-in-Vcd.ensures.1
    (rw c.in-Vcd.is (vcd_end_refused c.in-Vcd.reader c.in_err-finish-in-Vcd.field-0.0 c.in_err-finish-in-Vcd.ensures))

pub returns-in_err-finish-in-Csv : goal.returns-in_err-finish-in-Csv
returns-in_err-finish-in-Csv c =
    ended_on c.args.self c.from_residual-in_err-finish-in-Csv.result _ c.from_residual-in_err-finish-in-Csv.ensures.1
    (rw c.in-Csv.is (csv_end_refused c.in-Csv.reader c.in_err-finish-in-Csv.field-0.0 c.in_err-finish-in-Csv.ensures))

pub returns-in_ok-finish-in-Vcd : goal.returns-in_ok-finish-in-Vcd
returns-in_ok-finish-in-Vcd c = rw c.in-Vcd.is (vcd_ends c.in-Vcd.reader c.in_ok-finish-in-Vcd.field-0 c.in_ok-finish-in-Vcd.ensures)

pub returns-in_ok-finish-in-Csv : goal.returns-in_ok-finish-in-Csv
returns-in_ok-finish-in-Csv c = rw c.in-Csv.is (csv_ends c.in-Csv.reader c.in_ok-finish-in-Csv.field-0 c.in_ok-finish-in-Csv.ensures)

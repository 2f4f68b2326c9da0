use Rattle.std.proofs.Common.{arith, length, ◌<◌}
use Rattle.std.proofs.lemmas.Grind.{common_steps}
use Rattle.pr_capture.proofs.CsvReading.{end-refused, faulty-end, line-ends}
use Rattle.pr_capture.proofs.csv.CsvReader.finish.Goals as goal

pub returns-in_err-sample : goal.returns-in_err-sample
returns-in_err-sample c =
    let some : 0 < length c.args.self.line.items = grind (arith, common_steps, c.is_empty.ensures, c.if-is_empty.false, c.args.self.line.ok.0) in
    end-refused c.args.self _ c.in_err-sample.field-0.0 c.from_residual.ensures.1 (faulty-end c.args.self c.in_err-sample.field-0.0 some c.in_err-sample.ensures.refused)

pub returns : goal.returns
returns c =
    let some : 0 < length c.args.self.line.items = grind (arith, common_steps, c.is_empty.ensures, c.if-is_empty.false, c.args.self.line.ok.0) in
    line-ends c.args.self c.end_line.new.self c.in_ok-sample.sample c.answer-2.result some c.in_ok-sample.ensures.read c.answer-2.ensures

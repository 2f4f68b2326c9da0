use Rattle.pr_capture.proofs.VcdTelling.{end-refused, ends-with, ends-without, faulty-end}
use Rattle.pr_capture.proofs.vcd_reader.VcdReader.finish.Goals as goal

pub returns-in_err-sample : goal.returns-in_err-sample
returns-in_err-sample c =
    end-refused c.args.self _ c.in_err-sample.field-0.0 c.from_residual.ensures.1
    (faulty-end c.args.self c.take_letters.new.self.progress c.in_err-sample.field-0.0 c.in_err-sample.ensures.read)

pub returns-in-Some : goal.returns-in-Some
returns-in-Some c =
    ends-with c.args.self c.take_letters.new.self.progress c.in-Some.sample (rw c.in-Some.is at c.in_ok-sample.ensures.read)
    (rw c.in-Some.is at c.in_ok-sample.ensures.end)

pub returns : goal.returns
returns c =
    ends-without c.args.self c.take_letters.new.self c.answer.result (rw c.in-None.is at c.in_ok-sample.ensures.read) c.in_ok-sample.ensures.number
    c.answer.ensures

use Rattle.std.proofs.Common.{arith, take}
use Rattle.pr_capture.specs.VcdReads.{RefusesDump}
use Rattle.pr_capture.proofs.CsvReading.{handed-on}
use Rattle.pr_capture.proofs.VcdTelling.{faulty-front, front-letters, read-front, read-held, space-behind}
use Rattle.pr_capture.proofs.vcd_reader.VcdReader.take_front.Goals as goal

pub go_on-requires : goal.go_on-requires
go_on-requires c = rw c.word_len-len.ensures.len (front-letters c.args.block.now)

pub returns-then-len-block-clause-read : goal.returns-then-len-block-clause-read
returns-then-len-block-clause-read c =
    read-held c.args.self.now c.go_on.new.self (take c.word_len-len.result c.args.block.now) c.in_ok-go_on.ensures.read

pub end_word-requires-clause-space : goal.end_word-requires-clause-space
end_word-requires-clause-space c =
    space-behind c.args.block.now c.word_len-len.result c.word_len-len.ensures.len (omega (arith, c.if-len-block.false, c.word_len-len.ensures.within))

pub returns-in_err-sample-clause-refused : goal.returns-in_err-sample-clause-refused
returns-in_err-sample-clause-refused c =
    handed-on _ c.in_err-sample.field-0.0 (RefusesDump c.args.block.now c.args.self.now) c.from_residual-in_err-sample.ensures.1
    (faulty-front c.args.self.now c.go_on.new.self c.args.block.now c.word_len-len.result c.in_err-sample.field-0.0
    (omega (arith, c.if-len-block.false, c.word_len-len.ensures.within)) c.in_ok-go_on.ensures.read c.in_err-sample.ensures.refused)

pub returns-clause-read : goal.returns-clause-read
returns-clause-read c =
    read-front c.args.self.now c.go_on.new.self c.end_word.new.self c.args.block.now c.word_len-len.result c.in_ok-sample.sample
    (omega (arith, c.if-len-block.false, c.word_len-len.ensures.within)) c.in_ok-go_on.ensures.read c.in_ok-sample.ensures.read

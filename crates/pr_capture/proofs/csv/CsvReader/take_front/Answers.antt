use Rattle.std.proofs.Common.{◌≡◌, arith, inr, subst, take}
use Rattle.pr_capture.specs.CsvReads.{RefusesTable}
use Rattle.pr_capture.specs.CsvSteps.{HoldsMore}
use Rattle.pr_capture.specs.declared.csv.CsvReader.{CsvReader}
use Rattle.pr_capture.proofs.CsvReading.{faulty-front, front-inner, handed-on, read-front, read-held}
use Rattle.pr_capture.proofs.csv.CsvReader.take_front.Goals as goal

pub go_on-requires : goal.go_on-requires
go_on-requires c = rw c.line_len-len.ensures.len (front-inner c.args.block.now)

pub returns-then-len-block-clause-read : goal.returns-then-len-block-clause-read
returns-then-len-block-clause-read c =
    let bytes = take c.line_len-len.result c.args.block.now in
    let same : c.take_repeat.new.self ≡ c.args.self.now = c.take_repeat.ensures.same c.in_default.is in
    read-held c.args.self.now c.go_on.new.self bytes (subst (λ (o : CsvReader). HoldsMore bytes o c.go_on.new.self) same c.in_ok-go_on.ensures.read)

pub returns-in_err-sample-clause-refused : goal.returns-in_err-sample-clause-refused
returns-in_err-sample-clause-refused c =
    let bytes = take c.line_len-len.result c.args.block.now in
    let same : c.take_repeat.new.self ≡ c.args.self.now = c.take_repeat.ensures.same c.in_default.is in
    handed-on _ c.in_err-sample.field-0.0 (RefusesTable c.args.block.now c.args.self.now) c.from_residual-in_err-sample.ensures.1
    (inr (faulty-front c.args.self.now c.go_on.new.self c.args.block.now c.line_len-len.result c.in_err-sample.field-0.0 c.line_len-len.ensures.len
    (omega (arith, c.if-len-block.false, c.line_len-len.ensures.within)) (subst (λ (o : CsvReader). HoldsMore bytes o c.go_on.new.self) same c.in_ok-go_on.ensures.read) c.in_err-sample.ensures.refused))

pub returns-clause-read : goal.returns-clause-read
returns-clause-read c =
    let bytes = take c.line_len-len.result c.args.block.now in
    let same : c.take_repeat.new.self ≡ c.args.self.now = c.take_repeat.ensures.same c.in_default.is in
    read-front c.args.self.now c.go_on.new.self c.end_line.new.self c.args.block.now c.line_len-len.result c.in_ok-sample.sample c.line_len-len.ensures.len
    (omega (arith, c.if-len-block.false, c.line_len-len.ensures.within)) (subst (λ (o : CsvReader). HoldsMore bytes o c.go_on.new.self) same c.in_ok-go_on.ensures.read) c.in_ok-sample.ensures.read

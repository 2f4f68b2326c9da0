use Rattle.std.proofs.Common.{arith, false}
use Rattle.std.proofs.lemmas.List.{take_rest}
use Rattle.pr_capture.proofs.CsvFields.{field-alone, field-ended}
use Rattle.pr_capture.proofs.csv.split_field.Goals as goal

pub returns-then-len-line : goal.returns-then-len-line
returns-then-len-line c =
    rw (take_rest, c.field_len-len.ensures.len) (field-ended c.args.separator false c.args.line.now (omega (arith, c.if-len-line.true, c.field_len-len.ensures.len)))

pub returns-else-len-line : goal.returns-else-len-line
returns-else-len-line c = field-alone c.args.separator false c.args.line.now (omega (arith, c.if-len-line.false, c.field_len-len.ensures.len))

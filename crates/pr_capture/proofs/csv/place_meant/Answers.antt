use Rattle.std.proofs.Common.{◌≡◌, arith, ap, length, false, refl, true, sym}
use Rattle.std.specs.Prelude.{is_some, option_copied}
use Rattle.pr_capture.specs.Csv.{field_at, fields_of}
use Rattle.pr_capture.specs.CsvSteps.{fields_left}
use Rattle.pr_capture.proofs.CsvFields.{at-within}
use Rattle.pr_capture.proofs.csv.place_meant.Goals as goal

pub overflow_add-result : goal.overflow_add-result
overflow_add-result c =
    let n = c.in_ok-number.number in
    let fs = fields_of c.args.separator false c.in_ok-line.line.now in
    let there : is_some (field_at n fs) ≡ true = rw (sym c.field_at.ensures, c.in-Some-field_at.is) refl in
    let left : fields_left c.args.separator (option_copied c.args.fields) ≡ fs = rw c.in_ok-line.was refl in
    let few : length (fields_left c.args.separator (option_copied c.args.fields)) ≡ length fs = ap length left in
    let less = at-within n fs there in
    omega (arith, few, less, c.requires)

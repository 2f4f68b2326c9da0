use Rattle.std.proofs.Common.{◌≡◌, ◌≤◌, arith, false, length}
use Rattle.std.specs.Prelude.{option_copied}
use Rattle.pr_capture.specs.CsvSteps.{fields_left}
use Rattle.pr_capture.proofs.CsvFields.{left-few}
use Rattle.pr_capture.proofs.csv.is_foreign.Goals as goal

pub has_number-requires : goal.has_number-requires
has_number-requires c =
    let sep = c.args.layout.separator in
    let later = fields_left sep (option_copied c.split_field.result.1) in
    let few : length later ≤ length c.args.line.now = left-few sep c.args.line.now c.split_field.result.0.now later c.split_field.ensures in
    omega (arith, few)

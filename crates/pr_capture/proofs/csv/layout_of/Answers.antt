use Rattle.std.proofs.Common.{arith, false, length, ◌≤◌, ◌+◌, ap}
use Rattle.std.specs.Prelude.{drop, option_copied}
use Rattle.pr_capture.specs.Csv.{fields_of}
use Rattle.pr_capture.specs.CsvSteps.{fields_left}
use Rattle.pr_capture.proofs.CsvFields.{fields-few, left-few}
use Rattle.pr_capture.proofs.csv.layout_of.Goals as goal

pub layout_by-requires-clause-first : goal.layout_by-requires-clause-first
layout_by-requires-clause-first c =
    let sep = c.separator_or-separator.result in
    let few : length (fields_left sep (option_copied c.split_field.result.1)) ≤ length c.args.line.now =
    left-few sep c.args.line.now c.split_field.result.0.now (fields_left sep (option_copied c.split_field.result.1)) c.split_field.ensures in
    omega (arith, few, c.requires)

pub layout_by-requires-clause-all : goal.layout_by-requires-clause-all
layout_by-requires-clause-all c =
    let sep = c.separator_or-separator.result in
    let few : length (fields_of sep false c.args.line.now) ≤ length c.args.line.now + 1 = fields-few sep false c.args.line.now in
    omega (arith, few, c.requires)

pub layout_by-requires-clause-more : goal.layout_by-requires-clause-more
layout_by-requires-clause-more c = ap (drop 1) c.split_field.ensures

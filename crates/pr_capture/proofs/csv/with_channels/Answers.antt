use Rattle.std.proofs.Common.{◌+◌, ◌<◌, ◌≤◌, arith, false, length}
use Rattle.pr_capture.specs.Csv.{fields_of}
use Rattle.pr_capture.proofs.CsvFields.{fields-few}
use Rattle.pr_capture.proofs.csv.with_channels.Goals as goal

pub columns_called-requires : goal.columns_called-requires
columns_called-requires c =
    let names = c.in-Some.names.now in
    let few : length (fields_of 44 false names) ≤ length names + 1 = fields-few 44 false names in
    let room : length names + 2 < 18446744073709551616 = rw c.in-Some.is at c.requires in
    omega (arith, few, room)

pub columns_called-requires-in-Some : goal.columns_called-requires-in-Some
columns_called-requires-in-Some c =
    let names = c.in-Some.names.now in
    let few : length (fields_of 44 false names) ≤ length names + 1 = fields-few 44 false names in
    let room : length names + 2 < 18446744073709551616 = rw c.in-Some.is at c.requires in
    omega (arith, few, room)

use Rattle.std.proofs.Common.{◌≡◌, [], arith, length, refl}
use Rattle.std.proofs.lemmas.Grind.{common_steps}
use Rattle.pr_capture.proofs.CsvRepeats.{none-begun, read-repeat}
use Rattle.pr_capture.proofs.csv.CsvReader.take_repeat.Goals as goal

pub returns-in_ok-len-in-Rows-clause-read : goal.returns-in_ok-len-in-Rows-clause-read
returns-in_ok-len-in-Rows-clause-read c =
    let old = c.args.self.now in
    let none : length old.line.items ≡ 0 = grind (arith, common_steps, c.is_empty.ensures, c.if-not-is_empty.false, old.line.ok.0) in
    let empty : old.line.items ≡ [] = none-begun old.line.items none in
    read-repeat old _ _ c.in-Rows.layout c.in-Rows.moment c.in_ok-len-in-Rows.row c.in_ok-len-in-Rows.ensures.row c.in_ok-len-in-Rows.ensures.levels c.in-Rows.is empty refl empty refl refl refl

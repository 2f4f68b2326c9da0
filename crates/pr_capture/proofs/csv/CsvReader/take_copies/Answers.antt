use Rattle.std.proofs.Common.{refl}
use Rattle.pr_capture.proofs.CsvCopies.{skips-run}
use Rattle.pr_capture.proofs.csv.CsvReader.take_copies.Goals as goal

pub returns-in_ok-copies-in-Rows-clause-read : goal.returns-in_ok-copies-in-Rows-clause-read
returns-in_ok-copies-in-Rows-clause-read c =
    let old = c.args.self.now in
    let copies = c.in_ok-copies-in-Rows.copies in
    skips-run old _ _ c.in-Rows.layout c.in-Rows.moment copies.count copies.row c.in_ok-copies-in-Rows.ensures.rows c.in_ok-copies-in-Rows.ensures.levels c.in_ok-copies-in-Rows.ensures.some c.in-Rows.is c.requires.whole refl c.requires.whole refl refl refl

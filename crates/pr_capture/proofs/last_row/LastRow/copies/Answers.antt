use Rattle.pr_capture.proofs.CsvCopies.{run-of}
use Rattle.pr_capture.proofs.last_row.LastRow.copies.Goals as goal

pub returns-clause-rows : goal.returns-clause-rows
returns-clause-rows c = λ probes knows.
    run-of probes c.args.layout c.in-Counted.rate c.args.number c.copies_in-count.result c.args.moment c.in_ok-moment.moment _ _ c.in_ok-len.row
    c.copies_in-count.ensures.some c.if-count-eq1.false c.in-Counted.is (c.in_ok-len.ensures.row probes knows) c.in_ok-moment.ensures.timed c.in_ok-moment.ensures.after c.copies_in-count.ensures.copies

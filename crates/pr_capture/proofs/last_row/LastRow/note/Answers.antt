use Rattle.std.proofs.Common.{◌≡◌, sym, ◌∙◌, Some}
use Rattle.pr_capture.specs.CsvSteps.{tail_at}
use Rattle.pr_capture.proofs.CsvRepeats.{row-known}
use Rattle.pr_capture.proofs.last_row.LastRow.note.Goals as goal

pub returns-clause-known : goal.returns-clause-known
returns-clause-known c = λ probes inner row.
    let line = c.args.line.now.items in
    let found : tail_at c.in-Rows.layout line ≡ Some c.in-Some-Some.from =
    rw (c.as_slice.ensures.value, c.swap.ensures.x_after) at (sym c.tail_at.ensures ∙ c.in-Some-Some.is-1) in
    let known = row-known probes c.args.place.now c.in-Rows.layout c.in-Rows.field-1 line c.args.sample c.in-Some-Some.sample c.in-Some-Some.from c.in-Rows.is c.in-Some-Some.is-0 found inner row in
    rw (c.in-Rows.is, c.swap.ensures.x_after) known

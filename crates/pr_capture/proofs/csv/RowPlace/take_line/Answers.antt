use Rattle.std.proofs.Common.{sym, ap, ◌∙◌, ◌∷◌}
use Rattle.std.proofs.lemmas.Result.{err_from_is_err_and}
use Rattle.pr_capture.specs.Csv.{line_contents, opened_contents}
use Rattle.pr_capture.specs.CsvSteps.{contents_from}
use Rattle.pr_capture.specs.TableTimes.{no_remarks}
use Rattle.pr_capture.proofs.CsvRepeats.{row-levels}
use Rattle.pr_capture.proofs.csv.RowPlace.take_line.Goals as goal

pub returns-in_ok-row-in-Rows-clause-row : goal.returns-in_ok-row-in-Rows-clause-row
returns-in_ok-row-in-Rows-clause-row c =
    let read = row-levels c.in-Rows.layout c.args.signals.now.probes c.args.number c.in-Rows.moment _ c.in_ok-row-in-Rows.row (sym c.row_of.ensures ∙ c.in_ok-row-in-Rows.was) in
    (sym c.is_silent.ensures ∙ c.if-is_silent.false, read.0, read.1)

pub returns-in_err-take_names-in-First-clause-read : goal.returns-in_err-take_names-in-First-clause-read
returns-in_err-take_names-in-First-clause-read c =
    let p = err_from_is_err_and c.from_residual-in_err-take_names-in-First.result c.from_residual-in_err-take_names-in-First.ensures.1 in
    rw (p.1, p.2) (λ more.
    let s = c.args.signals.now in
    let number = c.args.number in
    ap (λ p. contents_from s p number (c.args.line.now ∷ more)) c.in-First.is
    ∙ (ap (λ o. opened_contents o (λ l. line_contents s (no_remarks c.in-First.given) number (l ∷ more))) c.in_ok-line-in-First.ensures.ok
    ∙ (ap (λ r. line_contents s r number (c.in_ok-line-in-First.line.now ∷ more)) (sym c.new.ensures)
    ∙ c.in_err-take_names-in-First.ensures.err more)))

pub returns-in_ok-take_names-in-First-clause-read : goal.returns-in_ok-take_names-in-First-clause-read
returns-in_ok-take_names-in-First-clause-read c = λ more.
    let s = c.args.signals.now in
    let number = c.args.number in
    ap (λ p. contents_from s p number (c.args.line.now ∷ more)) c.in-First.is
    ∙ (ap (λ o. opened_contents o (λ l. line_contents s (no_remarks c.in-First.given) number (l ∷ more))) c.in_ok-line-in-First.ensures.ok
    ∙ (ap (λ r. line_contents s r number (c.in_ok-line-in-First.line.now ∷ more)) (sym c.new.ensures)
    ∙ c.in_ok-take_names-in-First.ensures.ok more))

use Rattle.std.proofs.Common.{[], ◌∷◌, refl, subst, ℕ, List}
use Rattle.pr_capture.specs.CsvReads.{FaultsIn}
use Rattle.pr_capture.specs.CsvSteps.{IsRowOf}
use Rattle.pr_capture.proofs.CsvReading.{faulty-line, handed-on, read-line}
use Rattle.pr_capture.proofs.csv.CsvReader.end_line.Goals as goal

pub returns-in_err-sample-clause-refused : goal.returns-in_err-sample-clause-refused
returns-in_err-sample-clause-refused c =
    handed-on _ c.in_err-sample.field-0.0 (FaultsIn (10 ∷ []) c.args.self.now) c.from_residual.ensures.1
    (faulty-line c.args.self.now c.in_err-sample.field-0.0 c.as_slice.result.now c.as_slice.ensures.value c.in_err-sample.ensures.read)

pub returns-clause-read : goal.returns-clause-read
returns-clause-read c =
    let probes = c.args.self.now.signals.probes in
    let P : List ℕ → Type 0 = λ l. IsRowOf probes c.take_line.new.self l c.in_ok-sample.sample in
    read-line c.args.self.now _ c.in_ok-sample.sample c.as_slice.result.now c.as_slice.ensures.value c.in_ok-sample.ensures.read refl refl c.note.ensures.line
    (λ inner. c.note.ensures.known probes inner (subst P c.as_slice.ensures.value c.in_ok-sample.ensures.row))

-- The report on an input.
use Rattle.std.proofs.Common.{◌≡◌, ◌+◌, ◌<◌, ◌≤◌, ℕ, List, [], ◌∷◌, ◌++◌, append_assoc, ap, get_or, length, refl, sym, subst, take, ◌∙◌, Option, Some, None, Result, Ok, Err}
use Rattle.std.proofs.lemmas.List.{take_more}
use Rattle.std.specs.Prelude.{IfSome, IsErrAnd}
use Rattle.std.specs.Io.KnownBytes.{IsAtEnd}
use Rattle.std.proofs.KnownBytes.{Appends-nil}
use Rattle.pr_wire.specs.declared.Edge.{Edge}
use Rattle.pr_wire.specs.declared.WaveFault.{WaveFault}
use Rattle.pr_wire.specs.Table.{fault_of}
use Rattle.pr_report.specs.declared.report.Report.{Report}
use Rattle.pr_report.specs.declared.report.Report.TheVariants as report
use Rattle.pr_capture.specs.declared.format.TraceInput.{TraceInput}
use Rattle.pr_jobs.specs.Begun.{CountsOn}
use Rattle.pr_jobs.specs.Check.{trace_limit}
use Rattle.pr_jobs.specs.Inputs.{fault_read}
use Rattle.pr_jobs.specs.EdgesTaken.{HasTakenAll, HasTakenBefore}
use Rattle.pr_jobs.specs.InputReads.{IsTooLong}
use Rattle.pr_jobs.specs.Report.{IsNoReading, edges_checked, SaysWhole, refusal, AnswersReport, IsReport, IsWhole, MayBeWritten, Reports, WritesReport, IsOwnFault}
use Rattle.pr_jobs.specs.Reported.{AreLines, EndsReport, CountsMore, EndsReported, GivesReport, HasCounted, HasReported, IsRefused, ReportsMore, IsReportOf, IsTraceFault, WritesText}
use Rattle.pr_jobs.specs.declared.input_reader.InputReader.{InputReader}
use Rattle.pr_jobs.specs.declared.reporter.ReportText.{ReportText}
use Rattle.pr_jobs.specs.declared.trace_reporter.TraceReporter.{TraceReporter}
use Rattle.pr_jobs.specs.declared.fault.CliFault.{CliFault}
use Rattle.pr_jobs.specs.declared.fault.CliFault.TheVariants.{Script, Trace, Wave, Capture, Picture, TooLarge, NoMemory, ReadFailed, WriteFailed}

-- an input with a fault of its own is not known to be whole
pub not_whole : (v : Option CliFault) (f : CliFault) → v ≡ Some f → IsOwnFault f → IsWhole v → ⊥
not_whole None f e o w = absurd (cc)
not_whole (Some g) f e o w = by g (let same : f ≡ g = cc in let P : CliFault → Type 0 = λ x. IsOwnFault x in subst P same o) w
  where
    by : (g : CliFault) → IsOwnFault g → IsWhole (Some g) → ⊥
    by (Script x) o w = w
    by (Trace x) o w = w
    by (Wave x) o w = o
    by (Capture x) o w = w
    by (Picture x) o w = w
    by TooLarge o w = w
    by NoMemory o w = w
    by ReadFailed o w = w
    by WriteFailed o w = w

-- the report on an input that has ended, or has had its fault
pub record EndsWell (limit : ℕ) (start now : Option (List ℕ)) (input : TraceInput) (report : Report) (t : ReportText) : Type 0 where
  pub gives : IfSome start (λ text. GivesReport limit input report (Ok t) text)
  pub refused : IsRefused t
  pub at_end : IsWhole t.refused → IsAtEnd now

pub ends_well : (limit : ℕ) (start now : Option (List ℕ)) (input : TraceInput) (report : Report) (r : InputReader) (frames : TraceReporter) (t : ReportText)
    → HasTakenBefore limit start now input r (λ edges. HasCounted input.source report edges frames) → (fault_read r ≡ None → IsAtEnd now) → EndsReported r frames t → EndsWell limit start now input report t
ends_well limit start now input report r frames t h stops ends =
    let e = ends input.source report limit start now input h.given h.read h.taken in
    let follows : EndsReport report (edges_checked input.source e.edges) e.fault t = e.follows in
    record {
      gives = known start e.edges e.fault e.own follows (e.says stops);
      refused = follows.faults e.own;
      at_end = λ whole. stops (e.kept (none e.fault (fault_of (edges_checked input.source e.edges)) follows.is_refused e.own whole));
    }
  where
    known : (start : Option (List ℕ)) (edges : List Edge) (own : Option CliFault) → IfSome own IsOwnFault → EndsReport report (edges_checked input.source edges) own t → IfSome start (SaysWhole limit input edges own)
        → IfSome start (λ text. GivesReport limit input report (Ok t) text)
    known None edges own o e says = tt
    known (Some text) edges own o e says = record { edges = edges; own = own; is_own = o; says = says; ends = e }

    none : (own : Option CliFault) (w : Option WaveFault) → t.refused ≡ refusal own w → IfSome own IsOwnFault → IsWhole t.refused → own ≡ None
    none None w e o whole = refl
    none (Some f) w e o whole = absurd (not_whole t.refused f e o whole)

-- there is no report where the input was not read, or memory was refused
pub gives_none : (limit : ℕ) (start now : Option (List ℕ)) (input : TraceInput) (report : Report) (r : InputReader) (taken : List Edge → Type 0) (v : Result ReportText CliFault) (f : CliFault)
    → HasTakenAll limit start now input r taken → IsErrAnd v (λ x. x ≡ f) → IsNoReading f → (f ≡ TooLarge → IsTooLong now r) → IfSome start (λ text. GivesReport limit input report v text)
gives_none limit start now input report r taken (Ok t) f h e none long = absurd e
gives_none limit start now input report r taken (Err x) f h e none long = rw e (by f none (λ is. long is limit start input h.given h.read))
  where
    all : (start : Option (List ℕ)) (P : List ℕ → Type 0) → ((text : List ℕ) → P text) → IfSome start P
    all None P p = tt
    all (Some text) P p = p text

    by : (f : CliFault) → IsNoReading f → (f ≡ TooLarge → IfSome start (λ text. limit < length text)) → IfSome start (λ text. GivesReport limit input report (Err f) text)
    by TooLarge none long = long refl
    by NoMemory none long = all start (λ text. GivesReport limit input report (Err NoMemory) text) (λ text. tt)
    by ReadFailed none long = all start (λ text. GivesReport limit input report (Err ReadFailed) text) (λ text. tt)
    by (Script fault) none long = absurd none
    by (Trace fault) none long = absurd none
    by (Wave fault) none long = absurd none
    by (Capture fault) none long = absurd none
    by (Picture fault) none long = absurd none
    by WriteFailed none long = absurd none

-- what holds of known bytes
pub if_known : (known : Option (List ℕ)) (P Q : List ℕ → Type 0) → IfSome known P → ((text : List ℕ) → P text → Q text) → IfSome known Q
if_known None P Q h f = tt
if_known (Some text) P Q h f = f text h

-- an input that is not refused by itself is short
short_is : (limit : ℕ) (input : TraceInput) (r : Report) (text : List ℕ) (t : ReportText) → IsReportOf limit input r text t → IsWhole t.refused → length text ≤ limit
short_is limit input r text t h w = h.says.short (by h.own h.is_own (sym h.ends.is_refused) w)
  where
    by : (own : Option CliFault) → IfSome own IsOwnFault → refusal own (fault_of (edges_checked input.source h.edges)) ≡ t.refused → IsWhole t.refused → own ≡ None
    by None o e w = refl
    by (Some f) o e w = absurd (not_whole t.refused f (sym e) o w)

-- the report that its lines are
reports : (limit : ℕ) (input : TraceInput) (r : Report) (text : List ℕ) (t : ReportText) → (r ≡ report.Frames → t.refused ≡ None) → IsReportOf limit input r text t
    → Reports input r text t.refused t.lines.items
reports limit input r text t told h = record {
  edges = h.edges;
  fault = h.own;
  says = h.says.says;
  is_refused = h.ends.is_refused;
  is_report = by r t.refused told h.ends.are_lines;
}
  where
    by : (r : Report) (v : Option CliFault) → (r ≡ report.Frames → v ≡ None) → AreLines r (edges_checked input.source h.edges) v t.lines.items
        → IsReport r (edges_checked input.source h.edges) v t.lines.items
    by report.Frames None n l = l
    by report.Frames (Some f) n l = absurd (let k : Some f ≡ None = n refl in cc)
    by report.Story None n l = l
    by report.Story (Some f) n l = l

-- no report of frames is one of a trace that is refused
withheld : (limit : ℕ) (input : TraceInput) (text : List ℕ) (t : ReportText) (f : CliFault) → t.refused ≡ Some f → IsReportOf limit input report.Frames text t
    → Reports input report.Frames text (Some f) []
withheld limit input text t f e h = record {
  edges = h.edges;
  fault = h.own;
  says = h.says.says;
  is_refused = sym e ∙ h.ends.is_refused;
  is_report = refl;
}

-- the answer where nothing is written
pub frames_refused : (input : TraceInput) (r : Report) (text : List ℕ) (t : ReportText) (f : CliFault) (a : Option (List ℕ)) → r ≡ report.Frames → t.refused ≡ Some f → IsRefused t
    → IsReportOf trace_limit input r text t → AnswersReport input r text a a (Err f)
frames_refused input r text t f a frames e refused h =
    let k : IsReportOf trace_limit input report.Frames text t = rw frames at h in
    let o : IsTraceFault f = let P : Option CliFault → Type 0 = λ v. IfSome v IsTraceFault in subst P e refused in
    let w : WritesReport input report.Frames text (Some f) a a = ([], withheld trace_limit input text t f e k, Appends-nil a) in
    let P : Report → Type 0 = λ x. AnswersReport input x text a a (Err f) in
    subst P (sym frames) (by f o w (λ x is. short_is trace_limit input report.Frames text t k (rw (e, is) tt)))
  where
    by : (f : CliFault) → IsTraceFault f → WritesReport input report.Frames text (Some f) a a → ((x : WaveFault) → f ≡ Wave x → length text ≤ trace_limit) → AnswersReport input report.Frames text a a (Err f)
    by (Script x) o w s = absurd o
    by (Trace x) o w s = w
    by (Wave x) o w s = (s x refl, w)
    by (Capture x) o w s = w
    by (Picture x) o w s = absurd o
    by TooLarge o w s = absurd o
    by NoMemory o w s = absurd o
    by ReadFailed o w s = absurd o
    by WriteFailed o w s = absurd o

-- the answer where the report is written
pub report_written : (input : TraceInput) (r : Report) (text : List ℕ) (t : ReportText) (a b : Option (List ℕ)) (v : Result (Unit {0}) CliFault) → (r ≡ report.Frames → t.refused ≡ None) → IsRefused t
    → IsReportOf trace_limit input r text t → WritesText t a b v → AnswersReport input r text a b v
report_written input r text t a b v told refused h w = by v w
  where
    whole : Reports input r text t.refused t.lines.items
    whole = reports trace_limit input r text t told h

    refused_as : (u : Option CliFault) → t.refused ≡ u → Reports input r text u t.lines.items
    refused_as u e = let P : Option CliFault → Type 0 = λ x. Reports input r text x t.lines.items in subst P e whole

    own : (f : CliFault) → t.refused ≡ Some f → IsTraceFault f
    own f e = let P : Option CliFault → Type 0 = λ x. IfSome x IsTraceFault in subst P e refused

    short : (u : Option CliFault) → t.refused ≡ u → IsWhole u → length text ≤ trace_limit
    short u e i = short_is trace_limit input r text t h (rw e i)

    to_write : (r : Report) → (r ≡ report.Frames → t.refused ≡ None) → MayBeWritten r t.refused
    to_write report.Frames told = told refl
    to_write report.Story told = tt

    by : (v : Result (Unit {0}) CliFault) → WritesText t a b v → AnswersReport input r text a b v
    by (Ok x) w = (short None w.0 tt, (t.lines.items, refused_as None w.0, w.1))
    by (Err (Script x)) w = absurd (own (Script x) w.0)
    by (Err (Trace x)) w = (t.lines.items, refused_as (Some (Trace x)) w.0, w.1)
    by (Err (Wave x)) w = (short (Some (Wave x)) w.0 tt, (t.lines.items, refused_as (Some (Wave x)) w.0, w.1))
    by (Err (Capture x)) w = (t.lines.items, refused_as (Some (Capture x)) w.0, w.1)
    by (Err (Picture x)) w = absurd (own (Picture x) w.0)
    by (Err TooLarge) w = absurd (own TooLarge w.0)
    by (Err NoMemory) w = absurd (own NoMemory w.0)
    by (Err ReadFailed) w = absurd (own ReadFailed w.0)
    by (Err WriteFailed) w = record {
      refused = t.refused;
      written = t.lines.items;
      reports = whole;
      to_write = to_write r told;
      short = short t.refused refl;
      front = w;
    }

-- the answer that a `?` hands on
pub frames_refused_on : (input : TraceInput) (r : Report) (text : List ℕ) (t : ReportText) (f : CliFault) (v : Result (Unit {0}) CliFault) (a : Option (List ℕ)) → IsErrAnd v (λ x. x ≡ f)
    → r ≡ report.Frames → t.refused ≡ Some f → IsRefused t → IsReportOf trace_limit input r text t → AnswersReport input r text a a v
frames_refused_on input r text t f (Ok x) a is frames e refused h = absurd is
frames_refused_on input r text t f (Err x) a is frames e refused h = let P : CliFault → Type 0 = λ g. AnswersReport input r text a a (Err g) in subst P (sym is) (frames_refused input r text t f a frames e refused h)

-- a reporter has taken an edge more, by how it counts it
pub counts_more : (e counted : Edge) (old new : TraceReporter) → CountsOn e counted old.beginning new.beginning → ReportsMore (counted ∷ []) old.frames new.frames → CountsMore (e ∷ []) old new
counts_more e counted old new counts reports = λ source r edges h.
    let k = counts source edges h.begun in
    record {
      begun = k.begun;
      reported = subst (λ es. HasReported r es new.frames) (sym k.counts) (reports r (edges_checked source edges) h.reported);
    }

-- the next of a list's elements
pub more_at : {X : Type 0} (P : List X → Type 0) (before xs : List X) (i : ℕ) (d : X) → i < length xs → P ((before ++ take i xs) ++ get_or xs i d ∷ []) → P (before ++ take (i + 1) xs)
more_at P before xs i d within p =
    subst P (append_assoc before (take i xs) (get_or xs i d ∷ []) ∙ ap (λ l. before ++ l) (sym (take_more xs i d within))) p

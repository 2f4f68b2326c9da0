-- A reader of a trace in any format, by the readers of each.
use Rattle.std.proofs.Common.{◌≡◌, ◌⊎◌, inl, inr, ℕ, List, ◌++◌, refl, ap, sym, subst, ◌∙◌, append-nil, Option, Some, None, Result, Ok, Err}
use Rattle.std.specs.Prelude.{IfErr, IfSome, IsErrAnd, option_map, take}
use Rattle.std.specs.Option.{option_to_list}
use Rattle.pr_wire.specs.declared.Edge.{Edge}
use Rattle.pr_wire.specs.declared.reader.TraceReader.{TraceReader}
use Rattle.pr_wire.specs.declared.text.TraceFault.{TraceFault}
use Rattle.pr_wire.specs.declared.text.TraceFault.TheVariants as trace
use Rattle.pr_wire.specs.TextLaws.{TextSaysSomething}
use Rattle.pr_wire.specs.TraceReading.{GivenEdgesComeFirst}
use Rattle.pr_wire.specs.TraceReads as text
use Rattle.pr_capture.specs.declared.csv.CsvReader.{CsvReader}
use Rattle.pr_capture.specs.declared.vcd_reader.VcdReader.{VcdReader}
use Rattle.pr_capture.specs.declared.fault.CaptureFault.{CaptureFault}
use Rattle.pr_capture.specs.declared.fault.CaptureFault.TheVariants as capture
use Rattle.pr_capture.specs.CsvReads as csv
use Rattle.pr_capture.specs.CsvSteps as csv_steps
use Rattle.pr_capture.specs.Csv.{csv_contents}
use Rattle.pr_capture.specs.Recording.{ended, refused, with_samples, CaptureContents}
use Rattle.pr_capture.specs.Samples.{listed}
use Rattle.pr_capture.specs.VcdReading.{vcd_contents}
use Rattle.pr_capture.specs.VcdReads as vcd
use Rattle.pr_capture.specs.VcdSteps as vcd_steps
use Rattle.pr_capture.specs.declared.format.InputFormat.{InputFormat}
use Rattle.pr_capture.specs.declared.format.InputFormat.TheVariants as source
use Rattle.pr_capture.specs.declared.format.TraceInput.{TraceInput}
use Rattle.pr_jobs.specs.Faults.{fault_of_capture, fault_of_trace}
use Rattle.pr_jobs.specs.Report.{IsTold, SaysSamples, IsOwnFault}
use Rattle.pr_jobs.specs.InputReads.{EndsInput, GivesMore, GivesRepeats, RefusesInput}
use Rattle.pr_jobs.specs.Sources.{EachTextSaysSamples, GivenSamplesComeFirst, HasGiven}
use Rattle.pr_jobs.specs.declared.source_reader.SourceReader.{SourceReader}
use Rattle.pr_jobs.specs.declared.source_reader.SourceReader.TheVariants as reader
use Rattle.pr_jobs.specs.declared.fault.CliFault.{CliFault}
use Rattle.pr_jobs.specs.declared.fault.CliFault.TheVariants.{Trace, Capture, NoMemory}

-- one list of what there is, in two crates' words
listed_is : (e : Option Edge) → listed e ≡ option_to_list e
listed_is None = refl
listed_is (Some e) = refl

-- readers go on
pub text_more : (old new : TraceReader) (bytes : List ℕ) (e : Option Edge) → text.ReadsMore bytes e old new → GivesMore bytes e (reader.Text old) (reader.Text new)
text_more old new bytes e more = λ input t samples h. (h.0, more t samples h.1)

pub csv_more : (old new : CsvReader) (bytes : List ℕ) (e : Option Edge) → csv.ReadsMore bytes e old new → GivesMore bytes e (reader.Csv old) (reader.Csv new)
csv_more old new bytes e more = λ input t samples h.
    let P : List Edge → Type 0 = λ l. csv_steps.HasReadTable input.signals input.rate (t ++ bytes) (samples ++ l) new in
    (h.0, subst P (listed_is e) (more input.signals input.rate t samples h.1))

pub vcd_more : (old new : VcdReader) (bytes : List ℕ) (e : Option Edge) → vcd.ReadsMore bytes e old new → GivesMore bytes e (reader.Vcd old) (reader.Vcd new)
vcd_more old new bytes e more = λ input t samples h.
    let P : List Edge → Type 0 = λ l. vcd_steps.HasReadDump input.signals (t ++ bytes) (samples ++ l) new in
    (h.0, subst P (listed_is e) (more input.signals t samples h.1))

-- rows with the levels of the last one
pub csv_repeats : (old new : CsvReader) (bytes : List ℕ) (last : Edge) → csv.SkipsRows bytes last old new → GivesRepeats bytes last (reader.Csv old) (reader.Csv new)
csv_repeats old new bytes last skips = λ input t samples h.
    let k = skips input.signals input.rate t samples h.1 in (k.between, k.same, (h.0, k.read))

-- if there are some
pub csv_repeats_if : (old new : CsvReader) (r : SourceReader) (block : List ℕ) (o : Option (ℕ × Edge)) → r ≡ reader.Csv old → IfSome o (λ v. csv.SkipsRows (take v.0 block) v.1 old new)
    → IfSome o (λ v. GivesRepeats (take v.0 block) v.1 r (reader.Csv new))
csv_repeats_if old new r block None is h = tt
csv_repeats_if old new r block (Some v) is h = rw is (csv_repeats old new (take v.0 block) v.1 h)

-- the format is known
in_format : (input : TraceInput) (s : InputFormat) (t : List ℕ) (samples : List Edge) (fault : Option CliFault) → input.source ≡ s → SaysSamples input s t samples fault
    → SaysSamples input input.source t samples fault
in_format input s t samples fault is h = let P : InputFormat → Type 0 = λ v. SaysSamples input v t samples fault in subst P (sym is) h

-- a recording's fault is lack of memory, or one of its own
own_fault : (f : CaptureFault) → (fault_of_capture f ≡ NoMemory) ⊎ (IsOwnFault (fault_of_capture f) × (Capture f ≡ fault_of_capture f))
own_fault (capture.NoSignal n w) = inr (tt, refl)
own_fault (capture.BadWord n) = inr (tt, refl)
own_fault (capture.NoEnd n) = inr (tt, refl)
own_fault (capture.NoDefinitions n) = inr (tt, refl)
own_fault (capture.TwoSignals n w) = inr (tt, refl)
own_fault (capture.NoTimescale n) = inr (tt, refl)
own_fault (capture.BadTimescale n) = inr (tt, refl)
own_fault (capture.NoTime n) = inr (tt, refl)
own_fault capture.WideText = inr (tt, refl)
own_fault capture.Archive = inr (tt, refl)
own_fault (capture.BadTime n) = inr (tt, refl)
own_fault (capture.GoesBack n) = inr (tt, refl)
own_fault (capture.NoLevel n w) = inr (tt, refl)
own_fault (capture.Unknown n) = inr (tt, refl)
own_fault (capture.Floating n) = inr (tt, refl)
own_fault (capture.BadLevel n) = inr (tt, refl)
own_fault capture.NoMemory = inl refl

-- what was reported up to a fault
told_refused : (told : CaptureContents) (samples : List Edge) (f : CaptureFault) (g : CliFault) → told ≡ with_samples samples (refused f) → Capture f ≡ g → IsTold told samples (Some g)
told_refused told samples f g is same = rw is (append-nil samples, ap (λ (x : CliFault). Some x) same)

-- and all that was reported
told_whole : (told : CaptureContents) (samples : List Edge) (e : Option Edge) → told ≡ with_samples (samples ++ listed e) ended → IsTold told (samples ++ option_to_list e) None
told_whole told samples e is = rw is (append-nil (samples ++ listed e) ∙ ap (λ l. samples ++ l) (listed_is e), refl)

-- a trace text's fault
pub text_refused : (old : TraceReader) (bytes : List ℕ) (f : TraceFault) → text.FaultsIn bytes old f → RefusesInput bytes (reader.Text old) (fault_of_trace f)
text_refused old bytes (trace.BadLine n) h = inr (
  tt,
  λ input t samples k more.
      in_format input source.Text ((t ++ bytes) ++ more) samples (Some (Trace (trace.BadLine n))) k.0 (Some n, h t samples k.1 more, refl),
)
text_refused old bytes trace.NoMemory h = absurd h

-- a recording's fault
pub csv_refused : (old : CsvReader) (bytes : List ℕ) (f : CaptureFault) → csv.RefusesTable bytes old f → RefusesInput bytes (reader.Csv old) (fault_of_capture f)
csv_refused old bytes f (inl m) = inl (ap fault_of_capture m)
csv_refused old bytes f (inr h) = by (own_fault f)
  where
    by : (fault_of_capture f ≡ NoMemory) ⊎ (IsOwnFault (fault_of_capture f) × (Capture f ≡ fault_of_capture f)) → RefusesInput bytes (reader.Csv old) (fault_of_capture f)
    by (inl m) = inl m
    by (inr o) = inr (
      o.0,
      λ input t samples k more.
          in_format input source.Csv ((t ++ bytes) ++ more) samples (Some (fault_of_capture f)) k.0 (told_refused _ samples f (fault_of_capture f) (h input.signals input.rate t samples k.1 more) o.1),
    )

pub vcd_refused : (old : VcdReader) (bytes : List ℕ) (f : CaptureFault) → vcd.RefusesDump bytes old f → RefusesInput bytes (reader.Vcd old) (fault_of_capture f)
vcd_refused old bytes f (inl m) = inl (ap fault_of_capture m)
vcd_refused old bytes f (inr h) = by (own_fault f)
  where
    by : (fault_of_capture f ≡ NoMemory) ⊎ (IsOwnFault (fault_of_capture f) × (Capture f ≡ fault_of_capture f)) → RefusesInput bytes (reader.Vcd old) (fault_of_capture f)
    by (inl m) = inl m
    by (inr o) = inr (
      o.0,
      λ input t samples k more.
          in_format input source.Vcd ((t ++ bytes) ++ more) samples (Some (fault_of_capture f)) k.0 (told_refused _ samples f (fault_of_capture f) (h input.signals t samples k.1 more) o.1),
    )

-- a text that ends
pub text_ends : (r : TraceReader) (e : Option Edge) → text.EndsText r (Ok e) → EndsInput (reader.Text r) (Ok e)
text_ends r e h = λ input t samples k. in_format input source.Text t (samples ++ option_to_list e) None k.0 (None, h t samples k.1, refl)

pub csv_ends : (r : CsvReader) (e : Option Edge) → csv.EndsText r (Ok e) → EndsInput (reader.Csv r) (Ok e)
csv_ends r e h = λ input t samples k.
    in_format input source.Csv t (samples ++ option_to_list e) None k.0 (told_whole _ samples e (h input.signals input.rate t samples k.1))

pub vcd_ends : (r : VcdReader) (e : Option Edge) → vcd.EndsText r (Ok e) → EndsInput (reader.Vcd r) (Ok e)
vcd_ends r e h = λ input t samples k.
    in_format input source.Vcd t (samples ++ option_to_list e) None k.0 (told_whole _ samples e (h input.signals t samples k.1))

-- or has a fault at its end
pub text_end_refused : (r : TraceReader) (f : TraceFault) → text.EndsText r (Err f) → EndsInput (reader.Text r) (Err (fault_of_trace f))
text_end_refused r (trace.BadLine n) h = inr (
  tt,
  λ input t samples k.
      in_format input source.Text t samples (Some (Trace (trace.BadLine n))) k.0 (Some n, h t samples k.1, refl),
)
text_end_refused r trace.NoMemory h = absurd h

pub csv_end_refused : (r : CsvReader) (f : CaptureFault) → csv.EndsText r (Err f) → EndsInput (reader.Csv r) (Err (fault_of_capture f))
csv_end_refused r f h = by (own_fault f)
  where
    by : (fault_of_capture f ≡ NoMemory) ⊎ (IsOwnFault (fault_of_capture f) × (Capture f ≡ fault_of_capture f)) → EndsInput (reader.Csv r) (Err (fault_of_capture f))
    by (inl m) = inl m
    by (inr o) = inr (
      o.0,
      λ input t samples k.
          in_format input source.Csv t samples (Some (fault_of_capture f)) k.0 (told_refused _ samples f (fault_of_capture f) (h input.signals input.rate t samples k.1) o.1),
    )

pub vcd_end_refused : (r : VcdReader) (f : CaptureFault) → vcd.EndsText r (Err f) → EndsInput (reader.Vcd r) (Err (fault_of_capture f))
vcd_end_refused r f (inl m) = inl (ap fault_of_capture m)
vcd_end_refused r f (inr h) = by (own_fault f)
  where
    by : (fault_of_capture f ≡ NoMemory) ⊎ (IsOwnFault (fault_of_capture f) × (Capture f ≡ fault_of_capture f)) → EndsInput (reader.Vcd r) (Err (fault_of_capture f))
    by (inl m) = inl m
    by (inr o) = inr (
      o.0,
      λ input t samples k.
          in_format input source.Vcd t samples (Some (fault_of_capture f)) k.0 (told_refused _ samples f (fault_of_capture f) (h input.signals t samples k.1) o.1),
    )

-- a fault that is handed on by `?`
pub handed_on : {A : Type 0} (v : Result A CliFault) (f : CliFault) (P : CliFault → Type 0) → IsErrAnd v (λ x. x ≡ f) → P f → IfErr v P
handed_on (Ok x) f P h p = tt
handed_on (Err x) f P h p = rw h p

pub ended_on : (r : SourceReader) (v : Result (Option Edge) CliFault) (f : CliFault) → IsErrAnd v (λ x. x ≡ f) → EndsInput r (Err f) → EndsInput r v
ended_on r (Ok x) f h p = absurd h
ended_on r (Err x) f h p = rw h p

-- the samples given come first
pub given_first : GivenEdgesComeFirst → vcd_steps.GivenSamplesComeFirst → csv_steps.GivenSamplesComeFirst → GivenSamplesComeFirst
given_first texts dumps tables = λ input t more given samples fault r h says. by input t more given samples fault r h says
  where
    by : (input : TraceInput) (t more : List ℕ) (given samples : List Edge) (fault : Option CliFault) (r : SourceReader) → HasGiven input t given r
        → SaysSamples input input.source (t ++ more) samples fault → (later : List Edge) × (samples ≡ given ++ later)
    by input t more given samples fault (reader.Text r) h says =
        let k : SaysSamples input source.Text (t ++ more) samples fault = rw h.0 at says in
        texts t more given samples k.0 r h.1 k.1
    by input t more given samples fault (reader.Vcd r) h says =
        let k : SaysSamples input source.Vcd (t ++ more) samples fault = rw h.0 at says in
        let f = dumps input.signals t more given r h.1 in
        (f.0, sym k.0 ∙ f.1)
    by input t more given samples fault (reader.Csv r) h says =
        let k : SaysSamples input source.Csv (t ++ more) samples fault = rw h.0 at says in
        let f = tables input.signals input.rate t more given r h.1 in
        (f.0, sym k.0 ∙ f.1)

-- each text says something
pub each_says : TextSaysSomething → EachTextSaysSamples
each_says some = λ input t. by input t input.source
  where
    by : (input : TraceInput) (t : List ℕ) (s : InputFormat) → (samples : List Edge) × (fault : Option CliFault) × SaysSamples input s t samples fault
    by input t source.Text =
        let e = some t in
        (e.0, option_map (λ n. Trace (trace.BadLine n)) e.1, (e.1, e.2, refl))
    by input t source.Csv = let told = csv_contents input.signals input.rate t in (told.samples, option_map (λ f. Capture f) told.fault, (refl, refl))
    by input t source.Vcd = let told = vcd_contents input.signals t in (told.samples, option_map (λ f. Capture f) told.fault, (refl, refl))

-- What is answered for an input, by what was reported of it.
use Rattle.std.proofs.Common.{◌≡◌, ◌≤◌, ℕ, ◌<◌, Bool, true, false, List, [], ◌++◌, length, refl, ap, sym, subst, ◌∙◌, append-nil, Option, Some, None, Result, Ok, Err}
use Rattle.std.specs.Prelude.{◌↔◌, IfErr, IfOk, OnOk, IfSome, IsErrAnd, IsErrOf, option_map}
use Rattle.std.specs.Io.KnownBytes.{Appends, IsAtEnd}
use Rattle.std.proofs.KnownBytes.{Appends-nil, Appends-trans}
use Rattle.pr_wire.specs.declared.Edge.{Edge}
use Rattle.pr_wire.specs.declared.WaveFault.{WaveFault}
use Rattle.pr_wire.specs.declared.WaveFault.TheVariants as wave
use Rattle.pr_wire.specs.declared.text.TraceFault.TheVariants as trace
use Rattle.pr_wire.specs.Table.{fault_of}
use Rattle.pr_capture.specs.declared.fault.CaptureFault.{CaptureFault}
use Rattle.pr_capture.specs.declared.fault.CaptureFault.TheVariants as capture
use Rattle.pr_capture.specs.declared.format.InputFormat.{InputFormat}
use Rattle.pr_capture.specs.declared.format.TraceInput.{TraceInput}
use Rattle.pr_input.specs.PartlyWritten.{AppendsFront}
use Rattle.pr_input.specs.Watched.{has_failed}
use Rattle.pr_input.specs.declared.watched.Watched.{Watched}
use Rattle.pr_jobs.specs.Inputs.{EachTextSaysEdges, ReadEdgesComeFirst, SaysFirst, edges_read, fault_read}
use Rattle.pr_jobs.specs.EdgesTaken.{HasTakenAll, HasTakenBefore}
use Rattle.pr_jobs.specs.Report.{IsNoReading, IsOwnFault, IsReportFault, SaysWhole, edges_checked}
use Rattle.pr_jobs.specs.Report as report
use Rattle.pr_jobs.specs.Check.{trace_limit}
use Rattle.pr_jobs.specs.Does.{TellsFailures}
use Rattle.pr_decode.specs.Readings.{readings_of}
use Rattle.pr_report.specs.Oddities.{oddities_of}
use Rattle.pr_report.specs.declared.oddities.Oddities.{Oddities}
use Rattle.pr_report.specs.declared.report.Report.TheVariants.{Story}
use Rattle.pr_jobs.specs.InputReads.{IsTooLong, ReadsEdges, StopsWell}
use Rattle.pr_basic.specs.declared.fault.ScriptFault.{ScriptFault}
use Rattle.pr_jobs.specs.declared.fault.PictureFault.{PictureFault}
use Rattle.pr_jobs.specs.declared.fault.CliFault.{CliFault}
use Rattle.pr_jobs.specs.declared.fault.CliFault.TheVariants.{Script, Trace, Wave, Capture, Picture, TooLarge, NoMemory, ReadFailed, WriteFailed}
use Rattle.pr_jobs.specs.declared.input_reader.InputReader.{InputReader}
use Rattle.pr_recording.specs.declared.wording.Wording.{Wording}
use Rattle.pr_recording.specs.declared.decode_report.DecodeReport.{DecodeReport}
use Rattle.pr_recording.specs.declared.decode_report.Ended.{Ended}
use Rattle.pr_recording.specs.declared.wording.Wording.TheVariants.{Json}
use Rattle.pr_recording.specs.Checked.{AnswersJson}
use Rattle.pr_recording.specs.Decoded.{AnswersDecode, IsDecodeFault, Leaves, back_in, stop_at, told_of, without_odd}
use Rattle.pr_recording.specs.Narrated.{EndsEdges, EndsNarrated, GivesUp, HasNarrated, IsStop, NarratesMore, Refuses, WritesEnd, lines_in}
use Rattle.pr_recording.specs.Told.{AnswersTold, HasReadTo, IsRefusal, refused_for}
use Rattle.pr_recording.proofs.Coming.{Laws, coming}
use Rattle.pr_recording.proofs.Judging.{no_memory}
use Rattle.pr_recording.proofs.ReadInto.{by_no_reading, by_own, if_known, is_stop, known_error, known_fault, no_own, taken_before}
use Rattle.pr_recording.proofs.Writing.{front_behind, front_none, whole_behind}

-- these edges were reported, and the lines that were given up were written
pub record HasWritten (s : InputFormat) (w : Wording) (old now : Option (List ℕ)) (n : DecodeReport) (edges : List Edge) : Type 0 where
  pub written : List ℕ
  pub narrated : HasNarrated s w edges written n
  pub wrote : Appends old now written

-- before the first block
pub writes_none : (s : InputFormat) (w : Wording) (old : Option (List ℕ)) (n : DecodeReport) → HasNarrated s w [] [] n → HasWritten s w old old n []
writes_none s w old n h = record { written = []; narrated = h; wrote = Appends-nil old }

-- the edges of a block were reported
pub writes_more : (s : InputFormat) (w : Wording) (old now : Option (List ℕ)) (n m : DecodeReport) (more edges : List Edge) → NarratesMore more n m
    → HasWritten s w old now n edges → HasWritten s w old now m (edges ++ more)
writes_more s w old now n m more edges narrates h = record { written = h.written; narrated = narrates s w edges h.written h.narrated; wrote = h.wrote }

-- and its lines were written
pub told_written : (w : Wording) (limit : ℕ) (start a old now new : Option (List ℕ)) (input : TraceInput) (r : InputReader) (n m : DecodeReport) → HasTakenAll limit start a input r (HasWritten input.source w old now n)
    → Appends now new (lines_in n) → GivesUp n m → HasTakenAll limit start a input r (HasWritten input.source w old new m)
told_written w limit start a old now new input r n m h k up = record {
  given = h.given;
  read = h.read;
  taken = record {
    written = h.taken.written ++ lines_in n;
    narrated = up input.source w (h.given ++ edges_read r) h.taken.written h.taken.narrated;
    wrote = Appends-trans old now new h.taken.written (lines_in n) h.taken.wrote k;
  };
}

-- a beginning was written of what is reported of edges that come first
begins : Laws → (w : Wording) (limit : ℕ) (checked : Bool) (input : TraceInput) (text : List ℕ) (edges : List Edge) (n : DecodeReport) (old now new : Option (List ℕ)) (v : CliFault) → SaysFirst input text edges
    → HasWritten input.source w old now n edges → AppendsFront now new (lines_in n) → ((stop : Option CliFault) (told : List ℕ) → AppendsFront old new told → Leaves limit (length text) stop told old new (Err v))
    → AnswersTold limit w checked input text old new (Err v)
begins laws w limit checked input text edges n old now new v f h short leaves =
    let P : List Edge → Type 0 = λ l. (rest : List ℕ) × (told_of w input (stop_at (back_in l) f.fault) l ≡ (h.written ++ lines_in n) ++ rest) in
    let k = subst P (sym f.first) (coming laws input w edges f.later h.written n f.fault h.narrated) in
    let told = told_of w input (stop_at (back_in f.edges) f.fault) f.edges in
    record {
      edges = f.edges;
      own = f.fault;
      says = f.says;
      leaves = leaves (refused_for checked input.source f.edges f.fault) told (front_behind old now new h.written (lines_in n) told k.0 k.1 h.wrote short);
      odd = λ none. tt;
    }

-- the answer where no more is read, or written
pub partly : Laws → ReadEdgesComeFirst → (w : Wording) (limit : ℕ) (checked : Bool) (start now old mid new : Option (List ℕ)) (input : TraceInput) (r : InputReader) (n : DecodeReport) (v : Result Oddities CliFault) (f : CliFault)
    → HasTakenAll limit start now input r (HasWritten input.source w old mid n) → IsErrAnd v (λ x. x ≡ f) → f ≡ WriteFailed → AppendsFront mid new (lines_in n)
    → IfSome start (λ text. AnswersTold limit w checked input text old new v)
partly laws first w limit checked start now old mid new input r n v f h e failed k =
    known_error v f e (λ v. IfSome start (λ text. AnswersTold limit w checked input text old new v))
    (rw failed (if_known start (λ text. SaysFirst input text (h.given ++ edges_read r)) (λ text. AnswersTold limit w checked input text old new (Err WriteFailed)) (first limit start now input h.given r h.read)
    (λ text says. begins laws w limit checked input text (h.given ++ edges_read r) n old mid new WriteFailed says h.taken k (λ stop told front. front))))

-- the answer where nothing more is written
pub unwritten : Laws → ReadEdgesComeFirst → (w : Wording) (limit : ℕ) (checked : Bool) (start now old mid : Option (List ℕ)) (input : TraceInput) (r : InputReader) (n : DecodeReport) (v : Result Oddities CliFault) (f : CliFault)
    → HasTakenAll limit start now input r (HasWritten input.source w old mid n) → IsErrAnd v (λ x. x ≡ f) → IsNoReading f → (f ≡ TooLarge → IsTooLong now r)
    → IfSome start (λ text. AnswersTold limit w checked input text old mid v)
unwritten laws first w limit checked start now old mid input r n v f h e none long =
    let Told : Result Oddities CliFault → Type 0 = λ v. IfSome start (λ text. AnswersTold limit w checked input text old mid v) in
    known_error v f e Told
    (by_no_reading (λ f. Told (Err f)) f none
    (λ is. both start (λ text. SaysFirst input text (h.given ++ edges_read r)) (λ text. limit < length text) (λ text. AnswersTold limit w checked input text old mid (Err TooLarge)) says (long is limit start input h.given h.read)
    (λ text s more. begins laws w limit checked input text (h.given ++ edges_read r) n old mid mid TooLarge s h.taken (front_none mid (lines_in n)) (λ stop told front. (more, front))))
    (all NoMemory (λ text stop told front. front))
    (all ReadFailed (λ text stop told front. front)))
  where
    says : IfSome start (λ text. SaysFirst input text (h.given ++ edges_read r))
    says = first limit start now input h.given r h.read

    all : (v : CliFault) → ((text : List ℕ) (stop : Option CliFault) (told : List ℕ) → AppendsFront old mid told → Leaves limit (length text) stop told old mid (Err v))
        → IfSome start (λ text. AnswersTold limit w checked input text old mid (Err v))
    all v leaves =
        if_known start (λ text. SaysFirst input text (h.given ++ edges_read r)) (λ text. AnswersTold limit w checked input text old mid (Err v)) says
        (λ text s. begins laws w limit checked input text (h.given ++ edges_read r) n old mid mid v s h.taken (front_none mid (lines_in n)) (leaves text))

    both : (start : Option (List ℕ)) (P Q R : List ℕ → Type 0) → IfSome start P → IfSome start Q → ((text : List ℕ) → P text → Q text → R text) → IfSome start R
    both None P Q R p q f = tt
    both (Some text) P Q R p q f = f text p q

-- the answer where memory was refused
pub refused : Laws → ReadEdgesComeFirst → (w : Wording) (limit : ℕ) (checked : Bool) (start now old mid : Option (List ℕ)) (input : TraceInput) (r : InputReader) (n : DecodeReport) (v : Result Oddities CliFault)
    → HasTakenAll limit start now input r (HasWritten input.source w old mid n) → IsErrAnd v (λ x. x ≡ NoMemory) → IfSome start (λ text. AnswersTold limit w checked input text old mid v)
refused laws first w limit checked start now old mid input r n v h e = unwritten laws first w limit checked start now old mid input r n v NoMemory h e tt (λ is. absurd (cc))

-- before anything was read
first_refused : EachTextSaysEdges → (w : Wording) (limit : ℕ) (checked : Bool) (a old : Option (List ℕ)) (input : TraceInput) → IfSome a (λ text. AnswersTold limit w checked input text old old (Err NoMemory))
first_refused some w limit checked None old input = tt
first_refused some w limit checked (Some text) old input =
    let s = some input text in
    record { edges = s.edges; own = s.fault; says = s.says; leaves = front_none old (told_of w input (stop_at (back_in s.edges) s.fault) s.edges); odd = λ none. tt }

pub at_first : EachTextSaysEdges → (w : Wording) (limit : ℕ) (checked : Bool) (a old : Option (List ℕ)) (input : TraceInput) (v : Result Oddities CliFault) → IsErrAnd v (λ f. f ≡ NoMemory)
    → IfSome a (λ text. AnswersTold limit w checked input text old old v)
at_first some w limit checked a old input v e =
    known_error v NoMemory e (λ v. IfSome a (λ text. AnswersTold limit w checked input text old old v)) (first_refused some w limit checked a old input)

-- a stop is a fault of a recording
pub stop_fault : (f : CliFault) → IsStop f → IsDecodeFault f
stop_fault (Script x) h = h
stop_fault (Trace (trace.BadLine n)) h = tt
stop_fault (Trace trace.NoMemory) h = h
stop_fault (Wave (wave.Order n)) h = tt
stop_fault (Wave (wave.Start n)) h = h
stop_fault (Wave (wave.TooEarly n)) h = h
stop_fault (Wave (wave.TooLate n)) h = h
stop_fault (Wave (wave.Shape n)) h = h
stop_fault (Wave (wave.Truncated n)) h = h
stop_fault (Wave wave.NoMemory) h = h
stop_fault (Capture x) h = of_capture x h
  where
    of_capture : (x : CaptureFault) → IsOwnFault (Capture x) → IsDecodeFault (Capture x)
    of_capture capture.NoMemory h = h
    of_capture x h = tt
stop_fault (Picture x) h = h
stop_fault TooLarge h = tt
stop_fault NoMemory h = tt
stop_fault ReadFailed h = tt
stop_fault WriteFailed h = tt

-- why an input is refused at its end
edge_fault : (v : Option WaveFault) → (v ≡ Some wave.NoMemory → ⊥) → IfSome (option_map (λ f. Wave f) v) (Refuses true)
edge_fault None none = tt
edge_fault (Some wave.NoMemory) none = none refl
edge_fault (Some (wave.Order n)) none = tt
edge_fault (Some (wave.Start n)) none = tt
edge_fault (Some (wave.TooEarly n)) none = tt
edge_fault (Some (wave.TooLate n)) none = tt
edge_fault (Some (wave.Shape n)) none = tt
edge_fault (Some (wave.Truncated n)) none = tt

refuses : (checked : Bool) (s : InputFormat) (edges : List Edge) (own : Option CliFault) → IfSome own IsOwnFault → IfSome (refused_for checked s edges own) (Refuses checked)
refuses false s edges own h = is_stop (back_in edges) own h
refuses true s edges None h = edge_fault (fault_of (edges_checked s edges)) (no_memory (edges_checked s edges))
refuses true s edges (Some f) h = by_own (Refuses true) f h (λ n. tt) (λ x h. h)

-- that is a fault of a recording that is checked or not
refusal_fault : (checked : Bool) (f : CliFault) → Refuses checked f → IsRefusal checked f
refusal_fault false f h = stop_fault f h
refusal_fault true (Script x) h = h
refusal_fault true (Trace (trace.BadLine n)) h = tt
refusal_fault true (Trace trace.NoMemory) h = h
refusal_fault true (Wave x) h = h
refusal_fault true (Capture x) h = of_capture x h
  where
    of_capture : (x : CaptureFault) → IsOwnFault (Capture x) → IsReportFault (Capture x)
    of_capture capture.NoMemory h = h
    of_capture x h = tt
refusal_fault true (Picture x) h = h
refusal_fault true TooLarge h = tt
refusal_fault true NoMemory h = tt
refusal_fault true ReadFailed h = tt
refusal_fault true WriteFailed h = tt

-- and never one of reading, writing or memory, or one of another input
no_other : (checked : Bool) → (Refuses checked TooLarge → ⊥) × (Refuses checked NoMemory → ⊥) × (Refuses checked ReadFailed → ⊥) × (Refuses checked WriteFailed → ⊥)
no_other true = (λ h. h, λ h. h, λ h. h, λ h. h)
no_other false = (λ h. h, λ h. h, λ h. h, λ h. h)

no_script : (checked : Bool) (x : ScriptFault) → Refuses checked (Script x) → ⊥
no_script true x h = h
no_script false x h = h

no_picture : (checked : Bool) (x : PictureFault) → Refuses checked (Picture x) → ⊥
no_picture true x h = h
no_picture false x h = h

-- where nothing is refused, the input has no fault
no_own_fault : (checked : Bool) (s : InputFormat) (edges : List Edge) (own : Option CliFault) → refused_for checked s edges own ≡ None → own ≡ None
no_own_fault false s edges own h = no_own (back_in edges) own h
no_own_fault true s edges None h = refl
no_own_fault true s edges (Some f) h = absurd (cc)

-- nor where its edges are refused for more than that time goes back
no_fault_beside : (s : InputFormat) (edges : List Edge) (own : Option CliFault) (f : WaveFault) → IfSome own IsOwnFault → refused_for true s edges own ≡ Some (Wave f) → own ≡ None
no_fault_beside s edges None f h is = refl
no_fault_beside s edges (Some x) f h is = absurd (by x (cc) h)
  where
    by : (x : CliFault) → x ≡ Wave f → IsOwnFault x → ⊥
    by x e h = let P : CliFault → Type 0 = λ y. IsOwnFault y in subst P e h

-- what is left where the end was written
leaves_end : (input : TraceInput) (w : Wording) (limit len : ℕ) (checked : Bool) (edges : List Edge) (written : List ℕ) (own : Option CliFault) (e : Ended) (old now new : Option (List ℕ)) (v : Result Oddities CliFault) → (own ≡ None → len ≤ limit)
    → EndsEdges input w checked edges written own e → IfSome own IsOwnFault → Appends old now written → WritesEnd e now new v
    → Leaves limit len (refused_for checked input.source edges own) (told_of w input (stop_at (back_in edges) own) edges) old new (without_odd v)
leaves_end input w limit len checked edges written own e old now new v short ends is_own wrote writes = by v writes
  where
    all : Appends now new e.lines.items → Appends old new (told_of w input (stop_at (back_in edges) own) edges)
    all k = whole_behind old now new written e.lines.items (told_of w input (stop_at (back_in edges) own) edges) ends.lines wrote k

    known : (f : CliFault) → e.refused ≡ Some f → Refuses checked f
    known f is = known_fault (Refuses checked) (refused_for checked input.source edges own) f (sym ends.refused ∙ is) (refuses checked input.source edges own is_own)

    by : (v : Result Oddities CliFault) → WritesEnd e now new v → Leaves limit len (refused_for checked input.source edges own) (told_of w input (stop_at (back_in edges) own) edges) old new (without_odd v)
    by (Ok u) w = (short (no_own_fault checked input.source edges own (sym ends.refused ∙ w.0)), sym ends.refused ∙ w.0, all w.2)
    by (Err (Script x)) w = absurd (no_script checked x (known (Script x) w.0))
    by (Err (Trace x)) w = (sym ends.refused ∙ w.0, all w.1)
    by (Err (Wave x)) w = (sym ends.refused ∙ w.0, all w.1)
    by (Err (Capture x)) w = (sym ends.refused ∙ w.0, all w.1)
    by (Err (Picture x)) w = absurd (no_picture checked x (known (Picture x) w.0))
    by (Err TooLarge) w = absurd ((no_other checked).0 (known TooLarge w.0))
    by (Err NoMemory) w = absurd ((no_other checked).1 (known NoMemory w.0))
    by (Err ReadFailed) w = absurd ((no_other checked).2 (known ReadFailed w.0))
    by (Err WriteFailed) k =
        front_behind old now new written e.lines.items (told_of w input (stop_at (back_in edges) own) edges) [] (sym ends.lines ∙ sym (append-nil (written ++ e.lines.items))) wrote k

-- what is odd where the end was written
odd_end : (input : TraceInput) (w : Wording) (checked : Bool) (edges : List Edge) (written : List ℕ) (own : Option CliFault) (e : Ended) (now new : Option (List ℕ)) (v : Result Oddities CliFault) → EndsEdges input w checked edges written own e
    → WritesEnd e now new v → stop_at (back_in edges) own ≡ None → IfOk v (λ odd. odd ≡ oddities_of edges (readings_of edges))
odd_end input w checked edges written own e now new (Ok odd) ends k none = k.1 ∙ ends.odd none
odd_end input w checked edges written own e now new (Err f) ends k none = tt

-- a refusal is no failed write
pub no_write : (checked : Bool) (v : Option CliFault) → IfSome v (Refuses checked) → v ≡ Some WriteFailed → ⊥
no_write checked v h e = (no_other checked).3 (known_fault (Refuses checked) v WriteFailed e h)

-- nor a failed read
no_read : (checked : Bool) (e : Ended) (now new : Option (List ℕ)) (v : Result Oddities CliFault) → IfSome e.refused (Refuses checked) → WritesEnd e now new v → v ≡ Err ReadFailed → ⊥
no_read checked e now new v h w k =
    let P : Result Oddities CliFault → Type 0 = λ x. WritesEnd e now new x in
    let u : WritesEnd e now new (Err ReadFailed) = subst P k w in
    (no_other checked).2 (known_fault (Refuses checked) e.refused ReadFailed u.0 h)

-- a fault of any recording is one of a recording that is checked or not
any_fault : (checked : Bool) → IsRefusal checked TooLarge × IsRefusal checked NoMemory × IsRefusal checked ReadFailed × IsRefusal checked WriteFailed
any_fault true = (tt, tt, tt, tt)
any_fault false = (tt, tt, tt, tt)

-- what is answered where the end is written is a fault of a recording
own_fault : (checked : Bool) (e : Ended) (now new : Option (List ℕ)) (v : Result Oddities CliFault) → IfSome e.refused (Refuses checked) → WritesEnd e now new v → IfErr v (IsRefusal checked)
own_fault checked e now new (Ok u) h w = tt
own_fault checked e now new (Err f) h w = by f w
  where
    known : (f : CliFault) → e.refused ≡ Some f → IsRefusal checked f
    known f is = refusal_fault checked f (known_fault (Refuses checked) e.refused f is h)

    by : (f : CliFault) → WritesEnd e now new (Err f) → IsRefusal checked f
    by (Script x) w = known (Script x) w.0
    by (Trace x) w = known (Trace x) w.0
    by (Wave x) w = known (Wave x) w.0
    by (Capture x) w = known (Capture x) w.0
    by (Picture x) w = known (Picture x) w.0
    by TooLarge w = known TooLarge w.0
    by NoMemory w = known NoMemory w.0
    by ReadFailed w = known ReadFailed w.0
    by WriteFailed w = (any_fault checked).3

-- how far the input has been read where the end is written
read_to : (checked : Bool) (s : InputFormat) (edges : List Edge) (own : Option CliFault) (e : Ended) (now new left : Option (List ℕ)) (v : Result Oddities CliFault) → e.refused ≡ refused_for checked s edges own → IfSome own IsOwnFault
    → (own ≡ None → IsAtEnd left) → WritesEnd e now new v → HasReadTo checked left v
read_to true s edges own e now new left (Ok u) is h at_end w = at_end (no_own_fault true s edges own (sym is ∙ w.0))
read_to false s edges own e now new left (Ok u) is h at_end w = at_end (no_own_fault false s edges own (sym is ∙ w.0))
read_to false s edges own e now new left (Err f) is h at_end w = tt
read_to true s edges own e now new left (Err f) is h at_end w = by f w
  where
    by : (f : CliFault) → WritesEnd e now new (Err f) → report.ReadsAll Story left (Err f)
    by (Script x) w = tt
    by (Trace x) w = tt
    by (Wave x) w = at_end (no_fault_beside s edges own x h (sym is ∙ w.0))
    by (Capture x) w = tt
    by (Picture x) w = tt
    by TooLarge w = tt
    by NoMemory w = tt
    by ReadFailed w = tt
    by WriteFailed w = tt

-- what is answered at an input's end, or at its fault
pub record AnswersLast (w : Wording) (limit : ℕ) (checked : Bool) (start left old new : Option (List ℕ)) (input : TraceInput) (e : Ended) (v : Result Oddities CliFault) : Type 0 where
  pub told : IfSome start (λ text. AnswersTold limit w checked input text old new v)
  pub at_end : HasReadTo checked left v
  pub own : IfErr v (IsRefusal checked)
  pub reading : v ≡ Err ReadFailed → ⊥

-- why it is refused there
pub last_refusal : (w : Wording) (limit : ℕ) (checked : Bool) (start left old now : Option (List ℕ)) (input : TraceInput) (r : InputReader) (n : DecodeReport) (e : Ended) → HasTakenBefore limit start left input r (HasWritten input.source w old now n)
    → EndsNarrated input checked r n e → IfSome e.refused (Refuses checked)
last_refusal w limit checked start left old now input r n e h ends =
    let k = ends w h.taken.written limit start left input h.given h.read h.taken.narrated in
    let follows : EndsEdges input w checked k.edges h.taken.written k.fault e = k.follows in
    let P : Option CliFault → Type 0 = λ v. IfSome v (Refuses checked) in
    subst P (sym follows.refused) (refuses checked input.source k.edges k.fault k.own)

at_last : (w : Wording) (limit : ℕ) (checked : Bool) (start left old now new : Option (List ℕ)) (input : TraceInput) (r : InputReader) (n : DecodeReport) (e : Ended) (v : Result Oddities CliFault)
    → HasTakenBefore limit start left input r (HasWritten input.source w old now n) → (fault_read r ≡ None → IsAtEnd left) → EndsNarrated input checked r n e → WritesEnd e now new v → AnswersLast w limit checked start left old new input e v
at_last w limit checked start left old now new input r n e v h stops ends writes =
    let k = ends w h.taken.written limit start left input h.given h.read h.taken.narrated in
    let follows : EndsEdges input w checked k.edges h.taken.written k.fault e = k.follows in
    let refused = last_refusal w limit checked start left old now input r n e h ends in
    record {
      told = known start k.edges k.fault k.own follows (k.says stops);
      at_end = read_to checked input.source k.edges k.fault e now new left v follows.refused k.own (λ none. stops (k.kept none)) writes;
      own = own_fault checked e now new v refused writes;
      reading = no_read checked e now new v refused writes;
    }
  where
    known : (start : Option (List ℕ)) (edges : List Edge) (own : Option CliFault) → IfSome own IsOwnFault → EndsEdges input w checked edges h.taken.written own e → IfSome start (SaysWhole limit input edges own)
        → IfSome start (λ text. AnswersTold limit w checked input text old new v)
    known None edges own o k says = tt
    known (Some text) edges own o k says = record {
      edges = edges;
      own = own;
      says = says.says;
      leaves = leaves_end input w limit (length text) checked edges h.taken.written own e old now new v says.short k o h.taken.wrote writes;
      odd = odd_end input w checked edges h.taken.written own e now new v k writes;
    }

-- the same where the last block was read then
pub at_last_block : (w : Wording) (limit : ℕ) (checked : Bool) (start a left old now new : Option (List ℕ)) (input : TraceInput) (r s : InputReader) (n : DecodeReport) (e : Ended) (v : Result Oddities CliFault) (going : Bool)
    → HasTakenAll limit start a input r (HasWritten input.source w old now n) → ReadsEdges a left r s → going ≡ false → StopsWell going left s → EndsNarrated input checked s n e → WritesEnd e now new v
    → AnswersLast w limit checked start left old new input e v
at_last_block w limit checked start a left old now new input r s n e v going h reads ended stopped ends writes =
    let stops : StopsWell false left s = rw ended at stopped in
    at_last w limit checked start left old now new input s n e v (taken_before limit start a left input r s (HasWritten input.source w old now n) h reads) stops ends writes

-- a fault of reading is one of a recording
pub reading_fault : (checked : Bool) (v : Result Oddities CliFault) (f : CliFault) → IsErrAnd v (λ x. x ≡ f) → IsNoReading f → IfErr v (IsRefusal checked)
reading_fault checked v f e none =
    known_error v f e (λ v. IfErr v (IsRefusal checked)) (by_no_reading (IsRefusal checked) f none (λ is. (any_fault checked).0) (any_fault checked).1 (any_fault checked).2)

-- and so is one of writing
pub writing_fault : (checked : Bool) (v : Result Oddities CliFault) (f : CliFault) → IsErrAnd v (λ x. x ≡ f) → f ≡ WriteFailed → IfErr v (IsRefusal checked)
writing_fault checked v f e is = known_error v f e (λ v. IfErr v (IsRefusal checked)) (rw is ((any_fault checked).3))

-- where no more is read or written, nothing is said of what is left
pub left_unread : (checked : Bool) (left : Option (List ℕ)) (v : Result Oddities CliFault) (f : CliFault) → IsErrAnd v (λ x. x ≡ f) → IsNoReading f → HasReadTo checked left v
left_unread false left v f e none = known_error v f e (HasReadTo false left) tt
left_unread true left v f e none = known_error v f e (HasReadTo true left) (by_no_reading (λ f. HasReadTo true left (Err f)) f none (λ is. tt) tt tt)

pub left_unwritten : (checked : Bool) (left : Option (List ℕ)) (v : Result Oddities CliFault) (f : CliFault) → IsErrAnd v (λ x. x ≡ f) → f ≡ WriteFailed → HasReadTo checked left v
left_unwritten false left v f e is = known_error v f e (HasReadTo false left) tt
left_unwritten true left v f e is = known_error v f e (HasReadTo true left) (rw is tt)

-- a fault that is handed on has the meaning that it had: it is a failed read exactly if the input has failed
pub failed_read : (v : Result Oddities CliFault) (r : Result Bool CliFault) (f : CliFault) (b : Type 0) → IsErrAnd v (λ x. x ≡ f) → r ≡ Err f → (IsErrOf r ReadFailed ↔ b) → (IsErrOf v ReadFailed ↔ b)
failed_read (Ok u) r f b e is k = absurd e
failed_read (Err x) r f b e is k = (
  λ h. k.0 (let q : f ≡ ReadFailed = cc (h, e) in is ∙ ap (λ (y : CliFault). Err y) q),
  λ h. let q : f ≡ ReadFailed = cc (k.1 h, is) in ap (λ (y : CliFault). Err y) (e ∙ q),
)

-- where memory was refused, no reader and no writer has failed that had not before
pub tells_no_memory : {R W : Type 0} (input : Watched R) (output : Watched W) (v : Result Oddities CliFault) → IsErrAnd v (λ x. x ≡ NoMemory) → (has_failed input ≡ true → ⊥) → has_failed output ≡ false → TellsFailures input output v
tells_no_memory input output (Ok odd) is unread unwritten = absurd is
tells_no_memory input output (Err x) is unread unwritten = (
  tt,
  (λ h. absurd (cc (h, is)), λ h. absurd (unread h)),
  (λ h. absurd (cc (h, is)), λ h. absurd (cc (h, unwritten))),
)

-- what is answered for a recording that is not checked, and for one that is
odd_known : (w : Wording) (limit : ℕ) (input : TraceInput) (text : List ℕ) (old new : Option (List ℕ)) (v : Result Oddities CliFault) (k : AnswersTold limit w false input text old new v)
    → IfOk v (λ odd. odd ≡ oddities_of k.edges (readings_of k.edges))
odd_known w limit input text old new (Ok odd) k = k.odd k.leaves.1
odd_known w limit input text old new (Err f) k = tt

pub decoded : (w : Wording) (limit : ℕ) (start old new : Option (List ℕ)) (input : TraceInput) (v : Result Oddities CliFault)
    → IfSome start (λ text. AnswersTold limit w false input text old new v) → IfSome start (λ text. AnswersDecode limit w input text old new v)
decoded w limit start old new input v h =
    if_known start (λ text. AnswersTold limit w false input text old new v) (λ text. AnswersDecode limit w input text old new v) h
    (λ text k. record { edges = k.edges; own = k.own; says = k.says; leaves = k.leaves; odd = odd_known w limit input text old new v k })

pub checked : (start old new : Option (List ℕ)) (input : TraceInput) (v : Result Oddities CliFault)
    → IfSome start (λ text. AnswersTold trace_limit Json true input text old new v) → IfSome start (λ text. AnswersJson input text old new (without_odd v))
checked start old new input v h =
    if_known start (λ text. AnswersTold trace_limit Json true input text old new v) (λ text. AnswersJson input text old new (without_odd v)) h
    (λ text k. record { edges = k.edges; own = k.own; says = k.says; leaves = k.leaves })

-- what holds of an answer holds of it without what is odd
pub own_checked : (v : Result Oddities CliFault) → IfErr v (IsRefusal true) → IfErr (without_odd v) IsReportFault
own_checked (Ok odd) h = tt
own_checked (Err f) h = h

ok_without : (v : Result Oddities CliFault) (P : Type 0) → OnOk v P → OnOk (without_odd v) P
ok_without (Ok odd) P h = h
ok_without (Err f) P h = tt

err_without : (v : Result Oddities CliFault) (f : CliFault) (b : Type 0) → (IsErrOf v f ↔ b) → (IsErrOf (without_odd v) f ↔ b)
err_without (Ok odd) f b k = (λ h. absurd (cc (h)), λ h. absurd (cc (k.1 h)))
err_without (Err x) f b k = (
  λ h. k.0 (let q : x ≡ f = cc (h) in ap (λ (y : CliFault). Err y) q),
  λ h. let q : x ≡ f = cc (k.1 h) in ap (λ (y : CliFault). Err y) q,
)

-- and so does what every job tells
pub tells_without : {R W : Type 0} (input : Watched R) (output : Watched W) (v : Result Oddities CliFault) → TellsFailures input output v → TellsFailures input output (without_odd v)
tells_without input output v h = (ok_without v _ h.0, err_without v ReadFailed _ h.1, err_without v WriteFailed _ h.2)

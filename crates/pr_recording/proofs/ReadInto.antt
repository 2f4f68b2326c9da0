-- An input that is read block by block.
use Rattle.std.proofs.Common.{◌≡◌, ℕ, List, [], ◌++◌, refl, sym, subst, ◌∙◌, Option, Some, None, Result, Ok, Err}
use Rattle.std.specs.Prelude.{IfSome, IsErrAnd}
use Rattle.std.specs.Io.KnownBytes.{IsAtEnd}
use Rattle.pr_wire.specs.declared.Edge.{Edge}
use Rattle.pr_wire.specs.declared.text.TraceFault.TheVariants as trace
use Rattle.pr_decode.specs.declared.reading.Reading.{Reading}
use Rattle.pr_capture.specs.declared.fault.CaptureFault.{CaptureFault}
use Rattle.pr_capture.specs.declared.format.TraceInput.{TraceInput}
use Rattle.pr_jobs.specs.Inputs.{HasReadEdges, edges_read, fault_read}
use Rattle.pr_jobs.specs.EdgesTaken.{HasTakenAll, HasTakenBefore}
use Rattle.pr_jobs.specs.Report.{IsNoReading, IsOwnFault, SaysWhole}
use Rattle.pr_jobs.specs.InputReads.{EndsInputs, IsTooLong, ReadsEdges}
use Rattle.pr_jobs.specs.declared.fault.CliFault.{CliFault}
use Rattle.pr_jobs.specs.declared.fault.CliFault.TheVariants.{Script, Trace, Wave, Capture, Picture, TooLarge, NoMemory, ReadFailed, WriteFailed}
use Rattle.pr_jobs.specs.declared.edge_reader.LastEdges.{LastEdges}
use Rattle.pr_jobs.specs.declared.input_reader.InputReader.{InputReader}
use Rattle.pr_recording.specs.declared.tape.Tape.{Tape}
use Rattle.pr_recording.specs.declared.tape.TapeEnd.{TapeEnd}
use Rattle.pr_recording.specs.Decoded.{back_in, stop_at}
use Rattle.pr_recording.specs.Narrated.{IsStop}
use Rattle.pr_recording.specs.Taped.{EndsInput, EndsTape, HasTaped, HasTakenTo, ReadsInto, ReadsWhole, TakesAll, TapesMore}
use Rattle.pr_recording.proofs.Noting.{reading_ends}

-- Errors.

-- what holds of an error that is known holds of the answer
pub known_error : {X : Type 0} (v : Result X CliFault) (f : CliFault) → IsErrAnd v (λ x. x ≡ f) → (P : Result X CliFault → Type 0) → P (Err f) → P v
known_error (Ok x) f e P h = absurd e
known_error (Err x) f e P h = rw e h

-- and what holds of a fault, if there is one, holds of one that is known
pub known_fault : (P : CliFault → Type 0) (v : Option CliFault) (f : CliFault) → v ≡ Some f → IfSome v P → P f
known_fault P None f e h = absurd (cc)
known_fault P (Some g) f e h = let k : g ≡ f = cc in subst P k h

-- where nothing was read, the fault is one of three
pub by_no_reading : (P : CliFault → Type 0) (f : CliFault) → IsNoReading f → (f ≡ TooLarge → P TooLarge) → P NoMemory → P ReadFailed → P f
by_no_reading P TooLarge none large memory failed = large refl
by_no_reading P NoMemory none large memory failed = memory
by_no_reading P ReadFailed none large memory failed = failed
by_no_reading P (Script fault) none large memory failed = absurd none
by_no_reading P (Trace fault) none large memory failed = absurd none
by_no_reading P (Wave fault) none large memory failed = absurd none
by_no_reading P (Capture fault) none large memory failed = absurd none
by_no_reading P (Picture fault) none large memory failed = absurd none
by_no_reading P WriteFailed none large memory failed = absurd none

-- what holds of known bytes
pub if_known : (known : Option (List ℕ)) (P Q : List ℕ → Type 0) → IfSome known P → ((text : List ℕ) → P text → Q text) → IfSome known Q
if_known None P Q h f = tt
if_known (Some text) P Q h f = f text h

-- Whoever takes the edges.

-- before the first block
pub taken_none : (limit : ℕ) (start : Option (List ℕ)) (input : TraceInput) (r : InputReader) (claim : List Edge → Type 0) → HasReadEdges limit start start input [] r → edges_read r ≡ [] → claim []
    → HasTakenAll limit start start input r claim
taken_none limit start input r claim read none h = record { given = []; read = read; taken = rw none h }

-- a block was read
pub taken_before : (limit : ℕ) (start a b : Option (List ℕ)) (input : TraceInput) (r s : InputReader) (claim : List Edge → Type 0) → HasTakenAll limit start a input r claim → ReadsEdges a b r s
    → HasTakenBefore limit start b input s claim
taken_before limit start a b input r s claim h reads = record { given = h.given ++ edges_read r; read = reads limit start input h.given h.read; taken = h.taken }

-- and its edges were taken
pub taken_all : (limit : ℕ) (start now : Option (List ℕ)) (input : TraceInput) (r : InputReader) (before after : List Edge → Type 0) → HasTakenBefore limit start now input r before
    → ((edges : List Edge) → before edges → after (edges ++ edges_read r)) → HasTakenAll limit start now input r after
taken_all limit start now input r before after h takes = record { given = h.given; read = h.read; taken = takes h.given h.taken }

-- Why an input stops.

-- a fault of an input itself is a bad line, or one of a recording
pub by_own : (P : CliFault → Type 0) (f : CliFault) → IsOwnFault f → ((n : ℕ) → P (Trace (trace.BadLine n)))
    → ((x : CaptureFault) → IsOwnFault (Capture x) → P (Capture x)) → P f
by_own P (Trace (trace.BadLine n)) h line recording = line n
by_own P (Trace trace.NoMemory) h line recording = absurd h
by_own P (Capture x) h line recording = recording x h
by_own P (Script x) h line recording = absurd h
by_own P (Wave x) h line recording = absurd h
by_own P (Picture x) h line recording = absurd h
by_own P TooLarge h line recording = absurd h
by_own P NoMemory h line recording = absurd h
by_own P ReadFailed h line recording = absurd h
by_own P WriteFailed h line recording = absurd h

pub is_stop : (back : Option ℕ) (own : Option CliFault) → IfSome own IsOwnFault → IfSome (stop_at back own) IsStop
is_stop (Some n) own h = tt
is_stop None None h = tt
is_stop None (Some f) h = by_own IsStop f h (λ n. tt) (λ x h. h)

-- where nothing stops, the input has no fault
pub no_own : (back : Option ℕ) (own : Option CliFault) → stop_at back own ≡ None → own ≡ None
no_own None own h = h
no_own (Some n) own h = absurd (cc)

-- A tape.

-- with more edges
pub takes_more : {S : Type 0} (takes : List Reading → S → S → Type 0) → ((xs ys : List Reading) (a b c : S) → takes xs a b → takes ys b c → takes (xs ++ ys) a c)
    → (start before after : S) (old new : Tape) (more : List Edge) → TapesMore takes more old new before after
    → (edges : List Edge) → HasTakenTo takes start before old edges → HasTakenTo takes start after new (edges ++ more)
takes_more takes both start before after old new more tapes edges h = record {
  given = h.given ++ tapes.later;
  taped = tapes.tapes edges h.given h.taped;
  taken = both h.given tapes.later start before after h.taken tapes.taken;
}

-- the last edges of an input, and its end
pub ends_input : {S : Type 0} (takes : List Reading → S → S → Type 0) → ((xs ys : List Reading) (a b c : S) → takes xs a b → takes ys b c → takes (xs ++ ys) a c)
    → (r : InputReader) (last : LastEdges) (old mid : Tape) (before between after : S) (e : TapeEnd) → EndsInputs r last
    → TapesMore takes last.edges.items old mid before between → EndsTape takes last.fault mid between after e → EndsInput takes r old before after e
ends_input takes both r last old mid before between after e ends tapes tape = λ start.
    reading_ends r last (HasTakenTo takes start before old) (TakesAll takes start after e) ends
    (λ edges h.
    let k = takes_more takes both start before between old mid last.edges.items tapes edges h in
    record {
      all = k.given ++ tape.later;
      taken = both k.given tape.later start between after k.taken tape.taken;
      is_end = tape.ends (edges ++ last.edges.items) k.given k.taped;
    })

-- nothing is said of what was handed on where the input was not read, or memory was refused
pub reads_none : {S : Type 0} (takes : List Reading → S → S → Type 0) (limit : ℕ) (start now : Option (List ℕ)) (input : TraceInput) (r : InputReader) (claim : List Edge → Type 0) (a b : S) (v : Result TapeEnd CliFault) (f : CliFault)
    → HasTakenAll limit start now input r claim → IsErrAnd v (λ x. x ≡ f) → IsNoReading f → (f ≡ TooLarge → IsTooLong now r) → IfSome start (λ text. ReadsInto takes limit input text a b v)
reads_none takes limit start now input r claim a b v f h e none long =
    let Reads : Result TapeEnd CliFault → Type 0 = λ v. IfSome start (λ text. ReadsInto takes limit input text a b v) in
    known_error v f e Reads (by_no_reading (λ f. Reads (Err f)) f none (λ is. long is limit start input h.given h.read) (all start) (all start))
  where
    all : (start : Option (List ℕ)) → IfSome start (λ text. Unit {0})
    all None = tt
    all (Some text) = tt

-- what was handed on at an input's end, or at its fault
pub record ReadsLast {S : Type 0} (takes : List Reading → S → S → Type 0) (limit : ℕ) (start left : Option (List ℕ)) (input : TraceInput) (a b : S) (e : TapeEnd) : Type 0 where
  pub read : IfSome start (λ text. ReadsWhole takes limit input text a b e)
  pub stop : IfSome e.stop IsStop
  pub at_end : e.stop ≡ None → IsAtEnd left

pub reads_last : {S : Type 0} (takes : List Reading → S → S → Type 0) (limit : ℕ) (start left : Option (List ℕ)) (input : TraceInput) (r : InputReader) (t : Tape) (a b c : S) (e : TapeEnd)
    → HasTakenBefore limit start left input r (HasTakenTo takes a b t) → (fault_read r ≡ None → IsAtEnd left) → EndsInput takes r t b c e → ReadsLast takes limit start left input a c e
reads_last takes limit start left input r t a b c e h stops ends =
    let k = ends a limit start left input h.given h.read h.taken in
    let follows : TakesAll takes a c e k.edges k.fault = k.follows in
    let P : Option CliFault → Type 0 = λ v. IfSome v IsStop in
    record {
      read = known start k.edges k.fault k.own follows (k.says stops);
      stop = subst P (sym follows.is_end.stop) (is_stop (back_in k.edges) k.fault k.own);
      at_end = λ none. stops (k.kept (no_own (back_in k.edges) k.fault (sym follows.is_end.stop ∙ none)));
    }
  where
    known : (start : Option (List ℕ)) (edges : List Edge) (own : Option CliFault) → IfSome own IsOwnFault → TakesAll takes a c e edges own → IfSome start (SaysWhole limit input edges own)
        → IfSome start (λ text. ReadsWhole takes limit input text a c e)
    known None edges own o k says = tt
    known (Some text) edges own o k says = record { edges = edges; own = own; is_own = o; says = says; takes_all = k }

-- the start of an input of which nothing was taken
pub takes_no_edge : {S : Type 0} (takes : List Reading → S → S → Type 0) (s : S) (t : Tape) → takes [] s s → HasTaped [] [] t → HasTakenTo takes s s t []
takes_no_edge takes s t none taped = record { given = []; taped = taped; taken = none }

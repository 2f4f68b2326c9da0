-- What is answered for an input of which a device has heard the bytes.
use Rattle.std.proofs.Common.{◌≡◌, ◌<◌, ℕ, List, [], length, refl, ap, sym, subst, ◌∙◌, Option, Some, None, Result, Ok, Err}
use Rattle.std.specs.Prelude.{IfSome, IsErrAnd}
use Rattle.std.specs.Io.KnownBytes.{Appends, Keeps}
use Rattle.pr_page.specs.declared.input.Input.{Input}
use Rattle.pr_decode.specs.declared.reading.Reading.{Reading}
use Rattle.pr_decode.specs.Readings.{readings_of}
use Rattle.pr_report.specs.Oddities.{oddities_of}
use Rattle.pr_report.specs.declared.oddities.Oddities.{Oddities}
use Rattle.pr_render.specs.declared.format.Device.{Device}
use Rattle.pr_capture.specs.declared.format.TraceInput.{TraceInput}
use Rattle.pr_jobs.specs.Check.{trace_limit}
use Rattle.pr_jobs.specs.Inputs.{EachTextSaysEdges}
use Rattle.pr_jobs.specs.Report.{IsNoReading}
use Rattle.pr_jobs.specs.declared.fault.CliFault.{CliFault}
use Rattle.pr_jobs.specs.declared.fault.CliFault.TheVariants.{Script, Trace, Wave, Capture, Picture, TooLarge, NoMemory, ReadFailed, WriteFailed}
use Rattle.pr_recording.specs.declared.both.Both.{Both}
use Rattle.pr_recording.specs.declared.byte_log.HeardBytes.{HeardBytes}
use Rattle.pr_recording.specs.declared.bytes.Overheard.{Overheard}
use Rattle.pr_recording.specs.declared.device_log.Ear.{Ear}
use Rattle.pr_recording.specs.declared.left_out.LeftOut.{LeftOut}
use Rattle.pr_recording.specs.declared.left_out.LeftOutLog.{LeftOutLog}
use Rattle.pr_recording.specs.declared.listening.Listening.{Listening}
use Rattle.pr_recording.specs.declared.tape.TapeEnd.{TapeEnd}
use Rattle.pr_recording.specs.Adds.{Adds}
use Rattle.pr_recording.specs.Bytes.{AnswersBytes, LeavesBytes, bytes_of, heard_with, number_of, overheard_of}
use Rattle.pr_recording.specs.Decoded.{back_in, readings_up_to, stop_at}
use Rattle.pr_recording.specs.LeftLogged.{HasLeftOut}
use Rattle.pr_recording.specs.LeftOut.{left_out_of}
use Rattle.pr_recording.specs.Listening.{first_calls, with_calls}
use Rattle.pr_recording.specs.Logged.{AreHeard, HasHeard, HearsMore}
use Rattle.pr_recording.specs.Narrated.{IsStop}
use Rattle.pr_recording.specs.PrintedPages.{heard_in}
use Rattle.pr_recording.specs.Taped.{ReadsInto, ReadsWhole}
use Rattle.pr_recording.specs.Writes.{WritesHeard}
use Rattle.pr_recording.proofs.ReadInto.{by_no_reading, known_error, known_fault, no_own}

-- a device hears the readings, and what is left out is counted
abbrev pub Hears : List Reading → (old new : Both Ear LeftOutLog) → Type 0
Hears readings old new = HearsMore readings old.first new.first × Adds HasLeftOut readings old.second new.second

-- what is written of the bytes, and what is answered
answered : (input : TraceInput) (listening : Listening) (device : Device) (text : List ℕ) (a b : Both Ear LeftOutLog) (o : HeardBytes) (left : LeftOut) (end : TapeEnd) (old new : Option (List ℕ)) (v : Result Overheard CliFault)
    → (h : ReadsWhole Hears trace_limit input text a b end) → AreHeard (heard_in (number_of device) (with_calls listening h.takes_all.all)) o → left ≡ left_out_of (with_calls listening h.takes_all.all) → IfSome end.stop IsStop → WritesHeard o left end old new v
    → AnswersBytes input listening device text old new v
answered input listening device text a b o left end old new v h are out stop w = record {
  edges = h.edges;
  own = h.own;
  says = h.says.says;
  leaves = rw (← h.takes_all.is_end.stop) (leaves v w);
}
  where
    inputs : List Input
    inputs = heard_in (number_of device) (with_calls listening (readings_up_to end.stop h.edges))

    odd : Oddities
    odd = oddities_of h.edges (readings_of h.edges)

    heard : AreHeard inputs o
    heard = let P : List Reading → Type 0 = λ rs. AreHeard (heard_in (number_of device) (with_calls listening rs)) o in subst P h.takes_all.is_end.readings are

    lacks : left ≡ left_out_of (with_calls listening (readings_up_to end.stop h.edges))
    lacks = out ∙ ap (λ rs. left_out_of (with_calls listening rs)) h.takes_all.is_end.readings

    said : end.stop ≡ None → overheard_of o.bytes.items o.heard end.odd left
        ≡ overheard_of (bytes_of inputs) (heard_with inputs) odd (left_out_of (with_calls listening (readings_up_to end.stop h.edges)))
    said none = rw (heard.bytes, heard.heard, h.takes_all.is_end.odd none, lacks) refl

    all : Appends old new o.bytes.items → Appends old new (bytes_of inputs)
    all k = rw (← heard.bytes) k

    leaves : (v : Result Overheard CliFault) → WritesHeard o left end old new v → LeavesBytes (length text) end.stop inputs odd (left_out_of (with_calls listening (readings_up_to end.stop h.edges))) old new v
    leaves (Ok answer) w = (h.says.short (no_own (back_in h.edges) h.own (sym h.takes_all.is_end.stop ∙ w.0)), w.0, w.1 ∙ said w.0, all w.2)
    leaves (Err (Script fault)) w = known_fault IsStop end.stop (Script fault) w.0 stop
    leaves (Err (Trace fault)) w = (w.0, all w.1)
    leaves (Err (Wave fault)) w = (w.0, all w.1)
    leaves (Err (Capture fault)) w = (w.0, all w.1)
    leaves (Err (Picture fault)) w = known_fault IsStop end.stop (Picture fault) w.0 stop
    leaves (Err TooLarge) w = absurd (known_fault IsStop end.stop TooLarge w.0 stop)
    leaves (Err NoMemory) w = absurd (known_fault IsStop end.stop NoMemory w.0 stop)
    leaves (Err ReadFailed) w = absurd (known_fault IsStop end.stop ReadFailed w.0 stop)
    leaves (Err WriteFailed) w = rw (← heard.bytes) w

-- what is answered where nothing was heard
unanswered : EachTextSaysEdges → (input : TraceInput) (listening : Listening) (device : Device) (text : List ℕ) (old new : Option (List ℕ)) (f : CliFault) → IsNoReading f → (f ≡ TooLarge → trace_limit < length text) → Keeps old new
    → AnswersBytes input listening device text old new (Err f)
unanswered some input listening device text old new f none large keeps =
    let s = some input text in
    let stop = stop_at (back_in s.edges) s.fault in
    let Left : CliFault → Type 0 = λ f. LeavesBytes (length text) stop (heard_in (number_of device) (with_calls listening (readings_up_to stop s.edges))) (oddities_of s.edges (readings_of s.edges)) (left_out_of (with_calls listening (readings_up_to stop s.edges))) old new (Err f) in
    record { edges = s.edges; own = s.fault; says = s.says; leaves = by_no_reading Left f none (λ is. (large is, keeps)) keeps keeps }

-- the same, where it is known what the reader gives
pub all_answered : (start old new : Option (List ℕ)) (input : TraceInput) (listening : Listening) (device : Device) (s a b : Both Ear LeftOutLog) (o : HeardBytes) (left : LeftOut) (end : TapeEnd) (v : Result Overheard CliFault)
    → IfSome start (λ text. ReadsInto Hears trace_limit input text a b (Ok end)) → HasHeard (number_of device) [] s.first → HasLeftOut [] s.second → Hears (first_calls listening) s a
    → ((device : ℕ) (readings : List Reading) → HasHeard device readings b.first → AreHeard (heard_in device readings) o)
    → ((readings : List Reading) → HasLeftOut readings b.second → left ≡ left_out_of readings)
    → IfSome end.stop IsStop → WritesHeard o left end old new v → IfSome start (λ text. AnswersBytes input listening device text old new v)
all_answered None old new input listening device s a b o left end v h none none_left called are out stop writes = tt
all_answered (Some text) old new input listening device s a b o left end v h none none_left called are out stop writes =
    answered input listening device text a b o left end old new v h (are (number_of device) (with_calls listening h.takes_all.all) (h.takes_all.taken.0 (number_of device) (first_calls listening) (called.0 (number_of device) [] none)))
    (out (with_calls listening h.takes_all.all) (h.takes_all.taken.1 (first_calls listening) (called.1 [] none_left))) stop writes

pub none_answered : EachTextSaysEdges → (start old : Option (List ℕ)) (input : TraceInput) (listening : Listening) (device : Device) (a b : Both Ear LeftOutLog) (f : CliFault) (v : Result Overheard CliFault) → IsErrAnd v (λ x. x ≡ f) → IsNoReading f
    → Keeps old old → IfSome start (λ text. ReadsInto Hears trace_limit input text a b (Err f)) → IfSome start (λ text. AnswersBytes input listening device text old old v)
none_answered some None old input listening device a b f v is none keeps h = tt
none_answered some (Some text) old input listening device a b f v is none keeps h =
    known_error v f is (λ v. AnswersBytes input listening device text old old v)
    (unanswered some input listening device text old old f none (λ e. let P : CliFault → Type 0 = λ y. ReadsInto Hears trace_limit input text a b (Err y) in subst P e h) keeps)

-- what is answered where memory was refused before any reading came
pub uncalled : EachTextSaysEdges → (start old : Option (List ℕ)) (input : TraceInput) (listening : Listening) (device : Device) (v : Result Overheard CliFault) → IsErrAnd v (λ x. x ≡ NoMemory) → Keeps old old
    → IfSome start (λ text. AnswersBytes input listening device text old old v)
uncalled some None old input listening device v is keeps = tt
uncalled some (Some text) old input listening device v is keeps =
    known_error v NoMemory is (λ v. AnswersBytes input listening device text old old v)
    (unanswered some input listening device text old old NoMemory tt (λ e. absurd (cc)) keeps)

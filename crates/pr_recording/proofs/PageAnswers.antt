-- What is answered for an input whose pages were printed.
use Rattle.std.proofs.Common.{◌≡◌, ◌<◌, ℕ, List, [], length, ap, sym, subst, ◌∙◌, Option, Some, None, Result, Ok, Err}
use Rattle.std.specs.Prelude.{IfSome, IsErrAnd}
use Rattle.std.specs.Io.KnownBytes.{Keeps}
use Rattle.pr_decode.specs.declared.reading.Reading.{Reading}
use Rattle.pr_decode.specs.Readings.{readings_of}
use Rattle.pr_report.specs.Oddities.{oddities_of}
use Rattle.pr_dots.specs.declared.character_sets.Shapes.{Shapes}
use Rattle.pr_render.specs.declared.format.Format.{Format}
use Rattle.pr_capture.specs.declared.format.TraceInput.{TraceInput}
use Rattle.pr_jobs.specs.Inputs.{EachTextSaysEdges}
use Rattle.pr_jobs.specs.Report.{IsNoReading}
use Rattle.pr_jobs.specs.declared.fault.CliFault.{CliFault}
use Rattle.pr_jobs.specs.declared.fault.CliFault.TheVariants.{Script, Trace, Wave, Capture, Picture, TooLarge, NoMemory, ReadFailed, WriteFailed}
use Rattle.pr_recording.specs.declared.both.Both.{Both}
use Rattle.pr_recording.specs.declared.left_out.LeftOut.{LeftOut}
use Rattle.pr_recording.specs.declared.left_out.LeftOutLog.{LeftOutLog}
use Rattle.pr_recording.specs.declared.listening.Listening.{Listening}
use Rattle.pr_recording.specs.declared.pages.Reprinted.{Reprinted}
use Rattle.pr_recording.specs.declared.printer_pair.BusPrinters.{BusPrinters}
use Rattle.pr_recording.specs.declared.printer_pair.PrintedPages.{PrintedPages}
use Rattle.pr_recording.specs.declared.tape.TapeEnd.{TapeEnd}
use Rattle.pr_recording.specs.Adds.{Adds}
use Rattle.pr_recording.specs.Decoded.{back_in, readings_up_to, stop_at}
use Rattle.pr_recording.specs.Narrated.{IsStop}
use Rattle.pr_recording.specs.LeftLogged.{HasLeftOut}
use Rattle.pr_recording.specs.LeftOut.{left_out_of}
use Rattle.pr_recording.specs.Listening.{first_calls, with_calls}
use Rattle.pr_recording.specs.Pages.{AnswersPages, IsPagesOf, LeavesPages, print_limit, said_of}
use Rattle.pr_recording.specs.PrintedPages.{ArePapers}
use Rattle.pr_recording.specs.Taking.{HasReprinted}
use Rattle.pr_recording.specs.Taped.{ReadsInto, ReadsWhole}
use Rattle.pr_recording.specs.Writes.{WritesPrint, text_of_pages}
use Rattle.pr_recording.proofs.ReadInto.{by_no_reading, known_error, known_fault, no_own}

-- both printers take the readings, and what is left out is counted
abbrev pub Prints : List Reading → (old new : Both BusPrinters LeftOutLog) → Type 0
Prints readings old new = Adds HasReprinted readings old.first new.first × Adds HasLeftOut readings old.second new.second

-- what is written of the pages, and what is answered
answered : (shapes : Shapes) (input : TraceInput) (listening : Listening) (format : Format) (text : List ℕ) (a b : Both BusPrinters LeftOutLog) (p : PrintedPages) (left : LeftOut) (end : TapeEnd) (old new : Option (List ℕ)) (v : Result Reprinted CliFault)
    → (h : ReadsWhole Prints print_limit input text a b end) → ArePapers (with_calls listening h.takes_all.all) p → left ≡ left_out_of (with_calls listening h.takes_all.all) → IfSome end.stop IsStop → WritesPrint shapes format p left end old new v
    → AnswersPages shapes input listening format text old new v
answered shapes input listening format text a b p left end old new v h are out stop w = record {
  edges = h.edges;
  own = h.own;
  says = h.says.says;
  leaves = rw (← h.takes_all.is_end.stop) (leaves v w);
}
  where
    papers : ArePapers (with_calls listening (readings_up_to end.stop h.edges)) p
    papers = let P : List Reading → Type 0 = λ rs. ArePapers (with_calls listening rs) p in subst P h.takes_all.is_end.readings are

    lacks : left ≡ left_out_of (with_calls listening (readings_up_to end.stop h.edges))
    lacks = out ∙ ap (λ rs. left_out_of (with_calls listening rs)) h.takes_all.is_end.readings

    pages : (text : List ℕ) → text_of_pages shapes format p ≡ Ok text → IsPagesOf shapes format (with_calls listening (readings_up_to end.stop h.edges)) text
    pages text is = record { reprinted = p; are_papers = papers; is_text = is }

    leaves : (v : Result Reprinted CliFault) → WritesPrint shapes format p left end old new v
        → LeavesPages (length text) end.stop shapes format (with_calls listening (readings_up_to end.stop h.edges)) (oddities_of h.edges (readings_of h.edges)) old new v
    leaves (Ok said) w = (
      h.says.short (no_own (back_in h.edges) h.own (sym h.takes_all.is_end.stop ∙ w.2)),
      w.2,
      record {
        text = w.0;
        pages = pages w.0 w.1;
        written = w.4;
        is_said = w.3 ∙ (ap (λ odd. said_of p odd left) (h.takes_all.is_end.odd w.2) ∙ ap (said_of p (oddities_of h.edges (readings_of h.edges))) lacks);
      },
    )
    leaves (Err (Script fault)) w = known_fault IsStop end.stop (Script fault) w.2 stop
    leaves (Err (Trace fault)) w = (w.2, (w.0, pages w.0 w.1, w.3))
    leaves (Err (Wave fault)) w = (w.2, (w.0, pages w.0 w.1, w.3))
    leaves (Err (Capture fault)) w = (w.2, (w.0, pages w.0 w.1, w.3))
    leaves (Err (Picture fault)) w = (record { reprinted = p; are_papers = papers; is_unshown = w.0 }, w.1)
    leaves (Err TooLarge) w = absurd (known_fault IsStop end.stop TooLarge w.2 stop)
    leaves (Err NoMemory) w = w
    leaves (Err ReadFailed) w = absurd (known_fault IsStop end.stop ReadFailed w.2 stop)
    leaves (Err WriteFailed) w = (w.0, pages w.0 w.1, w.2)

-- what is answered where nothing was printed
unanswered : EachTextSaysEdges → (shapes : Shapes) (input : TraceInput) (listening : Listening) (format : Format) (text : List ℕ) (old new : Option (List ℕ)) (f : CliFault) → IsNoReading f → (f ≡ TooLarge → print_limit < length text) → Keeps old new
    → AnswersPages shapes input listening format text old new (Err f)
unanswered some shapes input listening format text old new f none large keeps =
    let s = some input text in
    let stop = stop_at (back_in s.edges) s.fault in
    let Left : CliFault → Type 0 = λ f. LeavesPages (length text) stop shapes format (with_calls listening (readings_up_to stop s.edges)) (oddities_of s.edges (readings_of s.edges)) old new (Err f) in
    record { edges = s.edges; own = s.fault; says = s.says; leaves = by_no_reading Left f none (λ is. (large is, keeps)) keeps keeps }

-- the same, where it is known what the reader gives
pub all_answered : (start old new : Option (List ℕ)) (shapes : Shapes) (input : TraceInput) (listening : Listening) (format : Format) (s a b : Both BusPrinters LeftOutLog) (p : PrintedPages) (left : LeftOut) (end : TapeEnd) (v : Result Reprinted CliFault)
    → IfSome start (λ text. ReadsInto Prints print_limit input text a b (Ok end)) → HasReprinted [] s.first → HasLeftOut [] s.second → Prints (first_calls listening) s a
    → ((readings : List Reading) → HasReprinted readings b.first → ArePapers readings p)
    → ((readings : List Reading) → HasLeftOut readings b.second → left ≡ left_out_of readings) → IfSome end.stop IsStop → WritesPrint shapes format p left end old new v → IfSome start (λ text. AnswersPages shapes input listening format text old new v)
all_answered None old new shapes input listening format s a b p left end v h none none_left called are out stop writes = tt
all_answered (Some text) old new shapes input listening format s a b p left end v h none none_left called are out stop writes =
    answered shapes input listening format text a b p left end old new v h (are (with_calls listening h.takes_all.all) (h.takes_all.taken.0 (first_calls listening) (called.0 [] none)))
    (out (with_calls listening h.takes_all.all) (h.takes_all.taken.1 (first_calls listening) (called.1 [] none_left))) stop writes

pub none_answered : EachTextSaysEdges → (start old : Option (List ℕ)) (shapes : Shapes) (input : TraceInput) (listening : Listening) (format : Format) (a b : Both BusPrinters LeftOutLog) (f : CliFault) (v : Result Reprinted CliFault) → IsErrAnd v (λ x. x ≡ f) → IsNoReading f
    → Keeps old old → IfSome start (λ text. ReadsInto Prints print_limit input text a b (Err f)) → IfSome start (λ text. AnswersPages shapes input listening format text old old v)
none_answered some None old shapes input listening format a b f v is none keeps h = tt
none_answered some (Some text) old shapes input listening format a b f v is none keeps h =
    known_error v f is (λ v. AnswersPages shapes input listening format text old old v)
    (unanswered some shapes input listening format text old old f none (λ e. let P : CliFault → Type 0 = λ y. ReadsInto Prints print_limit input text a b (Err y) in subst P e h) keeps)

-- what is answered where memory was refused before any reading came
pub uncalled : EachTextSaysEdges → (start old : Option (List ℕ)) (shapes : Shapes) (input : TraceInput) (listening : Listening) (format : Format) (v : Result Reprinted CliFault) → IsErrAnd v (λ x. x ≡ NoMemory) → Keeps old old
    → IfSome start (λ text. AnswersPages shapes input listening format text old old v)
uncalled some None old shapes input listening format v is keeps = tt
uncalled some (Some text) old shapes input listening format v is keeps =
    known_error v NoMemory is (λ v. AnswersPages shapes input listening format text old old v)
    (unanswered some shapes input listening format text old old NoMemory tt (λ e. absurd (cc)) keeps)

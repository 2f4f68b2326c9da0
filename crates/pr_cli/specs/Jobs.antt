-- Trusted: what the program answers for each job, what it leaves in the reader and in the writer,
-- and how it ends. The answer uses the printers present, the delays, the mode, the input, the character set
-- and the output of the job, and the shapes of characters that it is given.
use Rattle.std.specs.Prelude.{◌≡◌, ◌⊎◌, ◌<◌, ◌≤◌, ◌-◌, ℕ, Bool, true, false, List, length, Option, Some, None, take, Result, Ok, Err, Vec, if◌then◌else◌}
use Rattle.std.specs.Global.{Global}
use Rattle.pr_capture.specs.declared.format.InputFormat.{InputFormat}
use Rattle.pr_capture.specs.declared.format.InputFormat.TheVariants as source
use Rattle.pr_capture.specs.declared.format.OutputFormat.{OutputFormat}
use Rattle.pr_capture.specs.declared.format.TraceInput.{TraceInput}
use Rattle.pr_report.specs.declared.oddities.Oddities.{Oddities}
use Rattle.pr_report.specs.declared.report.Report.{Report}
use Rattle.pr_report.specs.declared.report.Report.TheVariants as report
use Rattle.pr_dots.specs.declared.character_sets.Shapes.{Shapes}
use Rattle.pr_render.specs.declared.format.Format.{Format}
use Rattle.pr_render.specs.declared.format.Format.TheVariants as format
use Rattle.pr_render.specs.declared.format.Look.TheVariants.{Video}
use Rattle.pr_listing.specs.declared.form.ListingForm.{ListingForm}
use Rattle.pr_listing.specs.declared.form.ListingForm.TheVariants.{Text}
use Rattle.pr_listing.specs.declared.input.TextFault.{TextFault}
use Rattle.pr_listing.specs.Forms.{HasText}
use Rattle.pr_listing.specs.Inputs.{IsTextFault}
use Rattle.pr_programs.specs.declared.fault.BasicFault.{BasicFault}
use Rattle.pr_programs.specs.declared.fault.BasicFault.TheVariants as basic
use Rattle.pr_programs.specs.declared.form.Form.{Form}
use Rattle.pr_programs.specs.declared.form.Form.TheVariants as form
use Rattle.pr_programs.specs.declared.made.Made.{Made}
use Rattle.pr_programs.specs.Forms.{IsRun}
use Rattle.pr_programs.specs.Made.{made}
use Rattle.pr_programs.specs.Saved.{IsTextOf, IsUnsaved}
use Rattle.pr_serial.specs.declared.Present.{Present}
use Rattle.pr_options.specs.declared.command_line.Job.{Job}
use Rattle.pr_options.specs.declared.command_line.Job.TheVariants.{Pages, Bus, Script, Check, Decode, Raw}
use Rattle.pr_options.specs.declared.outputs.CheckOutput.{CheckOutput}
use Rattle.pr_options.specs.declared.outputs.CheckOutput.TheVariants as checked
use Rattle.pr_options.specs.declared.outputs.DecodeOutput.{DecodeOutput}
use Rattle.pr_options.specs.declared.outputs.DecodeOutput.TheVariants as reading
use Rattle.pr_options.specs.declared.outputs.Hearing.{Hearing}
use Rattle.pr_options.specs.declared.outputs.PagesOutput.{PagesOutput}
use Rattle.pr_options.specs.declared.outputs.PagesOutput.TheVariants as output
use Rattle.pr_capture.specs.Found.{found_format}
use Rattle.pr_jobs.specs.declared.fault.CliFault.{CliFault}
use Rattle.pr_jobs.specs.declared.fault.CliFault.TheVariants.{NoMemory, ReadFailed, TooLarge}
use Rattle.pr_jobs.specs.declared.run.Ending.{Ending}
use Rattle.pr_jobs.specs.declared.run.Ending.TheVariants.{Done}
use Rattle.pr_jobs.specs.declared.run.PagesEnd.{PagesEnd}
use Rattle.pr_jobs.specs.declared.run.RunEnd.{RunEnd}
use Rattle.pr_jobs.specs.declared.run.Start.{Start}
use Rattle.pr_jobs.specs.Pages.{AnswersPages, AnswersPagesWith, IsPagesFault, IsRunFault, ReadsToEnd, WritesNothing, script_limit}
use Rattle.pr_jobs.specs.Formats.{shown_of}
use Rattle.pr_jobs.specs.Runs.{start_of}
use Rattle.pr_jobs.specs.Bus.{AnswersBus, AnswersBusAs, WritesNoEdge}
use Rattle.pr_jobs.specs.Check.{AnswersCheck, trace_limit}
use Rattle.pr_jobs.specs.Report.{AnswersReport, IsReportFault, WritesNoReport}
use Rattle.pr_jobs.specs.Report as check
use Rattle.pr_jobs.specs.Raw.{AnswersRaw, IsRawFault}
use Rattle.pr_cli.specs.Script.{AnswersScript}
use Rattle.pr_recording.specs.declared.byte_log.Heard.{Heard}
use Rattle.pr_recording.specs.declared.bytes.Overheard.{Overheard}
use Rattle.pr_recording.specs.declared.listening.Listening.{Listening}
use Rattle.pr_recording.specs.declared.pages.Reprinted.{Reprinted}
use Rattle.pr_recording.specs.declared.wording.Wording.TheVariants.{Json, Lines}
use Rattle.pr_recording.specs.Bytes.{AnswersBytes, HasReadBytes}
use Rattle.pr_recording.specs.Checked.{AnswersJson}
use Rattle.pr_recording.specs.Decoded.{AnswersDecode, IsDecodeFault}
use Rattle.pr_recording.specs.Decoded as decode
use Rattle.pr_recording.specs.Pages as reprint
use Rattle.pr_recording.specs.RunBytes.{AnswersRunBytes}
use Rattle.pr_cli.specs.declared.jobs.JobEnd.{JobEnd}
use Rattle.pr_cli.specs.declared.jobs.JobEnd.TheVariants as answer
use Rattle.pr_cli.specs.Starts.{own_zero}
use Rattle.pr_cli.specs.Statuses.{ended_after, job_end, status_of}
use Rattle.pr_cli.specs.declared.statuses.End.{End}
use Rattle.pr_cli.specs.declared.statuses.End.TheVariants.{Basic, Job as Failed, Listing}

-- an input in the format that the first bytes show
abbrev pub found_input : (first : List ℕ) → TraceInput → TraceInput
found_input first input = record input { source = found_format input.source first }

-- a job whose recording's format has to be found, with the format that the first bytes show; all else of it stays
abbrev pub found_job : (first : List ℕ) → Job → Job
found_job first (Check true input f) = Check false (found_input first input) f
found_job first (Decode true input f) = Decode false (found_input first input) f
found_job first job = job

-- a job with another start of its trace, where it reads one; all else of it stays
abbrev pub restarted_job : (start : ℕ) → Job → Job
restarted_job start (Check is_found input f) = Check is_found (record input { start = start }) f
restarted_job start (Decode is_found input f) = Decode is_found (record input { start = start }) f
restarted_job start job = job

-- a format for a terminal: lines show what is printed in reverse in its reverse video
abbrev pub seen_format : Format → Format
seen_format (format.Lines look) = format.Lines Video
seen_format other = other

-- what is written of a run and of a recording, if its pages go to a terminal
abbrev pub seen_output : PagesOutput → PagesOutput
seen_output (output.Pages f) = output.Pages (seen_format f)
seen_output other = other

abbrev pub seen_reading : DecodeOutput → DecodeOutput
seen_reading (reading.Pages f hearing) = reading.Pages (seen_format f) hearing
seen_reading other = other

-- a job whose pages go to a terminal; all else of it stays
abbrev pub seen_job : Job → Job
seen_job (Pages form present delays mode written) = Pages form present delays mode (seen_output written)
seen_job (Decode is_found input written) = Decode is_found input (seen_reading written)
seen_job (Raw lower f) = Raw lower (seen_format f)
seen_job job = job

-- what `check` answers: the frames of a trace text, or else a report on an input of any format
abbrev pub AnswersFrames :
    TraceInput → InputFormat → Report → List ℕ → Option (List ℕ) → Option (List ℕ)
    → Result (Unit {0}) CliFault → Type 0
AnswersFrames input source.Text report.Frames text old new result = AnswersCheck text old new result
AnswersFrames input _ r text old new result = AnswersReport input r text old new result

-- or its readings as JSON
abbrev pub AnswersTrace :
    TraceInput → CheckOutput → List ℕ → Option (List ℕ) → Option (List ℕ) → Result (Unit {0}) CliFault → Type 0
AnswersTrace input (checked.Report r) text old new result = AnswersFrames input input.source r text old new result
AnswersTrace input checked.Json text old new result = AnswersJson input text old new result

-- it holds, and a stop's place is not asked for
abbrev pub Unasked : (located : Bool) → Type 0 → Type 0
Unasked true holds = ⊥
Unasked false holds = holds

-- an answer of a run that says which error stopped it, and where; or only whether one did, where the place is not asked for
abbrev pub IsRan : (located : Bool) → (Result Ending CliFault → Type 0) → (Result RunEnd CliFault → Type 0)
    → Result JobEnd CliFault → Type 0
IsRan located answers ends (Ok (answer.Ended ending)) = Unasked located (answers (Ok ending))
IsRan located answers ends (Ok (answer.Ran end)) = ends (Ok end)
IsRan located answers ends (Ok _) = ⊥
IsRan located answers ends (Err fault) = ends (Err fault)

-- the same of pages, with what the printers hold
abbrev pub IsPrinted : (located : Bool) → (Result Ending CliFault → Type 0) → (Result PagesEnd CliFault → Type 0)
    → Result JobEnd CliFault → Type 0
IsPrinted located answers ends (Ok (answer.Ended ending)) = Unasked located (answers (Ok ending))
IsPrinted located answers ends (Ok (answer.Printed end)) = ends (Ok end)
IsPrinted located answers ends (Ok _) = ⊥
IsPrinted located answers ends (Err fault) = ends (Err fault)

-- an answer of the page of a printer's bytes, with what the printer holds
abbrev pub IsRaw : (Result PagesEnd CliFault → Type 0) → Result JobEnd CliFault → Type 0
IsRaw answers (Ok (answer.Printed end)) = answers (Ok end)
IsRaw answers (Ok _) = ⊥
IsRaw answers (Err fault) = answers (Err fault)

-- an answer with a printer's bytes
abbrev pub IsHeard : (Result (RunEnd × Heard) CliFault → Type 0) → Result JobEnd CliFault → Type 0
IsHeard answers (Ok (answer.Heard end heard)) = answers (Ok (end, heard))
IsHeard answers (Ok _) = ⊥
IsHeard answers (Err fault) = answers (Err fault)

-- an answer that no BASIC error can stop: it is done, or has a fault
abbrev pub IsDone : (Result (Unit {0}) CliFault → Type 0) → Result JobEnd CliFault → Type 0
IsDone answers (Ok (answer.Ended Done)) = answers (Ok tt)
IsDone answers (Ok _) = ⊥
IsDone answers (Err fault) = answers (Err fault)

-- the same with what is said of a recording of which a printer's bytes are written
abbrev pub IsOverheard : (Result Overheard CliFault → Type 0) → Result JobEnd CliFault → Type 0
IsOverheard answers (Ok (answer.Overheard said)) = answers (Ok said)
IsOverheard answers (Ok _) = ⊥
IsOverheard answers (Err fault) = answers (Err fault)

-- the same with what is said of one whose pages are written
abbrev pub IsReprinted : (Result Reprinted CliFault → Type 0) → Result JobEnd CliFault → Type 0
IsReprinted answers (Ok (answer.Reprinted said)) = answers (Ok said)
IsReprinted answers (Ok _) = ⊥
IsReprinted answers (Err fault) = answers (Err fault)

-- the same with what is odd about a recording that is listed
abbrev pub IsListed : (Result Oddities CliFault → Type 0) → Result JobEnd CliFault → Type 0
IsListed answers (Ok (answer.Listed odd)) = answers (Ok odd)
IsListed answers (Ok _) = ⊥
IsListed answers (Err fault) = answers (Err fault)

-- the same with what is odd about one whose JSON does not say it
abbrev pub IsRemarked : (Result Oddities CliFault → Type 0) → Result JobEnd CliFault → Type 0
IsRemarked answers (Ok (answer.Remarked odd)) = answers (Ok odd)
IsRemarked answers (Ok _) = ⊥
IsRemarked answers (Err fault) = answers (Err fault)

-- what `pages` answers: the pages of a script
abbrev pub AnswersPrinted :
    (located : Bool) → Shapes → Start → Format → List ℕ → Option (List ℕ) → Option (List ℕ) → Result JobEnd CliFault → Type 0
AnswersPrinted located shapes start f text old new result =
    IsPrinted located (AnswersPages shapes start f text old new) (AnswersPagesWith shapes start f text old new) result

-- or the bytes that a printer hears in its run
abbrev pub AnswersRun :
    (located : Bool) → Shapes → Start → PagesOutput → List ℕ → Option (List ℕ) → Option (List ℕ) → Result JobEnd CliFault
    → Type 0
AnswersRun located shapes start (output.Pages f) text old new result = AnswersPrinted located shapes start f text old new result
AnswersRun located shapes start (output.Bytes device) text old new result = IsHeard (AnswersRunBytes start device text old new) result

-- what `bus` answers: the trace of a script's run
abbrev pub AnswersTraced :
    (located : Bool) → Start → OutputFormat → List ℕ → Option (List ℕ) → Option (List ℕ) → Result JobEnd CliFault → Type 0
AnswersTraced located start f text old new result =
    IsRan located (AnswersBus start f text old new) (AnswersBusAs start f text old new) result

-- the printers that listen when a recording begins
abbrev pub listening_of : Hearing → Listening
listening_of h = record { printers = h.listening; lower = h.lower }

-- what `decode` answers: the readings of a recording, the bytes that a printer hears in it, or the pages that printers print of it
abbrev pub AnswersRecording :
    Shapes → TraceInput → DecodeOutput → List ℕ → Option (List ℕ) → Option (List ℕ) → Result JobEnd CliFault → Type 0
AnswersRecording shapes input (reading.Readings detail) text old new result =
    IsListed (AnswersDecode trace_limit (Lines detail) input text old new) result
AnswersRecording shapes input reading.Json text old new result =
    IsRemarked (AnswersDecode trace_limit Json input text old new) result
AnswersRecording shapes input (reading.Bytes device hearing) text old new result =
    IsOverheard (AnswersBytes input (listening_of hearing) device text old new) result
AnswersRecording shapes input (reading.Pages f hearing) text old new result =
    IsReprinted (reprint.AnswersPages shapes input (listening_of hearing) f text old new) result

-- the answer of a job, by the input's bytes and by what the writer held before and after; for a run
-- they are the bytes of a script text, also where the listing has another form; the format of a
-- recording is the input's, also where it was found in the first bytes
abbrev pub AnswersJob :
    (located : Bool) → Shapes → Job → List ℕ → Option (List ℕ) → Option (List ℕ) → Result JobEnd CliFault → Type 0
AnswersJob located shapes (Pages form present delays mode output) text old new result =
    AnswersRun located shapes (start_of present delays mode) output text old new result
AnswersJob located shapes (Bus form present delays mode f) text old new result =
    AnswersTraced located (start_of present delays mode) f text old new result
AnswersJob located shapes (Script form) text old new result = IsDone (AnswersScript text old new) result
AnswersJob located shapes (Check is_found input output) text old new result =
    IsDone (AnswersTrace input output text old new) result
AnswersJob located shapes (Decode is_found input output) text old new result =
    AnswersRecording shapes input output text old new result
AnswersJob located shapes (Raw lower f) text old new result =
    IsRaw (AnswersRaw shapes lower f text old new) result

-- the printers whose pages a format shows, of both
abbrev pub both : Present
both = record { four = true; five = true }

abbrev pub shown_in : Format → Present
shown_in format.List = both
shown_in (format.Lines look) = both
shown_in (format.Svg part) = shown_of part.device both
shown_in (format.Png part) = shown_of part.device both
shown_in (format.Pdf device layout) = shown_of device both

-- the printers of which nothing is to be left out of a recording, if a job is strict: those whose pages or bytes are written
abbrev pub strict_if : Bool → Present → Option Present
strict_if is_strict shown = if is_strict then Some shown else None

abbrev pub strict_in : DecodeOutput → Option Present
strict_in (reading.Bytes device hearing) = strict_if hearing.is_strict (shown_of (Some device) both)
strict_in (reading.Pages f hearing) = strict_if hearing.is_strict (shown_in f)
strict_in _ = None

abbrev pub strict_of : Job → Option Present
strict_of (Decode is_found input output) = strict_in output
strict_of _ = None

-- how the program ends a job: the writer holds what an answer of the job leaves in it, and it ends as that answer says;
-- always allowed are `NoMemory`, `ReadFailed` and `WriteFailed`, whose exit status is 3, where at most a beginning was written
abbrev pub EndsJob : (located : Bool) → Shapes → Job → List ℕ → Option (List ℕ) → Option (List ℕ) → End → Type 0
EndsJob located shapes job text old new end =
    (answer : Result JobEnd CliFault) × AnswersJob located shapes job text old new answer × (end ≡ job_end (strict_of job) answer)

-- the form of the listing that a job reads; an input that is no listing is read as it is
abbrev pub form_of : Job → Form
form_of (Pages form present delays mode output) = form
form_of (Bus form present delays mode f) = form
form_of (Script form) = form
form_of _ = form.Listing Text

-- whether a job has to find the format of its recording
abbrev pub finds_format : Job → Bool
finds_format (Check is_found input output) = is_found
finds_format (Decode is_found input output) = is_found
finds_format _ = false

-- how it ends a job that reads a listing in this form: by the text that the listing has, or it gets no text of it, and writes nothing
abbrev pub EndsListing : (located : Bool) → Shapes → Job → ListingForm → List ℕ → Option (List ℕ) → Option (List ℕ) → End → Type 0
EndsListing located shapes job form bytes old new end =
    ((text : List ℕ) × (length bytes ≤ script_limit) × HasText form bytes text × EndsJob located shapes job text old new end)
    ⊎ ((fault : TextFault) × IsTextFault form script_limit bytes fault × (new ≡ old) × (end ≡ Listing fault))

-- how it ends a job that runs the program of a text for so many steps at most: by the script that comes of it and how
-- the program's run ended; or no script comes of it, and nothing is written
abbrev pub EndsRun : (located : Bool) → Shapes → Job → (steps : ℕ) → List ℕ → Option (List ℕ) → Option (List ℕ) → End
    → Type 0
EndsRun located shapes job steps text old new end =
    ((found : Made) × (ended : End) × (made steps text ≡ Ok found)
    × EndsJob located shapes job found.text old new ended × (end ≡ ended_after found.ran ended))
    ⊎ ((fault : BasicFault) × ((fault ≡ basic.NoMemory) ⊎ (made steps text ≡ Err fault)) × (new ≡ old)
    × (end ≡ Basic fault))

-- the same of bytes that may be a saved program
abbrev pub EndsProgram : (located : Bool) → Shapes → Job → (steps : ℕ) → List ℕ → Option (List ℕ) → Option (List ℕ)
    → End → Type 0
EndsProgram located shapes job steps bytes old new end =
    ((text : List ℕ) × IsTextOf bytes text × EndsRun located shapes job steps text old new end)
    ⊎ ((fault : BasicFault) × ((fault ≡ basic.NoMemory) ⊎ IsUnsaved bytes fault) × (new ≡ old) × (end ≡ Basic fault))

-- how it ends a job on a text that is run as a program only if it is no script, and reads as one; or memory was refused
abbrev pub EndsEither : (located : Bool) → Shapes → Job → (steps : ℕ) → List ℕ → Option (List ℕ) → Option (List ℕ) → End
    → Type 0
EndsEither located shapes job steps bytes old new end =
    (IsRun bytes × EndsProgram located shapes job steps bytes old new end)
    ⊎ ((IsRun bytes → ⊥) × EndsJob located shapes job bytes old new end)
    ⊎ ((new ≡ old) × (end ≡ Failed NoMemory))

-- the input is not read: it has too many bytes, a read failed, or memory was refused
abbrev pub IsNotRead : List ℕ → CliFault → Type 0
IsNotRead bytes TooLarge = script_limit < length bytes
IsNotRead bytes NoMemory = Unit {0}
IsNotRead bytes ReadFailed = Unit {0}
IsNotRead bytes _ = ⊥

-- an input is read whole, or how the program ends where it is not
abbrev pub IsReadWhole : List ℕ → Result (Vec ℕ Global) End → Type 0
IsReadWhole bytes (Ok read) = (read.items ≡ bytes) × (length bytes ≤ script_limit)
IsReadWhole bytes (Err end) = (fault : CliFault) × IsNotRead bytes fault × (end ≡ Failed fault)

-- how it ends a job on bytes that are read whole first, as this says
abbrev pub EndsWhole : (List ℕ → Type 0) → List ℕ → Option (List ℕ) → Option (List ℕ) → End → Type 0
EndsWhole Ends bytes old new end =
    ((length bytes ≤ script_limit) × Ends bytes)
    ⊎ ((fault : CliFault) × IsNotRead bytes fault × (new ≡ old) × (end ≡ Failed fault))

-- how it ends a job on an input's bytes: by the bytes themselves where the form is a script's text, else as a listing
-- or a program
abbrev pub EndsInput : (located : Bool) → Shapes → Job → Form → List ℕ → Option (List ℕ) → Option (List ℕ) → End
    → Type 0
EndsInput located shapes job (form.Listing Text) bytes old new end = EndsJob located shapes job bytes old new end
EndsInput located shapes job (form.Listing listing) bytes old new end =
    EndsListing located shapes job listing bytes old new end
EndsInput located shapes job (form.Program steps) bytes old new end =
    EndsWhole (λ whole. EndsProgram located shapes job steps whole old new end) bytes old new end
EndsInput located shapes job (form.Either steps) bytes old new end =
    EndsWhole (λ whole. EndsEither located shapes job steps whole old new end) bytes old new end

-- how many bytes of a recording show its format, at most
abbrev pub first_bytes : ℕ
first_bytes = 4096

-- how long after its first moment a job's recording has its own moment 0, if the job reads one
abbrev pub zero_of_job : Job → (recording : List ℕ) → ℕ
zero_of_job (Check is_found input output) recording = own_zero input recording
zero_of_job (Decode is_found input output) recording = own_zero input recording
zero_of_job _ recording = 0

-- a job that starts where it says, or so long before its recording's own moment 0, but not before the first moment
abbrev pub started_job : (before : Option ℕ) → (recording : List ℕ) → Job → Job
started_job None recording job = job
started_job (Some before) recording job = restarted_job (zero_of_job job recording - before) job

-- how it ends a job on a recording's bytes in the format that the first of them show, where the job has to find it, and from its
-- start; or it does not get so far, and writes nothing
abbrev pub EndsRecording : (located : Bool) → Shapes → (before : Option ℕ) → Job → List ℕ → Option (List ℕ) → Option (List ℕ) → End → Type 0
EndsRecording located shapes before job bytes old new end =
    EndsJob located shapes (started_job before bytes (found_job (take first_bytes bytes) job)) bytes old new end
    ⊎ ((status_of end ≡ 3) × (new ≡ old))

-- the same where only its format may have to be found; every other job is ended as its input asks for
abbrev pub EndsFound : (located : Bool) → Shapes → (is_to_find : Bool) → Job → List ℕ → Option (List ℕ) → Option (List ℕ) → End → Type 0
EndsFound located shapes true job bytes old new end = EndsRecording located shapes None job bytes old new end
EndsFound located shapes false job bytes old new end = EndsInput located shapes job (form_of job) bytes old new end

-- how it ends a job on an input's bytes
abbrev pub EndsWork : (located : Bool) → Shapes → (before : Option ℕ) → Job → List ℕ → Option (List ℕ) → Option (List ℕ) → End → Type 0
EndsWork located shapes (Some before) job bytes old new end = EndsRecording located shapes (Some before) job bytes old new end
EndsWork located shapes None job bytes old new end = EndsFound located shapes (finds_format job) job bytes old new end

-- Whatever the reader gives.

-- a fault of a run, and of its pages where they are asked for
abbrev pub IsPrintFault : PagesOutput → CliFault → Type 0
IsPrintFault (output.Pages f) fault = IsPagesFault f fault
IsPrintFault (output.Bytes device) fault = IsRunFault fault

-- a fault of a recording, and of its pages where they are asked for
abbrev pub IsRecordingFault : DecodeOutput → CliFault → Type 0
IsRecordingFault (reading.Pages f hearing) fault = reprint.IsReprintFault fault
IsRecordingFault _ fault = IsDecodeFault fault

-- a fault of the job; lack of memory is always `NoMemory` itself
abbrev pub IsJobFault : Job → CliFault → Type 0
IsJobFault (Pages form present delays mode output) fault = IsPrintFault output fault
IsJobFault (Bus form present delays mode f) fault = IsRunFault fault
IsJobFault (Script form) fault = IsRunFault fault
IsJobFault (Check is_found input output) fault = IsReportFault fault
IsJobFault (Decode is_found input output) fault = IsRecordingFault output fault
IsJobFault (Raw lower f) fault = IsRawFault fault

-- a recording has been read to its end, unless it has a fault
abbrev pub ReadsRecording : DecodeOutput → Option (List ℕ) → Result JobEnd CliFault → Type 0
ReadsRecording (reading.Bytes device hearing) left result = IsOverheard (HasReadBytes left) result
ReadsRecording (reading.Pages f hearing) left result = IsReprinted (reprint.ReadsPages left) result
ReadsRecording reading.Json left result = IsRemarked (decode.ReadsAll left) result
ReadsRecording (reading.Readings detail) left result = IsListed (decode.ReadsAll left) result

-- a trace has been read to its end where it is accepted, and where its edges are refused
abbrev pub ReadsTrace : CheckOutput → Option (List ℕ) → Result (Unit {0}) CliFault → Type 0
ReadsTrace (checked.Report r) left result = check.ReadsAll r left result
ReadsTrace checked.Json left result = check.ReadsAll report.Story left result

-- the input has been read to its end, unless the job's subcommand ends earlier
abbrev pub ReadsInput : Job → Option (List ℕ) → Result JobEnd CliFault → Type 0
ReadsInput (Pages form present delays mode output) left result = ReadsToEnd left result
ReadsInput (Bus form present delays mode f) left result = ReadsToEnd left result
ReadsInput (Script form) left result = ReadsToEnd left result
ReadsInput (Check is_found input output) left result = IsDone (ReadsTrace output left) result
ReadsInput (Decode is_found input output) left result = ReadsRecording output left result
ReadsInput (Raw lower f) left result = ReadsToEnd left result

-- a refused trace leaves the writer's bytes as they were, unless JSON is written while it is read
abbrev pub KeepsTrace : CheckOutput → Option (List ℕ) → Option (List ℕ) → Result (Unit {0}) CliFault → Type 0
KeepsTrace (checked.Report r) old new result = WritesNoReport r old new result
KeepsTrace checked.Json old new result = Unit {0}

-- the same for an answer of a run, which is no other than such an answer
abbrev pub KeepsRun : (located : Bool) → Option (List ℕ) → Option (List ℕ) → Result JobEnd CliFault → Type 0
KeepsRun located old new result = IsRan located (WritesNoEdge old new) (WritesNoEdge old new) result

-- a refusal leaves the writer's bytes as they were, unless the job's subcommand writes while it reads
abbrev pub KeepsOutput : (located : Bool) → Job → Option (List ℕ) → Option (List ℕ) → Result JobEnd CliFault → Type 0
KeepsOutput located (Pages form present delays mode output) old new result = WritesNothing old new result
KeepsOutput located (Bus form present delays mode f) old new result = KeepsRun located old new result
KeepsOutput located (Script form) old new result = WritesNothing old new result
KeepsOutput located (Check is_found input output) old new result = IsDone (KeepsTrace output old new) result
KeepsOutput located (Decode is_found input output) old new result = Unit {0}
KeepsOutput located (Raw lower f) old new result = WritesNothing old new result

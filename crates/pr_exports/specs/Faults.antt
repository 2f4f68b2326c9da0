-- Trusted: the numbers of faults, with their places: those of `enum print1525_fault` in include/print1525.h.
use Rattle.std.specs.Prelude.{ℕ, ◌+◌}
use Rattle.pr_basic.specs.declared.fault.ScriptFault.{ScriptFault}
use Rattle.pr_basic.specs.declared.fault.ScriptFault.TheVariants as script
use Rattle.pr_wire.specs.declared.WaveFault.{WaveFault}
use Rattle.pr_wire.specs.declared.WaveFault.TheVariants as wave
use Rattle.pr_wire.specs.declared.text.TraceFault.{TraceFault}
use Rattle.pr_wire.specs.declared.text.TraceFault.TheVariants as trace
use Rattle.pr_channels.specs.Stops.{stop_number}
use Rattle.pr_capture.specs.declared.fault.CaptureFault.{CaptureFault}
use Rattle.pr_capture.specs.declared.fault.CaptureFault.TheVariants as capture
use Rattle.pr_capture.specs.declared.fault.Wire.{Wire}
use Rattle.pr_capture.specs.declared.fault.Wire.TheVariants as wire
use Rattle.pr_interpreter.specs.declared.values.BasicError.{BasicError}
use Rattle.pr_interpreter.specs.declared.values.BasicError.TheVariants as error
use Rattle.pr_programs.specs.declared.fault.BasicFault.{BasicFault}
use Rattle.pr_programs.specs.declared.fault.BasicFault.TheVariants as basic
use Rattle.pr_programs.specs.declared.fault.Reason.{Reason}
use Rattle.pr_programs.specs.declared.fault.Reason.TheVariants as reason
use Rattle.pr_listing.specs.declared.fault.ListingFault.{ListingFault}
use Rattle.pr_listing.specs.declared.fault.ListingFault.TheVariants as listing
use Rattle.pr_listing.specs.declared.input.TextFault.{TextFault}
use Rattle.pr_listing.specs.declared.input.TextFault.TheVariants as text
use Rattle.pr_characters.specs.declared.fault.CharactersFault.TheVariants.{BadLine}
use Rattle.pr_jobs.specs.declared.characters.ShapesFault.{ShapesFault}
use Rattle.pr_jobs.specs.declared.characters.ShapesFault.TheVariants as shapes
use Rattle.pr_jobs.specs.declared.fault.CliFault.{CliFault}
use Rattle.pr_jobs.specs.declared.fault.CliFault.TheVariants as job
use Rattle.pr_jobs.specs.declared.fault.PictureFault.{PictureFault}
use Rattle.pr_jobs.specs.declared.fault.PictureFault.TheVariants as picture
use Rattle.pr_cli.specs.declared.statuses.End.{End}
use Rattle.pr_cli.specs.declared.statuses.End.TheVariants as end

-- ATN, CLOCK, DATA
abbrev pub signal_number : Wire → ℕ
signal_number wire.Atn = 1
signal_number wire.Clock = 2
signal_number wire.Data = 3

-- a fault of a recording, with its line
abbrev pub capture_numbers : CaptureFault → ℕ × ℕ
capture_numbers (capture.NoSignal line wire) = (30 + signal_number wire, line)
capture_numbers (capture.NoLevel line wire) = (33 + signal_number wire, line)
capture_numbers (capture.BadWord line) = (41, line)
capture_numbers (capture.NoEnd line) = (42, line)
capture_numbers (capture.NoDefinitions line) = (43, line)
capture_numbers (capture.NoTimescale line) = (44, line)
capture_numbers (capture.BadTime line) = (45, line)
capture_numbers (capture.GoesBack line) = (46, line)
capture_numbers (capture.Unknown line) = (47, line)
capture_numbers (capture.Floating line) = (48, line)
capture_numbers (capture.BadLevel line) = (49, line)
capture_numbers (capture.BadTimescale line) = (70, line)
capture_numbers (capture.NoTime line) = (71, line)
capture_numbers capture.WideText = (72, 1)
capture_numbers capture.Archive = (73, 1)
capture_numbers (capture.TwoSignals line wire) = (74 + signal_number wire, line)
capture_numbers capture.NoMemory = (90, 0)

-- a script's fault, with its line
abbrev pub script_numbers : ScriptFault → ℕ × ℕ
script_numbers (script.UnknownWord line) = (1, line)
script_numbers (script.BadNumber line) = (2, line)
script_numbers (script.BadDevice line) = (3, line)
script_numbers (script.BadSecond line) = (4, line)
script_numbers (script.BadByte line) = (5, line)
script_numbers (script.TooLong line) = (6, line)
script_numbers (script.TooMany line) = (7, line)
script_numbers script.NoMemory = (90, 0)

-- a trace text's fault, with its line
abbrev pub trace_numbers : TraceFault → ℕ × ℕ
trace_numbers (trace.BadLine line) = (8, line)
trace_numbers trace.NoMemory = (90, 0)

-- a fault of edges, with the index of the edge
abbrev pub wave_numbers : WaveFault → ℕ × ℕ
wave_numbers (wave.Start at) = (11, at)
wave_numbers (wave.Order at) = (12, at)
wave_numbers (wave.TooEarly at) = (13, at)
wave_numbers (wave.TooLate at) = (14, at)
wave_numbers (wave.Shape at) = (15, at)
wave_numbers (wave.Truncated at) = (16, at)
wave_numbers wave.NoMemory = (90, 0)

-- a picture that there is not, with how many sheets there are or 0
abbrev pub picture_numbers : PictureFault → ℕ × ℕ
picture_numbers (picture.NoSuchSheet sheets) = (50, sheets)
picture_numbers picture.TooLarge = (51, 0)

-- a job's fault; a read or a write in memory fails for lack of memory alone
abbrev pub job_numbers : CliFault → ℕ × ℕ
job_numbers (job.Script fault) = script_numbers fault
job_numbers (job.Trace fault) = trace_numbers fault
job_numbers (job.Wave fault) = wave_numbers fault
job_numbers (job.Capture fault) = capture_numbers fault
job_numbers (job.Picture fault) = picture_numbers fault
job_numbers job.TooLarge = (9, 0)
job_numbers job.NoMemory = (90, 0)
job_numbers job.ReadFailed = (90, 0)
job_numbers job.WriteFailed = (90, 0)

-- the fault of a file of characters, with its line
abbrev pub shapes_numbers : ShapesFault → ℕ × ℕ
shapes_numbers (shapes.Characters (BadLine line)) = (52, line)
shapes_numbers shapes.TooLarge = (9, 0)
shapes_numbers shapes.ReadFailed = (90, 0)
shapes_numbers shapes.NoMemory = (90, 0)

-- a listing's fault, with its line and its column
abbrev pub listing_numbers : ListingFault → ℕ × ℕ × ℕ
listing_numbers listing.NoAddress = (61, 0, 0)
listing_numbers (listing.CutOff line) = (62, line, 0)
listing_numbers (listing.UnknownName line column) = (63, line, column)
listing_numbers (listing.BadByte line column) = (64, line, column)
listing_numbers listing.NoLine = (65, 0, 0)
listing_numbers listing.NoMemory = (90, 0, 0)

-- the same of a listing that is read
abbrev pub text_numbers : TextFault → ℕ × ℕ × ℕ
text_numbers (text.Listing fault) = listing_numbers fault
text_numbers text.TooLarge = (9, 0, 0)
text_numbers text.ReadFailed = (90, 0, 0)
text_numbers text.NoMemory = (90, 0, 0)

-- an error of BASIC in a program, by the machine's number; with 50 where a script's run can have it too, whose place is a statement
abbrev pub error_number : BasicError → ℕ
error_number error.TooManyFiles = 51
error_number error.FileOpen = 52
error_number error.FileNotOpen = 53
error_number error.NotInputFile = 56
error_number error.NextWithoutFor = 10
error_number error.Syntax = 11
error_number error.ReturnWithoutGosub = 12
error_number error.OutOfData = 13
error_number error.IllegalQuantity = 14
error_number error.Overflow = 15
error_number error.UndefinedStatement = 17
error_number error.BadSubscript = 18
error_number error.RedimensionedArray = 19
error_number error.DivisionByZero = 20
error_number error.TypeMismatch = 22
error_number error.StringTooLong = 23
error_number error.FormulaTooComplex = 25
error_number error.UndefinedFunction = 27

-- what is refused in a program, with its line and its column
abbrev pub reason_numbers : (row column : ℕ) → Reason → ℕ × ℕ × ℕ
reason_numbers row column reason.NoLineNumber = (131, row, column)
reason_numbers row column reason.LargeLineNumber = (132, row, column)
reason_numbers row column reason.Syntax = (133, row, column)
reason_numbers row column reason.Name = (134, row, column)
reason_numbers row column reason.Byte = (135, row, column)
reason_numbers row column reason.NotTaken = (136, row, column)
reason_numbers row column reason.NotCertain = (137, row, column)
reason_numbers row column reason.Poke = (138, row, column)
reason_numbers row column reason.Device = (139, row, column)
reason_numbers row column reason.SecondAddress = (140, row, column)
reason_numbers row column reason.FileName = (141, row, column)
reason_numbers row column reason.LongList = (142, row, column)
reason_numbers row column reason.OpenFiles = (143, row, column)
reason_numbers row column reason.FullStack = (144, row, column)
reason_numbers row column reason.FullMemory = (145, row, column)

-- the fault of a program, with its line and its column
abbrev pub basic_numbers : BasicFault → ℕ × ℕ × ℕ
basic_numbers (basic.Refused row column why) = reason_numbers row column why
basic_numbers (basic.Listing why) = listing_numbers why
basic_numbers (basic.TooManySteps line) = (146, line, 0)
basic_numbers basic.NoMemory = (90, 0, 0)

-- how the program ends: the number of its fault, 0 for none, or 100 and that of the BASIC error that stopped a run; its place, the
-- statement of such an error; and its column
abbrev pub numbers_of : End → ℕ × ℕ × ℕ
numbers_of end.Done = (0, 0, 0)
numbers_of end.Stopped = (0, 0, 0)
numbers_of end.Lacking = (0, 0, 0)
numbers_of (end.StoppedAt statement stop) = (100 + stop_number stop, statement, 0)
numbers_of (end.Job fault) = ((job_numbers fault).0, (job_numbers fault).1, 0)
numbers_of (end.Broken error line) = (100 + error_number error, line, 0)
numbers_of (end.Basic fault) = basic_numbers fault
numbers_of (end.Listing fault) = text_numbers fault
numbers_of (end.Characters fault) = ((shapes_numbers fault).0, (shapes_numbers fault).1, 0)
numbers_of end.Words = (54, 0, 0)

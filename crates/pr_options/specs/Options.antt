-- Trusted: the values of the program's options.
use Rattle.std.specs.Prelude.{ℕ, ◌*◌, ◌^◌, ◌==◌, ◌&&◌, ◌∷◌, [], Bool, List, length, nat_lt, Option, Some, None, true, false, codes, if◌then◌else◌, find, option_and_then, option_map}
use Rattle.std.specs.Int.{div_ceil}
use Rattle.std.specs.List.{after_first, before_first, list_all, slice_split}
use Rattle.std.specs.Str.{bytes_eq}
use Rattle.clap.specs.Words.{Text}
use Rattle.pr_base.specs.Digits.{is_digit, number_of}
use Rattle.pr_capture.specs.Recording.{alike}
use Rattle.pr_capture.specs.TableTimes.{rate_given}
use Rattle.pr_capture.specs.Volts.{is_at_least, volts_in}
use Rattle.pr_capture.specs.declared.signals.Probes.{Probes}
use Rattle.pr_capture.specs.declared.volts.Threshold.{Threshold}
use Rattle.pr_capture.specs.declared.volts.Volts.{Volts}
use Rattle.pr_serial.specs.declared.Present.{Present}
use Rattle.pr_basic.specs.declared.session.StatusMode.{StatusMode}
use Rattle.pr_basic.specs.declared.session.StatusMode.TheVariants.{Each, Kept}
use Rattle.pr_dots.specs.declared.scale.Scale.{Scale}
use Rattle.pr_dots.specs.declared.scale.Scale.TheVariants as scale
use Rattle.pr_listing.specs.declared.form.ListingForm.TheVariants as form
use Rattle.pr_programs.specs.declared.form.Form.{Form}
use Rattle.pr_programs.specs.declared.form.Form.TheVariants.{Listing, Program, Either}
use Rattle.pr_render.specs.declared.format.Format.{Format}
use Rattle.pr_render.specs.declared.format.Format.TheVariants as format
use Rattle.pr_render.specs.Showing.{usual, whole}
use Rattle.pr_render.specs.declared.format.Device.{Device}
use Rattle.pr_render.specs.declared.format.Device.TheVariants as device
use Rattle.pr_render.specs.declared.format.Look.TheVariants.{Blocks}
use Rattle.pr_render.specs.declared.format.Size.{Size}
use Rattle.pr_render.specs.declared.format.Size.TheVariants as size
use Rattle.pr_capture.specs.declared.format.OutputFormat.{OutputFormat}
use Rattle.pr_capture.specs.declared.format.OutputFormat.TheVariants as trace
use Rattle.pr_capture.specs.declared.format.InputFormat.{InputFormat}
use Rattle.pr_capture.specs.declared.format.InputFormat.TheVariants as source
use Rattle.pr_options.specs.declared.outputs.CheckOutput.{CheckOutput}
use Rattle.pr_options.specs.declared.outputs.CheckOutput.TheVariants as checked
use Rattle.pr_report.specs.declared.report.Report.TheVariants as report
use Rattle.pr_report.specs.declared.detail.Bounds.{Bounds}
use Rattle.pr_report.specs.declared.detail.Bounds.TheVariants.{Profile, Guide}
use Rattle.pr_options.specs.declared.outputs.DecodeOutput.{DecodeOutput}
use Rattle.pr_options.specs.declared.outputs.DecodeOutput.TheVariants as reading
use Rattle.pr_options.specs.declared.outputs.Hearing.{Hearing}
use Rattle.pr_options.specs.declared.outputs.PagesOutput.{PagesOutput}
use Rattle.pr_options.specs.declared.outputs.PagesOutput.TheVariants as pages

-- the meaning of a word in a table
abbrev pub meaning_of : {A : Type 0} → List (Text × A) → Text → Option A
meaning_of table text = option_map (λ row. row.1) (find (λ row. bytes_eq text row.0) table)

-- which printers are present: none, 4, 5 or both
abbrev pub present_of : Text → Option Present
present_of = meaning_of ((codes "none", record { four = false; five = false })
    ∷ (codes "4", record { four = true; five = false })
    ∷ (codes "5", record { four = false; five = true })
    ∷ (codes "both", record { four = true; five = true }) ∷ [])

-- the steps that a run has at most, if words do not say it
abbrev pub usual_steps : ℕ
usual_steps = 10000000

-- the form of what a script is made of: of a listing text, prg, petcat, magazine, or auto, which the first bytes show;
-- basic, a program that is run; or bas, a script or else such a program
abbrev pub form_of : Text → Option Form
form_of = meaning_of (
    (codes "text", Listing form.Text) ∷ (codes "prg", Listing form.Program) ∷ (codes "petcat", Listing form.Petcat)
    ∷ (codes "magazine", Listing form.Magazine) ∷ (codes "auto", Listing form.Auto)
    ∷ (codes "basic", Program usual_steps) ∷ (codes "bas", Either usual_steps) ∷ [])

-- whether the status is kept from statement to statement: each (cleared) or kept
abbrev pub mode_of : Text → Option StatusMode
mode_of = meaning_of ((codes "each", Each) ∷ (codes "kept", Kept) ∷ [])

-- whether the character set is lower/upper case: upper (graphic/upper case) or lower
abbrev pub set_of : Text → Option Bool
set_of = meaning_of ((codes "upper", false) ∷ (codes "lower", true) ∷ [])

-- the format of a page: list, text, svg, png or pdf
abbrev pub format_of : Text → Option Format
format_of = meaning_of ((codes "list", format.List) ∷ (codes "text", format.Lines Blocks)
    ∷ (codes "svg", format.Svg whole) ∷ (codes "png", format.Png whole) ∷ (codes "pdf", format.Pdf None usual) ∷ [])

-- the output of `pages`: a format of its pages, or bytes, printer 4's if no option says more
abbrev pub pages_output_of : Text → Option PagesOutput
pages_output_of text =
    if bytes_eq text (codes "bytes") then Some (pages.Bytes device.Four) else option_map (λ format. pages.Pages format) (format_of text)

-- which printers listen when a recording begins: 4, 5 or 4,5
abbrev pub listening_of : Text → Option Present
listening_of = meaning_of ((codes "4", record { four = true; five = false })
    ∷ (codes "5", record { four = false; five = true })
    ∷ (codes "4,5", record { four = true; five = true }) ∷ [])

-- no printer listens then
abbrev pub unhearing : Hearing
unhearing = record { listening = record { four = false; five = false }; lower = false; is_strict = false }

-- the output of `decode`: its readings as a list or as json, the bytes that a printer hears, or a format of the pages;
-- a list without intervals, by this project's bounds, and bytes of printer 4, and no printer listens at first, if no
-- option says more
abbrev pub decode_output_of : Text → Option DecodeOutput
decode_output_of text =
    if bytes_eq text (codes "list") then Some (reading.Readings (record { intervals = false; bounds = Profile }))
    else (if bytes_eq text (codes "json") then Some reading.Json
    else (if bytes_eq text (codes "bytes") then Some (reading.Bytes device.Four unhearing)
    else option_map (λ format. reading.Pages format unhearing) (format_of text)))

-- the bounds that intervals are measured against: this project's profile or the Programmer's Reference Guide
abbrev pub bounds_of : Text → Option Bounds
bounds_of = meaning_of ((codes "profile", Profile) ∷ (codes "guide", Guide) ∷ [])

-- the samples in a second, as in 4M, or none
abbrev pub rate_of : Text → Option (Option ℕ)
rate_of text = if bytes_eq text (codes "none") then Some None else option_map (λ rate. Some rate) (rate_given text)

-- two voltages, if the second is at least the first
abbrev pub threshold_between : (low high : Option Volts) → Option Threshold
threshold_between (Some low) (Some high) =
    if is_at_least high low then Some (record { low = low; high = high }) else None
threshold_between _ _ = None

-- the volts from which on a line is 1, as in 1.5, and those below which it is 0, if they are others, as in 0.8,2
abbrev pub threshold_in : Text → Option Threshold
threshold_in text =
    if nat_lt (length (before_first (λ b. b == 44) text)) (length text)
    then threshold_between (volts_in 44 (before_first (λ b. b == 44) text)) (volts_in 44 (after_first (λ b. b == 44) text))
    else threshold_between (volts_in 44 text) (volts_in 44 text)

-- the same, or none
abbrev pub threshold_of : Text → Option (Option Threshold)
threshold_of text = if bytes_eq text (codes "none") then Some None else option_map (λ threshold. Some threshold) (threshold_in text)

-- a line by its name, whose probe inverts too
abbrev pub with_line : Probes → Text → Option Probes
with_line probes name =
    if bytes_eq name (codes "ATN") then Some (record probes { atn = true })
    else (if bytes_eq name (codes "CLOCK") then Some (record probes { clock = true })
    else (if bytes_eq name (codes "DATA") then Some (record probes { line = true }) else None))

abbrev pub with_lines : Probes → List Text → Option Probes
with_lines probes [] = Some probes
with_lines probes (name ∷ names) = option_and_then (λ more. with_lines more names) (with_line probes name)

-- the lines whose probes invert: none, or names separated by commas
abbrev pub inverted_of : Text → Option Probes
inverted_of [] = Some (alike false)
inverted_of (b ∷ bs) = with_lines (alike false) (slice_split (λ x. x == 44) (b ∷ bs))

-- the printer whose pages are drawn, or whose bytes are written: 4 or 5
abbrev pub device_of : Text → Option Device
device_of = meaning_of ((codes "4", device.Four) ∷ (codes "5", device.Five) ∷ [])

-- the format of a run's trace: text or vcd
abbrev pub trace_format_of : Text → Option OutputFormat
trace_format_of = meaning_of ((codes "text", trace.Text) ∷ (codes "vcd", trace.Vcd) ∷ [])

-- the format of a trace or a recording: text, vcd or csv
abbrev pub source_of : Text → Option InputFormat
source_of = meaning_of (
    (codes "text", source.Text) ∷ (codes "vcd", source.Vcd) ∷ (codes "csv", source.Csv) ∷ [])

-- the same, or auto, which names none: the first bytes show it
abbrev pub found_format_of : Text → Option (Option InputFormat)
found_format_of text = if bytes_eq text (codes "auto") then Some None else option_map (λ source. Some source) (source_of text)

-- what `check` writes: frames, story or json
abbrev pub report_of : Text → Option CheckOutput
report_of = meaning_of ((codes "frames", checked.Report report.Frames) ∷ (codes "story", checked.Report report.Story)
    ∷ (codes "json", checked.Json) ∷ [])

-- the moment at which a trace starts, in microseconds: decimal digits that spell a number below 2^64
abbrev pub start_of : Text → Option ℕ
start_of text =
    if nat_lt 0 (length text) && (list_all is_digit text && nat_lt (number_of text) (2 ^ 64))
    then Some (number_of text) else None

-- a number, multiplied, below 2^64
abbrev pub scaled : (factor : ℕ) → Option ℕ → Option ℕ
scaled factor None = None
scaled factor (Some n) = if nat_lt (n * factor) (2 ^ 64) then Some (n * factor) else None

-- a time in microseconds: a number of them, or one with a unit behind it: 1500, 1500us, 5ms, 2s
abbrev pub moment_of : Text → Option ℕ
moment_of text =
    if bytes_eq (after_first (λ b. b == 117) text) (codes "s") then start_of (before_first (λ b. b == 117) text)
    else (if bytes_eq (after_first (λ b. b == 109) text) (codes "s")
    then scaled 1000 (start_of (before_first (λ b. b == 109) text))
    else (if length (after_first (λ b. b == 115) text) == 0 && nat_lt (length (before_first (λ b. b == 115) text)) (length text)
    then scaled 1000000 (start_of (before_first (λ b. b == 115) text)) else start_of text))

-- nothing, or a minus in front, before a time
abbrev pub is_back : Text → Bool
is_back text = length (before_first (λ b. b == 45) text) == 0

-- how long before the recording's own moment 0 a trace starts, where there is a minus
abbrev pub before_of : Text → Option ℕ
before_of text = if is_back text then moment_of (after_first (λ b. b == 45) text) else None

-- the moment of a recording at which a trace starts: a time as above, or a minus and such a time; for the latter
-- it is 0, the recording's first moment, until that of its own moment 0 is known
abbrev pub from_time_of : Text → Option ℕ
from_time_of text = if is_back text then option_map (λ n. 0) (before_of text) else moment_of text

-- the longest pulse that is left out, in microseconds: a time as above, or nanoseconds, as in 200ns, rounded up
abbrev pub glitch_of : Text → Option ℕ
glitch_of text =
    if bytes_eq (after_first (λ b. b == 110) text) (codes "s")
    then option_map (λ n. div_ceil n 1000) (start_of (before_first (λ b. b == 110) text)) else moment_of text

-- the sheet of a number; sheets count from 1
abbrev pub sheet_numbered : ℕ → Option ℕ
sheet_numbered n = if n == 0 then None else Some n

-- the sheet that is drawn: decimal digits that spell a number from 1, below 2^64
abbrev pub sheet_of : Text → Option ℕ
sheet_of text = option_and_then sheet_numbered (start_of text)

-- these lines, if a sheet of 66 lines has more
abbrev pub top_numbered : ℕ → Option ℕ
top_numbered n = if nat_lt n 66 then Some n else None

-- how many lines the first row is below the upper edge of the paper: decimal digits that spell a number below 66
abbrev pub top_of : Text → Option ℕ
top_of text = option_and_then top_numbered (start_of text)

-- how many pixels a bitmap has for the place of a dot: 1 to 8
abbrev pub scale_of : Text → Option Scale
scale_of = meaning_of ((codes "1", scale.One) ∷ (codes "2", scale.Two) ∷ (codes "3", scale.Three) ∷ (codes "4", scale.Four)
    ∷ (codes "5", scale.Five) ∷ (codes "6", scale.Six) ∷ (codes "7", scale.Seven) ∷ (codes "8", scale.Eight) ∷ [])

-- the paper of a document: continuous, a4 or letter
abbrev pub paper_of : Text → Option Size
paper_of = meaning_of ((codes "continuous", size.Continuous) ∷ (codes "a4", size.A4) ∷ (codes "letter", size.Letter) ∷ [])

-- the steps that a run has at most: decimal digits that spell a number from 1, below 2^64
abbrev pub steps_of : Text → Option ℕ
steps_of text = option_and_then sheet_numbered (start_of text)

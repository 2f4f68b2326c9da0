-- Trusted: the job that a command line asks for, with clap's reading of the words.
use Rattle.std.specs.Prelude.{◌≡◌, ◌≢◌, ◌&&◌, ◌||◌, ⊤, ℕ, Bool, true, false, List, Option, Some, None, Result, Ok, Err, [], codes, is_none, is_some, not, ok_or, option_map, unwrap_or, if◌then◌else◌}
use Rattle.std.specs.Str.{bytes_eq}
use Rattle.clap.specs.Words.{IsAmong, Row, Text, fault_of, kind_of, subcommand_of, takes}
use Rattle.clap.specs.declared.error.kind.ErrorKind.TheVariants.{OutOfMemory}
use Rattle.pr_serial.specs.declared.Present.{Present}
use Rattle.pr_serial.specs.Bus.{DelayNumbers}
use Rattle.pr_bus.specs.declared.wires.Delays.{Delays}
use Rattle.pr_bus.specs.DelaysLeft.{numbers_left}
use Rattle.pr_basic.specs.declared.session.StatusMode.{StatusMode}
use Rattle.pr_programs.specs.declared.form.Form.{Form}
use Rattle.pr_programs.specs.declared.form.Form.TheVariants as form
use Rattle.pr_render.specs.Showing.{showing}
use Rattle.pr_render.specs.declared.format.Format.{Format}
use Rattle.pr_render.specs.declared.format.Format.TheVariants as format
use Rattle.pr_render.specs.declared.format.Layout.{Layout}
use Rattle.pr_render.specs.declared.format.Part.{Part}
use Rattle.pr_render.specs.declared.format.Size.{Size}
use Rattle.pr_render.specs.declared.format.Size.TheVariants.{Continuous, A4, Letter}
use Rattle.pr_render.specs.declared.format.Device.{Device}
use Rattle.pr_render.specs.declared.format.Device.TheVariants.{Four}
use Rattle.pr_capture.specs.declared.format.OutputFormat.{OutputFormat}
use Rattle.pr_capture.specs.declared.format.InputFormat.{InputFormat}
use Rattle.pr_capture.specs.declared.format.InputFormat.TheVariants as source
use Rattle.pr_capture.specs.declared.format.TraceInput.{TraceInput}
use Rattle.pr_capture.specs.declared.signals.Probes.{Probes}
use Rattle.pr_options.specs.declared.outputs.CheckOutput.{CheckOutput}
use Rattle.pr_report.specs.declared.detail.Detail.{Detail}
use Rattle.pr_options.specs.Rows as option
use Rattle.pr_options.specs.CommandLine.{print1525}
use Rattle.pr_options.specs.DelayLists.{delays_of}
use Rattle.pr_options.specs.Given.{characters_in, file_in, is_given, value_in}
use Rattle.pr_options.specs.Options.{before_of, bounds_of, decode_output_of, device_of, form_of, format_of, found_format_of, from_time_of, glitch_of, inverted_of, listening_of, mode_of, pages_output_of, paper_of, present_of, rate_of, report_of, scale_of, set_of, sheet_of, steps_of, threshold_of, top_of, trace_format_of, unhearing}
use Rattle.pr_options.specs.SignalNames.{Names, names_of, names_of_signals}
use Rattle.pr_options.specs.Values.{bad}
use Rattle.pr_options.specs.declared.command_line.Job.{Job}
use Rattle.pr_options.specs.declared.command_line.Job.TheVariants as job
use Rattle.pr_options.specs.declared.command_line.JobFault.{JobFault}
use Rattle.pr_options.specs.declared.options.Opt.{Opt}
use Rattle.pr_options.specs.declared.options.Opt.TheVariants as opt
use Rattle.pr_options.specs.declared.outputs.DecodeOutput.{DecodeOutput}
use Rattle.pr_options.specs.declared.outputs.DecodeOutput.TheVariants as reading
use Rattle.pr_options.specs.declared.outputs.Hearing.{Hearing}
use Rattle.pr_options.specs.declared.outputs.PagesOutput.{PagesOutput}
use Rattle.pr_options.specs.declared.outputs.PagesOutput.TheVariants as pages
use Rattle.pr_options.specs.declared.command_line.Task.{Task}
use Rattle.pr_options.specs.declared.command_line.JobFault.TheVariants as fault

-- how a script is run
pub record RunView : Type 0 where
  pub present : Present
  pub delays : DelayNumbers
  pub mode : StatusMode

-- how a trace or a recording is read
pub record InputView : Type 0 where
  pub source : InputFormat
  pub names : Names
  pub probes : Probes
  pub start : ℕ
  pub pulse : ℕ
  pub rate : Option ℕ

-- a job in plain values
pub data JobView : Type 0 where
  Pages : Form → RunView → PagesOutput → JobView
  Bus : Form → RunView → OutputFormat → JobView
  Script : Form → JobView
  Check : Bool → InputView → CheckOutput → JobView
  Decode : Bool → InputView → DecodeOutput → JobView
  Raw : Bool → Format → JobView

-- a job, how long before its recording's own moment 0 the trace starts, if it does, the file that it reads, the file
-- that it writes and the one of the characters that it draws, where words name them
pub record TaskView : Type 0 where
  pub job : JobView
  pub before : Option ℕ
  pub input : Option Text
  pub output : Option Text
  pub characters : Option Text

-- the plain values of an input
abbrev pub input_view : TraceInput → InputView
input_view i = record {
  source = i.source;
  names = names_of_signals i.signals;
  probes = i.signals.probes;
  start = i.start;
  pulse = i.pulse;
  rate = i.rate;
}

-- the plain values of how a script is run
abbrev pub view_of_run : Present → Delays → StatusMode → RunView
view_of_run present delays mode =
    record { present = present; delays = numbers_left delays; mode = mode }

-- the plain values of a job
abbrev pub job_view : Job → JobView
job_view (job.Pages form present delays mode output) =
    Pages form (view_of_run present delays mode) output
job_view (job.Bus form present delays mode format) =
    Bus form (view_of_run present delays mode) format
job_view (job.Script form) = Script form
job_view (job.Check is_found input output) = Check is_found (input_view input) output
job_view (job.Decode is_found input output) = Decode is_found (input_view input) output
job_view (job.Raw lower format) = Raw lower format

-- a job with its files, in plain values
abbrev pub task_view : Task → TaskView
task_view task = record {
  job = job_view task.job;
  before = task.before;
  input = option_map (λ name. name.now) task.input;
  output = option_map (λ name. name.now) task.output;
  characters = option_map (λ name. name.now) task.characters;
}

-- the next step with a value, or the first fault
infixl 10 ◌>>=◌
abbrev pub ◌>>=◌ : {A B : Type 0} → Result A JobFault → (A → Result B JobFault) → Result B JobFault
Ok value >>= next = next value
Err f >>= next = Err f

-- what an option's value means, or the fault of a value without a meaning
abbrev pub read : {A : Type 0} → Opt → (Text → Option A) → List Row → Result A JobFault
read o meaning rows = ok_or (meaning (value_in o rows)) (bad o)

-- the same of an option that words may leave out
abbrev pub read_if_given : {A : Type 0} → Opt → (Text → Option A) → List Row → Result (Option A) JobFault
read_if_given o meaning rows =
    if is_given o rows then (read o meaning rows >>= λ value. Ok (Some value)) else Ok None

-- how to run a script
abbrev pub wanted_run : List Row → Result RunView JobFault
wanted_run rows =
    read opt.Present present_of rows >>= λ present.
    read opt.Delays delays_of rows >>= λ delays.
    read opt.Status mode_of rows >>= λ mode.
    Ok (record { present = present; delays = delays; mode = mode })

-- an option is given that only a recording can have
abbrev pub wants_recording : List Row → Bool
wants_recording rows = is_given opt.Invert rows
    || (is_given opt.Names rows || (is_given opt.FromTime rows || is_given opt.Glitch rows))

-- an option is given that only a table can have
abbrev pub wants_table : List Row → Bool
wants_table rows = is_given opt.Rate rows || is_given opt.Threshold rows

-- the options that are given fit the source: with a trace text, none of a recording, and those of a table only with one
abbrev pub fitting : InputFormat → List Row → Result (Unit {0}) JobFault
fitting source.Text rows = if wants_recording rows then Err fault.NoRecording
    else (if wants_table rows then Err fault.NoTable else Ok tt)
fitting source.Vcd rows = if wants_table rows then Err fault.NoTable else Ok tt
fitting source.Csv rows = Ok tt

-- how to read a trace or a recording in this format
abbrev pub wanted_input : InputFormat → List Row → Result InputView JobFault
wanted_input source rows =
    read opt.Names names_of rows >>= λ names.
    read opt.Invert inverted_of rows >>= λ probes.
    read opt.FromTime from_time_of rows >>= λ start.
    read opt.Glitch glitch_of rows >>= λ pulse.
    read opt.Rate rate_of rows >>= λ rate.
    read opt.Threshold threshold_of rows >>= λ threshold.
    fitting source rows >>= λ fits.
    Ok (record {
      source = source;
      names = names;
      probes = record probes { threshold = threshold };
      start = start;
      pulse = pulse;
      rate = rate;
    })

-- continuous paper, which alone has holes
abbrev pub is_continuous : Size → Bool
is_continuous Continuous = true
is_continuous A4 = false
is_continuous Letter = false

-- how the pages lie on their paper: holes go with continuous paper alone
abbrev pub wanted_layout : List Row → Result Layout JobFault
wanted_layout rows =
    read opt.Top top_of rows >>= λ top.
    read opt.Paper paper_of rows >>= λ size.
    if is_given opt.Holes rows && not (is_continuous size) then Err fault.NoStrips
    else Ok (record { top = top; size = size; holes = is_given opt.Holes rows })

-- what of the pages is shown, and how they lie on their paper
abbrev pub wanted_part : List Row → Result Part JobFault
wanted_part rows =
    read_if_given opt.Device device_of rows >>= λ device.
    read_if_given opt.Sheet sheet_of rows >>= λ sheet.
    read opt.Scale scale_of rows >>= λ scale.
    wanted_layout rows >>= λ layout.
    Ok (record { device = device; sheet = sheet; layout = layout; scale = scale })

-- pages in this format are drawn
abbrev pub is_picture : Format → Bool
is_picture format.List = false
is_picture (format.Lines look) = false
is_picture (format.Svg part) = true
is_picture (format.Png part) = true
is_picture (format.Pdf device layout) = true

-- an option of paper or pixels is given
abbrev pub wants_paper : List Row → Bool
wants_paper rows = is_given opt.Scale rows || (is_given opt.Paper rows || is_given opt.Holes rows)

-- such an option is given that pages in this format have not: bitmaps have holes and pixels, documents paper and holes
abbrev pub wants_more : Format → List Row → Bool
wants_more format.List rows = wants_paper rows
wants_more (format.Lines look) rows = wants_paper rows
wants_more (format.Svg part) rows = wants_paper rows
wants_more (format.Png part) rows = is_given opt.Paper rows
wants_more (format.Pdf device layout) rows = is_given opt.Scale rows

-- a format, where no such option is given
abbrev pub printed : Format → List Row → Result Format JobFault
printed format rows = if wants_more format rows then Err fault.NoPaper else Ok format

-- an option is given that only pictures can have
abbrev pub wants_picture : List Row → Bool
wants_picture rows = is_some (characters_in rows) || is_given opt.Top rows

-- a format, where it is a picture or no option of pictures is given
abbrev pub drawn : Format → List Row → Result Format JobFault
drawn format rows = if is_picture format || not (wants_picture rows) then printed format rows else Err fault.NoPicture

-- a format that shows that part, with the characters of a file that is named
abbrev pub shown : Format → List Row → Result Format JobFault
shown format rows =
    wanted_part rows >>= λ part. ok_or (showing format part) fault.NoPart >>= λ shown. drawn shown rows

-- the printer whose bytes are written, 4 if none is named: bytes have no sheets and are no picture
abbrev pub heard : List Row → Result Device JobFault
heard rows =
    wanted_part rows >>= λ part.
    if is_some part.sheet then Err fault.NoPart
    else (if wants_picture rows then Err fault.NoPicture
    else (if wants_paper rows then Err fault.NoPaper else Ok (unwrap_or part.device Four)))

-- what of the intervals of readings is written: readings are no pictures, so they show no part and draw no characters
abbrev pub wanted_detail : List Row → Result Detail JobFault
wanted_detail rows =
    shown format.List rows >>= λ whole.
    read opt.Bounds bounds_of rows >>= λ bounds.
    Ok (record { intervals = is_given opt.Intervals rows; bounds = bounds })

-- an option is given that only a list of readings can have: JSON has all intervals, and no bounds
abbrev pub wants_readings : List Row → Bool
wants_readings rows = is_given opt.Intervals rows || is_given opt.Bounds rows

-- no option of a list of readings is given
abbrev pub unmeasured : List Row → Result (Unit {0}) JobFault
unmeasured rows =
    read opt.Bounds bounds_of rows >>= λ bounds.
    if wants_readings rows then Err fault.NoReadings else Ok tt

-- an option is given that only pages and bytes can have
abbrev pub wants_printers : List Row → Bool
wants_printers rows = is_given opt.Listening rows || (is_given opt.Set rows || is_given opt.Strict rows)

-- no option of pages and bytes is given
abbrev pub unprinted : List Row → Result (Unit {0}) JobFault
unprinted rows =
    read_if_given opt.Listening listening_of rows >>= λ listening.
    if wants_printers rows then Err fault.NoPages else Ok tt

-- a character set goes with printers that listen at first: any other is called, which selects one
abbrev pub hearing : (lower : Bool) → (listening : Option Present) → List Row → Result Hearing JobFault
hearing lower None rows = if is_given opt.Set rows then Err fault.NoListener
    else Ok (record unhearing { is_strict = is_given opt.Strict rows })
hearing lower (Some printers) rows =
    Ok (record { listening = printers; lower = lower; is_strict = is_given opt.Strict rows })

-- how what printers hear of a recording is written
abbrev pub wanted_hearing : (lower : Bool) → List Row → Result Hearing JobFault
wanted_hearing lower rows = read_if_given opt.Listening listening_of rows >>= λ listening. hearing lower listening rows

-- what is written, as the other options say
abbrev pub pages_output : PagesOutput → List Row → Result PagesOutput JobFault
pages_output (pages.Pages format) rows = shown format rows >>= λ shown. Ok (pages.Pages shown)
pages_output (pages.Bytes plain) rows = heard rows >>= λ device. Ok (pages.Bytes device)

abbrev pub decode_output : DecodeOutput → (lower : Bool) → List Row → Result DecodeOutput JobFault
decode_output (reading.Readings plain) lower rows =
    wanted_detail rows >>= λ detail. unprinted rows >>= λ none. Ok (reading.Readings detail)
decode_output reading.Json lower rows =
    shown format.List rows >>= λ whole. unmeasured rows >>= λ none. unprinted rows >>= λ none. Ok reading.Json
decode_output (reading.Bytes plain first) lower rows =
    heard rows >>= λ device. unmeasured rows >>= λ none.
    wanted_hearing lower rows >>= λ hearing. Ok (reading.Bytes device hearing)
decode_output (reading.Pages format first) lower rows =
    shown format rows >>= λ shown. unmeasured rows >>= λ none.
    wanted_hearing lower rows >>= λ hearing. Ok (reading.Pages shown hearing)

-- a recording whose format is not given is a trace text, or a table where something is given that goes with a
-- recording alone, if its first bytes do not show another one
abbrev pub unless_found : List Row → InputFormat
unless_found rows = if wants_recording rows || wants_table rows then source.Csv else source.Text

-- the jobs of the subcommands; each has its own values of --as. The first part of a job of `check` or `decode` says whether
-- the format is to be found in the first bytes, since no option gives it
abbrev pub wanted_check : List Row → Result JobView JobFault
wanted_check rows =
    read opt.From found_format_of rows >>= λ source.
    wanted_input (unwrap_or source (unless_found rows)) rows >>= λ input.
    read opt.ReportAs report_of rows >>= λ output.
    Ok (Check (is_none source) input output)

abbrev pub wanted_decode : Bool → List Row → Result JobView JobFault
wanted_decode lower rows =
    read opt.ReadingFrom found_format_of rows >>= λ source.
    wanted_input (unwrap_or source (unless_found rows)) rows >>= λ input.
    read opt.ReadingAs decode_output_of rows >>= λ plain.
    decode_output plain lower rows >>= λ output.
    Ok (Decode (is_none source) input output)

-- a form with the steps that a run has at most; without a run there are none to say
abbrev pub stepped : (steps : ℕ) → (is_said : Bool) → Form → Result Form JobFault
stepped steps is_said (form.Program usual) = Ok (form.Program steps)
stepped steps is_said (form.Either usual) = Ok (form.Either steps)
stepped steps is_said (form.Listing listing) =
    if is_said then Err fault.NoProgram else Ok (form.Listing listing)

-- the form of what a script is made of
abbrev pub wanted_form : List Row → Result Form JobFault
wanted_form rows =
    read opt.ListingFrom form_of rows >>= λ plain.
    read opt.Steps steps_of rows >>= λ steps.
    stepped steps (is_given opt.Steps rows) plain

-- the value of --as for the script itself
abbrev pub is_script : Text → Bool
is_script text = bytes_eq text (codes "script")

abbrev pub wanted_bus : RunView → List Row → Result JobView JobFault
wanted_bus run rows =
    wanted_form rows >>= λ form.
    if is_script (value_in opt.TraceAs rows) then Ok (Script form)
    else (read opt.TraceAs trace_format_of rows >>= λ format.
    Ok (Bus form run format))

abbrev pub wanted_raw : Bool → List Row → Result JobView JobFault
wanted_raw lower rows =
    read opt.RawAs format_of rows >>= λ format.
    shown format rows >>= λ shown.
    Ok (Raw lower shown)

abbrev pub wanted_pages : RunView → List Row → Result JobView JobFault
wanted_pages run rows =
    wanted_form rows >>= λ form.
    if is_script (value_in opt.PageAs rows) then (shown format.List rows >>= λ whole. Ok (Script form))
    else (read opt.PageAs pages_output_of rows >>= λ plain.
    pages_output plain rows >>= λ output.
    Ok (Pages form run output))

-- the job of a subcommand with these rows of options, or the first bad value: the options of a run
-- and --set are read for every subcommand, and the last subcommand is `pages`
abbrev pub wanted : Text → List Row → Result JobView JobFault
wanted name rows =
    wanted_run rows >>= λ run.
    read opt.Set set_of rows >>= λ lower.
    if bytes_eq name (codes "check") then wanted_check rows
    else (if bytes_eq name (codes "decode") then wanted_decode lower rows
    else (if bytes_eq name (codes "bus") then wanted_bus run rows
    else (if bytes_eq name (codes "raw") then wanted_raw lower rows
    else wanted_pages run rows)))

-- the same with the files that it reads and writes, and that of its characters
abbrev pub wanted_task : Text → List Row → Result TaskView JobFault
wanted_task name rows =
    wanted name rows >>= λ job.
    Ok (record {
      job = job;
      before = before_of (value_in opt.FromTime rows);
      input = file_in option.input rows;
      output = file_in option.output rows;
      characters = characters_in rows;
    })

-- the job that words ask for and its files, with the subcommand that they name
abbrev pub asked : List Text → Option (Result TaskView JobFault)
asked words = option_map (λ met. wanted_task met.0 met.1) (subcommand_of print1525 words)

-- why words ask for no job: clap refuses them, for one of the reasons that it has and not for lack
-- of memory; or memory was refused; or clap takes them, and this is their first bad value
abbrev pub IsRefused : List Text → JobFault → Type 0
IsRefused words (fault.Line e) = (kind_of e ≢ OutOfMemory)
    × (IsAmong (kind_of e) (fault_of print1525 words) × (takes print1525 words ≡ false))
IsRefused words fault.NoMemory = ⊤
IsRefused words f = (fault_of print1525 words ≡ []) × (asked words ≡ Some (Err f))

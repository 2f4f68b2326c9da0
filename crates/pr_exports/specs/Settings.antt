-- Trusted: what the numbers and bytes that a caller passes mean.
use Rattle.std.specs.Prelude.{◌≡◌, ℕ, ◌==◌, Bool, true, false, List, [], ◌∷◌, if◌then◌else◌, not, nat_lt, Option, Some, None, Result, Ok, take}
use Rattle.pr_characters.specs.File.{AnswersFile}
use Rattle.pr_characters.specs.declared.fault.CharactersFault.{CharactersFault}
use Rattle.pr_dots.specs.Shapes.{own_shapes}
use Rattle.pr_dots.specs.declared.character_sets.Shapes.{Shapes}
use Rattle.pr_dots.specs.declared.scale.Scale.{Scale}
use Rattle.pr_dots.specs.declared.scale.Scale.TheVariants as scale
use Rattle.pr_listing.specs.declared.form.ListingForm.{ListingForm}
use Rattle.pr_listing.specs.declared.form.ListingForm.TheVariants as listing
use Rattle.pr_capture.specs.Found.{found_format}
use Rattle.pr_capture.specs.Recording.{alike}
use Rattle.pr_render.specs.declared.format.Format.{Format}
use Rattle.pr_render.specs.declared.format.Layout.{Layout}
use Rattle.pr_render.specs.declared.format.Look.TheVariants.{Blocks}
use Rattle.pr_render.specs.declared.format.Size.{Size}
use Rattle.pr_render.specs.declared.format.Size.TheVariants as size
use Rattle.pr_render.specs.declared.format.Device.{Device}
use Rattle.pr_render.specs.declared.format.Device.TheVariants.{Four, Five}
use Rattle.pr_render.specs.declared.format.Format.TheVariants as format
use Rattle.pr_render.specs.Showing.{showing, usual, whole}
use Rattle.pr_report.specs.declared.detail.Bounds.TheVariants.{Guide, Profile}
use Rattle.pr_report.specs.declared.detail.Detail.{Detail}
use Rattle.pr_capture.specs.declared.format.InputFormat.{InputFormat}
use Rattle.pr_capture.specs.declared.format.InputFormat.TheVariants as source
use Rattle.pr_capture.specs.declared.format.TraceInput.{TraceInput}

-- the format of a recording: a trace text, a Value Change Dump, a table of comma separated values, or the one that its
-- first 4096 bytes show and else a text, or else a table
abbrev pub source_of : ℕ → (bytes : List ℕ) → Option InputFormat
source_of number bytes =
    if number == 0 then Some source.Text
    else (if number == 1 then Some source.Vcd
    else (if number == 2 then Some source.Csv
    else (if number == 3 then Some (found_format source.Text (take 4096 bytes))
    else (if number == 4 then Some (found_format source.Csv (take 4096 bytes)) else None))))

-- the shapes that are asked for: those of a file of characters, or this project's own where it is empty
abbrev pub AsksShapes : List ℕ → Result Shapes CharactersFault → Type 0
AsksShapes [] asked = asked ≡ Ok own_shapes
AsksShapes (b ∷ bs) asked = AnswersFile (b ∷ bs) asked

-- what is answered with them
abbrev pub WithShapes : List ℕ → (Result Shapes CharactersFault → Type 0) → Type 0
WithShapes characters Answers = (asked : Result Shapes CharactersFault) × AsksShapes characters asked × Answers asked

-- whether a number means yes
abbrev pub is_yes : ℕ → Bool
is_yes number = not (number == 0)

-- the form of a listing: the text of a script, a saved program, petcat's text, a magazine's listing, what the first bytes show
abbrev pub form_of : ℕ → Option ListingForm
form_of form =
    if form == 0 then Some listing.Text
    else (if form == 1 then Some listing.Program else (if form == 2 then Some listing.Petcat
    else (if form == 3 then Some listing.Magazine else (if form == 4 then Some listing.Auto else None))))

-- the format of pages: the page text, lines of 80 columns, an SVG document, a PNG file, or a PDF document
abbrev pub format_of : ℕ → Option Format
format_of number =
    if number == 0 then Some format.List
    else (if number == 1 then Some (format.Lines Blocks)
    else (if number == 2 then Some (format.Svg whole)
    else (if number == 3 then Some (format.Png whole) else (if number == 4 then Some (format.Pdf None usual) else None))))

-- the printers whose pages are shown: all, or one
abbrev pub device_of : ℕ → Option (Option Device)
device_of number =
    if number == 0 then Some None
    else (if number == 4 then Some (Some Four) else (if number == 5 then Some (Some Five) else None))

-- the paper of a document, and whether it and a bitmap show its holes: continuous paper without or with them, A4 or letter
abbrev pub paper_of : ℕ → Option (Size × Bool)
paper_of number =
    if number == 0 then Some (size.Continuous, false)
    else (if number == 1 then Some (size.Continuous, true)
    else (if number == 2 then Some (size.A4, false)
    else (if number == 3 then Some (size.Letter, false) else None)))

-- how the pages lie on this paper: this many lines above the first row, if a sheet has more
abbrev pub lying_on : (top : ℕ) → Option (Size × Bool) → Option Layout
lying_on top None = None
lying_on top (Some paper) =
    if nat_lt top 66 then Some (record { top = top; size = paper.0; holes = paper.1 }) else None

abbrev pub layout_of : (top paper : ℕ) → Option Layout
layout_of top paper = lying_on top (paper_of paper)

-- the pixels of a bitmap for the place of a dot: 1 to 8
abbrev pub scale_of : ℕ → Option Scale
scale_of number =
    if number == 1 then Some scale.One
    else (if number == 2 then Some scale.Two
    else (if number == 3 then Some scale.Three
    else (if number == 4 then Some scale.Four
    else (if number == 5 then Some scale.Five
    else (if number == 6 then Some scale.Six
    else (if number == 7 then Some scale.Seven
    else (if number == 8 then Some scale.Eight else None)))))))

-- the sheet that is shown: all, or one
abbrev pub sheet_of : ℕ → Option ℕ
sheet_of number = if number == 0 then None else Some number

-- a format that shows this part of the pages, if it can
abbrev pub shown_in : Option Format → Option (Option Device) → (sheet : Option ℕ) → Option Layout → Option Scale → Option Format
shown_in None device sheet layout scale = None
shown_in (Some format) None sheet layout scale = None
shown_in (Some format) (Some device) sheet None scale = None
shown_in (Some format) (Some device) sheet (Some layout) None = None
shown_in (Some format) (Some device) sheet (Some layout) (Some scale) =
    showing format (record { device = device; sheet = sheet; layout = layout; scale = scale })

abbrev pub shown_of : (format device sheet top paper scale : ℕ) → Option Format
shown_of format device sheet top paper scale =
    shown_in (format_of format) (device_of device) (sheet_of sheet) (layout_of top paper) (scale_of scale)

-- which intervals of a reading have a line: none, or those outside the bounds of the profile or of the guide
abbrev pub detail_of : ℕ → Option Detail
detail_of number =
    if number == 0 then Some (record { intervals = false; bounds = Profile })
    else (if number == 1 then Some (record { intervals = true; bounds = Profile })
    else (if number == 2 then Some (record { intervals = false; bounds = Guide })
    else (if number == 3 then Some (record { intervals = true; bounds = Guide }) else None)))

-- the samples in a second that are said of a table, if they are
abbrev pub rate_of : ℕ → Option ℕ
rate_of number = if number == 0 then None else Some number

-- a recording with these names of its signals, with levels as they are or all inverted, which starts at this microsecond
-- and has `rate` samples in a second, or says itself how many if `rate` is 0
pub record IsInput (source : InputFormat) (atn clock line : List ℕ) (is_inverted : Bool) (start rate : ℕ)
    (input : TraceInput) : Type 0 where
  pub of_source : input.source ≡ source
  pub of_atn : input.signals.atn.now ≡ atn
  pub of_clock : input.signals.clock.now ≡ clock
  pub of_line : input.signals.line.now ≡ line
  pub of_probes : input.signals.probes ≡ alike is_inverted
  pub of_start : input.start ≡ start
  pub of_pulse : input.pulse ≡ 0
  pub of_rate : input.rate ≡ rate_of rate

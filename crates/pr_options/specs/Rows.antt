-- Trusted: the program's options, a row for each: their names, their defaults, what the endings of file names say, and
-- what help says of them; and the options of each subcommand.
use Rattle.std.specs.Prelude.{◌∷◌, ℕ, [], List, Option, Some, None, codes}
use Rattle.clap.specs.Words.{Text}
use Rattle.pr_options.specs.declared.options.Kind.{Kind}
use Rattle.pr_options.specs.declared.options.Kind.TheVariants.{Value, Lines, Flag, File}
use Rattle.pr_options.specs.declared.options.Opt.{Opt}
use Rattle.pr_options.specs.declared.options.Opt.TheVariants as opt
use Rattle.pr_options.specs.declared.options.Subcommand.{Subcommand}
use Rattle.pr_options.specs.declared.options.Subcommand.TheVariants.{Pages, Bus, Check, Decode, Raw}
use Rattle.pr_options.specs.declared.options.TheConstants.{BOUNDS_HELP, BOUNDS_VALUES, CHARACTERS_HELP, DELAYS_HELP, DELAYS_VALUES, DEVICE_HELP, DEVICE_VALUES, EXPLAIN_HELP, FROM_HELP, FROM_TIME_HELP, FROM_TIME_VALUES, FROM_VALUES, GLITCH_HELP, GLITCH_VALUES, HOLES_HELP, INTERVALS_HELP, INVERT_HELP, INVERT_VALUES, LISTENING_HELP, LISTENING_VALUES, LISTING_FROM_HELP, LISTING_FROM_VALUES, NAMES_HELP, NAMES_VALUES, PAGE_AS_HELP, PAGE_AS_VALUES, PAPER_HELP, PAPER_VALUES, PRESENT_HELP, PRESENT_VALUES, QUIET_HELP, RATE_HELP, RATE_VALUES, RAW_AS_HELP, RAW_AS_VALUES, RAW_DEVICE_HELP, READING_AS_HELP, READING_AS_VALUES, READING_FROM_HELP, REPORT_AS_HELP, REPORT_AS_VALUES, SCALE_HELP, SCALE_VALUES, SET_HELP, SET_VALUES, SHEET_HELP, SHEET_VALUES, STATUS_HELP, STATUS_VALUES, STEPS_HELP, STEPS_VALUES, STRICT_HELP, THRESHOLD_HELP, THRESHOLD_VALUES, TOP_HELP, TOP_VALUES, TRACE_AS_HELP, TRACE_AS_VALUES}

-- an option: what follows its name (a value, lines of the bus, nothing, or a file's name); its name; the value where nothing else gives
-- one; the values that the endings of a file's name give, where the argument `file` names one; and its values, in a few
-- words and as help says them
pub record OptionRow : Type 0 where
  pub kind : Kind
  pub name : Text
  pub default : Text
  pub file : Text
  pub endings : List (Text × Text)
  pub values : Text
  pub help : Text

-- the file that is read; words give it without a name of an option
abbrev pub input : Text
input = codes "file"

-- the file that is written
abbrev pub output : Text
output = codes "output"

-- an option whose value no file's name gives: its name, its default, its values and its help
abbrev pub plain : (name default values help : Text) → OptionRow
plain name default values help =
    record { kind = Value; name = name; default = default; file = []; endings = []; values = values; help = help }

-- an option whose value the ending of a file's name can give
abbrev pub by_file : Text → List (Text × Text) → OptionRow → OptionRow
by_file file endings option = record option { file = file; endings = endings }

-- an option without a value, or one that names a file
abbrev pub no_value : Kind → (name help : Text) → OptionRow
no_value kind name help = record (plain name [] [] help) { kind = kind }

-- what the endings of a listing's name say
abbrev pub listing_endings : List (Text × Text)
listing_endings = (codes ".prg", codes "prg") ∷ (codes ".p00", codes "prg") ∷ (codes ".t64", codes "prg")
    ∷ (codes ".petcat", codes "petcat") ∷ (codes ".bas", codes "bas") ∷ (codes ".txt", codes "text") ∷ []

-- what the endings of a recording's name say
abbrev pub recording_endings : List (Text × Text)
recording_endings = (codes ".vcd", codes "vcd") ∷ (codes ".csv", codes "csv") ∷ (codes ".trace", codes "text") ∷ []

-- what the endings of a page's name say
abbrev pub page_endings : List (Text × Text)
page_endings = (codes ".svg", codes "svg") ∷ (codes ".png", codes "png") ∷ (codes ".pdf", codes "pdf") ∷ (codes ".txt", codes "text") ∷ []

-- what the endings of a trace's name say
abbrev pub trace_endings : List (Text × Text)
trace_endings = (codes ".vcd", codes "vcd") ∷ []

-- what the endings of a report's name say
abbrev pub report_endings : List (Text × Text)
report_endings = (codes ".json", codes "json") ∷ []

-- what the endings of a reading's name say
abbrev pub reading_endings : List (Text × Text)
reading_endings = (codes ".svg", codes "svg") ∷ (codes ".png", codes "png") ∷ (codes ".pdf", codes "pdf") ∷ (codes ".json", codes "json") ∷ []

-- what the endings of files say that are no listing: values that are none; any other name says nothing, so the first bytes
-- show the form
abbrev pub foreign_listings : List (Text × Text)
foreign_listings = (codes ".d64", codes "d64") ∷ (codes ".d71", codes "d71") ∷ (codes ".d80", codes "d80")
    ∷ (codes ".d81", codes "d81") ∷ (codes ".d82", codes "d82") ∷ (codes ".g64", codes "g64")
    ∷ (codes ".g71", codes "g71") ∷ (codes ".nib", codes "nib") ∷ (codes ".s00", codes "s00")
    ∷ (codes ".u00", codes "u00") ∷ (codes ".r00", codes "r00") ∷ (codes ".tap", codes "tap") ∷ (codes ".crt", codes "crt") ∷ (codes ".lnx", codes "lnx") ∷ (codes ".gz", codes "gz")
    ∷ (codes ".xz", codes "xz") ∷ (codes ".zip", codes "zip") ∷ (codes ".7z", codes "7z")
    ∷ (codes ".rar", codes "rar") ∷ (codes ".vcd", codes "vcd") ∷ (codes ".svg", codes "svg")
    ∷ (codes ".png", codes "png") ∷ (codes ".pdf", codes "pdf")
    ∷ (codes "", codes "auto") ∷ []

-- the same of files that are no recording which is read
abbrev pub foreign_recordings : List (Text × Text)
foreign_recordings = (codes ".fst", codes "fst") ∷ (codes ".ghw", codes "ghw") ∷ (codes ".lxt", codes "lxt")
    ∷ (codes ".gz", codes "gz") ∷ (codes ".xz", codes "xz") ∷ (codes ".zip", codes "zip")
    ∷ (codes ".7z", codes "7z") ∷ (codes ".rar", codes "rar") ∷ (codes "", codes "auto") ∷ []

-- the same of files that other programs write, or other subcommands
abbrev pub foreign_outputs : List (Text × Text)
foreign_outputs = (codes ".svg", codes "svg") ∷ (codes ".png", codes "png") ∷ (codes ".pdf", codes "pdf")
    ∷ (codes ".json", codes "json") ∷ (codes ".vcd", codes "vcd") ∷ (codes ".csv", codes "csv")
    ∷ (codes ".jpg", codes "jpg") ∷ (codes ".jpeg", codes "jpeg") ∷ (codes ".gif", codes "gif")
    ∷ (codes ".bmp", codes "bmp") ∷ (codes ".tif", codes "tif") ∷ (codes ".tiff", codes "tiff")
    ∷ (codes ".webp", codes "webp") ∷ (codes ".ps", codes "ps") ∷ (codes ".eps", codes "eps")
    ∷ (codes ".htm", codes "htm") ∷ (codes ".html", codes "html") ∷ (codes ".doc", codes "doc")
    ∷ (codes ".docx", codes "docx") ∷ (codes ".odt", codes "odt") ∷ (codes ".rtf", codes "rtf")
    ∷ (codes ".xml", codes "xml") ∷ (codes ".svgz", codes "svgz") ∷ (codes ".gz", codes "gz")
    ∷ (codes ".tgz", codes "tgz") ∷ (codes ".xz", codes "xz") ∷ (codes ".zip", codes "zip")
    ∷ (codes ".7z", codes "7z") ∷ (codes ".rar", codes "rar") ∷ (codes ".bas", codes "bas")
    ∷ (codes ".prg", codes "prg") ∷ (codes ".petcat", codes "petcat") ∷ []

-- the row of an option
abbrev pub row : Opt → OptionRow
row opt.ListingFrom =
    by_file input listing_endings (plain (codes "from") (codes "text") LISTING_FROM_VALUES.now LISTING_FROM_HELP.now)
row opt.Steps = plain (codes "steps") (codes "10000000") STEPS_VALUES.now STEPS_HELP.now
row opt.From = by_file input recording_endings (plain (codes "from") (codes "text") FROM_VALUES.now FROM_HELP.now)
row opt.ReadingFrom =
    by_file input recording_endings (plain (codes "from") (codes "auto") FROM_VALUES.now READING_FROM_HELP.now)
row opt.Present = plain (codes "present") (codes "both") PRESENT_VALUES.now PRESENT_HELP.now
row opt.Delays = plain (codes "delays") [] DELAYS_VALUES.now DELAYS_HELP.now
row opt.Status = plain (codes "status") (codes "each") STATUS_VALUES.now STATUS_HELP.now
row opt.Set = plain (codes "set") (codes "upper") SET_VALUES.now SET_HELP.now
row opt.Names = plain (codes "names") (codes "ATN,CLOCK,DATA") NAMES_VALUES.now NAMES_HELP.now
row opt.Invert = record (plain (codes "invert") [] INVERT_VALUES.now INVERT_HELP.now) { kind = Lines }
row opt.FromTime = plain (codes "from-time") (codes "0") FROM_TIME_VALUES.now FROM_TIME_HELP.now
row opt.Glitch = plain (codes "glitch") (codes "0") GLITCH_VALUES.now GLITCH_HELP.now
row opt.Rate = plain (codes "rate") (codes "none") RATE_VALUES.now RATE_HELP.now
row opt.Threshold = plain (codes "threshold") (codes "none") THRESHOLD_VALUES.now THRESHOLD_HELP.now
row opt.PageAs = by_file output page_endings (plain (codes "as") (codes "list") PAGE_AS_VALUES.now PAGE_AS_HELP.now)
row opt.RawAs = by_file output page_endings (plain (codes "as") (codes "list") RAW_AS_VALUES.now RAW_AS_HELP.now)
row opt.TraceAs =
    by_file output trace_endings (plain (codes "as") (codes "text") TRACE_AS_VALUES.now TRACE_AS_HELP.now)
row opt.ReportAs =
    by_file output report_endings (plain (codes "as") (codes "frames") REPORT_AS_VALUES.now REPORT_AS_HELP.now)
row opt.ReadingAs =
    by_file output reading_endings (plain (codes "as") (codes "list") READING_AS_VALUES.now READING_AS_HELP.now)
row opt.Explain = no_value Flag (codes "explain") EXPLAIN_HELP.now
row opt.Quiet = no_value Flag (codes "quiet") QUIET_HELP.now
row opt.Device = plain (codes "device") [] DEVICE_VALUES.now DEVICE_HELP.now
row opt.RawDevice = plain (codes "device") [] DEVICE_VALUES.now RAW_DEVICE_HELP.now
row opt.Sheet = plain (codes "sheet") [] SHEET_VALUES.now SHEET_HELP.now
row opt.Scale = plain (codes "scale") (codes "2") SCALE_VALUES.now SCALE_HELP.now
row opt.Top = plain (codes "top") (codes "3") TOP_VALUES.now TOP_HELP.now
row opt.Paper = plain (codes "paper") (codes "continuous") PAPER_VALUES.now PAPER_HELP.now
row opt.Holes = no_value Flag (codes "holes") HOLES_HELP.now
row opt.Characters = no_value File (codes "characters") CHARACTERS_HELP.now
row opt.Intervals = no_value Flag (codes "intervals") INTERVALS_HELP.now
row opt.Bounds = plain (codes "bounds") (codes "profile") BOUNDS_VALUES.now BOUNDS_HELP.now
row opt.Listening = plain (codes "listening") [] LISTENING_VALUES.now LISTENING_HELP.now
row opt.Strict = no_value Flag (codes "strict") STRICT_HELP.now

-- what the endings of a file's name say that no format has: values that are none of the option; or, of any other input, auto
abbrev pub foreign : Opt → List (Text × Text)
foreign opt.ListingFrom = foreign_listings
foreign opt.From = foreign_recordings
foreign opt.ReadingFrom = foreign_recordings
foreign opt.PageAs = foreign_outputs
foreign opt.RawAs = foreign_outputs
foreign opt.TraceAs = foreign_outputs
foreign opt.ReportAs = foreign_outputs
foreign opt.ReadingAs = foreign_outputs
foreign _ = []

-- the letter that serves for the name of a flag: `-q` (113)
abbrev pub letter : Opt → Option ℕ
letter opt.Quiet = Some 113
letter _ = None

-- the name of a subcommand
abbrev pub command_name : Subcommand → Text
command_name Pages = codes "pages"
command_name Bus = codes "bus"
command_name Check = codes "check"
command_name Decode = codes "decode"
command_name Raw = codes "raw"

-- the options of a subcommand, in the order in which help has them; a bad value is reported in this order too, after
-- those of `--present`, `--delays` and `--status`
abbrev pub options_of : Subcommand → List Opt
options_of Pages = opt.ListingFrom ∷ opt.Steps ∷ opt.Present ∷ opt.Delays ∷ opt.Status ∷ opt.PageAs ∷ opt.Explain
    ∷ opt.Quiet ∷ opt.Device ∷ opt.Sheet ∷ opt.Scale ∷ opt.Top ∷ opt.Paper ∷ opt.Holes ∷ opt.Characters ∷ []
options_of Bus = opt.ListingFrom ∷ opt.Steps ∷ opt.Present ∷ opt.Delays ∷ opt.Status ∷ opt.TraceAs ∷ opt.Explain
    ∷ opt.Quiet ∷ []
options_of Check = opt.From ∷ opt.Names ∷ opt.Invert ∷ opt.FromTime ∷ opt.Glitch ∷ opt.Rate ∷ opt.Threshold ∷ opt.ReportAs
    ∷ opt.Explain ∷ opt.Quiet ∷ []
options_of Decode = opt.ReadingFrom ∷ opt.Names ∷ opt.Invert ∷ opt.FromTime ∷ opt.Glitch ∷ opt.Rate ∷ opt.Threshold ∷ opt.ReadingAs
    ∷ opt.Explain ∷ opt.Quiet ∷ opt.Device ∷ opt.Sheet ∷ opt.Scale ∷ opt.Top ∷ opt.Paper ∷ opt.Holes ∷ opt.Characters ∷ opt.Intervals ∷ opt.Bounds
    ∷ opt.Listening ∷ opt.Set ∷ opt.Strict ∷ []
options_of Raw = opt.Set ∷ opt.RawAs ∷ opt.Explain ∷ opt.Quiet ∷ opt.RawDevice ∷ opt.Sheet ∷ opt.Scale ∷ opt.Top ∷ opt.Paper ∷ opt.Holes ∷ opt.Characters ∷ []

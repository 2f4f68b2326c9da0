-- Linking words, for proofs: what a reader of a trace in any format has given, and which edges were made of it. No reader needs to
-- believe them.
use Rattle.std.specs.Prelude.{◌≡◌, ℕ, List, [], ◌∷◌, ◌++◌, Option, Some, None}
use Rattle.std.specs.Option.{option_to_list}
use Rattle.pr_wire.specs.declared.Edge.{Edge}
use Rattle.pr_wire.specs.declared.Levels.{Levels}
use Rattle.pr_wire.specs.TraceReading as text
use Rattle.pr_capture.specs.declared.edge_detector.EdgeDetector.{EdgeDetector}
use Rattle.pr_capture.specs.CsvSteps as csv
use Rattle.pr_capture.specs.VcdSteps as vcd
use Rattle.pr_capture.specs.Gathering as gathering
use Rattle.pr_capture.specs.Pulses.{without_pulses}
use Rattle.pr_capture.specs.Samples.{edges_of}
use Rattle.pr_capture.specs.Sifting.{HasSifted}
use Rattle.pr_capture.specs.declared.format.InputFormat.TheVariants as source
use Rattle.pr_capture.specs.declared.format.TraceInput.{TraceInput}
use Rattle.pr_capture.specs.declared.pulse_filter.PulseFilter.{PulseFilter}
use Rattle.pr_jobs.specs.Report.{edges_found, edges_made, steadied, SaysSamples}
use Rattle.pr_jobs.specs.declared.edge_maker.EdgeMaker.{EdgeMaker}
use Rattle.pr_jobs.specs.declared.source_reader.SourceReader.{SourceReader}
use Rattle.pr_jobs.specs.declared.source_reader.SourceReader.TheVariants as reader
use Rattle.pr_jobs.specs.declared.fault.CliFault.{CliFault}

-- Readers.

-- how many lines a reader has read, with the one that has begun in some formats
abbrev pub lines_read : SourceReader → ℕ
lines_read (reader.Text r) = text.edge_count r
lines_read (reader.Vcd r) = vcd.line_number r
lines_read (reader.Csv r) = csv.line_number r

-- the reader has taken a text in the format of the input, and has given these samples, or edges
abbrev pub HasGiven : TraceInput → (text : List ℕ) → (samples : List Edge) → SourceReader → Type 0
HasGiven input t samples (reader.Text r) = (input.source ≡ source.Text) × text.HasReadTrace t samples r
HasGiven input t samples (reader.Vcd r) = (input.source ≡ source.Vcd) × vcd.HasReadDump input.signals t samples r
HasGiven input t samples (reader.Csv r) = (input.source ≡ source.Csv) × csv.HasReadTable input.signals input.rate t samples r

-- whatever follows the text that a reader has taken, the samples that it has given come first
abbrev pub GivenSamplesComeFirst : Type 0
GivenSamplesComeFirst =
    (input : TraceInput) (t more : List ℕ) (given samples : List Edge) (fault : Option CliFault) (r : SourceReader)
    → HasGiven input t given r
    → SaysSamples input input.source (t ++ more) samples fault → (later : List Edge) × (samples ≡ given ++ later)

-- each text says something in each format
abbrev pub EachTextSaysSamples : Type 0
EachTextSaysSamples =
    (input : TraceInput) (t : List ℕ) → (samples : List Edge) × (fault : Option CliFault)
    × SaysSamples input input.source t samples fault

-- Makers of edges.

-- a detector has found these edges in these samples, or the input has edges
abbrev pub HasGathered : TraceInput → (samples found : List Edge) → Option EdgeDetector → Type 0
HasGathered input samples found None = (input.source ≡ source.Text) × (found ≡ samples)
HasGathered input samples found (Some g) =
    ((ss : List Edge) → edges_found input.source input.start ss ≡ edges_of input.start ss)
    × gathering.HasGathered input.start samples found g

-- a filter has taken these edges, and has given these; or none is left out
abbrev pub HasSteadied : (pulse : ℕ) → (found edges : List Edge) → Option PulseFilter → Type 0
HasSteadied pulse found edges None = (pulse ≡ 0) × (edges ≡ found)
HasSteadied pulse found edges (Some f) =
    ((es : List Edge) → steadied pulse es ≡ without_pulses pulse es) × HasSifted pulse found edges f

-- these edges were made of these samples
pub record HasMade (input : TraceInput) (samples edges : List Edge) (m : EdgeMaker) : Type 0 where
  pub found : List Edge
  pub gathered : HasGathered input samples found m.detector
  pub is_steadied : HasSteadied input.pulse found edges m.filter

-- with a sample more this edge was found, if one was
abbrev pub FindsMore : (sample : Edge) → (old : Option EdgeDetector) → (found : Option Edge)
    → (new : Option EdgeDetector) → Type 0
FindsMore sample old e new = (input : TraceInput) (samples found : List Edge) → HasGathered input samples found old
    → HasGathered input (samples ++ sample ∷ []) (found ++ option_to_list e) new

-- and at the end
abbrev pub FindsAll : Option EdgeDetector → (last : Option Edge) → Type 0
FindsAll g last = (input : TraceInput) (samples found : List Edge) → HasGathered input samples found g
    → edges_found input.source input.start samples ≡ found ++ option_to_list last

-- with an edge found, if one was, this one is given, if one is
abbrev pub SteadiesMore : (found : Option Edge) → (old : Option PulseFilter) → (known : Option Edge)
    → (new : Option PulseFilter) → Type 0
SteadiesMore e old known new = (pulse : ℕ) (found edges : List Edge) → HasSteadied pulse found edges old
    → HasSteadied pulse (found ++ option_to_list e) (edges ++ option_to_list known) new

-- and at the end
abbrev pub SteadiesAll : Option PulseFilter → (there all : List Edge) → Type 0
SteadiesAll f there all = (pulse : ℕ) (found before : List Edge) → HasSteadied pulse found (before ++ there) f
    → steadied pulse found ≡ before ++ all

-- the levels of the last sample, if samples that have them make no edge
abbrev pub settled_of : Option EdgeDetector → Option Levels
settled_of None = None
settled_of (Some g) = gathering.settled g

abbrev pub settled_in : EdgeMaker → Option Levels
settled_in m = settled_of m.detector

-- whatever samples follow those that a maker has taken, the edges that it has given come first
abbrev pub MadeEdgesComeFirst : Type 0
MadeEdgesComeFirst =
    (input : TraceInput) (samples more edges : List Edge) (m : EdgeMaker) → HasMade input samples edges m
    → (later : List Edge) × (edges_made input.source input.start input.pulse (samples ++ more) ≡ edges ++ later)

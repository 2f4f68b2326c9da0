-- Linking words, for proofs: which edges were read of an input that comes block by block. No reader needs to believe them.
use Rattle.std.specs.Prelude.{◌≡◌, ℕ, ◌+◌, ◌<◌, ◌≤◌, List, [], ◌++◌, length, Option, Some, None, IfSome}
use Rattle.std.specs.Io.KnownBytes.{Consumes}
use Rattle.std.specs.Option.{option_to_list}
use Rattle.pr_wire.specs.declared.Edge.{Edge}
use Rattle.pr_capture.specs.declared.format.TraceInput.{TraceInput}
use Rattle.pr_jobs.specs.Report.{IsOwnFault, Says, SaysSamples}
use Rattle.pr_jobs.specs.Sources.{HasGiven, HasMade, lines_read}
use Rattle.pr_jobs.specs.declared.edge_maker.EdgeMaker.{EdgeMaker}
use Rattle.pr_jobs.specs.declared.edge_reader.EdgeReader.{EdgeReader}
use Rattle.pr_jobs.specs.declared.input_reader.InputReader.{InputReader}
use Rattle.pr_jobs.specs.declared.source_reader.SourceReader.{SourceReader}
use Rattle.pr_jobs.specs.declared.fault.CliFault.{CliFault}

-- What an input says.

-- an input says these edges first
pub record SaysFirst (input : TraceInput) (text : List ℕ) (given : List Edge) : Type 0 where
  pub edges : List Edge
  pub fault : Option CliFault
  pub says : Says input text edges fault
  pub later : List Edge
  pub first : edges ≡ given ++ later

-- the bytes of an input in blocks.

-- a text was taken, and these edges of it are known
pub record HasReached (input : TraceInput) (text : List ℕ) (edges : List Edge) (r : SourceReader)
    (m : EdgeMaker) : Type 0 where
  pub samples : List Edge
  pub given : HasGiven input text samples r
  pub made : HasMade input samples edges m

-- whatever follows, an input says samples that make these edges, and then has this fault
pub record IsFaulty (input : TraceInput) (text : List ℕ) (edges : List Edge) (m : EdgeMaker)
    (f : CliFault) : Type 0 where
  pub samples : List Edge
  pub says : SaysSamples input input.source text samples (Some f)
  pub made : HasMade input samples edges m

-- and the text has no fault, or has this one whatever follows
abbrev pub HasReachedOr : TraceInput → (text : List ℕ) → (edges : List Edge) → SourceReader → EdgeMaker
    → Option CliFault → Type 0
HasReachedOr input text edges r m None = HasReached input text edges r m
HasReachedOr input text edges r m (Some f) = IsOwnFault f × ((more : List ℕ) → IsFaulty input (text ++ more) edges m f)

-- bytes more were taken, which make no edge known
abbrev pub SkipsFront : (bytes : List ℕ) → SourceReader → EdgeMaker → SourceReader → EdgeMaker → Type 0
SkipsFront bytes r m s n = (input : TraceInput) (text : List ℕ) (edges : List Edge) → HasReached input text edges r m
    → HasReached input (text ++ bytes) edges s n

-- with a sample more, if there is one, these edges are known
abbrev pub AddsSample : Option Edge → (there : List Edge) → EdgeMaker → (all : List Edge) → EdgeMaker → Type 0
AddsSample sample there old all new =
    (input : TraceInput) (samples before : List Edge) → HasMade input samples (before ++ there) old
    → HasMade input (samples ++ option_to_list sample) (before ++ all) new

-- the edges that a block makes known come after those there
abbrev pub GivesBlock :
    (block : List ℕ) → (there : List Edge) → SourceReader → EdgeMaker → Option CliFault → (all : List Edge)
    → SourceReader → EdgeMaker → Type 0
GivesBlock block there r m fault all s n =
    (input : TraceInput) (text : List ℕ) (before : List Edge) → HasReached input text (before ++ there) r m
    → HasReachedOr input (text ++ block) (before ++ all) s n fault

-- what an input says that has had no fault before its end
abbrev pub EndsSource : SourceReader → EdgeMaker → (there all : List Edge) → Option CliFault → Type 0
EndsSource r m there all fault =
    (input : TraceInput) (text : List ℕ) (before : List Edge) → HasReached input text (before ++ there) r m
    → Says input text (before ++ all) fault × IfSome fault IsOwnFault

-- the edges of the last block
abbrev pub edges_in : EdgeReader → List Edge
edges_in r = r.edges.items

-- the fault of the text that a reader has taken, if it has one
abbrev pub fault_in : EdgeReader → Option CliFault
fault_in r = r.fault

-- how many lines were read of an input that may go on, with the one that has begun in some formats
abbrev pub lines_at : Option CliFault → SourceReader → ℕ
lines_at None r = lines_read r
lines_at (Some f) r = 0

abbrev pub lines_taken : EdgeReader → ℕ
lines_taken r = lines_at r.fault r.reader

-- the reader has taken this text: these edges of it are known, and then those of the last block
abbrev pub HasEdges : TraceInput → (text : List ℕ) → (given : List Edge) → EdgeReader → Type 0
HasEdges input text given r = HasReachedOr input text (given ++ edges_in r) r.reader r.maker r.fault

-- Reading blocks.

-- the edges of the last block
abbrev pub edges_read : InputReader → List Edge
edges_read r = edges_in r.edges

-- the input has had its fault
abbrev pub fault_read : InputReader → Option CliFault
fault_read r = fault_in r.edges

-- how many bytes may still come
abbrev pub bytes_left : InputReader → ℕ
bytes_left r = r.left

-- how many lines were read, or may still be: each takes at least a byte
abbrev pub lines_ahead : InputReader → ℕ
lines_ahead r = lines_taken r.edges + r.left

-- these bytes came from a reader: these edges of them are known, and then those of the last block; the rest of the limit may still come
pub record HasReadEdges (limit : ℕ) (start now : Option (List ℕ)) (input : TraceInput) (given : List Edge)
    (r : InputReader) : Type 0 where
  pub text : List ℕ
  pub taken : Consumes start now text
  pub known : HasEdges input text given r.edges
  pub room : length text + r.left ≡ limit

-- Laws.

-- whatever follows what was read of an input, it says the edges known first
abbrev pub ReadEdgesComeFirst : Type 0
ReadEdgesComeFirst =
    (limit : ℕ) (start now : Option (List ℕ)) (input : TraceInput) (given : List Edge) (r : InputReader)
    → HasReadEdges limit start now input given r → IfSome start (λ text. SaysFirst input text (given ++ edges_read r))

-- each text says something in each format
abbrev pub EachTextSaysEdges : Type 0
EachTextSaysEdges = (input : TraceInput) (text : List ℕ) → SaysFirst input text []

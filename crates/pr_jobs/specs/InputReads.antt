-- Trusted: how the readers of an input in any format go on. `HasGiven`, `HasMade`, `HasEdges` and `HasReadEdges` hold of a new reader with
-- no text, each call says what they hold of next, and the answers are those of every input of which they hold.
use Rattle.std.specs.Prelude.{◌≡◌, ◌⊎◌, ℕ, ◌<◌, Bool, true, false, List, [], ◌∷◌, ◌++◌, length, Option, Some, None, IfSome, Result, Ok, Err}
use Rattle.std.specs.Io.KnownBytes.{IsAtEnd}
use Rattle.std.specs.Option.{option_to_list}
use Rattle.pr_wire.specs.declared.Edge.{Edge}
use Rattle.pr_capture.specs.declared.format.TraceInput.{TraceInput}
use Rattle.pr_capture.specs.Gathers.{AllHave}
use Rattle.pr_jobs.specs.Inputs.{HasEdges, HasReadEdges, edges_in, edges_read, fault_in, fault_read}
use Rattle.pr_jobs.specs.Report.{edges_made, IsOwnFault, Says, SaysSamples, SaysWhole}
use Rattle.pr_jobs.specs.Sources.{HasGiven, HasMade}
use Rattle.pr_jobs.specs.declared.edge_maker.EdgeMaker.{EdgeMaker}
use Rattle.pr_jobs.specs.declared.edge_reader.EdgeReader.{EdgeReader}
use Rattle.pr_jobs.specs.declared.edge_reader.LastEdges.{LastEdges}
use Rattle.pr_jobs.specs.declared.input_reader.InputReader.{InputReader}
use Rattle.pr_jobs.specs.declared.source_reader.SourceReader.{SourceReader}
use Rattle.pr_jobs.specs.declared.fault.CliFault.{CliFault}
use Rattle.pr_jobs.specs.declared.fault.CliFault.TheVariants.{NoMemory}

-- The samples of a text in a format: `SourceReader`.

-- the reader has taken these bytes too, after whatever it had taken, and has given this sample, if it gives one
abbrev pub GivesMore : (bytes : List ℕ) → Option Edge → (old new : SourceReader) → Type 0
GivesMore bytes sample old new = (input : TraceInput) (t : List ℕ) (samples : List Edge) → HasGiven input t samples old
    → HasGiven input (t ++ bytes) (samples ++ option_to_list sample) new

-- the reader has taken bytes that say samples with the levels of this one, and then this one
abbrev pub GivesRepeats : (bytes : List ℕ) → (last : Edge) → (old new : SourceReader) → Type 0
GivesRepeats bytes last old new = (input : TraceInput) (t : List ℕ) (samples : List Edge) → HasGiven input t samples old
    → (between : List Edge) × AllHave last.levels between
    × HasGiven input (t ++ bytes) ((samples ++ between) ++ last ∷ []) new

-- a fault is lack of memory, or that of every input that goes on so
abbrev pub RefusesInput : (bytes : List ℕ) → (old : SourceReader) → CliFault → Type 0
RefusesInput bytes old f = (f ≡ NoMemory) ⊎ (IsOwnFault f
    × ((input : TraceInput) (t : List ℕ) (samples : List Edge) → HasGiven input t samples old
    → (more : List ℕ) → SaysSamples input input.source ((t ++ bytes) ++ more) samples (Some f)))

-- what a reader answers at the input's end
abbrev pub EndsInput : SourceReader → Result (Option Edge) CliFault → Type 0
EndsInput r (Ok sample) = (input : TraceInput) (t : List ℕ) (samples : List Edge) → HasGiven input t samples r
    → SaysSamples input input.source t (samples ++ option_to_list sample) None
EndsInput r (Err f) = (f ≡ NoMemory) ⊎ (IsOwnFault f
    × ((input : TraceInput) (t : List ℕ) (samples : List Edge) → HasGiven input t samples r
    → SaysSamples input input.source t samples (Some f)))

-- The edges of samples: `EdgeMaker`.

-- the maker has taken this sample too, and has given this edge, if it gives one
abbrev pub MakesMore : Edge → EdgeMaker → Option Edge → EdgeMaker → Type 0
MakesMore sample old e new = (input : TraceInput) (samples edges : List Edge) → HasMade input samples edges old
    → HasMade input (samples ++ sample ∷ []) (edges ++ option_to_list e) new

-- the maker has taken samples with the levels of this one, and then this one, whatever those are, and has given no edge
abbrev pub MakesNone : (last : Edge) → (old new : EdgeMaker) → Type 0
MakesNone last old new = (between : List Edge) → AllHave last.levels between
    → (input : TraceInput) (samples edges : List Edge) → HasMade input samples edges old
    → HasMade input ((samples ++ between) ++ last ∷ []) edges new

-- with the edges that come at the end, the edges are those that all samples make
abbrev pub MakesAll : EdgeMaker → (there all : List Edge) → Type 0
MakesAll m there all = (input : TraceInput) (samples before : List Edge) → HasMade input samples (before ++ there) m
    → before ++ all ≡ edges_made input.source input.start input.pulse samples

-- The edges of a text in blocks: `EdgeReader`.

-- the reader has taken this block too, and the edges of the block before are among those given
abbrev pub GivesEdges : (block : List ℕ) → (old new : EdgeReader) → Type 0
GivesEdges block old new = (input : TraceInput) (text : List ℕ) (given : List Edge) → HasEdges input text given old
    → HasEdges input (text ++ block) (given ++ edges_in old) new

-- what an input says that ends here, or that has had its fault, whatever follows
abbrev pub SaysAll : EdgeReader → LastEdges → Type 0
SaysAll r last = (input : TraceInput) (text more : List ℕ) (given : List Edge) → HasEdges input text given r
    → (fault_in r ≡ None → more ≡ []) → Says input (text ++ more) (given ++ last.edges.items) last.fault
    × IfSome last.fault IsOwnFault

-- The edges of what a reader gives: `InputReader`.

-- the reader has read what the source lacks now, and the edges of the block before are among those given
abbrev pub ReadsEdges : (before after : Option (List ℕ)) → (old new : InputReader) → Type 0
ReadsEdges before after old new =
    (limit : ℕ) (start : Option (List ℕ)) (input : TraceInput) (given : List Edge)
    → HasReadEdges limit start before input given old
    → HasReadEdges limit start after input (given ++ edges_read old) new

-- an input that goes on has had no fault; one that does not go on has ended, or has had its fault
abbrev pub StopsWell : (goes_on : Bool) → Option (List ℕ) → InputReader → Type 0
StopsWell true left r = fault_read r ≡ None
StopsWell false left r = fault_read r ≡ None → IsAtEnd left

-- the input has more bytes than the limit
abbrev pub IsTooLong : Option (List ℕ) → InputReader → Type 0
IsTooLong before r = (limit : ℕ) (start : Option (List ℕ)) (input : TraceInput) (given : List Edge)
    → HasReadEdges limit start before input given r → IfSome start (λ text. limit < length text)

-- what an input says that was read to its end, or to its first fault, and what follows of that
pub record EndsHere (limit : ℕ) (start now : Option (List ℕ)) (input : TraceInput) (r : InputReader)
    (claim : (edges : List Edge) → (fault : Option CliFault) → Type 0) : Type 0 where
  pub edges : List Edge
  pub fault : Option CliFault
  pub own : IfSome fault IsOwnFault
  pub kept : fault ≡ None → fault_read r ≡ None
  pub says : (fault_read r ≡ None → IsAtEnd now) → IfSome start (SaysWhole limit input edges fault)
  pub follows : claim edges fault

-- the last edges of an input, and its fault
abbrev pub EndsInputs : InputReader → LastEdges → Type 0
EndsInputs r last = (limit : ℕ) (start now : Option (List ℕ)) (input : TraceInput) (given : List Edge)
    → HasReadEdges limit start now input given r
    → EndsHere limit start now input r (λ edges fault. (edges ≡ given ++ last.edges.items) × (fault ≡ last.fault))

-- Linking words: what a reader of Value Change Dumps has taken. The clauses of `VcdReader` say all that a caller needs of them.
-- No reader needs to believe them.
use Rattle.std.specs.Prelude.{◌≡◌, ◌⊎◌, ℕ, Bool, not, List, [], ◌++◌, map, Vec, Option, Some, None, Result, Ok, Err}
use Rattle.std.specs.Global.{Global}
use Rattle.pr_wire.specs.declared.Edge.{Edge}
use Rattle.pr_capture.specs.declared.header.WireCode.{WireCode}
use Rattle.pr_capture.specs.declared.header.WireCodes.{WireCodes}
use Rattle.pr_capture.specs.declared.known.Stage.{Stage}
use Rattle.pr_capture.specs.declared.known.Stage.TheVariants.{InHeader, InChanges, InPause}
use Rattle.pr_capture.specs.declared.known.Known.{Known}
use Rattle.pr_capture.specs.declared.vcd_parser.Phase.{Phase}
use Rattle.pr_capture.specs.declared.vcd_parser.Phase.TheVariants.{Between, InSection, BehindValue}
use Rattle.pr_capture.specs.declared.vcd_parser.VcdParser.{VcdParser}
use Rattle.pr_capture.specs.declared.vcd_reader.VcdReader.{VcdReader}
use Rattle.pr_capture.specs.declared.fault.CaptureFault.{CaptureFault}
use Rattle.pr_capture.specs.declared.fault.CaptureFault.TheVariants.{NoMemory}
use Rattle.pr_capture.specs.declared.signals.Signals.{Signals}
use Rattle.pr_capture.specs.Recording.{ended, refused, with_samples, CaptureContents}
use Rattle.pr_capture.specs.Samples.{listed}
use Rattle.pr_capture.specs.Words.{end_line, is_space, word_of, words_behind, Word}
use Rattle.pr_capture.specs.VcdPieces.{pieces_behind, Begun, Piece}
use Rattle.pr_capture.specs.VcdPieces.Begun.{Nothing, Inside, Behind}
use Rattle.pr_capture.specs.VcdReading.{piece_contents, sample_of, step, vcd_contents, Codes, Found, Place}
use Rattle.pr_capture.specs.VcdReading.Place.{Header, Changes, Paused}

-- What is held.

-- the words that vectors hold
abbrev pub words_in : List (Vec ℕ Global) → List (List ℕ)
words_in vs = map (λ v. v.items) vs

-- the code that a vector holds, if there is one
abbrev pub code_of : Option (Vec ℕ Global) → Option (List ℕ)
code_of None = None
code_of (Some v) = Some v.items

-- what is held of a wire's signal
abbrev pub found_of : WireCode → Found
found_of f = record { code = code_of f.code; bit = f.bit; other = f.other }

-- the codes that are held
abbrev pub codes_of : WireCodes → Codes
codes_of c = record { atn = found_of c.atn; clock = found_of c.clock; second = found_of c.second; line = found_of c.line }

-- the place at which a reader is
abbrev pub place_at : Stage → (scopes : List (List ℕ)) → Codes → Place
place_at (InHeader scale) scopes c = Header scale scopes c
place_at (InChanges scale seen) scopes c = Changes scale c seen
place_at (InPause scale seen) scopes c = Paused scale c seen

abbrev pub place_of : Known → Place
place_of k = place_at k.stage (words_in k.scopes.items) (codes_of k.codes)

-- what has begun
abbrev pub begun_at : Phase → (inside : List (List ℕ)) → (bits : List ℕ) → Begun
begun_at Between inside bits = Nothing
begun_at (InSection line k) inside bits = Inside line k inside
begun_at (BehindValue line) inside bits = Behind line bits

abbrev pub begun_of : VcdParser → Begun
begun_of p = begun_at p.phase (words_in p.inside.items) p.bits.items

-- Pieces and words.

-- a piece leads from one place to another and gives its sample, if it has one, or it has a fault
abbrev pub ReadsPiece : Signals → Piece → (old : Place) → Result (Option Edge) CaptureFault → (new : Place) → Type 0
ReadsPiece s p old (Ok sample) new = (step s old p ≡ Ok new) × (sample ≡ sample_of new)
ReadsPiece s p old (Err f) new = (f ≡ NoMemory) ⊎ (step s old p ≡ Err f)

-- what words say from here on, in a text that ends on a line
abbrev pub word_contents : Signals → (end : ℕ) → VcdParser → List Word → CaptureContents
word_contents s end p ws = piece_contents s end (place_of p.known) (pieces_behind (begun_of p) ws)

-- words, one or none, lead on and give a sample, if they give one, or have a fault
abbrev pub ReadsWords : Signals → List Word → (old : VcdParser) → Result (Option Edge) CaptureFault → (new : VcdParser)
    → Type 0
ReadsWords s ws old (Ok sample) new =
    (end : ℕ) (more : List Word) → word_contents s end old (ws ++ more)
    ≡ with_samples (listed sample) (word_contents s end new more)
ReadsWords s ws old (Err f) new =
    (f ≡ NoMemory) ⊎ ((end : ℕ) (more : List Word) → word_contents s end old (ws ++ more) ≡ refused f)

-- a text may end here
abbrev pub MayEnd : VcdParser → Type 0
MayEnd p = (s : Signals) (end : ℕ) → word_contents s end p [] ≡ ended

-- The text.

-- a byte does not end a word
abbrev pub is_letter : ℕ → Bool
is_letter b = not (is_space b)

-- what is still to be given, samples and end, if the text goes on with these bytes
abbrev pub contents_left : VcdReader → (more : List ℕ) → CaptureContents
contents_left r more =
    word_contents r.signals (end_line r.number more) r.progress (words_behind r.number r.letters.items more)

-- the word that has begun, if one has
abbrev pub word_begun : VcdReader → List Word
word_begun r = word_of r.number r.letters.items

-- the reader has taken a text, and has given these samples
pub record HasReadDump (s : Signals) (text : List ℕ) (samples : List Edge) (r : VcdReader) : Type 0 where
  pub signals : r.signals ≡ s
  pub told : (more : List ℕ) → vcd_contents s (text ++ more) ≡ with_samples samples (contents_left r more)

-- the reader has taken these bytes too, after whatever it had taken
abbrev pub HoldsMore : (bytes : List ℕ) → (old new : VcdReader) → Type 0
HoldsMore bytes old new = (s : Signals) (text : List ℕ) (samples : List Edge) → HasReadDump s text samples old
    → HasReadDump s (text ++ bytes) samples new

-- what a reader answers if a text ends here, on a line, after its last word
abbrev pub AnswersEnd : (end : ℕ) → VcdParser → Result (Option Edge) CaptureFault → Type 0
AnswersEnd end p (Ok sample) = (sample ≡ None) × ((s : Signals) → word_contents s end p [] ≡ ended)
AnswersEnd end p (Err f) = (s : Signals) → word_contents s end p [] ≡ refused f

-- how many lines have ended, with the one that has begun
abbrev pub line_number : VcdReader → ℕ
line_number r = r.number

-- whatever follows the text that a reader has taken, the samples that it has given come first
abbrev pub GivenSamplesComeFirst : Type 0
GivenSamplesComeFirst =
    (s : Signals) (text more : List ℕ) (given : List Edge) (r : VcdReader) → HasReadDump s text given r
    → (later : List Edge) × ((vcd_contents s (text ++ more)).samples ≡ given ++ later)

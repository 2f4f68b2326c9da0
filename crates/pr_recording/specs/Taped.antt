-- Linking words, for proofs: which edges of a recording were taken, and which readings were handed on. No reader needs
-- to believe them.
use Rattle.std.specs.Prelude.{◌≡◌, ℕ, ◌<◌, Bool, ◌||◌, List, [], ◌∷◌, ◌++◌, length, Option, Some, None, Result, Ok, Err, IfSome}
use Rattle.std.specs.Io.KnownBytes.{IsAtEnd}
use Rattle.std.specs.List.{list_any}
use Rattle.std.specs.Option.{option_to_list}
use Rattle.pr_wire.specs.declared.Edge.{Edge}
use Rattle.pr_decode.specs.declared.reading.Reading.{Reading}
use Rattle.pr_decode.specs.Readings.{readings_of}
use Rattle.pr_decode.specs.Taking.{AreInOrder, HasReadings, IsBefore, last_time, time_behind}
use Rattle.pr_report.specs.Oddities.{is_acknowledged, oddities_of}
use Rattle.pr_report.specs.Taking.{HasSeen}
use Rattle.pr_capture.specs.declared.format.TraceInput.{TraceInput}
use Rattle.pr_jobs.specs.EdgesTaken.{EndsReading}
use Rattle.pr_jobs.specs.Report.{IsOwnFault, SaysWhole}
use Rattle.pr_jobs.specs.declared.fault.CliFault.{CliFault}
use Rattle.pr_jobs.specs.declared.fault.CliFault.TheVariants.{TooLarge, NoMemory, ReadFailed}
use Rattle.pr_jobs.specs.declared.input_reader.InputReader.{InputReader}
use Rattle.pr_recording.specs.declared.tape.Head.{Head}
use Rattle.pr_recording.specs.declared.tape.Tape.{Tape}
use Rattle.pr_recording.specs.declared.tape.TapeEnd.{TapeEnd}
use Rattle.pr_recording.specs.Decoded.{back_in, in_front, readings_up_to, stop_at}

-- the moment of the last of edges, if there is one
abbrev pub time_after : (last : ℕ) → List Edge → ℕ
time_after last [] = last
time_after last (e ∷ es) = time_after e.time es

abbrev pub time_of : List Edge → Option ℕ
time_of [] = None
time_of (e ∷ es) = Some (time_after e.time es)

-- What takes readings says of two of its states whether the first becomes the second with readings more.

-- edges in time order were read, and their readings were handed on
pub record ReadsMore {S : Type 0} (takes : List Reading → S → S → Type 0) (more : List Edge) (old new : Head)
    (before after : S) : Type 0 where
  pub later : List Reading
  pub taken : takes later before after
  pub reads : (edges : List Edge) (given : List Reading) → HasReadings edges given old.decoder
      → HasReadings (edges ++ more) (given ++ later) new.decoder
  pub byte : new.has_byte ≡ (old.has_byte || list_any is_acknowledged later)
  pub order : AreInOrder (last_time old.decoder) more
  pub last : last_time new.decoder ≡ time_behind (last_time old.decoder) more

-- time goes back at the first of edges
abbrev pub BeginsBack : List Edge → Head → Type 0
BeginsBack [] h = ⊥
BeginsBack (e ∷ es) h = IsBefore e h.decoder

-- the reading that the end cuts, if there is one, was handed on
pub record CutsLast {S : Type 0} (takes : List Reading → S → S → Type 0) (h : Head) (before after : S)
    (has_byte : Bool) : Type 0 where
  pub cut : Option Reading
  pub taken : takes (option_to_list cut) before after
  pub reads : (edges : List Edge) (given : List Reading) → HasReadings edges given h.decoder
      → readings_of edges ≡ given ++ option_to_list cut
  pub byte : has_byte ≡ (h.has_byte || list_any is_acknowledged (option_to_list cut))

-- edges in time order were taken, and they settle these readings
pub record HasPlayed (edges : List Edge) (given : List Reading) (t : Tape) : Type 0 where
  pub read : HasReadings edges given t.head.decoder
  pub last : last_time t.head.decoder ≡ time_of edges
  pub byte : t.head.has_byte ≡ list_any is_acknowledged given
  pub seen : HasSeen edges t.lines
  pub taken : t.taken ≡ length edges

-- edges were taken, up to where time goes back
pub record HasTaped (edges : List Edge) (given : List Reading) (t : Tape) : Type 0 where
  pub back : t.back ≡ back_in edges
  pub played : HasPlayed (in_front (back_in edges) edges) given t

-- how many edges were taken
abbrev pub edges_taped : Tape → ℕ
edges_taped t = t.taken

-- more edges were taken, and their readings were handed on
pub record TapesMore {S : Type 0} (takes : List Reading → S → S → Type 0) (more : List Edge) (old new : Tape)
    (before after : S) : Type 0 where
  pub later : List Reading
  pub taken : takes later before after
  pub tapes : (edges : List Edge) (given : List Reading) → HasTaped edges given old
      → HasTaped (edges ++ more) (given ++ later) new

-- the end of edges of which these are all readings, and whose input has this fault, if it has one
pub record IsEnd (edges : List Edge) (own : Option CliFault) (all : List Reading) (e : TapeEnd) : Type 0 where
  pub stop : e.stop ≡ stop_at (back_in edges) own
  pub readings : all ≡ readings_up_to e.stop edges
  pub odd : e.stop ≡ None → e.odd ≡ oddities_of edges (readings_of edges)

-- the edges taken have ended, and what the end cuts was handed on
pub record EndsTape {S : Type 0} (takes : List Reading → S → S → Type 0) (own : Option CliFault) (t : Tape)
    (before after : S) (e : TapeEnd) : Type 0 where
  pub later : List Reading
  pub taken : takes later before after
  pub ends : (edges : List Edge) (given : List Reading) → HasTaped edges given t → IsEnd edges own (given ++ later) e

-- Inputs of the program.

-- edges were taken in a state, and handed on
pub record HasTakenTo {S : Type 0} (takes : List Reading → S → S → Type 0) (start now : S) (t : Tape)
    (edges : List Edge) : Type 0 where
  pub given : List Reading
  pub taped : HasTaped edges given t
  pub taken : takes given start now

-- all readings of edges were handed on, up to where they stop
pub record TakesAll {S : Type 0} (takes : List Reading → S → S → Type 0) (start now : S) (e : TapeEnd)
    (edges : List Edge) (own : Option CliFault) : Type 0 where
  pub all : List Reading
  pub taken : takes all start now
  pub is_end : IsEnd edges own all e

-- the end of an input of which the edges before the last block were taken
abbrev pub EndsInput :
    {S : Type 0} → (takes : List Reading → S → S → Type 0) → InputReader → Tape → (before after : S) → TapeEnd
    → Type 0
EndsInput {S} takes r t before after e =
    (start : S) → EndsReading r (HasTakenTo takes start before t) (TakesAll takes start after e)

-- an input was read to its end, or to its fault, and what it says was handed on; or why it was not
pub record ReadsWhole {S : Type 0} (takes : List Reading → S → S → Type 0) (limit : ℕ) (input : TraceInput)
    (text : List ℕ) (before after : S) (e : TapeEnd) : Type 0 where
  pub edges : List Edge
  pub own : Option CliFault
  pub is_own : IfSome own IsOwnFault
  pub says : SaysWhole limit input edges own text
  pub takes_all : TakesAll takes before after e edges own

abbrev pub ReadsInto :
    {S : Type 0} → (takes : List Reading → S → S → Type 0) → (limit : ℕ) → TraceInput → (text : List ℕ)
    → (before after : S) → Result TapeEnd CliFault → Type 0
ReadsInto takes limit input text before after (Ok e) = ReadsWhole takes limit input text before after e
ReadsInto takes limit input text before after (Err TooLarge) = limit < length text
ReadsInto takes limit input text before after (Err NoMemory) = Unit {0}
ReadsInto takes limit input text before after (Err ReadFailed) = Unit {0}
ReadsInto takes limit input text before after (Err _) = ⊥

-- so far as its end was read
abbrev pub HasReadTape : Option (List ℕ) → Result TapeEnd CliFault → Type 0
HasReadTape left (Ok e) = e.stop ≡ None → IsAtEnd left
HasReadTape left (Err fault) = Unit {0}

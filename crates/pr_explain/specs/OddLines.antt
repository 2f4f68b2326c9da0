-- Trusted: what the explanation of a recording says of where its trace begins, and of what is odd about it. Below come
-- linking words, for proofs.
use Rattle.std.specs.Prelude.{◌≡◌, ℕ, List, [], ◌∷◌, Option, Some, None}
use Rattle.std.specs.List.{list_any}
use Rattle.pr_wire.specs.declared.Edge.{Edge}
use Rattle.pr_capture.specs.declared.format.TraceInput.{TraceInput}
use Rattle.pr_jobs.specs.Report.{Says}
use Rattle.pr_jobs.specs.declared.fault.CliFault.{CliFault}
use Rattle.pr_decode.specs.Readings.{readings_of}
use Rattle.pr_decode.specs.Taking.{HasReadings, last_time}
use Rattle.pr_decode.specs.declared.decoder.Decoder.{Decoder}
use Rattle.pr_decode.specs.declared.reading.Reading.{Reading}
use Rattle.pr_report.specs.Oddities.{is_acknowledged, oddities_of, oddities_text}
use Rattle.pr_report.specs.Taking.{HasSeen}
use Rattle.pr_explain.specs.TracePlaces.{AreInOrder, AreInOrderBehind, IsPlaceRead}
use Rattle.pr_explain.specs.declared.oddities.Looked.{Looked}
use Rattle.pr_explain.specs.declared.oddities.Remarks.{Remarks}

-- the text for edges of an input with this fault, if it has one: the last lines of `decode`'s report on them, where the
-- recording can be read to its end; or else none
pub record AreOddLines (input : TraceInput) (edges : List Edge) (own : Option CliFault) (text : List ℕ) : Type 0 where
  pub readable : IsPlaceRead edges own None → text ≡ oddities_text input (oddities_of edges (readings_of edges))
  pub refused : (IsPlaceRead edges own None → ⊥) → text ≡ []

-- the moment of the first edge: 0, or how much later than at the start asked for the three levels are first known
abbrev pub first_moment : List Edge → ℕ
first_moment [] = 0
first_moment (e ∷ es) = e.time

pub record AreRemarks (input : TraceInput) (bytes : List ℕ) (r : Remarks) : Type 0 where
  pub edges : List Edge
  pub own : Option CliFault
  pub says : Says input bytes edges own
  pub later : r.later ≡ first_moment edges
  pub are_lines : AreOddLines input edges own r.oddities.items

-- Linking words.

-- these edges were looked at
pub record HasLooked (edges : List Edge) (l : Looked) : Type 0 where
  pub given : List Reading
  pub read : HasReadings edges given l.decoder
  pub seen : HasSeen edges l.lines
  pub byte : l.has_byte ≡ list_any is_acknowledged given

-- edges are in order after the last one taken, if one was
abbrev pub AreInOrderAfter : (last : Option ℕ) → List Edge → Type 0
AreInOrderAfter None es = AreInOrder es
AreInOrderAfter (Some t) es = AreInOrderBehind t es

abbrev pub ComesAfter : Decoder → List Edge → Type 0
ComesAfter d es = AreInOrderAfter (last_time d) es

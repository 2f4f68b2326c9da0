-- Trusted: what the page gets as numbers: the edges and the readings of a recording, the delays of the profile, the line of
-- each statement, and the place of a script's first fault.
use Rattle.std.specs.Prelude.{◌≡◌, ◌⊎◌, ℕ, ◌+◌, ◌-◌, ◌*◌, Bool, true, false, List, [], ◌∷◌, ◌++◌, drop, length, replicate, is_some}
use Rattle.std.specs.Option.{option_map_or}
use Rattle.pr_wire.specs.declared.Edge.{Edge}
use Rattle.pr_wire.specs.declared.Levels.{Levels}
use Rattle.pr_wire.specs.declared.delay.Kind.{Kind}
use Rattle.pr_wire.specs.declared.delay.Kind.TheVariants as kind
use Rattle.pr_wire.specs.Delays.{bounds_of}
use Rattle.pr_decode.specs.declared.reading.Transfer.{Transfer}
use Rattle.pr_decode.specs.declared.reading.FrameEnd.TheVariants as frame
use Rattle.pr_decode.specs.declared.reading.IncompleteEnd.TheVariants as cut
use Rattle.pr_decode.specs.declared.reading.Reading.{Reading}
use Rattle.pr_decode.specs.declared.reading.Reading.TheVariants.{Frame, IncompleteByte}
use Rattle.pr_report.specs.declared.context.Context.{Context}
use Rattle.pr_report.specs.declared.detail.Detail.{Detail}
use Rattle.pr_report.specs.Intervals.{longest_answer, transfer_of}
use Rattle.pr_report.specs.Contexts.{after_reading}
use Rattle.pr_report.specs.ReadingText.{reading_lines}
use Rattle.pr_basic.specs.declared.fault.ScriptFault.{ScriptFault}
use Rattle.pr_basic.specs.declared.statement.Statement.{Statement}
use Rattle.pr_basic.specs.FaultPlaces.{IsFirstFaultAt}
use Rattle.pr_basic.specs.Grammar.{IsLine, IsScript, without_return}
use Rattle.pr_basic.specs.LineAt.{HasBasicNumber, IsLexemeAt, IsLineAt}

-- yes as 1, no as 0
abbrev pub flag : Bool → ℕ
flag false = 0
flag true = 1

-- Edges.

-- the levels of the lines: 4 for ATN, 2 for CLOCK and 1 for DATA, where they are released
abbrev pub level_number : Levels → ℕ
level_number l = 4 * flag l.atn + 2 * flag l.clock + flag l.line

-- two numbers for each edge: its moment and its levels
abbrev pub edge_numbers : List Edge → List ℕ
edge_numbers [] = []
edge_numbers (e ∷ es) = e.time ∷ level_number e.levels ∷ edge_numbers es

-- Readings.

-- what ended a byte, and when: acknowledged, not acknowledged, ended by ATN, CLOCK released too long, or the recording's
-- end, which has no moment
abbrev pub end_of : Reading → ℕ × ℕ
end_of (Frame t (frame.Acknowledged k)) = (0, k)
end_of (Frame t (frame.Unacknowledged k)) = (1, k)
end_of (Frame t frame.Cut) = (4, 0)
end_of (IncompleteByte t (cut.Attention k)) = (2, k)
end_of (IncompleteByte t (cut.ClockTimeout k)) = (3, k)
end_of (IncompleteByte t cut.Cut) = (4, 0)

-- a reading: what ended it and when, its bits, its byte, whether it is a command; ready to send, ready for data;
-- whether it has end-or-identify, and when DATA was pulled and released for it; CLOCK's first pull and its last;
-- the shortest and the longest halves of its bits, CLOCK pulled and CLOCK released; whether a printer listens before it;
-- and how many bytes its lines have
abbrev pub row_with : Transfer → (end : ℕ × ℕ) → (listens : Bool) → (lines : ℕ) → List ℕ
row_with t end listens lines =
    end.0 ∷ end.1 ∷ t.bits ∷ t.byte ∷ flag t.opening.command
    ∷ t.opening.ready_to_send ∷ t.opening.ready_for_data
    ∷ flag (is_some t.opening.pulse)
    ∷ option_map_or (λ p. p.pulled) t.opening.pulse 0 ∷ option_map_or (λ p. p.released) t.opening.pulse 0
    ∷ t.pull ∷ t.last_pull
    ∷ t.low.shortest ∷ t.low.longest ∷ t.high.shortest ∷ t.high.longest ∷ flag listens ∷ lines ∷ []

abbrev pub row_of : Detail → Context → Reading → List ℕ
row_of detail before r =
    row_with (transfer_of r) (end_of r) before.printer_listens (length (reading_lines detail before r))

-- a row for each reading
abbrev pub reading_rows : Detail → Context → List Reading → List ℕ
reading_rows detail before [] = []
reading_rows detail before (r ∷ rs) = row_of detail before r ++ reading_rows detail (after_reading before r) rs

-- Delays.

-- the kinds of delay, in the order of their rows
abbrev pub kinds : List Kind
kinds =
    kind.Bb ∷ kind.Aw ∷ kind.Ne ∷ kind.Ry ∷ kind.S ∷ kind.V ∷ kind.R ∷ kind.Cr
    ∷ kind.At ∷ kind.H ∷ kind.Ye ∷ kind.Ei ∷ kind.F ∷ kind.Dr ∷ []

-- the least and the greatest delay of each kind
abbrev pub kind_numbers : List Kind → List ℕ
kind_numbers [] = []
kind_numbers (k ∷ ks) = (bounds_of k).0 ∷ (bounds_of k).2 ∷ kind_numbers ks

-- the bounds of the delays, and those of the length of an answer that two listeners may make together
abbrev pub bounds_numbers : List ℕ
bounds_numbers = kind_numbers kinds ++ (bounds_of kind.Ei).0 ∷ longest_answer ∷ []

-- Lines of statements.

-- for each line, from this number on, its number as often as it has statements
abbrev pub AreLineNumbers : (number : ℕ) → List (List ℕ) → (numbers : List ℕ) → Type 0
AreLineNumbers number [] numbers = numbers ≡ []
AreLineNumbers number (line ∷ lines) numbers =
    (own : List Statement) × (more : List ℕ) × IsLine (without_return line) own
    × (numbers ≡ replicate (length own) number ++ more) × AreLineNumbers (number + 1) lines more

-- Faults of scripts.

-- the BASIC number at the front of a line and one more, or 0 where it has none
abbrev pub IsLabelNumber : (line : List ℕ) → ℕ → Type 0
IsLabelNumber line label =
    ((label ≡ 0) × ((n : ℕ) → HasBasicNumber line n → ⊥)) ⊎ ((n : ℕ) × HasBasicNumber line n × (label ≡ n + 1))

-- how many bytes the lexeme at the front of some bytes has; 0 where there is none
abbrev pub IsWidth : (bytes : List ℕ) → ℕ → Type 0
IsWidth bytes width =
    ((width ≡ 0) × ((lexeme : List ℕ) → IsLexemeAt bytes lexeme → ⊥))
    ⊎ ((lexeme : List ℕ) × IsLexemeAt bytes lexeme × (width ≡ length lexeme))

-- the first fault of a script: its line and its column, both from 1, the BASIC number of the line and one more, or 0,
-- and the number of bytes of the lexeme there
pub record HasFaultRow (script : List ℕ) (numbers : List ℕ) : Type 0 where
  pub fault : ScriptFault
  pub place : ℕ
  pub start : ℕ
  pub line : List ℕ
  pub number : ℕ
  pub label : ℕ
  pub width : ℕ
  pub is_first : IsFirstFaultAt script fault place
  pub is_line : IsLineAt script place start line number
  pub is_label : IsLabelNumber line label
  pub is_width : IsWidth (drop (place - start) line) width
  pub are_numbers : numbers ≡ number ∷ (place - start + 1) ∷ label ∷ width ∷ []

-- a script without a fault has no such numbers
abbrev pub IsFaultRow : (script : List ℕ) → (numbers : List ℕ) → Type 0
IsFaultRow script numbers =
    ((numbers ≡ []) × (statements : List Statement) × IsScript script statements) ⊎ HasFaultRow script numbers

-- Machine steps: what one input does to what a printer keeps. No reader needs to believe them.
use Rattle.std.specs.Prelude.{ℕ, zero, suc, ◌+◌, ◌*◌, ◌≤◌, ◌^◌, Bool, true, false, List, [], ◌∷◌, ◌++◌, ◌==◌, nat_le, replicate, if◌then◌else◌}
use Rattle.pr_page.specs.Token.{Token, Column, Repeat, Address, Nothing, Plain}
use Rattle.pr_page.specs.Acts.{Act, End, Move, Print, acts_in}
use Rattle.pr_page.specs.Lines.{line_dots, pitch_of}
use Rattle.pr_page.specs.Modes.{modes_after, modes_at}
use Rattle.pr_page.specs.declared.input.Input.{Input}
use Rattle.pr_page.specs.declared.input.Input.TheVariants.{Select, Byte}
use Rattle.pr_page.specs.declared.settings.Settings.{Settings}
use Rattle.pr_page.specs.declared.paper.Mark.{Mark}
use Rattle.pr_page.specs.declared.paper.Mark.TheVariants.{Dots}
use Rattle.pr_page.specs.declared.paper.Placed.{Placed}
use Rattle.pr_page.specs.declared.state.PrinterState.{PrinterState}
use Rattle.pr_page.specs.declared.sheet.Sheet.{Sheet}
use Rattle.pr_page.specs.declared.work.Work.{Work}
use Rattle.pr_page.specs.declared.work.Work.TheVariants as work
use Rattle.pr_page.specs.declared.pending.Pending.{Pending}
use Rattle.pr_page.specs.declared.pending.Pending.TheVariants.{Idle, ColumnCode, ColumnTens, RepeatCode, RepeatCount, EscapeCode, AddressCode, AddressHigh}

-- what a byte leaves pending that no command took
abbrev pub begun_by : ℕ → Pending
begun_by b = if b == 16 then ColumnCode else (if b == 26 then RepeatCode else (if b == 27 then EscapeCode else Idle))

-- the tokens that such a byte completes
abbrev pub completed_by : Bool → ℕ → List Token
completed_by lower b = if b == 16 then [] else (if b == 26 then [] else (if b == 27 then [] else Plain lower b ∷ []))

-- what is pending after a byte
abbrev pub pending_after : Pending → ℕ → Pending
pending_after Idle b = begun_by b
pending_after ColumnCode b = ColumnTens b
pending_after (ColumnTens a) b = Idle
pending_after RepeatCode b = RepeatCount b
pending_after (RepeatCount n) b = Idle
pending_after EscapeCode b = if b == 16 then AddressCode else begun_by b
pending_after AddressCode b = AddressHigh b
pending_after (AddressHigh h) b = Idle

-- the tokens that a byte completes
abbrev pub tokens_by : Pending → Bool → ℕ → List Token
tokens_by Idle lower b = completed_by lower b
tokens_by ColumnCode lower b = []
tokens_by (ColumnTens a) lower b = Column a b ∷ []
tokens_by RepeatCode lower b = []
tokens_by (RepeatCount n) lower b = Repeat n b ∷ []
tokens_by EscapeCode lower b = if b == 16 then [] else Nothing ∷ completed_by lower b
tokens_by AddressCode lower b = []
tokens_by (AddressHigh h) lower b = Address h b ∷ []

-- the settings after tokens
abbrev pub settings_of_tokens : Settings → List Token → Settings
settings_of_tokens s [] = s
settings_of_tokens s (t ∷ tokens) = settings_of_tokens (modes_after s t) tokens

-- what tokens do, of which there are at most two
abbrev pub acts_of_tokens : Settings → List Token → List Act
acts_of_tokens s [] = []
acts_of_tokens s (t ∷ []) = acts_in s t
acts_of_tokens s (t ∷ u ∷ tokens) = acts_in s t ++ acts_of_tokens (modes_after s t) (u ∷ tokens)

-- what the code has a byte do, as acts
abbrev pub acts_of_work : Bool → Work → List Act
acts_of_work graphic work.Nothing = []
acts_of_work graphic work.EndLine = End graphic ∷ []
acts_of_work graphic (work.Print mark width) = Print graphic mark width ∷ []
acts_of_work graphic (work.PrintColumns dots count) = replicate count (Print true (Dots dots) 1)
acts_of_work graphic (work.MoveTo x) = Move x ∷ []

-- a mark fits a line by itself, and a move stays in the line
abbrev pub FitsLine : Work → Type 0
FitsLine work.Nothing = Unit {0}
FitsLine work.EndLine = Unit {0}
FitsLine (work.Print mark width) = width ≤ line_dots
FitsLine (work.PrintColumns dots count) = Unit {0}
FitsLine (work.MoveTo x) = x ≤ line_dots

-- the line ends, and these marks begin the next one
abbrev pub ended : Sheet → Bool → List Placed → ℕ → Sheet
ended s graphic marks position = record {
  y = s.y + pitch_of graphic;
  position = position;
  paper = record { rows = s.paper.rows ++ record { y = s.y; marks = s.paper.held } ∷ []; held = marks };
}

-- a mark at the position, or in the next line if it does not fit
abbrev pub printed : Sheet → Bool → Mark → ℕ → Sheet
printed s graphic mark width =
    if nat_le (s.position + width) line_dots
    then record s {
      position = s.position + width;
      paper = record { rows = s.paper.rows; held = s.paper.held ++ record { x = s.position; mark = mark } ∷ [] };
    }
    else ended s graphic (record { x = 0; mark = mark } ∷ []) width

-- the sheet after an act
abbrev pub sheet_after : Sheet → Act → Sheet
sheet_after s (End graphic) = ended s graphic [] 0
sheet_after s (Move x) = record s { position = x }
sheet_after s (Print graphic mark width) = printed s graphic mark width

-- the sheet after acts
abbrev pub sheet_after_all : Sheet → List Act → Sheet
sheet_after_all s [] = s
sheet_after_all s (act ∷ acts) = sheet_after_all (sheet_after s act) acts

-- what is kept after a token
abbrev pub state_after_token : PrinterState → Token → PrinterState
state_after_token s t = record s {
  settings = modes_after s.settings t;
  sheet = sheet_after_all s.sheet (acts_in s.settings t);
}

-- what is kept after tokens
abbrev pub state_after_tokens : PrinterState → List Token → PrinterState
state_after_tokens s [] = s
state_after_tokens s (t ∷ tokens) = state_after_tokens (state_after_token s t) tokens

-- what is kept after an input
abbrev pub step : PrinterState → Input → PrinterState
step s (Select lower) = record s { lower = lower; taken = s.taken + 1 }
step s (Byte b) =
    record (state_after_tokens s (tokens_by s.pending s.lower b))
    { pending = pending_after s.pending b; taken = s.taken + 1 }

-- what is kept after inputs
abbrev pub state_after : PrinterState → List Input → PrinterState
state_after s [] = s
state_after s (x ∷ inputs) = state_after (step s x) inputs

-- what is kept at first
abbrev pub start : PrinterState
start = record {
  settings = modes_at [];
  lower = false;
  pending = Idle;
  sheet = record { y = 0; position = 0; paper = record { rows = []; held = [] } };
  taken = 0;
}

-- the position is within the line, and at most one line has ended
abbrev pub GoesOn : Sheet → Sheet → Type 0
GoesOn old new = (new.position ≤ line_dots) × (new.y ≤ old.y + 21)

-- the numbers that are kept stay small
abbrev pub IsInRange : PrinterState → Type 0
IsInRange s = (s.sheet.position ≤ line_dots) × (s.sheet.y ≤ 21 * s.taken) × (s.taken ≤ 2 ^ 32)

-- this many equal columns of dots, side by side from x on
abbrev pub columns_from : ℕ → ℕ → ℕ → List Placed
columns_from x dots zero = []
columns_from x dots (suc n) = record { x = x; mark = Dots dots } ∷ columns_from (x + 1) dots n

-- Trusted: the text of a saved program as it is typed. What no typed line can say is refused there: a line's number that is not above
-- the one before is no line number behind a colon, and byte 1 begins no statement and is none of DATA's.
use Rattle.std.specs.Prelude.{◌≡◌, ◌⊎◌, ℕ, ◌+◌, ◌/◌, ◌%◌, ◌&&◌, ◌||◌, ◌==◌, not, Bool, List, [], ◌∷◌, ◌++◌, decimal, nat_le, nat_lt, Option, Some, None, if◌then◌else◌}
use Rattle.pr_base.specs.Digits.{is_digit}
use Rattle.pr_listing.specs.Containers.{program_in}
use Rattle.pr_listing.specs.Found.{found_form}
use Rattle.pr_listing.specs.Keywords.{is_token, keyword_of}
use Rattle.pr_listing.specs.Listing.{is_letter}
use Rattle.pr_listing.specs.Program.{IsProgram, IsProgramFault, Line}
use Rattle.pr_listing.specs.declared.fault.ListingFault.{ListingFault}
use Rattle.pr_listing.specs.declared.form.ListingForm.TheVariants.{Program as Saved}
use Rattle.pr_programs.specs.declared.fault.BasicFault.{BasicFault}
use Rattle.pr_programs.specs.declared.fault.BasicFault.TheVariants.{Listing}
use Rattle.pr_programs.specs.Typed.{ends_row, is_plain}
use Rattle.pr_programs.specs.declared.saved.Mode.{Mode}
use Rattle.pr_programs.specs.declared.saved.Mode.TheVariants.{Plain, Quoted, Items, QuotedItem, Remark}

-- the mode of the next byte: token 131 begins DATA, 143 a remark
abbrev pub mode_after : Mode → ℕ → Mode
mode_after Plain b =
    if b == 34 then Quoted else (if b == 131 then Items else (if b == 143 then Remark else Plain))
mode_after Quoted b = if b == 34 then Plain else Quoted
mode_after Items b = if b == 34 then QuotedItem else (if b == 58 then Plain else Items)
mode_after QuotedItem b = if b == 34 then Items else QuotedItem
mode_after Remark b = Remark

abbrev pub digit : ℕ → ℕ
digit n = if nat_le n 9 then n + 48 else n + 55

-- a byte of a string: {$8E} where it is none that is typed
abbrev pub key_text : ℕ → List ℕ
key_text b = if is_plain b then b ∷ [] else 123 ∷ 36 ∷ digit (b / 16) ∷ digit (b % 16) ∷ 125 ∷ []

-- a byte of a statement that means something else in a typed line: the machine saves a keyword, also `?` and an operator, as a token
-- alone, and has neither small letters nor byte 10 or 13 there
abbrev pub is_stray : ℕ → Bool
is_stray b =
    ends_row b || nat_le 97 b && nat_le b 122 || b == 42 || b == 43 || b == 45 || b == 47
    || nat_le 60 b && nat_le b 63 || b == 94

-- a byte of a statement: a token is its keyword; a space follows a keyword and a letter
abbrev pub spelled : ℕ → List ℕ
spelled b =
    if is_token b then keyword_of b ++ 32 ∷ []
    else (if is_stray b then 1 ∷ [] else (if is_letter b then b ∷ 32 ∷ [] else b ∷ []))

abbrev pub byte_text : Mode → ℕ → List ℕ
byte_text Plain b = spelled b
byte_text Quoted b = key_text b
byte_text Items b = (if ends_row b then 1 else b) ∷ []
byte_text QuotedItem b = key_text b
byte_text Remark b = if is_plain b then b ∷ [] else 46 ∷ []

abbrev pub bytes_text : Mode → List ℕ → List ℕ
bytes_text mode [] = []
bytes_text mode (b ∷ bs) = byte_text mode b ++ bytes_text (mode_after mode b) bs

-- a colon is in front of a line without bytes, and of a digit or a blank, which would belong to the number
abbrev pub colon : List ℕ → List ℕ
colon [] = 58 ∷ []
colon (b ∷ bs) = if is_digit b || b == 32 then 58 ∷ [] else []

-- a line: its number, a space, its bytes, and byte 10
abbrev pub line_text : (least : ℕ) → Line → List ℕ
line_text least l =
    (if nat_lt l.number least then 58 ∷ [] else []) ++ decimal l.number ++ 32 ∷ colon l.bytes ++ bytes_text Plain l.bytes
    ++ 10 ∷ []

-- lines whose numbers ascend from one on
abbrev pub lines_text : (least : ℕ) → List Line → List ℕ
lines_text least [] = []
lines_text least (l ∷ ls) = line_text least l ++ lines_text (l.number + 1) ls

-- a file is a saved program whose lines have this text
abbrev pub IsSavedText : List ℕ → List ℕ → Type 0
IsSavedText file text = (lines : List Line) × IsProgram lines file × (text ≡ lines_text 0 lines)

-- the text of a saved program; of any other bytes there is none
abbrev pub IsTypedProgram : List ℕ → Option (List ℕ) → Type 0
IsTypedProgram bytes None = found_form bytes ≡ Saved → ⊥
IsTypedProgram bytes (Some text) = (found_form bytes ≡ Saved) × IsSavedText (program_in bytes) text

-- why a saved program has no text
abbrev pub IsUnsaved : List ℕ → BasicFault → Type 0
IsUnsaved bytes fault = (why : ListingFault) × (found_form bytes ≡ Saved) × IsProgramFault (program_in bytes) why
    × (fault ≡ Listing why)

-- the text of a program as it is typed, saved or not
abbrev pub IsTextOf : List ℕ → List ℕ → Type 0
IsTextOf bytes text = IsTypedProgram bytes (Some text) ⊎ (IsTypedProgram bytes None × (text ≡ bytes))

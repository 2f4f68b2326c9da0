-- Trusted: the script text of a saved program's lines.
use Rattle.std.specs.Prelude.{◌≡◌, ℕ, ◌&&◌, ◌||◌, ◌==◌, not, Bool, List, [], ◌∷◌, ◌++◌, codes, decimal, nat_le, if◌then◌else◌}
use Rattle.pr_basic.specs.Grammar.{is_printable}
use Rattle.pr_listing.specs.Keywords.{is_token, keyword_of}
use Rattle.pr_listing.specs.Program.{IsProgram, Line}
use Rattle.pr_listing.specs.declared.line.Mode.{Mode}
use Rattle.pr_listing.specs.declared.line.Mode.TheVariants.{Plain, Quoted, Remark}

-- a letter of a script's keywords, in either case
abbrev pub is_letter : ℕ → Bool
is_letter b = (nat_le 65 b && nat_le b 90) || (nat_le 97 b && nat_le b 122)

-- a byte that a script can have, or else `?`
abbrev pub or_question : ℕ → List ℕ
or_question b = if is_printable b then b ∷ [] else 63 ∷ []

-- a byte outside strings and remarks: a token is its keyword; a space follows a token and a letter
abbrev pub plain_text : ℕ → List ℕ
plain_text b =
    if is_token b then keyword_of b ++ 32 ∷ []
    else (if is_letter b then b ∷ 32 ∷ [] else or_question b)

-- a byte that a script's string can hold
abbrev pub is_held : ℕ → Bool
is_held b = is_printable b && not (b == 34)

-- a byte of a string: CHR$ stands for a byte that a script's string cannot hold
abbrev pub string_text : ℕ → List ℕ
string_text b = if is_held b then b ∷ [] else codes "\"CHR$(" ++ decimal b ++ codes ")\""

-- a byte of a string, or the quote that ends it
abbrev pub quoted_text : ℕ → List ℕ
quoted_text b = if b == 34 then b ∷ [] else string_text b

-- a byte of a line, in its mode: outside strings and remarks, in a string, or in a remark
abbrev pub byte_text : Mode → ℕ → List ℕ
byte_text Plain b = plain_text b
byte_text Quoted b = quoted_text b
byte_text Remark b = or_question b

-- the mode of the next byte: a quote begins and ends a string, token 143 begins a remark
abbrev pub mode_after : Mode → ℕ → Mode
mode_after Plain b = if b == 34 then Quoted else (if b == 143 then Remark else Plain)
mode_after Quoted b = if b == 34 then Plain else Quoted
mode_after Remark b = Remark

-- the bytes of a line from here on, in this mode
abbrev pub bytes_text : Mode → List ℕ → List ℕ
bytes_text mode [] = []
bytes_text mode (b ∷ bs) = byte_text mode b ++ bytes_text (mode_after mode b) bs

-- a line: its number, a space, its bytes, and byte 10
abbrev pub line_text : Line → List ℕ
line_text l = decimal l.number ++ 32 ∷ bytes_text Plain l.bytes ++ 10 ∷ []

-- lines, one after another
abbrev pub lines_text : List Line → List ℕ
lines_text [] = []
lines_text (l ∷ ls) = line_text l ++ lines_text ls

-- a file is a saved program whose lines have this script text
abbrev pub IsProgramText : List ℕ → List ℕ → Type 0
IsProgramText file text = (lines : List Line) × IsProgram lines file × (text ≡ lines_text lines)

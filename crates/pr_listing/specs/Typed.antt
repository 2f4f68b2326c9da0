-- Trusted: a listing as petcat writes it or a magazine prints it, and the script text that it stands for.
use Rattle.std.specs.Prelude.{◌≡◌, IsTrue, ℕ, zero, suc, ◌+◌, ◌-◌, ◌⊎◌, ◌&&◌, ◌==◌, not, Bool, true, false, List, [], ◌∷◌, ◌++◌, Option, None, Some, length, map, take, drop, codes, nat_le, slice_index_or, if◌then◌else◌}
use Rattle.std.specs.Char.{to_ascii_lowercase}
use Rattle.std.specs.List.{list_all}
use Rattle.std.specs.Str.{bytes_eq}
use Rattle.pr_base.specs.Lines.{lines_of}
use Rattle.pr_basic.specs.Grammar.{without_return}
use Rattle.pr_listing.specs.Listing.{quoted_text, string_text}
use Rattle.pr_listing.specs.Names.{bracketed}
use Rattle.pr_listing.specs.declared.fault.ListingFault.{ListingFault}
use Rattle.pr_listing.specs.declared.fault.ListingFault.TheVariants.{BadByte, NoMemory, UnknownName}
use Rattle.pr_listing.specs.declared.names.Brackets.{Brackets}
use Rattle.pr_listing.specs.declared.names.Brackets.TheVariants.{Curly, Square}
use Rattle.pr_listing.specs.declared.names.Spelling.{Spelling}
use Rattle.pr_listing.specs.declared.names.Spelling.TheVariants.{Magazine, Petcat}
use Rattle.pr_listing.specs.declared.typed.PieceFault.{PieceFault}
use Rattle.pr_listing.specs.declared.typed.PieceFault.TheVariants as piece

-- the byte that begins brackets, and the one that ends them
abbrev pub opening : Brackets → ℕ
opening Curly = 123
opening Square = 91

abbrev pub closing : Brackets → ℕ
closing Curly = 125
closing Square = 93

-- a piece of a line: a character, or a name in brackets
pub data Piece : Type 0 where
  Character : ℕ → Piece
  Name : Brackets → List ℕ → Piece

-- a piece's bytes in the listing, and the bytes after it
abbrev pub spelled : Piece → List ℕ → List ℕ
spelled (Character c) after = c ∷ after
spelled (Name brackets name) after = opening brackets ∷ name ++ closing brackets ∷ after

-- the brackets of a piece
abbrev pub brackets_of : Piece → Option Brackets
brackets_of (Character c) = None
brackets_of (Name brackets name) = Some brackets

-- any byte but the one that ends brackets
abbrev pub is_within : Brackets → ℕ → Bool
is_within brackets b = not (b == closing brackets)

-- a magazine has keys in `[<` and `>]`
abbrev pub has_keys : Spelling → Bool
has_keys Petcat = false
has_keys Magazine = true

-- the brackets that begin here in a string: `{`, or `[` before `<`
abbrev pub begun : Spelling → List ℕ → Option Brackets
begun spelling bytes =
    if slice_index_or bytes 0 0 == 123 then Some Curly
    else (if has_keys spelling && ((slice_index_or bytes 0 0 == 91) && (slice_index_or bytes 1 0 == 60))
    then Some Square else None)

-- the same in a string or not: outside strings no brackets begin
abbrev pub begun_in : Spelling → Bool → List ℕ → Option Brackets
begun_in spelling quoted bytes = if quoted then begun spelling bytes else None

-- the computer's byte of a character of a string: in petcat's text letters change their case; a magazine
-- has capitals alone, which are the computer's own
abbrev pub byte_of : Spelling → ℕ → Option ℕ
byte_of Petcat c =
    if nat_le 97 c && nat_le c 122 then Some (c - 32)
    else (if nat_le 65 c && nat_le c 90 then Some (c + 128)
    else (if nat_le 32 c && nat_le c 95 then Some c else None))
byte_of Magazine c = if nat_le 32 c && nat_le c 95 then Some c else None

-- a text repeated n times
abbrev pub repeated : ℕ → List ℕ → List ℕ
repeated zero text = []
repeated (suc n) text = repeated n text ++ text

-- a piece's script text: outside strings the character itself, and a name is not allowed; in a
-- string a byte, or as many bytes as the name says
abbrev pub HasText : Spelling → Bool → Piece → List ℕ → Type 0
HasText spelling false (Character c) text = text ≡ c ∷ []
HasText spelling false (Name brackets name) text = ⊥
HasText spelling true (Character c) text = (b : ℕ) × (byte_of spelling c ≡ Some b) × (text ≡ quoted_text b)
HasText spelling true (Name brackets name) text = (count : ℕ) × (b : ℕ)
    × (bracketed spelling brackets name ≡ Some (count, b))
    × IsTrue (list_all (is_within brackets) name) × (text ≡ repeated count (string_text b))

-- whether the next piece is in a string
abbrev pub quoted_after : Bool → Piece → Bool
quoted_after quoted (Character c) = if c == 34 then not quoted else quoted
quoted_after quoted (Name brackets name) = quoted

-- pieces, one after another, have this script text, and each is in brackets where they begin; `rest` are the bytes
-- after them, in a string or not
abbrev pub HaveText : Spelling → Bool → List Piece → List ℕ → List ℕ → Bool → List ℕ → Type 0
HaveText spelling quoted [] bytes text in_string rest = (text ≡ []) × (in_string ≡ quoted) × (bytes ≡ rest)
HaveText spelling quoted (p ∷ ps) bytes text in_string rest =
    (after : List ℕ) × (first : List ℕ) × (more : List ℕ)
    × (bytes ≡ spelled p after) × (brackets_of p ≡ begun_in spelling quoted bytes)
    × HasText spelling quoted p first × (text ≡ first ++ more)
    × HaveText spelling (quoted_after quoted p) ps after more in_string rest

-- a remark begins here
abbrev pub begins_remark : List ℕ → Bool
begins_remark bytes = bytes_eq (map to_ascii_lowercase (take 3 bytes)) (codes "rem")

-- the number of a line's bytes before its remark, the first one outside strings
unfoldable pub before_remark : Bool → List ℕ → ℕ
before_remark quoted [] = 0
before_remark quoted (b ∷ bs) =
    if not quoted && begins_remark (b ∷ bs) then 0
    else suc (before_remark (if b == 34 then not quoted else quoted) bs)

-- the bytes of a line before its remark, and the remark
abbrev pub front_of : List ℕ → List ℕ
front_of line = take (before_remark false line) line

abbrev pub remark_of : List ℕ → List ℕ
remark_of line = drop (before_remark false line) line

-- petcat's heading, which is not a line of the program; a magazine has none
abbrev pub IsHeading : Spelling → List ℕ → Type 0
IsHeading Petcat line = (more : List ℕ) × (line ≡ 59 ∷ more)
IsHeading Magazine line = ⊥

-- the script text of a line: that of its pieces, and its remark unchanged; a heading has none
abbrev pub HasLineText : Spelling → List ℕ → List ℕ → Type 0
HasLineText spelling line text = (IsHeading spelling line × (text ≡ []))
    ⊎ (¬ IsHeading spelling line × ((pieces : List Piece) × (said : List ℕ) × (in_string : Bool)
    × HaveText spelling false pieces (front_of line) said in_string [] × (text ≡ said ++ remark_of line)))

-- the script text of lines, one after another, with byte 10 after each
abbrev pub HaveLinesText : Spelling → List (List ℕ) → List ℕ → Type 0
HaveLinesText spelling [] text = text ≡ []
HaveLinesText spelling (l ∷ ls) text = (first : List ℕ) × (more : List ℕ)
    × HasLineText spelling (without_return l) first × (text ≡ first ++ 10 ∷ more) × HaveLinesText spelling ls more

-- a listing in this spelling stands for this script text
abbrev pub IsTypedText : Spelling → List ℕ → List ℕ → Type 0
IsTypedText spelling file text = HaveLinesText spelling (lines_of file) text

-- no piece of a string is at the front of the bytes: what is in the brackets is not known, or the brackets are
-- not closed; or no string has this byte
abbrev pub IsPieceFault : Spelling → PieceFault → List ℕ → Type 0
IsPieceFault spelling piece.UnknownName bytes = (brackets : Brackets)
    × (Some brackets ≡ begun spelling bytes)
    × ((name rest : List ℕ) → bytes ≡ spelled (Name brackets name) rest
    → IsTrue (list_all (is_within brackets) name) → bracketed spelling brackets name ≡ None)
IsPieceFault spelling piece.BadByte bytes = (c : ℕ) × (after : List ℕ) × (bytes ≡ c ∷ after)
    × (None ≡ begun spelling bytes) × (byte_of spelling c ≡ None)
IsPieceFault spelling piece.NoMemory bytes = ⊥

-- the first fault of a line: pieces, and after them, in a string, no piece; `column` is the number
-- of the line's bytes before it
pub record IsLineFault (spelling : Spelling) (f : PieceFault) (column : ℕ) (line : List ℕ) : Type 0 where
  pub pieces : List Piece
  pub said : List ℕ
  pub rest : List ℕ
  pub no_heading : ¬ IsHeading spelling line
  pub good : HaveText spelling false pieces (front_of line) said true rest
  pub fault : IsPieceFault spelling f rest
  pub at : column + length rest ≡ length (front_of line)

-- lines that have a script text, and then a line with a fault, with its number from 1
pub record AreLinesFault (spelling : Spelling) (f : PieceFault) (number column : ℕ) (lines : List (List ℕ)) : Type 0 where
  pub before : List (List ℕ)
  pub line : List ℕ
  pub after : List (List ℕ)
  pub text : List ℕ
  pub cut : lines ≡ before ++ line ∷ after
  pub good : HaveLinesText spelling before text
  pub fault : IsLineFault spelling f column (without_return line)
  pub numbered : number ≡ suc (length before)

-- a piece's fault, with its line and its column
abbrev pub at_place : PieceFault → ℕ → ℕ → ListingFault
at_place piece.UnknownName line column = UnknownName line column
at_place piece.BadByte line column = BadByte line column
at_place piece.NoMemory line column = NoMemory

-- the first fault of a listing in this spelling, with its line and its column from 1
abbrev pub IsTypedFault : Spelling → List ℕ → ListingFault → Type 0
IsTypedFault spelling file fault = (f : PieceFault) × (number : ℕ) × (column : ℕ)
    × AreLinesFault spelling f number column (lines_of file) × (fault ≡ at_place f number (suc column))

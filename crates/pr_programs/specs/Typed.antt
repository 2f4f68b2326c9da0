-- Trusted: the text of a program whose strings are typed: keys have names in braces, and other bytes are themselves.
-- What no key gives is refused in strings and behind DATA.
use Rattle.std.specs.Prelude.{ℕ, zero, suc, ◌+◌, ◌-◌, ◌==◌, ◌&&◌, ◌||◌, Bool, false, not, List, [], ◌∷◌, ◌++◌, length, nat_le, nat_lt, replicate, take, Option, Some, None, Result, Ok, Err, if◌then◌else◌}
use Rattle.std.specs.List.{prefix_len}
use Rattle.pr_basic.specs.Grammar.{is_printable}
use Rattle.pr_listing.specs.Names.{bracketed}
use Rattle.pr_listing.specs.declared.names.Brackets.TheVariants.{Curly}
use Rattle.pr_listing.specs.declared.names.Spelling.TheVariants.{Petcat}
use Rattle.pr_programs.specs.declared.fault.Reason.{Reason}
use Rattle.pr_programs.specs.declared.fault.Reason.TheVariants.{Byte, Name}
use Rattle.pr_programs.specs.declared.typed.Part.{Part}
use Rattle.pr_programs.specs.declared.typed.Piece.{Piece}

-- ---- pieces: a byte of the program, how often it is there, and how many bytes the text has for it

-- byte 10 or 13
abbrev pub ends_row : ℕ → Bool
ends_row b = b == 10 || b == 13

-- a byte of a key that a line of a program can have in a string
abbrev pub is_kept : ℕ → Bool
is_kept b = not (b == 0 || ends_row b || b == 34)

-- how many bytes are before a closing brace
abbrev pub name_size : List ℕ → ℕ
name_size bs = prefix_len (λ b. not (b == 125)) bs

-- what a name in braces says, if it is one of petcat's, and no line's end or quote
abbrev pub key_of : Option (ℕ × ℕ) → (size : ℕ) → Result Piece Reason
key_of None size = Err Name
key_of (Some (count, b)) size =
    if is_kept b then Ok (record { byte = b; count = count; size = size }) else Err Name

-- the key after an opening brace
unfoldable pub key : List ℕ → Result Piece Reason
key bs =
    if nat_lt (name_size bs) (length bs) then key_of (bracketed Petcat Curly (take (name_size bs) bs))
    (name_size bs + 2)
    else Err Name

abbrev pub itself : ℕ → Result Piece Reason
itself b = Ok (record { byte = b; count = 1; size = 1 })

-- a byte that is typed as it is, in a string or behind DATA: one of 32 to 126, and no opening brace
abbrev pub is_plain : ℕ → Bool
is_plain b = is_printable b && not (b == 123)

-- the piece at the front of a text: what a string or an item of DATA cannot have is refused
unfoldable pub piece : Part → ℕ → List ℕ → Result Piece Reason
piece part b bs =
    if ends_row b then itself b
    else (if part.quoted && b == 123 then key bs
    else (if is_plain b || not (part.quoted || nat_le 4 part.letters) then itself b else Err Byte))

-- ---- where the byte after one is

-- whether a string goes on after a byte: a quote begins and ends one, and so does a row's end
abbrev pub quoted_after : (quoted : Bool) → ℕ → Bool
quoted_after quoted b = if b == 34 then not quoted else quoted && not (ends_row b)

-- the letter of DATA, in either case, before which so many are
abbrev pub is_letter : (letters : ℕ) → ℕ → Bool
is_letter letters b =
    if letters == 0 then b == 68 || b == 100
    else (if letters == 2 then b == 84 || b == 116 else b == 65 || b == 97)

-- how many letters of DATA are before the next byte, outside strings; 4 from DATA to the end of its row
abbrev pub letters_after : Part → ℕ → ℕ
letters_after part b =
    if ends_row b then 0
    else (if nat_le 4 part.letters then 4
    else (if part.quoted then 0
    else (if is_letter part.letters b then part.letters + 1 else (if is_letter 0 b then 1 else 0))))

abbrev pub part_after : Part → ℕ → Part
part_after part b = record { quoted = quoted_after part.quoted b; letters = letters_after part b }

-- a text begins outside strings
abbrev pub start : Part
start = record { quoted = false; letters = 0 }

-- ---- the program's text

-- a program's text, or what is refused and the number of bytes before it
abbrev pub Typed : Type 0
Typed = Result (List ℕ) (ℕ × Reason)

abbrev pub with_front : List ℕ → Typed → Typed
with_front front (Ok rest) = Ok (front ++ rest)
with_front front (Err fault) = Err fault

abbrev pub after_piece : (place : ℕ) → Result Piece Reason → (ℕ → Typed) → Typed
after_piece place (Ok p) more = with_front (replicate p.count p.byte) (more p.size)
after_piece place (Err why) more = Err (place, why)

-- the text from a place on, of which so many bytes belong to the piece before
unfoldable pub typed_from : (place skipped : ℕ) → Part → List ℕ → Typed
typed_from place skipped part [] = Ok []
typed_from place (suc n) part (b ∷ bs) = typed_from (place + 1) n part bs
typed_from place zero part (b ∷ bs) =
    after_piece place (piece part b bs)
    (λ size. typed_from (place + 1) (size - 1) (part_after part b) bs)

-- the text of a typed program
abbrev pub typed : List ℕ → Typed
typed text = typed_from 0 0 start text

-- ---- the place in the typed text of a byte of the program

abbrev pub in_piece : (place made : ℕ) → Result Piece Reason → (ℕ → ℕ → ℕ) → ℕ
in_piece place made (Ok p) more = if nat_lt made p.count then place else more p.size (made - p.count)
in_piece place made (Err why) more = place

unfoldable pub place_from : (place skipped : ℕ) → Part → (made : ℕ) → List ℕ → ℕ
place_from place skipped part made [] = place
place_from place (suc n) part made (b ∷ bs) = place_from (place + 1) n part made bs
place_from place zero part made (b ∷ bs) =
    in_piece place made (piece part b bs)
    (λ size left. place_from (place + 1) (size - 1) (part_after part b) left bs)

-- where the piece begins that makes the byte after so many
abbrev pub place_of : List ℕ → (made : ℕ) → ℕ
place_of text made = place_from 0 0 start made text

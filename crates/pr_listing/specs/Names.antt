-- Trusted: the names of bytes in brackets, as petcat writes them and as magazines print them.
use Rattle.std.specs.Prelude.{ℕ, ◌+◌, ◌-◌, ◌*◌, ◌&&◌, ◌||◌, ◌==◌, Bool, List, [], ◌∷◌, ◌++◌, Option, None, Some, codes, length, map, option_map, slice_index_or, take, drop, nat_le, nat_lt, if◌then◌else◌}
use Rattle.std.specs.Char.{to_ascii_lowercase}
use Rattle.std.specs.List.{position_from, prefix_len}
use Rattle.std.specs.Str.{bytes_eq}
use Rattle.pr_base.specs.Digits.{is_digit, number_of}
use Rattle.pr_base.specs.Lines.{lines_of}
use Rattle.pr_listing.specs.declared.names.Brackets.{Brackets}
use Rattle.pr_listing.specs.declared.names.Brackets.TheVariants.{Curly, Square}
use Rattle.pr_listing.specs.declared.names.Spelling.{Spelling}
use Rattle.pr_listing.specs.declared.names.Spelling.TheVariants.{Magazine, Petcat}
use Rattle.pr_listing.specs.declared.names.TheConstants.{MAGAZINE_BYTES, MAGAZINE_NAMES, NAMES}

-- the byte of the name at a place of the table: bytes 0 to 31 first, then 128 to 223, and 32 twice
abbrev pub byte_at : ℕ → ℕ
byte_at place = if nat_lt place 32 then place else (if nat_lt place 128 then place + 96 else 32)

-- a hexadecimal digit, in either case
abbrev pub is_hex : ℕ → Bool
is_hex b = is_digit b || (nat_le 97 b && nat_le b 102) || (nat_le 65 b && nat_le b 70)

-- the value of a hexadecimal digit
abbrev pub hex_value : ℕ → ℕ
hex_value b = if is_digit b then b - 48 else (if nat_le b 70 then b - 55 else b - 87)

-- the byte whose number is a name: `$` and two hexadecimal digits
abbrev pub hex_byte : List ℕ → Option ℕ
hex_byte (sign ∷ high ∷ low ∷ []) =
    if (sign == 36) && (is_hex high && is_hex low)
    then Some (16 * hex_value high + hex_value low) else None
hex_byte name = None

-- a name is this one of the table, in upper or lower case
abbrev pub is_name : List ℕ → List ℕ → Bool
is_name name known = bytes_eq (map to_ascii_lowercase known) (map to_ascii_lowercase name)

-- the first if there is one, or else the other
abbrev pub or_else : Option ℕ → Option ℕ → Option ℕ
or_else None other = other
or_else (Some b) other = Some b

-- the place of a name in a table, which has one name in each line
unfoldable pub place_of : List ℕ → List ℕ → Option ℕ
place_of table name = position_from (is_name name) 0 (lines_of table)

-- the byte of petcat's name: its number, or its place in the table
unfoldable pub petcat_byte : List ℕ → Option ℕ
petcat_byte name = or_else (hex_byte name) (option_map byte_at (place_of NAMES.now name))

-- the byte of a letter with the control key, by the letter alone, in either case: A is 1
abbrev pub control_byte : List ℕ → Option ℕ
control_byte (letter ∷ []) =
    let small = to_ascii_lowercase letter in
    if nat_le 97 small && nat_le small 122 then Some (small - 96) else None
control_byte name = None

-- the byte of a magazine's own name, by its place in their table
abbrev pub own_byte_at : ℕ → ℕ
own_byte_at place = slice_index_or MAGAZINE_BYTES place 0

abbrev pub own_byte : List ℕ → Option ℕ
own_byte name = option_map own_byte_at (place_of MAGAZINE_NAMES.now name)

-- the byte of a name in a magazine: petcat's name, a letter alone, or a name of its own
unfoldable pub magazine_byte : List ℕ → Option ℕ
magazine_byte name =
    or_else (petcat_byte name) (or_else (control_byte name) (own_byte name))

-- the byte of a name without a count
unfoldable pub byte_named : Spelling → List ℕ → Option ℕ
byte_named Petcat name = petcat_byte name
byte_named Magazine name = magazine_byte name

-- a name without the s at its end, in either case
abbrev pub singular : List ℕ → List ℕ
singular name =
    if to_ascii_lowercase (slice_index_or name (length name - 1) 0) == 115
    then take (length name - 1) name else name

-- the byte of a name after a count: a magazine may have the name in the plural
unfoldable pub byte_counted : Spelling → List ℕ → Option ℕ
byte_counted Petcat name = byte_named Petcat name
byte_counted Magazine name = or_else (byte_named Magazine name) (byte_named Magazine (singular name))

-- this many times the byte of a name, if it has one
abbrev pub times : ℕ → Option ℕ → Option (ℕ × ℕ)
times count None = None
times count (Some b) = Some (count, b)

-- a count of 1 to 255 in front of a name, and the name, with a space between them
unfoldable pub cut_count : List ℕ → Option (ℕ × List ℕ)
cut_count bytes =
    let digits = prefix_len is_digit bytes in
    let count = number_of (take digits bytes) in
    let rest = drop digits bytes in
    if (slice_index_or rest 0 0 == 32) && (nat_le 1 count && nat_le count 255)
    then Some (count, drop 1 rest) else None

-- that many times the byte of that name
abbrev pub counted : (List ℕ → Option ℕ) → Option (ℕ × List ℕ) → Option (ℕ × ℕ)
counted byte None = None
counted byte (Some (count, name)) = times count (byte name)

-- how many times a name in braces stands for a byte, and the byte: once, or by a count in front of the name
unfoldable pub named : Spelling → List ℕ → Option (ℕ × ℕ)
named spelling name =
    if prefix_len is_digit name == 0 then times 1 (byte_named spelling name)
    else counted (byte_counted spelling) (cut_count name)

-- the byte of a key with the Commodore key, as `{CBM-A}` or `{COMD 5}` in braces
unfoldable pub key_byte : List ℕ → Option ℕ
key_byte (key ∷ []) =
    or_else (magazine_byte (codes "cbm-" ++ key ∷ [])) (magazine_byte (codes "comd " ++ key ∷ []))
key_byte key = None

-- how many times a key stands for that byte, and the byte: once, or by a count in front of the key
unfoldable pub keyed : List ℕ → Option (ℕ × ℕ)
keyed key = if length key == 1 then times 1 (key_byte key) else counted key_byte (cut_count key)

-- a key of a magazine has `<` and `>` around it
abbrev pub has_angles : List ℕ → Bool
has_angles name =
    nat_lt 1 (length name)
    && ((slice_index_or name 0 0 == 60) && (slice_index_or name (length name - 1) 0 == 62))

-- how many times what is in brackets stands for a byte, and the byte: in braces a name, in square ones a key
unfoldable pub bracketed : Spelling → Brackets → List ℕ → Option (ℕ × ℕ)
bracketed spelling Curly name = named spelling name
bracketed spelling Square name =
    if has_angles name then keyed (take (length name - 2) (drop 1 name)) else None

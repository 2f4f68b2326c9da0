-- Words of calls: what an input looks like.
use Rattle.std.specs.Prelude.{ℕ, zero, suc, ◌+◌, ◌&&◌, ◌||◌, ◌==◌, not, Bool, false, true, List, [], ◌∷◌, length, nat_le, nat_lt, if◌then◌else◌}
use Rattle.std.specs.List.{list_all}
use Rattle.pr_listing.specs.Containers.{entry_count, is_used}
use Rattle.pr_listing.specs.Typed.{front_of}

-- bytes begin with the load address $0801
abbrev pub begins_saved : List ℕ → Bool
begins_saved (low ∷ high ∷ bytes) = (low == 1) && (high == 8)
begins_saved bytes = false

-- bytes are of a text: they have no control codes but tabs and the ends of lines
abbrev pub is_text_byte : ℕ → Bool
is_text_byte b = nat_le 32 b || ((b == 9) || ((b == 10) || (b == 13)))

abbrev pub is_text : List ℕ → Bool
is_text bytes = nat_lt 0 (length bytes) && list_all is_text_byte bytes

-- this many bytes has an image of a 1541's disk
abbrev pub is_disk_size : ℕ → Bool
is_disk_size n = (n == 174848) || ((n == 175531) || ((n == 196608) || (n == 197376)))

-- an entry of a T64 file is of one file, or of none
unfoldable pub file_count : List ℕ → ℕ → ℕ
file_count file entry = if is_used file entry then 1 else 0

-- how many of n entries of 32 bytes from a place on are of a file
unfoldable pub used_count : List ℕ → ℕ → ℕ → ℕ
used_count file entry zero = 0
used_count file entry (suc n) = file_count file entry + used_count file (entry + 32) n

-- how many files a T64 file has
abbrev pub tape_files : List ℕ → ℕ
tape_files file = used_count file 64 (entry_count file)

-- a string has a small letter or a brace
abbrev pub has_typed : Bool → List ℕ → Bool
has_typed quoted [] = false
has_typed quoted (b ∷ bs) =
    if quoted && ((nat_le 97 b && nat_le b 122) || (b == 123)) then true
    else has_typed (if b == 34 then not quoted else quoted) bs

-- so has a string of a line, before its remark
abbrev pub has_typed_string : List ℕ → Bool
has_typed_string line = has_typed false (front_of line)

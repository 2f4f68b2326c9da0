-- Trusted: a saved program in a file of another kind, after a header.
use Rattle.std.specs.Prelude.{ℕ, zero, suc, ◌+◌, ◌-◌, ◌*◌, ◌&&◌, ◌||◌, ◌==◌, Bool, List, [], ◌∷◌, Option, None, Some, codes, drop, length, nat_eq, nat_lt, slice_index_or, take, if◌then◌else◌}
use Rattle.std.specs.List.{starts_with}

-- a P00 file
abbrev pub is_p00 : List ℕ → Bool
is_p00 file = starts_with nat_eq file (codes "C64File")

-- a T64 file
abbrev pub is_t64 : List ℕ → Bool
is_t64 file = starts_with nat_eq file (codes "C64 tape") || starts_with nat_eq file (codes "C64S tape")

-- the number that two bytes at a place are, the low one first; a byte after the end counts as 0
abbrev pub address_at : ℕ → List ℕ → ℕ
address_at place bytes = slice_index_or bytes place 0 + 256 * slice_index_or bytes (place + 1) 0

-- how many entries the directory of a T64 file has: as many as its header says, and one at least
abbrev pub entry_count : List ℕ → ℕ
entry_count file = if address_at 34 file == 0 then 1 else address_at 34 file

-- the entry at a place is of a file: its first byte is 1
abbrev pub is_used : List ℕ → ℕ → Bool
is_used file entry = slice_index_or file entry 0 == 1

-- where the file of an entry begins: four bytes, the low one first
abbrev pub offset_at : List ℕ → ℕ → ℕ
offset_at file entry = address_at (entry + 8) file + 65536 * address_at (entry + 10) file

-- the first entry of a file among n entries of 32 bytes from a place on
unfoldable pub used_from : List ℕ → ℕ → ℕ → Option ℕ
used_from file entry zero = None
used_from file entry (suc n) =
    if is_used file entry then Some entry else used_from file (entry + 32) n

-- the limit of a file that begins at `start`, or before the limit where the file of an entry begins
abbrev pub nearer_end : List ℕ → (start entry limit : ℕ) → ℕ
nearer_end file start entry limit =
    let other = offset_at file entry in
    if is_used file entry && (nat_lt start other && nat_lt other limit) then other else limit

-- so by n entries from a place on
unfoldable pub cut_at_files : List ℕ → (start entry limit n : ℕ) → ℕ
cut_at_files file start entry limit zero = limit
cut_at_files file start entry limit (suc n) =
    cut_at_files file start (entry + 32) (nearer_end file start entry limit) n

-- where the file of an entry ends by its start address and its end address, and two bytes after that: many end
-- addresses are one or two bytes too small; one that is not greater than the start address says nothing
abbrev pub addressed_end : List ℕ → ℕ → ℕ
addressed_end file entry =
    let from = address_at (entry + 2) file in
    let to = address_at (entry + 4) file in
    if nat_lt from to then offset_at file entry + (to - from) + 2 else length file

-- the saved program of an entry: a T64 file has a load address only in the entry; since no load address counts,
-- the two bytes before the program are taken for it
abbrev pub entry_program : List ℕ → ℕ → List ℕ
entry_program file entry =
    let start = offset_at file entry in
    let stop = cut_at_files file start 64 (addressed_end file entry) (entry_count file) in
    take (stop - (start - 2)) (drop (start - 2) file)

-- a program without a line
abbrev pub no_program : List ℕ
no_program = 0 ∷ 0 ∷ 0 ∷ 0 ∷ []

-- the saved program of a T64 file: that of the first entry of a file; without one, a program without a line
abbrev pub program_at : List ℕ → Option ℕ → List ℕ
program_at file None = no_program
program_at file (Some entry) = entry_program file entry

-- the saved program of a file: in a P00 file it follows a header of 26 bytes
abbrev pub program_in : List ℕ → List ℕ
program_in file =
    if is_p00 file then drop 26 file
    else (if is_t64 file then program_at file (used_from file 64 (entry_count file)) else file)

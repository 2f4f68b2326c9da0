-- Trusted: the pieces of a Value Change Dump: its sections, from a keyword to `$end`, its time stamps and its changes.
use Rattle.std.specs.Prelude.{ℕ, ◌==◌, ◌||◌, Bool, true, false, List, [], ◌∷◌, ◌++◌, codes, if◌then◌else◌}
use Rattle.std.specs.List.{list_any}
use Rattle.std.specs.Str.{bytes_eq}
use Rattle.pr_capture.specs.declared.entries.Keyword.{Keyword}
use Rattle.pr_capture.specs.declared.entries.Keyword.TheVariants.{Definitions, Other, Pause, Scope, Timescale, Upscope, Var}
use Rattle.pr_capture.specs.declared.entries.Entry.{Entry}
use Rattle.pr_capture.specs.declared.entries.Entry.TheVariants.{Foreign, Level, Opens, Resumes, Silent, Time, Value}
use Rattle.pr_capture.specs.Words.{Word}

-- What a word outside the sections is.

-- changes count in these sections as elsewhere, so the words that begin and end them mean nothing
abbrev pub is_bracket : (letters : List ℕ) → Bool
is_bracket l = bytes_eq l (codes "$end") || bytes_eq l (codes "$dumpvars") || bytes_eq l (codes "$dumpall")

-- what any other section is by its keyword. The values of `$dumpoff` say nothing: recording pauses after it
abbrev pub keyword_of : (letters : List ℕ) → Keyword
keyword_of l =
    if bytes_eq l (codes "$timescale") then Timescale
    else (if bytes_eq l (codes "$scope") then Scope
    else (if bytes_eq l (codes "$upscope") then Upscope
    else (if bytes_eq l (codes "$var") then Var
    else (if bytes_eq l (codes "$enddefinitions") then Definitions
    else (if bytes_eq l (codes "$dumpoff") then Pause
    else Other)))))

-- a word that begins with $: recording goes on, or a section does, or it says nothing by itself
abbrev pub keyword_entry : (letters : List ℕ) → Entry
keyword_entry l =
    if is_bracket l then Silent
    else (if bytes_eq l (codes "$dumpon") then Resumes
    else Opens (keyword_of l))

-- a level of one bit: 0, 1, x or z, or one of those that simulators of VHDL write beside them
abbrev pub is_level : ℕ → Bool
is_level b = list_any (λ d. d == b) (codes "01xXzZuUwWlLhH-")

-- a level, only if a signal's code follows it in the same word
abbrev pub level_entry : (level : ℕ) → (code : List ℕ) → Entry
level_entry b [] = Foreign
level_entry b (c ∷ code) = Level b

-- the first letter of a value whose signal's code is the next word: b before bits, r before a number, s before a text
abbrev pub is_value : ℕ → Bool
is_value b = list_any (λ d. d == b) (codes "bBrRsS")

-- the bits of such a value; of any other value its first letter, which is no level
abbrev pub bits_of : (letters : List ℕ) → List ℕ
bits_of [] = []
bits_of (b ∷ bs) = if b == 98 || b == 66 then bs else b ∷ []

-- a word: a keyword, a time, a level and the code of its signal, or a value
abbrev pub entry_of : (letters : List ℕ) → Entry
entry_of [] = Silent
entry_of (b ∷ bs) =
    if b == 36 then keyword_entry (b ∷ bs)
    else (if b == 35 then Time
    else (if is_level b then level_entry b bs
    else (if is_value b then Value
    else Foreign)))

-- a word without its first letter
abbrev pub rest_of : List ℕ → List ℕ
rest_of [] = []
rest_of (b ∷ bs) = bs

-- The pieces.

-- a piece, with its line: a section, with the words inside; a time stamp, with its digits; the bits of the signal with a code;
-- a word that can not be here; recording that goes on; a section that the text does not end
pub data Piece : Type 0 where
  Section : (line : ℕ) → Keyword → (inside : List (List ℕ)) → Piece
  Stamp : (line : ℕ) → (digits : List ℕ) → Piece
  Change : (line : ℕ) → (bits code : List ℕ) → Piece
  Stray : (line : ℕ) → Piece
  Resume : (line : ℕ) → Piece
  Unended : (line : ℕ) → Piece

-- what has begun: nothing, a section with its words so far, or a value, whose signal's code is the next word
pub data Begun : Type 0 where
  Nothing : Begun
  Inside : (line : ℕ) → Keyword → (inside : List (List ℕ)) → Begun
  Behind : (line : ℕ) → (bits : List ℕ) → Begun

-- the words of these sections are looked at
abbrev pub keeps : Keyword → Bool
keeps Timescale = true
keeps Scope = true
keeps Upscope = false
keeps Var = true
keeps Definitions = false
keeps Pause = false
keeps Other = false

abbrev pub with_word : Keyword → (inside : List (List ℕ)) → (letters : List ℕ) → List (List ℕ)
with_word k inside l = if keeps k then inside ++ l ∷ [] else inside

-- what has begun after a word
abbrev pub begun_by : Word → Entry → Begun
begun_by w (Opens k) = Inside w.line k []
begun_by w Value = Behind w.line (bits_of w.letters)
begun_by w Silent = Nothing
begun_by w Resumes = Nothing
begun_by w Time = Nothing
begun_by w (Level level) = Nothing
begun_by w Foreign = Nothing

abbrev pub begun_behind : Begun → Word → Begun
begun_behind Nothing w = begun_by w (entry_of w.letters)
begun_behind (Inside line k inside) w =
    if bytes_eq w.letters (codes "$end") then Nothing else Inside line k (with_word k inside w.letters)
begun_behind (Behind line bits) w = Nothing

-- the piece that a word ends, if it ends one
abbrev pub piece_by : Word → Entry → List Piece
piece_by w Time = Stamp w.line (rest_of w.letters) ∷ []
piece_by w (Level level) = Change w.line (level ∷ []) (rest_of w.letters) ∷ []
piece_by w Foreign = Stray w.line ∷ []
piece_by w (Opens k) = []
piece_by w Value = []
piece_by w Silent = []
piece_by w Resumes = Resume w.line ∷ []

abbrev pub piece_at : Begun → Word → List Piece
piece_at Nothing w = piece_by w (entry_of w.letters)
piece_at (Inside line k inside) w = if bytes_eq w.letters (codes "$end") then Section line k inside ∷ [] else []
piece_at (Behind line bits) w = Change line bits w.letters ∷ []

-- the piece that the text's end leaves, if it leaves one
abbrev pub piece_left : Begun → List Piece
piece_left Nothing = []
piece_left (Inside line k inside) = Unended line ∷ []
piece_left (Behind line bits) = Stray line ∷ []

-- the pieces of words, with what has begun before them
abbrev pub pieces_behind : Begun → List Word → List Piece
pieces_behind begun [] = piece_left begun
pieces_behind begun (w ∷ ws) = piece_at begun w ++ pieces_behind (begun_behind begun w) ws

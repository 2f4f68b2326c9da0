-- Words of calls: the byte of a saved program that its script text has at a place.
use Rattle.std.specs.Prelude.{◌≡◌, ℕ, suc, ◌+◌, ◌-◌, List, [], ◌∷◌, Option, None, Some, decimal, length, nat_lt, if◌then◌else◌}
use Rattle.pr_listing.specs.Listing.{byte_text, mode_after}
use Rattle.pr_listing.specs.Program.{BeginsWith, Holds, Line}
use Rattle.pr_listing.specs.declared.line.Mode.{Mode}
use Rattle.pr_listing.specs.declared.line.Mode.TheVariants.{Plain}

-- the byte at a place of the text of these bytes, of which the first is in this mode
abbrev pub byte_under : Mode → ℕ → List ℕ → Option ℕ
byte_under mode place [] = None
byte_under mode place (b ∷ bs) =
    let size = length (byte_text mode b) in
    if nat_lt place size then Some b else byte_under (mode_after mode b) (place - size) bs

-- the byte at a place of a line's text, which begins with the line's number and a space
abbrev pub byte_in_line : Line → ℕ → Option ℕ
byte_in_line l place =
    let front = length (decimal l.number) + 1 in
    if nat_lt place front then None else byte_under Plain (place - front) l.bytes

-- a file's line with this number, counted from 1
abbrev pub IsLineAt : List ℕ → ℕ → Line → Type 0
IsLineAt file number l = (before : List Line) × (rest : List ℕ) × (after : List ℕ)
    × Holds before file rest × BeginsWith l rest after × (number ≡ suc (length before))

-- the lines before the rest were passed; the next one has this number
pub record IsPassedTo (file rest : List ℕ) (number : ℕ) : Type 0 where
  pub lines : List Line
  pub held : Holds lines file rest
  pub numbered : number ≡ suc (length lines)

-- Machine steps: lines whose times share all digits but the last three. No reader needs to believe them.
use Rattle.std.specs.Prelude.{◌≡◌, ℕ, ◌+◌, ◌-◌, ◌*◌, ◌<◌, ◌≤◌, List, [], ◌∷◌, true, length, take, slice_index_or}
use Rattle.std.specs.Int.{w32, from_le_bytes}
use Rattle.pr_base.specs.Digits.{is_digit, number_after}

-- the four bytes from a place on, as one number
abbrev pub word_at : List ℕ → ℕ → ℕ
word_at text i =
    from_le_bytes w32
    (slice_index_or text i 0 ∷ slice_index_or text (i + 1) 0 ∷ slice_index_or text (i + 2) 0
    ∷ slice_index_or text (i + 3) 0 ∷ [])

-- this many digits are in front, and spell these thousands
pub record SpellsThousands (text : List ℕ) (len time : ℕ) : Type 0 where
  pub digits : (i : ℕ) → i < len → is_digit (slice_index_or text i 0) ≡ true
  pub number : 1000 * number_after 0 (take len text) ≡ time

-- from 4 to 8 digits, by the first four and the last four, spell these thousands wherever they are in front
pub record IsFront (len first last time : ℕ) : Type 0 where
  pub least : 4 ≤ len
  pub greatest : len ≤ 8
  pub spells : (text : List ℕ) → ((i : ℕ) → slice_index_or text i 0 < 256)
      → len ≤ length text → word_at text 0 ≡ first → word_at text (len - 4) ≡ last → SpellsThousands text len time

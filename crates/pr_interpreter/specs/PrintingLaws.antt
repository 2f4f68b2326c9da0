-- What is certain of printing: a number is printed as each value that it stands for, and whole numbers read back.
use Rattle.std.specs.Prelude.{ℕ, ℤ, ◌+◌, ◌-◌, ◌*◌, ◌^◌, ◌<◌, ◌≤◌, ◌≡◌, ◌≢◌, Bool, List, [], ◌∷◌, slice_index}
use Rattle.std.specs.Prelude.{unsigned_abs}
use Rattle.pr_interpreter.specs.declared.decimals.Decimal.{Decimal}
use Rattle.pr_interpreter.specs.Numbers.{Known, Encloses, HasSign, whole_number}
use Rattle.pr_interpreter.specs.Decimals.{HasDigits, IsDecimal, sign_of}
use Rattle.pr_interpreter.specs.Printing.{digits_text}

-- each value that a number stands for has the digits and the sign that are printed of the number
abbrev pub DigitsAreCertain : Type 0
DigitsAreCertain = (n : Known) (d : Decimal) (x : ℤ) → IsDecimal n d → Encloses n x
    → HasDigits (unsigned_abs x) d.magnitude × HasSign (sign_of d.negative) x

-- every byte is a digit
abbrev pub AreDigits : List ℕ → Type 0
AreDigits [] = Unit {0}
AreDigits (d ∷ ds) = (48 ≤ d) × (d ≤ 57) × AreDigits ds

-- the number that digits write after those of a number
abbrev pub read_digits : ℕ → List ℕ → ℕ
read_digits n [] = n
read_digits n (d ∷ ds) = read_digits (n * 10 + (d - 48)) ds

-- a row of digits, of which the first is not 0, writes a whole number
pub record Writes (text : List ℕ) (n : ℕ) : Type 0 where
  pub digits : AreDigits text
  pub first : slice_index text 0 ≢ 48
  pub value : read_digits 0 text ≡ n

-- what is printed of a whole number reads back as that number
pub record ReadsBack (negative : Bool) (n : ℕ) (d : Decimal) : Type 0 where
  pub sign : d.negative ≡ negative
  pub digits : Writes (digits_text d.magnitude) n

-- a whole number below 1000000000 is printed, and as the digits that write it
abbrev pub WholeNumbersReadBack : Type 0
WholeNumbersReadBack = (negative : Bool) (n : ℕ) → 0 < n → n < 10 ^ 9
    → ((d : Decimal) × IsDecimal (whole_number negative n) d)
    × ((d : Decimal) → IsDecimal (whole_number negative n) d → ReadsBack negative n d)

-- Trusted: the nine digits that BASIC prints of a number.
-- A digit's place is a power of ten, counted from 10 ^ -37: at place 37 are the ones, at place 38 the tens.
use Rattle.std.specs.Prelude.{ℕ, ◌+◌, ◌-◌, ◌*◌, ◌/◌, ◌^◌, ◌<◌, ◌≤◌, ◌≡◌, ◌≢◌, ◌==◌, ◌&&◌, zero, suc, Bool, true, false}
use Rattle.std.specs.Prelude.{nat_lt, if◌then◌else◌, Option, Some, None}
use Rattle.pr_interpreter.specs.declared.decimals.Digits.{Digits}
use Rattle.pr_interpreter.specs.declared.decimals.Decimal.{Decimal}
use Rattle.pr_interpreter.specs.declared.span.Span.{Span}
use Rattle.pr_interpreter.specs.declared.number.Sign.{Sign}
use Rattle.pr_interpreter.specs.declared.number.Sign.TheVariants.{Plus, Minus, Either}
use Rattle.pr_interpreter.specs.Machine.{unit_bits}
use Rattle.pr_interpreter.specs.Numbers.{Known}

-- how many sixteenths of the power of ten at a place are in a magnitude of so many units, without the rest
unfoldable pub sixteenths : ℕ → ℕ → ℕ
sixteenths place units = units * 16 * 10 ^ 37 / (10 ^ place * 2 ^ unit_bits)

-- from so many sixteenths on, a magnitude that is rounded at the place has ten digits or more
abbrev pub ten_digits : ℕ
ten_digits = 16 * 10 ^ 9 - 8

-- from so many on, the machine already takes one place more: its limit is 999999999.0625
abbrev pub next_place : ℕ
next_place = 16 * 999999999 + 1

-- a magnitude of so many units, rounded to nine digits: the number that they make, and the place of the last
pub record HasDigits (units : ℕ) (d : Digits) : Type 0 where
  pub rounded : d.digits ≡ (sixteenths d.place units + 8) / 16
  pub nine : sixteenths d.place units < next_place
  pub finest : (p : ℕ) → p < d.place → ten_digits ≤ sixteenths p units
  pub within : d.place ≤ 67

-- the count of sixteenths at a place where a magnitude has at most nine digits
abbrev pub IsCount : ℕ → ℕ → ℕ → ℕ → Type 0
IsCount units place at count = (at ≡ place) × (count ≡ sixteenths place units) × (count < ten_digits)

-- the count of sixteenths at the first place where a magnitude has at most nine digits
pub record IsFirst (units place count : ℕ) : Type 0 where
  pub found : count ≡ sixteenths place units
  pub below : count < ten_digits
  pub finest : (p : ℕ) → p < place → ten_digits ≤ sixteenths p units
  pub within : place ≤ 67

-- both ends of a span have these digits
pub record HasCommon (s : Span) (d : Digits) : Type 0 where
  pub low : HasDigits (s.low * 2 ^ s.scale) d
  pub high : HasDigits (s.high * 2 ^ s.scale) d

-- the sign that is printed
abbrev pub sign_of : Bool → Sign
sign_of false = Plus
sign_of true = Minus

-- what is printed of a number: both its ends have these digits; place 0 is that of 0 alone
pub record IsDecimal (n : Known) (d : Decimal) : Type 0 where
  pub digits : HasCommon n.span d.magnitude
  pub large : n.span.high ≢ 0 → 0 < d.magnitude.place
  pub sign : n.span.high ≢ 0 → n.sign ≡ sign_of d.negative
  pub nothing : n.span.high ≡ 0 → d.negative ≡ false

-- ---- the decimal that is printed

-- the digits of a magnitude at the first of so many places, from one on, where it has at most nine
abbrev pub digits_from : ℕ → ℕ → ℕ → Option Digits
digits_from units place zero = None
digits_from units place (suc more) =
    if nat_lt (sixteenths place units) ten_digits
    then (if nat_lt (sixteenths place units) next_place
    then Some (record { digits = (sixteenths place units + 8) / 16; place = place }) else None)
    else digits_from units (place + 1) more

unfoldable pub digits_of : ℕ → Option Digits
digits_of units = digits_from units 0 68

-- the digits of both ends, if they are the same
abbrev pub common : Option Digits → Option Digits → Option Digits
common None e = None
common (Some d) None = None
common (Some d) (Some e) = if (d.place == e.place) && (d.digits == e.digits) then Some d else None

abbrev pub decimal_by : Sign → Digits → Option Decimal
decimal_by Plus d = Some (record { negative = false; magnitude = d })
decimal_by Minus d = Some (record { negative = true; magnitude = d })
decimal_by Either d = None

abbrev pub decimal_with : Known → Option Digits → Option Decimal
decimal_with n None = None
decimal_with n (Some d) =
    if n.span.high == 0 then Some (record { negative = false; magnitude = d })
    else if d.place == 0 then None else decimal_by n.sign d

-- what is printed of a number, if it is the same for all its values
unfoldable pub decimal_of : Known → Option Decimal
decimal_of n =
    decimal_with n (common (digits_of (n.span.low * 2 ^ n.span.scale)) (digits_of (n.span.high * 2 ^ n.span.scale)))

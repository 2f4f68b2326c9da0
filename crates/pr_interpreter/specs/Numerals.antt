-- Trusted: decimal constants in a line: digits, perhaps with a point, and perhaps E and an exponent.
use Rattle.std.specs.Prelude.{ℕ, ◌+◌, ◌-◌, ◌*◌, ◌==◌, ◌||◌, ◌&&◌, Bool, true, false, not, List, [], ◌∷◌, take, drop}
use Rattle.std.specs.Prelude.{nat_le, nat_lt, if◌then◌else◌, Option, Some, None}
use Rattle.std.specs.List.{prefix_len}
use Rattle.pr_base.specs.Digits.{is_digit}
use Rattle.pr_interpreter.specs.declared.constants.Constant.{Constant}
use Rattle.pr_interpreter.specs.declared.constants.Tens.{Tens}
use Rattle.pr_interpreter.specs.declared.constants.Tens.TheVariants.{Over, Times}
use Rattle.pr_interpreter.specs.declared.numerals.Exponent.{Exponent}
use Rattle.pr_interpreter.specs.declared.numerals.Numeral.{Numeral}
use Rattle.pr_interpreter.specs.declared.symbols.Symbol.{Symbol}
use Rattle.pr_interpreter.specs.Symbols.{code_of, first_code}

-- before the first digit
abbrev pub no_digits : Numeral
no_digits = record { digits = 0; more = false; further = 0; decimals = 0; point = false }

-- one more digit can be kept, and the number stays below 2 ^ 32
abbrev pub has_room : Numeral → Bool
has_room r = (r.further == 0) && nat_lt r.digits 429496729

-- a numeral with one more digit
unfoldable pub with_digit : Numeral → ℕ → Numeral
with_digit r d = record {
  digits = if has_room r then r.digits * 10 + d else r.digits;
  more = if has_room r then r.more else r.more || not (d == 0);
  further = if has_room r then r.further else r.further + 1;
  decimals = if r.point then r.decimals + 1 else r.decimals;
  point = r.point;
}

-- a numeral with one more symbol; none if the symbol belongs to no numeral, as a second point
unfoldable pub after_code : Numeral → ℕ → Option Numeral
after_code r c =
    if is_digit c then Some (with_digit r (c - 48))
    else if (c == 46) && not r.point then Some (record r { point = true })
    else None

abbrev pub or_last : {A : Type 0} → Option Numeral → A → (Numeral → A) → A
or_last None last more = last
or_last (Some r) last more = more r

-- the numeral at the front of symbols
abbrev pub numeral : Numeral → List Symbol → Numeral
numeral r [] = r
numeral r (s ∷ ss) = or_last (after_code r (code_of s)) r (λ more. numeral more ss)

-- how many symbols it has
abbrev pub numeral_size : Numeral → List Symbol → ℕ
numeral_size r [] = 0
numeral_size r (s ∷ ss) = or_last (after_code r (code_of s)) 0 (λ more. numeral_size more ss + 1)

-- how many symbols at the front are digits
abbrev pub digits_size : List Symbol → ℕ
digits_size ss = prefix_len (λ s. is_digit (code_of s)) ss

-- an exponent with one more digit: of three digits and more it is 100
abbrev pub next_exponent : ℕ → ℕ → ℕ
next_exponent e c = if nat_lt e 10 then e * 10 + (c - 48) else 100

-- the exponent that digits make after those of another
abbrev pub exponent_value : ℕ → List Symbol → ℕ
exponent_value e [] = e
exponent_value e (s ∷ ss) = exponent_value (next_exponent e (code_of s)) ss

-- how many symbols at the front are the sign of an exponent: the token of + or -
abbrev pub sign_size : List Symbol → ℕ
sign_size ss = if (first_code ss == 170) || (first_code ss == 171) then 1 else 0

-- the exponent after E
unfoldable pub exponent_after : List Symbol → Exponent
exponent_after ss = let digits = drop (sign_size ss) ss in record {
  negative = first_code ss == 171;
  value = exponent_value 0 (take (digits_size digits) digits);
  size = 1 + sign_size ss + digits_size digits;
}

-- the exponent at the front of symbols; it is 0 if there is none
unfoldable pub exponent_of : List Symbol → Exponent
exponent_of ss =
    if first_code ss == 69 then exponent_after (drop 1 ss) else record { negative = false; value = 0; size = 0 }

-- a power of ten
abbrev pub tens : ℕ → ℕ → Tens
tens up down = if nat_le down up then Times (up - down) else Over (down - up)

-- how often the machine multiplies and divides by ten after the digits
abbrev pub scalings : ℕ → ℕ → ℕ
scalings up down = up - down + (down - up)

-- the constant that a numeral and an exponent make: for each further digit the machine multiplies and adds
unfoldable pub constant_of : Numeral → Exponent → Constant
constant_of r e =
    let up = if e.negative then 0 else e.value in
    let down = if e.negative then r.decimals + e.value else r.decimals in
    record {
      digits = r.digits;
      more = r.more;
      tens = tens (up + r.further) down;
      roundings = scalings up down + 2 * r.further;
      plain = not r.point && (e.size == 0);
    }

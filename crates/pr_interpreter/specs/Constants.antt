-- Trusted: what is known of the value of a decimal constant.
-- The machine reads the digits as a whole number, exactly below 2 ^ 32, and then multiplies or divides by ten for each
-- place. It rounds each result to 32 binary digits, to the nearest.
use Rattle.std.specs.Prelude.{ℕ, pos, ◌+◌, ◌-◌, ◌*◌, ◌/◌, ◌^◌, ◌≤◌, ◌≡◌, nat_le, if◌then◌else◌, Result, Ok, Err}
use Rattle.pr_interpreter.specs.declared.constants.Constant.{Constant}
use Rattle.pr_interpreter.specs.declared.constants.Tens.{Tens}
use Rattle.pr_interpreter.specs.declared.constants.Tens.TheVariants.{Times, Over}
use Rattle.pr_interpreter.specs.declared.span.Span.{Span}
use Rattle.pr_interpreter.specs.declared.number.Sign.TheVariants.{Plus}
use Rattle.pr_interpreter.specs.declared.fault.NumberFault.{NumberFault}
use Rattle.pr_interpreter.specs.declared.fault.NumberFault.TheVariants.{NotCertain}
use Rattle.pr_interpreter.specs.Machine.{MayAnswer, unit_bits}
use Rattle.pr_interpreter.specs.Spans.{answer, bit_length}
use Rattle.pr_interpreter.specs.Numbers.{Known, Encloses, quotient_digits, quotient_scale, signed}

-- the least number that the digits may make
abbrev pub least : Constant → ℕ
least c = c.digits

-- and the greatest
abbrev pub greatest : Constant → ℕ
greatest c = c.digits + (if c.more then 1 else 0)

-- the exponent of a power of ten
abbrev pub exponent_of : Tens → ℕ
exponent_of (Times n) = n
exponent_of (Over n) = n

-- the magnitudes from low to high times 10 ^ n
abbrev pub times_ten : ℕ → ℕ → ℕ → Span
times_ten n low high = record { low = low * 5 ^ n; high = high * 5 ^ n; scale = unit_bits + n }

-- the magnitudes from low to high over 10 ^ n, rounded outward
abbrev pub over_ten : ℕ → ℕ → ℕ → Span
over_ten n low high = record {
  low = low * 2 ^ quotient_digits / 5 ^ n;
  high = (high * 2 ^ quotient_digits + (5 ^ n - 1)) / 5 ^ n;
  scale = quotient_scale - n;
}

abbrev pub scaled_span : Tens → ℕ → ℕ → Span
scaled_span (Times n) low high = times_ten n low high
scaled_span (Over n) low high = over_ten n low high

-- so many roundings, each to one part in 2 ^ 32, are right to one part in 2 ^ error
unfoldable pub error_after : ℕ → ℕ
error_after roundings = 32 - bit_length (roundings - 1)

-- the value of a constant: exact where the exact value has 32 binary digits; with a power of ten up to 10 ^ 37
unfoldable pub value_of : Constant → Result Known NumberFault
value_of c =
    if nat_le (exponent_of c.tens) 37
    then signed Plus (answer 32 (error_after c.roundings) (scaled_span c.tens (least c) (greatest c)))
    else Err NotCertain

-- the machine may read r, where the digits of the constant make m
abbrev pub MayRead : Tens → ℕ → ℕ → ℕ → Type 0
MayRead (Times n) error m r = MayAnswer 32 error (m * 10 ^ n) 1 r
MayRead (Over n) error m r = MayAnswer 32 error m (10 ^ n) r

-- whatever the machine may read is in the number that is the constant's value
abbrev pub ConstantsAreCertain : Type 0
ConstantsAreCertain = (c : Constant) (n : Known) (m r : ℕ)
    → c.digits ≤ 2 ^ 32 → least c * 2 ^ unit_bits ≤ m → m ≤ greatest c * 2 ^ unit_bits
    → MayRead c.tens (error_after c.roundings) m r → value_of c ≡ Ok n → Encloses n (pos r)

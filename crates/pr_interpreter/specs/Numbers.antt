-- Trusted: numbers, as what is known of a value of the machine, and calculations with them.
use Rattle.std.specs.Prelude.{ℕ, ℤ, pos, ◌+◌, ◌-◌, ◌*◌, ◌/◌, ◌^◌, ◌≤ℤ◌, ◌==◌, ◌||◌, Bool, false, nat_le, nat_lt, max}
use Rattle.std.specs.Prelude.{min, if◌then◌else◌, Result, Ok, Err, Option, Some, None, unsigned_abs}
use Rattle.pr_interpreter.specs.declared.span.Span.{Span}
use Rattle.pr_interpreter.specs.declared.number.Sign.{Sign}
use Rattle.pr_interpreter.specs.declared.orders.Order.{Order}
use Rattle.pr_interpreter.specs.declared.whole_numbers.Whole.{Whole}
use Rattle.pr_interpreter.specs.declared.number.Sign.TheVariants.{Plus, Minus, Either}
use Rattle.pr_interpreter.specs.declared.fault.NumberFault.{NumberFault}
use Rattle.pr_interpreter.specs.declared.fault.NumberFault.TheVariants.{NotCertain, DivisionByZero}
use Rattle.pr_interpreter.specs.Machine.{unit_bits}
use Rattle.pr_interpreter.specs.Spans.{Holds, answer, bit_length}

-- a value has the sign, and its magnitude is in the span
pub record Known : Type 0 where
  pub sign : Sign
  pub span : Span

abbrev pub HasSign : Sign → ℤ → Type 0
HasSign Plus z = pos 0 ≤ℤ z
HasSign Minus z = z ≤ℤ pos 0
HasSign Either z = Unit {0}

-- a value of the machine, in units, is one of those that a number stands for
pub record Encloses (n : Known) (z : ℤ) : Type 0 where
  pub sign : HasSign n.sign z
  pub magnitude : Holds n.span (unsigned_abs z) 1

-- the number is exactly 0
abbrev pub is_zero : Known → Bool
is_zero n = n.span.high == 0

abbrev pub zero_number : Known
zero_number = record { sign = Plus; span = record { low = 0; high = 0; scale = 0 } }

-- a span with a sign
abbrev pub signed : Sign → Result Span NumberFault → Result Known NumberFault
signed sign (Ok span) = Ok (record { sign = sign; span = span })
signed sign (Err fault) = Err fault

-- the other sign
abbrev pub flip : Sign → Sign
flip Plus = Minus
flip Minus = Plus
flip Either = Either

abbrev pub negated : Known → Known
negated n = record { sign = flip n.sign; span = n.span }

-- the sign of a product
abbrev pub times : Sign → Sign → Sign
times Plus t = t
times Minus t = flip t
times Either t = Either

-- products of magnitudes
abbrev pub span_product : Span → Span → Span
span_product x y = record { low = x.low * y.low; high = x.high * y.high; scale = x.scale + y.scale - unit_bits }

-- the product: exact where it has at most 24 binary digits, since the machine's multiplication errs at bytes of 0
unfoldable pub product : Known → Known → Result Known NumberFault
product a b =
    if is_zero a || is_zero b then Ok zero_number
    else if nat_le unit_bits (a.span.scale + b.span.scale)
    then signed (times a.sign b.sign) (answer 24 30 (span_product a.span b.span)) else Err NotCertain

-- how many binary digits a quotient has at least, less those of an end
abbrev pub quotient_digits : ℕ
quotient_digits = 86

-- how far the scale of a dividend is below that of a quotient
abbrev pub quotient_scale : ℕ
quotient_scale = unit_bits - quotient_digits

-- quotients of magnitudes, by one that is not 0
abbrev pub span_quotient : Span → Span → Span
span_quotient x y = record {
  low = x.low * 2 ^ quotient_digits / y.high;
  high = (x.high * 2 ^ quotient_digits + (y.low - 1)) / y.low;
  scale = x.scale + quotient_scale - y.scale;
}

unfoldable pub quotient : Known → Known → Result Known NumberFault
quotient a b =
    if b.span.low == 0 then Err (if is_zero b then DivisionByZero else NotCertain)
    else if is_zero a then Ok zero_number
    else if nat_le b.span.scale (a.span.scale + quotient_scale)
    then signed (times a.sign b.sign) (answer 32 31 (span_quotient a.span b.span)) else Err NotCertain

-- ---- sums

-- of a span far below a scale only the size counts
abbrev pub settled : ℕ → Span → Span
settled top s = if nat_lt (s.scale + 85) top then record { low = 0; high = 1; scale = top - 40 } else s

-- a span at a scale that is not above its own
abbrev pub lowered : ℕ → Span → Span
lowered base s = record { low = s.low * 2 ^ (s.scale - base); high = s.high * 2 ^ (s.scale - base); scale = base }

-- the first span of a sum, at the scale that both spans can have
unfoldable pub aligned : Span → Span → Span
aligned x y =
    let first = settled y.scale x in
    let second = settled x.scale y in
    lowered (min first.scale second.scale) first

-- magnitudes of one sign
abbrev pub together : Span → Span → Span
together x y = record { low = x.low + y.low; high = x.high + y.high; scale = x.scale }

-- magnitudes of two signs
abbrev pub apart : Span → Span → Span
apart x y = record {
  low = x.low - y.high + (y.low - x.high);
  high = max (x.high - y.low) (y.high - x.low);
  scale = x.scale;
}

-- the first is of a sign that is not known
abbrev pub beside : Span → Span → Span
beside x y = record { low = y.low - x.high; high = x.high + y.high; scale = x.scale }

-- the magnitudes of the sums of values of two spans with their signs, at one scale
abbrev pub sum_span : Sign → Sign → Span → Span → Span
sum_span Plus Plus x y = together x y
sum_span Plus Minus x y = apart x y
sum_span Plus Either x y = beside y x
sum_span Minus Plus x y = apart x y
sum_span Minus Minus x y = together x y
sum_span Minus Either x y = beside y x
sum_span Either t x y = beside x y

-- the sign of the one that is certainly not smaller
abbrev pub larger_sign : Sign → Sign → Span → Span → Sign
larger_sign s t x y = if nat_le y.high x.low then s else if nat_le x.high y.low then t else Either

-- the sign of the sums
abbrev pub sum_sign : Sign → Sign → Span → Span → Sign
sum_sign Plus Plus x y = Plus
sum_sign Plus Minus x y = larger_sign Plus Minus x y
sum_sign Plus Either x y = larger_sign Plus Either x y
sum_sign Minus Plus x y = larger_sign Minus Plus x y
sum_sign Minus Minus x y = Minus
sum_sign Minus Either x y = larger_sign Minus Either x y
sum_sign Either t x y = larger_sign Either t x y

-- the sum at one scale, before the machine rounds it
abbrev pub exact_sum : Known → Known → Known
exact_sum a b = let x = aligned a.span b.span in let y = aligned b.span a.span in
    record { sign = sum_sign a.sign b.sign x y; span = sum_span a.sign b.sign x y }

unfoldable pub sum : Known → Known → Result Known NumberFault
sum a b =
    if is_zero a then Ok b else if is_zero b then Ok a
    else signed (exact_sum a b).sign (answer 32 30 (exact_sum a b).span)

-- ---- comparisons

-- what a difference of a sign, in a span, may be against 0
abbrev pub against_zero : Sign → Span → Order
against_zero Plus s = record { less = false; equal = s.low == 0; greater = nat_lt 0 s.high }
against_zero Minus s = record { less = nat_lt 0 s.high; equal = s.low == 0; greater = false }
against_zero Either s = record { less = nat_lt 0 s.high; equal = s.low == 0; greater = nat_lt 0 s.high }

-- whether some value of the first number is less than, equal to or greater than one of the second
unfoldable pub order_of : Known → Known → Order
order_of a b =
    if is_zero b then against_zero a.sign a.span else if is_zero a then against_zero (flip b.sign) b.span
    else against_zero (exact_sum a (negated b)).sign (exact_sum a (negated b)).span

-- ---- whole numbers

-- the whole part of a magnitude
unfoldable pub floor_of : ℕ → ℕ → ℕ
floor_of end scale = end * 2 ^ scale / 2 ^ unit_bits

-- the same, rounded up
unfoldable pub ceiling_of : ℕ → ℕ → ℕ
ceiling_of end scale = (end * 2 ^ scale + (2 ^ unit_bits - 1)) / 2 ^ unit_bits

-- the greatest whole number that is not above a value, if it is one for all values of a sign in a span
abbrev pub whole_of : Sign → Span → Option Whole
whole_of Plus s =
    if floor_of s.low s.scale == floor_of s.high s.scale
    then Some (record { negative = false; magnitude = floor_of s.low s.scale }) else None
whole_of Minus s =
    if ceiling_of s.low s.scale == ceiling_of s.high s.scale
    then Some (record { negative = nat_lt 0 (ceiling_of s.low s.scale); magnitude = ceiling_of s.low s.scale })
    else None
whole_of Either s = if s.high == 0 then Some (record { negative = false; magnitude = 0 }) else None

-- the greatest whole number that is not above the value: for each value of the number the same, and all are
-- below 2 ^ 40
unfoldable pub floor : Known → Option Whole
floor a = if nat_le (bit_length a.span.high + a.span.scale) (unit_bits + 40) then whole_of a.sign a.span else None

-- ---- numbers that are known exactly

-- a whole number of at most 32 binary digits
abbrev pub whole_number : Bool → ℕ → Known
whole_number negative magnitude = record {
  sign = if negative then Minus else Plus;
  span = record { low = magnitude; high = magnitude; scale = unit_bits };
}

-- the number without its sign
abbrev pub absolute : Known → Known
absolute n = record { sign = Plus; span = n.span }

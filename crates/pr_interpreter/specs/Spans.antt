-- Trusted: spans of magnitudes, and the span of what the machine may answer.
use Rattle.std.specs.Prelude.{ℕ, ◌+◌, ◌-◌, ◌*◌, ◌/◌, ◌%◌, ◌^◌, ◌<◌, ◌≤◌, ◌==◌, ◌&&◌, ◌||◌, Bool, nat_le, nat_lt}
use Rattle.std.specs.Prelude.{if◌then◌else◌, Result, Ok, Err}
use Rattle.std.specs.Int.{w128, leading_zeros}
use Rattle.pr_interpreter.specs.declared.span.Span.{Span}
use Rattle.pr_interpreter.specs.declared.fault.NumberFault.{NumberFault}
use Rattle.pr_interpreter.specs.declared.fault.NumberFault.TheVariants.{NotCertain, Overflow}
use Rattle.pr_interpreter.specs.Machine.{smallest_bits, largest_bits}

-- a span whose ends fit the calculations
pub record IsWide (s : Span) : Type 0 where
  pub ordered : s.low ≤ s.high
  pub high : s.high < 2 ^ 127
  pub scale : s.scale ≤ 1000

-- a span whose ends fit an answer
pub record IsShort (s : Span) : Type 0 where
  pub ordered : s.low ≤ s.high
  pub high : s.high ≤ 2 ^ 40
  pub scale : s.scale ≤ 383

-- the quotient p / q is in a span
pub record Holds (s : Span) (p q : ℕ) : Type 0 where
  pub above : s.low * 2 ^ s.scale * q ≤ p
  pub below : p ≤ s.high * 2 ^ s.scale * q

-- a span whose ends fit a sum
pub record IsAligned (s : Span) : Type 0 where
  pub ordered : s.low ≤ s.high
  pub high : s.high ≤ 2 ^ 125
  pub scale : s.scale ≤ 383

-- how many binary digits a number below 2 ^ 128 has
unfoldable pub bit_length : ℕ → ℕ
bit_length n = 128 - leading_zeros w128 n

-- the last k binary digits are dropped, outward
unfoldable pub drop_digits : ℕ → Span → Span
drop_digits k s = record { low = s.low / 2 ^ k; high = (s.high + (2 ^ k - 1)) / 2 ^ k; scale = s.scale + k }

-- the ends are rounded outward to so many binary digits
unfoldable pub shorten : ℕ → Span → Span
shorten digits s = drop_digits (bit_length s.high - digits) s

-- how many binary digits the ends of a span have that is the answer of a calculation
abbrev pub end_digits : ℕ
end_digits = 40

-- one part in 2 ^ error is added at both ends
unfoldable pub widen : ℕ → Span → Span
widen error s = record { low = s.low * (2 ^ error - 1); high = s.high * (2 ^ error + 1); scale = s.scale - error }

-- the machine can hold each magnitude of the span: below 2 ^ 127, and 0 or at least 2 ^ -128
unfoldable pub is_in_range : Span → Bool
is_in_range s =
    nat_le (bit_length s.high + s.scale) largest_bits
    && (s.low == 0 || nat_lt smallest_bits (bit_length s.low + s.scale))

-- the machine can hold none: 2 ^ 127 or more
unfoldable pub is_too_large : Span → Bool
is_too_large s = nat_lt 0 s.low && nat_lt largest_bits (bit_length s.low + s.scale)

-- the span, if the machine can hold it
unfoldable pub in_range : Span → Result Span NumberFault
in_range s = if is_in_range s then Ok s else Err (if is_too_large s then Overflow else NotCertain)

-- what may be answered near the magnitudes of a span
unfoldable pub around : ℕ → Span → Result Span NumberFault
around error s = if nat_le error s.scale then in_range (shorten end_digits (widen error s)) else Err NotCertain

-- the span is one magnitude, of at most so many binary digits beside those that are 0 at its end
unfoldable pub has_form : ℕ → Span → Bool
has_form digits s = s.low == s.high && (s.high % 2 ^ (bit_length s.high - digits)) == 0

-- what the machine may answer where the exact magnitude is in a span
unfoldable pub answer : ℕ → ℕ → Span → Result Span NumberFault
answer digits error s = if has_form digits s then in_range (shorten digits s) else around error (shorten end_digits s)

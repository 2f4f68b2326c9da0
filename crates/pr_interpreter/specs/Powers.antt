-- Trusted: square roots, and powers with whole exponents. The machine works them out by EXP and LOG, right to one part
-- in 2 ^ 24.
use Rattle.std.specs.Prelude.{ℕ, zero, suc, ◌+◌, ◌-◌, ◌*◌, ◌/◌, ◌%◌, ◌≤◌, ◌^◌, ◌==◌, Bool, true, false, nat_le}
use Rattle.std.specs.Prelude.{if◌then◌else◌, Result, Ok, Err}
use Rattle.pr_interpreter.specs.declared.fault.NumberFault.{NumberFault}
use Rattle.pr_interpreter.specs.declared.fault.NumberFault.TheVariants.{NotCertain}
use Rattle.pr_interpreter.specs.declared.number.Sign.{Sign}
use Rattle.pr_interpreter.specs.declared.number.Sign.TheVariants.{Plus}
use Rattle.pr_interpreter.specs.declared.span.Span.{Span}
use Rattle.pr_interpreter.specs.Machine.{is_odd, unit_bits}
use Rattle.pr_interpreter.specs.Numbers.{Known, quotient_scale, signed, span_product, span_quotient}
use Rattle.pr_interpreter.specs.Spans.{around, end_digits, in_range, shorten}

-- how many binary digits of a root and of a power are certain
abbrev pub power_error : ℕ
power_error = 24

-- what the machine may answer near the magnitudes of a span
abbrev pub near_span : Span → Result Span NumberFault
near_span s = around power_error (shorten end_digits s)

-- ---- square roots

-- the square root of a number below 4 ^ k, rounded down: each further digit counts if its square is not above the number
unfoldable pub root : ℕ → ℕ → ℕ
root zero n = 0
root (suc k) n = let r = 2 * root k (n / 4) in if nat_le ((r + 1) * (r + 1)) n then r + 1 else r

-- the same, rounded up
abbrev pub root_above : ℕ → ℕ → ℕ
root_above k n = let r = root k n in if r * r == n then r else r + 1

-- how many binary digits are put to an end: what is multiplied by an even power of 2 has a root with half of it
abbrev pub more_digits : Span → ℕ
more_digits s = 84 + s.scale % 2

-- the roots of magnitudes; in units of 2 ^ -256 it is the root of 2 ^ 256 times as many
unfoldable pub root_span : Span → Span
root_span s = record {
  low = root 64 (s.low * 2 ^ more_digits s);
  high = root_above 64 (s.high * 2 ^ more_digits s);
  scale = s.scale / 2 + 86;
}

-- the root of a number that is not below 0
unfoldable pub root_of : Known → Result Known NumberFault
root_of a = signed Plus (near_span (root_span a.span))

-- ---- powers

-- how many binary digits the ends of a product have that is multiplied on
abbrev pub part_digits : ℕ
part_digits = 63

-- a span whose ends fit one more factor
pub record IsPart (s : Span) : Type 0 where
  pub ordered : s.low ≤ s.high
  pub high : s.high ≤ 2 ^ 63
  pub scale : s.scale ≤ 383

-- one more factor
unfoldable pub with_factor : Span → Span → Result Span NumberFault
with_factor part s =
    if nat_le unit_bits (part.scale + s.scale) then in_range (shorten part_digits (span_product part s)) else Err NotCertain

abbrev pub with_span : Result Span NumberFault → (Span → Result Span NumberFault) → Result Span NumberFault
with_span (Ok s) more = more s
with_span (Err fault) more = Err fault

-- so many factors more
abbrev pub with_factors : ℕ → Span → Span → Result Span NumberFault
with_factors zero part s = Ok part
with_factors (suc n) part s = with_span (with_factor part s) (λ next. with_factors n next s)

-- the magnitude 1
abbrev pub one_span : Span
one_span = record { low = 1; high = 1; scale = unit_bits }

-- one over the magnitudes of a span
unfoldable pub over_span : Span → Result Span NumberFault
over_span s =
    if s.low == 0 then Err NotCertain
    else if nat_le s.scale (unit_bits + quotient_scale) then near_span (span_quotient one_span s) else Err NotCertain

-- the power of a product, or one over it
abbrev pub power_or_over : Bool → Span → Result Span NumberFault
power_or_over false part = near_span part
power_or_over true part = over_span (shorten end_digits part)

-- the power with a whole number above 0, or below it, as exponent
unfoldable pub span_power : Bool → ℕ → Span → Result Span NumberFault
span_power negative n s = with_span (with_factors (n - 1) s s) (λ part. power_or_over negative part)

-- an odd power has the sign of what is raised
abbrev pub power_sign : Bool → Sign → Sign
power_sign true s = s
power_sign false s = Plus

unfoldable pub whole_power : Known → Bool → ℕ → Result Known NumberFault
whole_power a negative n = signed (power_sign (is_odd n) a.sign) (span_power negative n a.span)

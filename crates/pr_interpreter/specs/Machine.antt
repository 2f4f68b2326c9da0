-- Trusted: the numbers of Commodore 64 BASIC, and what the machine may answer where it calculates.
-- Magnitudes are counted in units of 2 ^ -256, so that each value of the machine is a whole number.
use Rattle.std.specs.Prelude.{ℕ, ℤ, pos, negsuc, neg_ℤ, Bool, true, false, not, ◌&&◌, unsigned_abs, ◌+ℤ◌, ◌<ℤ◌, ◌≤ℤ◌}
use Rattle.std.specs.Prelude.{◌+◌, ◌-◌, ◌*◌, ◌%◌, ◌^◌, ◌==◌, ◌<◌, ◌≤◌, ◌≡◌, ◌⊎◌}

-- the number 1 is 2 ^ 256 units
abbrev pub unit_bits : ℕ
unit_bits = 256

-- the smallest magnitude other than 0 is 2 ^ -128 (2.93873588E-39)
abbrev pub smallest_bits : ℕ
smallest_bits = 128

-- every magnitude is below 2 ^ 127 (1.70141183E+38)
abbrev pub largest_bits : ℕ
largest_bits = 383

-- a magnitude of at most so many binary digits, beside those that are 0 at its end, that the machine can hold
pub record HasForm (digits : ℕ) (magnitude : ℕ) : Type 0 where
  pub mantissa : ℕ
  pub exponent : ℕ
  pub short : mantissa < 2 ^ digits
  pub value : magnitude ≡ mantissa * 2 ^ exponent
  pub small : magnitude < 2 ^ largest_bits
  pub large : (magnitude ≡ 0) ⊎ (2 ^ smallest_bits ≤ magnitude)

-- the magnitude r differs from the quotient p / q by at most one part in 2 ^ error
pub record IsNear (error p q r : ℕ) : Type 0 where
  pub above : p * (2 ^ error - 1) ≤ r * q * 2 ^ error
  pub below : r * q * 2 ^ error ≤ p * (2 ^ error + 1)

-- The machine may answer r where the exact magnitude is the quotient p / q: that itself where it has the form; else one
-- that is near it, or 0 where it is below the smallest.
abbrev pub MayAnswer : ℕ → ℕ → ℕ → ℕ → ℕ → Type 0
MayAnswer digits error p q r =
    (HasForm digits r × (r * q ≡ p)) ⊎ (((p < 2 ^ smallest_bits * q) × (r ≡ 0)) ⊎
    (((v : ℕ) → HasForm digits v → ¬ (v * q ≡ p)) × IsNear error p q r))

-- a value of the machine is a whole number of units, with its sign
abbrev pub is_negative : ℤ → Bool
is_negative (pos n) = false
is_negative (negsuc n) = true

-- r has this sign, or is 0
abbrev pub SignedAs : Bool → ℤ → Type 0
SignedAs true r = r ≤ℤ pos 0
SignedAs false r = pos 0 ≤ℤ r

abbrev pub differ : Bool → Bool → Bool
differ true b = not b
differ false b = b

-- the machine may answer r to x + y: the other one, if one is 0
pub record MaySum (x y r : ℤ) : Type 0 where
  pub first : x ≡ pos 0 → r ≡ y
  pub second : y ≡ pos 0 → r ≡ x
  pub sign : SignedAs (is_negative (x +ℤ y)) r
  pub size : MayAnswer 32 30 (unsigned_abs (x +ℤ y)) 1 (unsigned_abs r)

-- the machine may answer r to x * y
abbrev pub MayProduct : ℤ → ℤ → ℤ → Type 0
MayProduct x y r =
    SignedAs (differ (is_negative x) (is_negative y)) r
    × MayAnswer 24 30 (unsigned_abs x * unsigned_abs y) (2 ^ unit_bits) (unsigned_abs r)

-- the machine may answer r to x / y, where y is not 0
abbrev pub MayQuotient : ℤ → ℤ → ℤ → Type 0
MayQuotient x y r =
    SignedAs (differ (is_negative x) (is_negative y)) r
    × MayAnswer 32 31 (unsigned_abs x * 2 ^ unit_bits) (unsigned_abs y) (unsigned_abs r)

-- r is near the square root of x, both in units
pub record IsNearRoot (error x r : ℕ) : Type 0 where
  pub above : x * 2 ^ unit_bits * ((2 ^ error - 1) * (2 ^ error - 1)) ≤ r * 2 ^ error * (r * 2 ^ error)
  pub below : r * 2 ^ error * (r * 2 ^ error) ≤ x * 2 ^ unit_bits * ((2 ^ error + 1) * (2 ^ error + 1))

-- the machine may answer r to the square root of x, where x is not below 0
abbrev pub MayRoot : ℤ → ℤ → Type 0
MayRoot x r = (pos 0 ≤ℤ r) × IsNearRoot 24 (unsigned_abs x) (unsigned_abs r)

-- the magnitude r is near the quotient p / q, or 0 where that is below the smallest
abbrev pub MayBeNear : ℕ → ℕ → ℕ → ℕ → Type 0
MayBeNear error p q r = IsNear error p q r ⊎ ((p < 2 ^ smallest_bits * q) × (r ≡ 0))

abbrev pub is_odd : ℕ → Bool
is_odd n = n % 2 == 1

-- a whole value
abbrev pub units_of : ℕ → ℕ
units_of n = n * 2 ^ unit_bits

-- the machine may answer r to x ^ y: 1 where y is 0; 0 where x is 0 and y is above 0; else, if y is whole, what is near
-- the product of so many x, or near 1 over it
pub record MayPower (x y r : ℤ) : Type 0 where
  pub none : y ≡ pos 0 → r ≡ pos (units_of 1)
  pub zero : x ≡ pos 0 → pos 0 <ℤ y → r ≡ pos 0
  pub whole : (n : ℕ) → 0 < n → y ≡ pos (units_of n)
      → SignedAs (is_odd n && is_negative x) r
      × MayBeNear 24 (unsigned_abs x ^ n) ((2 ^ unit_bits) ^ (n - 1)) (unsigned_abs r)
  pub parts : (n : ℕ) → 0 < n → y ≡ neg_ℤ (pos (units_of n)) → 0 < unsigned_abs x
      → SignedAs (is_odd n && is_negative x) r
      × MayBeNear 24 ((2 ^ unit_bits) ^ (n + 1)) (unsigned_abs x ^ n) (unsigned_abs r)

-- Trusted: how BASIC writes a number.
use Rattle.std.specs.Prelude.{ℕ, ◌+◌, ◌-◌, ◌/◌, ◌%◌, ◌==◌, ◌||◌, Bool, List, [], ◌∷◌, ◌++◌, take, drop, nat_lt}
use Rattle.std.specs.Prelude.{if◌then◌else◌}
use Rattle.pr_interpreter.specs.declared.decimals.Digits.{Digits}
use Rattle.pr_interpreter.specs.declared.decimals.Decimal.{Decimal}

-- the digit of a number that counts a power of ten
abbrev pub digit : ℕ → ℕ → ℕ
digit n unit = 48 + n / unit % 10

-- the nine digits of a number
unfoldable pub nine_digits : ℕ → List ℕ
nine_digits n =
    digit n 100000000 ∷ digit n 10000000 ∷ digit n 1000000 ∷ digit n 100000 ∷ digit n 10000 ∷ digit n 1000
    ∷ digit n 100 ∷ digit n 10 ∷ digit n 1 ∷ []

-- how many digits there are up to the last that is not 0
unfoldable pub significant : List ℕ → ℕ
significant [] = 0
significant (d ∷ ds) = if significant ds == 0 then (if d == 48 then 0 else 1) else significant ds + 1

-- the digits after the point, without the zeros at their end
abbrev pub fraction : ℕ → List ℕ → List ℕ
fraction count ds = if count == 0 then [] else (46 ∷ take count ds)

-- digits with the point after so many of them
unfoldable pub pointed : ℕ → List ℕ → List ℕ
pointed whole ds = take whole ds ++ fraction (significant (drop whole ds)) (drop whole ds)

-- a power of ten, as `E+09` and `E-04`
unfoldable pub exponent_text : Bool → ℕ → List ℕ
exponent_text negative n = 69 ∷ (if negative then 45 else 43) ∷ digit n 10 ∷ digit n 1 ∷ []

-- Nine digits, the last of them at a place: from .01 to below 1000000000 with a point, else with a power of ten.
unfoldable pub digits_text : Digits → List ℕ
digits_text d =
    if d.digits == 0 then (48 ∷ [])
    else if nat_lt d.place 27 || nat_lt 37 d.place
    then pointed 1 (nine_digits d.digits) ++ exponent_text (nat_lt d.place 29) (d.place - 29 + (29 - d.place))
    else if d.place == 27 then 46 ∷ 48 ∷ take (significant (nine_digits d.digits)) (nine_digits d.digits)
    else pointed (d.place - 28) (nine_digits d.digits)

-- a minus or a blank, and the digits
unfoldable pub decimal_text : Decimal → List ℕ
decimal_text d = (if d.negative then 45 else 32) ∷ digits_text d.magnitude

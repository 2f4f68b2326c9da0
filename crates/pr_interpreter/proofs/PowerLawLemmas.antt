use Rattle.std.proofs.Common.{◌≡◌, ℕ, zero, suc, ◌+◌, ◌-◌, ◌*◌, ◌^◌, ◌<◌, ◌≤◌, ◌⊎◌, ℤ, pos, negsuc}
use Rattle.std.proofs.Common.{◌<ℤ◌, Bool, true, false, not, ◌&&◌, nat_lt, if◌then◌else◌, arith, sym, subst, refl, inl, inr}
use Rattle.std.proofs.Common.{unsigned_abs, Option, Some, None, Result, Ok, Err}
use Rattle.std.proofs.Math.Nat.{mul-pos, pow-succ'}
use Rattle.std.proofs.lemmas.Bool.{and_parts, cases_lt, ltb-false, ltb-true}
use Rattle.std.proofs.lemmas.Int.{ints}
use Rattle.std.proofs.lemmas.Nat.{pow_pos}
use Rattle.pr_interpreter.specs.Functions.{is_plus, square_root}
use Rattle.pr_interpreter.specs.Machine.{MayBeNear, MayPower, SignedAs, is_negative, is_odd, unit_bits}
use Rattle.pr_interpreter.specs.NumberLaws.{Allows, PowersAreCertain, RootsAreCertain, whole_value}
use Rattle.pr_interpreter.specs.Numbers.{Encloses, HasSign, Known, floor, is_zero, order_of, signed, whole_number}
use Rattle.pr_interpreter.specs.Numbers.{zero_number}
use Rattle.pr_interpreter.specs.Powers.{near_span, power_error, power_sign, root_of, root_span, span_power, whole_power}
use Rattle.pr_interpreter.specs.Spans.{Holds, IsShort}
use Rattle.pr_interpreter.specs.Values.{calculated, is_above, is_below, is_equal_alone, power, powered}
use Rattle.pr_interpreter.specs.declared.fault.NumberFault.{NumberFault}
use Rattle.pr_interpreter.specs.declared.number.Sign.{Sign}
use Rattle.pr_interpreter.specs.declared.number.Sign.TheVariants.{Plus, Minus, Either}
use Rattle.pr_interpreter.specs.declared.orders.Order.{Order}
use Rattle.pr_interpreter.specs.declared.span.Span.{Span}
use Rattle.pr_interpreter.specs.declared.values.BasicError.TheVariants.{IllegalQuantity}
use Rattle.pr_interpreter.specs.declared.values.Stop.{Stop}
use Rattle.pr_interpreter.specs.declared.values.Stop.TheVariants.{Error, NotCertain as Uncertain}
use Rattle.pr_interpreter.specs.declared.whole_numbers.Whole.{Whole}
use Rattle.pr_interpreter.proofs.MadeLemmas.{whole_numbers_are_exact}
use Rattle.pr_interpreter.proofs.NumberLemmas.{none_in, signed_ok}
use Rattle.pr_interpreter.proofs.OrderLemmas.{orders_are_certain}
use Rattle.pr_interpreter.proofs.PowerLemmas.{part_holds, part_some, power_holds, some_power}
use Rattle.pr_interpreter.proofs.RootLemmas.{root_holds, squares_le}
use Rattle.pr_interpreter.proofs.SignLemmas.{none_of, zero_has}
use Rattle.pr_interpreter.proofs.SumLemmas.{rounded_sign, size_none}

-- either branch of an if
value_branch : (b : Bool) (x y : Result Known Stop) (n : Known)
    → (if b then x else y) ≡ Ok n → ((b ≡ true) × (x ≡ Ok n)) ⊎ ((b ≡ false) × (y ≡ Ok n))
value_branch true x y n e = inl (refl, e)
value_branch false x y n e = inr (refl, e)

calculated_ok : (r : Result Known NumberFault) (n : Known) → calculated r ≡ Ok n → r ≡ Ok n
calculated_ok (Ok m) n e = cc
calculated_ok (Err fault) n e = absurd (cc)

abbrev ok_value : Known → Result Known Stop
ok_value a = Ok a

same_value : (a n : Known) → ok_value a ≡ Ok n → a ≡ n
same_value a n e = cc

-- 0 is in the number 0
none_encloses : (n : Known) (r : ℤ) → ok_value zero_number ≡ Ok n → unsigned_abs r ≡ 0 → Encloses n r
none_encloses n r e none =
    subst (λ (m : Known). Encloses m r) (same_value zero_number n e) (record {
      sign = zero_has zero_number.sign r none;
      magnitude = record { above = omega arith; below = omega arith };
    })

-- a magnitude with its sign
sign_and_size : (s : Sign) (span : Result Span NumberFault) (n : Known) (r : ℤ) → HasSign s r
    → ((t : Span) → span ≡ Ok t → Holds t (unsigned_abs r) 1) → signed s span ≡ Ok n → Encloses n r
sign_and_size s span n r sign holds e =
    let found = signed_ok s span n e in
    record {
      sign = subst (λ (u : Sign). HasSign u r) (sym found.2) sign;
      magnitude = subst (λ (u : Span). Holds u (unsigned_abs r) 1) (sym found.3) (holds found.0 found.1);
    }

-- ---- roots

root_none : (x r u e m : ℕ) → x ≡ 0 → 0 < e → r * e * (r * e) ≤ x * u * m → r ≡ 0
root_none x r u e m none positive below =
    let zero_below : r * e * (r * e) ≤ 0 * 0 = omega (arith, subst (λ (k : ℕ). r * e * (r * e) ≤ k * u * m) none below) in
    none_of r e positive (squares_le (r * e) 0 zero_below)

plus_sign : (s : Sign) → is_plus s ≡ true → s ≡ Plus
plus_sign Plus e = refl
plus_sign Minus e = absurd (cc)
plus_sign Either e = absurd (cc)

pub roots_are_certain : RootsAreCertain
unfolding square_root root_of
roots_are_certain a n x r short in_a may e =
    let more = if is_plus a.sign then calculated (signed Plus (near_span (root_span a.span))) else Err Uncertain in
    let illegal : Result Known Stop = Err (Error IllegalQuantity) in
    elim (value_branch (is_zero a) (Ok zero_number) (if is_below (order_of a zero_number)
    then illegal else more) n e) [
      | inl nothing ↦
          none_encloses n r nothing.1 (root_none (unsigned_abs x) (unsigned_abs r) (2 ^ unit_bits) (2 ^ power_error) _
          (none_in a x in_a nothing.0) (pow_pos power_error) may.1.below)
      | inr some ↦ elim (value_branch (is_below (order_of a zero_number)) illegal more n some.1) [
        | inl none ↦ absurd (cc)
        | inr other ↦ elim (value_branch (is_plus a.sign) (calculated (signed Plus (near_span (root_span a.span))))
            (Err Uncertain) n other.1) [
              | inl found ↦
                  sign_and_size Plus (near_span (root_span a.span)) n r may.0
                  (λ (t : Span) is. root_holds a.span t (unsigned_abs x) (unsigned_abs r) short in_a.magnitude may.1 is)
                  (calculated_ok _ n found.1)
              | inr none ↦ absurd (cc)
            ]
      ]
    ]

-- ---- powers

-- one of three orders is true of two values
three_orders : (y z : ℤ) → (y <ℤ z) ⊎ ((y ≡ z) ⊎ (z <ℤ y))
three_orders (pos m) (pos n) = elim (cases_lt m n) [
  | inl less ↦ inl (omega (arith, ints))
  | inr most ↦ elim (cases_lt n m) [ inl more ↦ inr (inr (omega (arith, ints))) | inr least ↦ inr (inl (omega (arith, ints))) ]
]
three_orders (pos m) (negsuc n) = inr (inr (omega (arith, ints)))
three_orders (negsuc m) (pos n) = inl (omega (arith, ints))
three_orders (negsuc m) (negsuc n) = elim (cases_lt m n) [
  | inl less ↦ inr (inr (omega (arith, ints)))
  | inr most ↦ elim (cases_lt n m) [ inl more ↦ inl (omega (arith, ints)) | inr least ↦ inr (inl (omega (arith, ints))) ]
]

-- the first alone
alone_parts : (a b c : Bool) → (a && not b && not c) ≡ true → (b ≡ false) × (c ≡ false)
alone_parts true false false e = (refl, refl)
alone_parts true false true e = absurd (cc)
alone_parts true true c e = absurd (cc)
alone_parts false b c e = absurd (cc)

both : (b : Bool) → b ≡ false → b ≡ true → ⊥
both true e h = absurd (cc)
both false e h = absurd (cc)

-- an order that has equal alone is that of equal values
equal_values : (o : Order) (y z : ℤ) → Allows o y z → is_equal_alone o ≡ true → y ≡ z
equal_values o y z h e =
    let alone = alone_parts o.equal o.less o.greater e in
    elim (three_orders y z) [
      | inl less ↦ absurd (both o.less alone.0 (h.less less))
      | inr other ↦ elim other [
        | inl same ↦ same
        | inr greater ↦ absurd (both o.greater alone.1 (h.greater greater))
      ]
    ]

-- and one that has greater alone
greater_value : (o : Order) (y z : ℤ) → Allows o y z → is_above o ≡ true → z <ℤ y
greater_value o y z h e =
    let alone = alone_parts o.greater o.less o.equal e in
    elim (three_orders y z) [
      | inl less ↦ absurd (both o.less alone.0 (h.less less))
      | inr other ↦ elim other [
        | inl same ↦ absurd (both o.equal alone.1 (h.equal same))
        | inr greater ↦ greater
      ]
    ]

zero_short : IsShort zero_number.span
zero_short = record { ordered = omega arith; high = omega arith; scale = omega arith }

zero_has_zero : Encloses zero_number (pos 0)
zero_has_zero = record { sign = omega (arith, ints); magnitude = record { above = omega arith; below = omega arith } }

whole_short : (negative : Bool) (m : ℕ) → m ≤ 255 → IsShort (whole_number negative m).span
whole_short negative m h = record { ordered = omega arith; high = omega arith; scale = omega arith }

-- the sign of a power
power_has : (odd : Bool) (s : Sign) (x r : ℤ) → HasSign s x → SignedAs (odd && is_negative x) r
    → (unsigned_abs x ≡ 0 → unsigned_abs r ≡ 0) → HasSign (power_sign odd s) r
power_has true s x r h signs nothing = rounded_sign s x r h signs nothing
power_has false s x r h signs nothing = signs

-- 0 to a power above 0
no_power : (m n : ℕ) → 0 < n → m ≡ 0 → m ^ n ≡ 0
no_power m zero some e = absurd (omega arith)
no_power m (suc n) some e =
    let more = pow-succ' m n in omega (arith, more, subst (λ (k : ℕ). k * m ^ n ≡ 0) (sym e) (omega arith))

near_none : (p q r : ℕ) → 0 < q → p ≡ 0 → MayBeNear power_error p q r → r ≡ 0
near_none p q r positive none (inl near) =
    let unit = mul-pos positive (pow_pos power_error) in
    let e : p * (2 ^ power_error + 1) ≡ 0 = rw none (omega arith) in
    none_of r (q * 2 ^ power_error) unit (omega (arith, near.below))
near_none p q r positive none (inr tiny) = tiny.1

some_units : (n : ℕ) → 0 < (2 ^ unit_bits) ^ n
some_units n = some_power (2 ^ unit_bits) n (pow_pos unit_bits)

whole_certain : (a n : Known) (x y r : ℤ) (negative : Bool) (m : ℕ) → 0 < m → IsShort a.span → Encloses a x
    → MayPower x y r → y ≡ whole_value negative m → whole_power a negative m ≡ Ok n → Encloses n r
unfolding whole_power
whole_certain a n x y r false m some short in_a may is e =
    let near = may.whole m some is in
    let sign = power_has (is_odd m) a.sign x r in_a.sign near.0
    (λ none. near_none _ _ _ (some_units (m - 1)) (no_power (unsigned_abs x) m some none) near.1) in
    sign_and_size (power_sign (is_odd m) a.sign) (span_power false m a.span) n r sign
    (λ (t : Span) found. power_holds m a.span t (unsigned_abs x) (unsigned_abs r) some short in_a.magnitude near.1 found)
    e
whole_certain a n x y r true m some short in_a may is e =
    let found = signed_ok (power_sign (is_odd m) a.sign) (span_power true m a.span) n e in
    let positive = part_some m a.span found.0 (unsigned_abs x) some short in_a.magnitude found.1 in
    let near = may.parts m some is positive in
    let sign = power_has (is_odd m) a.sign x r in_a.sign near.0 (λ none. absurd (omega arith)) in
    sign_and_size (power_sign (is_odd m) a.sign) (span_power true m a.span) n r sign
    (λ (t : Span) found. part_holds m a.span t (unsigned_abs x) (unsigned_abs r) some short in_a.magnitude near.1 found)
    e

powered_certain : (a b n : Known) (x y r : ℤ) (w : Option Whole) → IsShort a.span → IsShort b.span → Encloses a x
    → Encloses b y → MayPower x y r → powered a b w ≡ Ok n → Encloses n r
powered_certain a b n x y r None first second in_a in_b may e = absurd (cc)
powered_certain a b n x y r (Some w) first second in_a in_b may e =
    let o = order_of b (whole_number w.negative w.magnitude) in
    let other : Result Known Stop = if is_below (order_of a zero_number) && not o.equal then Err (Error IllegalQuantity)
    else Err Uncertain in
    let refused : Result Known Stop = Err Uncertain in
    let found = calculated (whole_power a w.negative w.magnitude) in
    elim (value_branch (nat_lt 255 w.magnitude) refused (if is_equal_alone o && nat_lt 0 w.magnitude then found
    else other) n e) [
      | inl large ↦ absurd (cc)
      | inr small ↦
          let most = ltb-false 255 w.magnitude small.0 in
          elim (value_branch (is_equal_alone o && nat_lt 0 w.magnitude) found other n small.1) [
            | inl is ↦
                let parts = and_parts (is_equal_alone o) (nat_lt 0 w.magnitude) is.0 in
                let some = ltb-true 0 w.magnitude parts.1 in
                let value = whole_value w.negative w.magnitude in
                let own = (whole_numbers_are_exact w.negative w.magnitude value).1 refl in
                let allows = orders_are_certain b (whole_number w.negative w.magnitude) y value second
                (whole_short w.negative w.magnitude most) in_b own in
                let same = equal_values o y value allows parts.0 in
                whole_certain a n x y r w.negative w.magnitude some first in_a may same (calculated_ok _ n is.1)
            | inr none ↦ elim (value_branch (is_below (order_of a zero_number) && not o.equal)
                (Err (Error IllegalQuantity)) refused n none.1) [ inl illegal ↦ absurd (cc) | inr more ↦ absurd (cc) ]
          ]
    ]

pub powers_are_certain : PowersAreCertain
unfolding power
powers_are_certain a b n x y r first second in_a in_b may e =
    let refused : Result Known Stop = Err Uncertain in
    let of_zero = if is_above (order_of b zero_number) then Ok zero_number else refused in
    elim (value_branch (is_zero b) (Ok (whole_number false 1)) (if is_zero a then of_zero else powered a b (floor b)) n
    e) [
      | inl none ↦
          let one = may.none (size_none y (none_in b y in_b none.0)) in
          subst (λ (m : Known). Encloses m r) (same_value (whole_number false 1) n none.1)
          ((whole_numbers_are_exact false 1 r).1 one)
      | inr some ↦ elim (value_branch (is_zero a) of_zero (powered a b (floor b)) n some.1) [
        | inl nothing ↦ elim (value_branch (is_above (order_of b zero_number)) (Ok zero_number) refused n nothing.1) [
          | inl above ↦
              let allows = orders_are_certain b zero_number y (pos 0) second zero_short in_b zero_has_zero in
              let greater = greater_value (order_of b zero_number) y (pos 0) allows above.0 in
              let is = may.zero (size_none x (none_in a x in_a nothing.0)) greater in
              none_encloses n r above.1 (omega (arith, ints))
          | inr other ↦ absurd (cc)
        ]
        | inr found ↦ powered_certain a b n x y r (floor b) first second in_a in_b may found.1
      ]
    ]

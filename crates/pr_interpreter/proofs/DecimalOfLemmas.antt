use Rattle.std.proofs.Common.{◌≡◌, ℕ, zero, suc, ◌+◌, ◌*◌, ◌/◌, ◌^◌, ◌<◌, ◌≤◌, ◌==◌, ◌&&◌, Bool, true, false, nat_lt}
use Rattle.std.proofs.Common.{if◌then◌else◌, Option, Some, None, Ok, Err, arith, sym, subst}
use Rattle.std.proofs.Common.{refl, ap, ◌∙◌, inl, inr, below_more}
use Rattle.std.proofs.lemmas.Bool.{and_parts, cases_Bool, cases_eq, cases_lt, eq-eqb, eqb-false, eqb-true}
use Rattle.std.proofs.lemmas.Bool.{lt-ltb, ltb-false, ltb-true, ne_eqb, and_from}
use Rattle.pr_interpreter.specs.Decimals.{HasCommon, HasDigits, IsDecimal, common, decimal_by, decimal_of, decimal_with}
use Rattle.pr_interpreter.specs.Decimals.{digits_from, digits_of, next_place, sign_of, sixteenths, ten_digits}
use Rattle.pr_interpreter.specs.Functions.{number_text, text_of_decimal}
use Rattle.pr_interpreter.specs.Numbers.{Known}
use Rattle.pr_interpreter.specs.Printing.{decimal_text}
use Rattle.pr_interpreter.specs.declared.decimals.Decimal.{Decimal}
use Rattle.pr_interpreter.specs.declared.decimals.Digits.{Digits}
use Rattle.pr_interpreter.specs.declared.number.Sign.{Sign}
use Rattle.pr_interpreter.specs.declared.number.Sign.TheVariants.{Plus, Minus, Either}
use Rattle.pr_interpreter.specs.declared.values.Stop.TheVariants.{NotCertain as Uncertain}

-- ---- the digits of a magnitude, found from the first place on

abbrev pub digits_at : ℕ → ℕ → Digits
digits_at units place = record { digits = (sixteenths place units + 8) / 16; place = place }

abbrev pub some_digits : Digits → Option Digits
some_digits d = Some d

abbrev pub no_digits : Option Digits
no_digits = None

no_some : (d : Digits) → no_digits ≡ Some d → ⊥
no_some d e = cc

one_some : (d e : Digits) → some_digits d ≡ Some e → d ≡ e
one_some d e h = cc

-- what is found at a place where a magnitude has at most nine digits
found_here : (units place : ℕ) (d : Digits) (b : Bool) → nat_lt (sixteenths place units) next_place ≡ b
    → ((p : ℕ) → p < place → ten_digits ≤ sixteenths p units) → place ≤ 67
    → (if b then Some (digits_at units place) else None) ≡ Some d → HasDigits units d
found_here units place d true below finest within e =
    subst (λ (t : Digits). HasDigits units t) (one_some (digits_at units place) d e) (record {
      rounded = refl;
      nine = ltb-true (sixteenths place units) next_place below;
      finest = finest;
      within = within;
    })
found_here units place d false below finest within e = absurd (no_some d e)

-- what is found are the digits
pub found_has : (units place more : ℕ) (d : Digits) → place + more ≡ 68
    → ((p : ℕ) → p < place → ten_digits ≤ sixteenths p units) → digits_from units place more ≡ Some d
    → HasDigits units d
found_has units place zero d all finest e = absurd (no_some d e)
found_has units place (suc more) d all finest e =
    elim (cases_Bool (nat_lt (sixteenths place units) ten_digits)) [
      | inl few ↦
          found_here units place d (nat_lt (sixteenths place units) next_place) refl finest (omega arith)
          (rw few at e)
      | inr many ↦
          found_has units (place + 1) more d (omega arith)
          (below_more _ _ finest (ltb-false (sixteenths place units) ten_digits many)) (rw many at e)
    ]

-- the digits are found
pub has_found : (units place more : ℕ) (d : Digits) → place + more ≡ 68 → place ≤ d.place → HasDigits units d
    → digits_from units place more ≡ Some d
has_found units place zero d all before h = absurd (omega (arith, h.within))
has_found units place (suc more) d all before h =
    elim (cases_Bool (nat_lt (sixteenths place units) ten_digits)) [
      | inl few ↦
          let below = ltb-true (sixteenths place units) ten_digits few in
          let here = is_here place below before in
          let nine = lt-ltb (sixteenths place units) next_place
          (subst (λ (p : ℕ). sixteenths p units < next_place) (sym here) h.nine) in
          rw (few, nine) (same here)
      | inr many ↦
          let above = ltb-false (sixteenths place units) ten_digits many in
          rw many (has_found units (place + 1) more d (omega arith) (is_after above before) h)
    ]
  where
    is_here : (p : ℕ) → sixteenths p units < ten_digits → p ≤ d.place → p ≡ d.place
    is_here p below before =
        elim (cases_lt p d.place) [
          | inl less ↦ absurd (let ten = h.finest p less in omega arith)
          | inr above ↦ omega arith
        ]

    is_after : ten_digits ≤ sixteenths place units → place ≤ d.place → place + 1 ≤ d.place
    is_after above before =
        elim (cases_eq place d.place) [
          | inl e ↦ absurd (let ten = subst (λ (p : ℕ). ten_digits ≤ sixteenths p units) e above in
              omega (arith, h.nine))
          | inr other ↦ omega (arith, other)
        ]

    same : place ≡ d.place → some_digits (digits_at units place) ≡ Some d
    same e =
        ap (λ (p : ℕ). some_digits (digits_at units p)) e
        ∙ ap (λ (n : ℕ). some_digits (record { digits = n; place = d.place })) (sym h.rounded)

pub digits_has : (units : ℕ) (d : Digits) → digits_of units ≡ Some d → HasDigits units d
unfolding digits_of
digits_has units d e = found_has units 0 68 d refl (λ p h. absurd (omega arith)) e

pub has_digits : (units : ℕ) (d : Digits) → HasDigits units d → digits_of units ≡ Some d
unfolding digits_of
has_digits units d h = has_found units 0 68 d refl (omega arith) h

-- ---- the decimal that is printed

abbrev pub some_decimal : Decimal → Option Decimal
some_decimal d = Some d

abbrev pub no_decimal : Option Decimal
no_decimal = None

one_decimal : (d e : Decimal) → some_decimal d ≡ Some e → d ≡ e
one_decimal d e h = cc

none_is_some : (d : Decimal) → no_decimal ≡ Some d → ⊥
none_is_some d h = cc

-- both ends have the digits that are common
common_has : (x y : Option Digits) (d : Digits) → common x y ≡ Some d → (x ≡ Some d) × (y ≡ Some d)
common_has None y d e = absurd (no_some d e)
common_has (Some a) None d e = absurd (no_some d e)
common_has (Some a) (Some b) d e =
    elim (cases_Bool ((a.place == b.place) && (a.digits == b.digits))) [
      | inl same ↦
          let parts = and_parts (a.place == b.place) (a.digits == b.digits) same in
          let place = eqb-true a.place b.place parts.0 in
          let digits = eqb-true a.digits b.digits parts.1 in
          let is : a ≡ d = one_some a d (rw same at e) in
          let others : a ≡ b
          = ap (λ (p : ℕ). record { digits = a.digits; place = p }) place
          ∙ ap (λ (n : ℕ). record { digits = n; place = b.place }) digits in
          (ap (λ (t : Digits). some_digits t) is, ap (λ (t : Digits). some_digits t) (sym others ∙ is))
      | inr differ ↦ absurd (no_some d (rw differ at e))
    ]

has_common : (d : Digits) → common (Some d) (Some d) ≡ Some d
has_common d =
    rw (and_from (d.place == d.place) (d.digits == d.digits) (eq-eqb d.place d.place refl)
    (eq-eqb d.digits d.digits refl))
    refl

-- the sign by which a decimal is printed
by_sign : (s : Sign) (d : Digits) (x : Decimal) → decimal_by s d ≡ Some x
    → (s ≡ sign_of x.negative) × (d ≡ x.magnitude)
by_sign Plus d x e =
    let same = one_decimal (record { negative = false; magnitude = d }) x e in
    (ap (λ (t : Decimal). sign_of t.negative) same, ap (λ (t : Decimal). t.magnitude) same)
by_sign Minus d x e =
    let same = one_decimal (record { negative = true; magnitude = d }) x e in
    (ap (λ (t : Decimal). sign_of t.negative) same, ap (λ (t : Decimal). t.magnitude) same)
by_sign Either d x e = absurd (none_is_some x e)

sign_by : (negative : Bool) (d : Digits)
    → decimal_by (sign_of negative) d ≡ some_decimal (record { negative = negative; magnitude = d })
sign_by false d = refl
sign_by true d = refl

-- what is printed of a number is found
pub decimal_found : (n : Known) (x : Decimal) → IsDecimal n x → decimal_of n ≡ Some x
unfolding decimal_of
decimal_found n x h =
    let low = has_digits (n.span.low * 2 ^ n.span.scale) x.magnitude h.digits.low in
    let high = has_digits (n.span.high * 2 ^ n.span.scale) x.magnitude h.digits.high in
    rw (low, high, has_common x.magnitude) (chosen (n.span.high == 0) refl)
  where
    chosen : (b : Bool) → (n.span.high == 0) ≡ b
        → (if b then some_decimal (record { negative = false; magnitude = x.magnitude })
        else if x.magnitude.place == 0 then None else decimal_by n.sign x.magnitude) ≡ Some x
    chosen true e =
        let none = eqb-true n.span.high 0 e in
        ap (λ (b : Bool). some_decimal (record { negative = b; magnitude = x.magnitude })) (sym (h.nothing none))
    chosen false e =
        let some = eqb-false n.span.high 0 e in
        let large = h.large some in
        let zero_not : (x.magnitude.place == 0) ≡ false = ne_eqb x.magnitude.place 0 (λ z. omega arith) in
        rw (zero_not, h.sign some) (sign_by x.negative x.magnitude)

-- what is found is printed
pub found_decimal : (n : Known) (x : Decimal) → decimal_of n ≡ Some x → IsDecimal n x
unfolding decimal_of
found_decimal n x e =
    chosen (common (digits_of (n.span.low * 2 ^ n.span.scale)) (digits_of (n.span.high * 2 ^ n.span.scale))) refl e
  where
    both : (d : Digits)
        → common (digits_of (n.span.low * 2 ^ n.span.scale)) (digits_of (n.span.high * 2 ^ n.span.scale)) ≡ Some d
        → HasCommon n.span d
    both d e =
        let each = common_has (digits_of (n.span.low * 2 ^ n.span.scale)) (digits_of (n.span.high * 2 ^ n.span.scale)) d
        e in
        record {
          low = digits_has (n.span.low * 2 ^ n.span.scale) d each.0;
          high = digits_has (n.span.high * 2 ^ n.span.scale) d each.1;
        }

    at_zero : (d : Digits) → HasCommon n.span d → n.span.high ≡ 0
        → some_decimal (record { negative = false; magnitude = d }) ≡ Some x → IsDecimal n x
    at_zero d has none e =
        let same = one_decimal (record { negative = false; magnitude = d }) x e in
        subst (λ (t : Decimal). IsDecimal n t) same (record {
          digits = has;
          large = λ some. absurd (some none);
          sign = λ some. absurd (some none);
          nothing = λ _. refl;
        })

    at_other : (d : Digits) → HasCommon n.span d → (n.span.high ≡ 0 → ⊥) → (d.place ≡ 0 → ⊥)
        → decimal_by n.sign d ≡ Some x → IsDecimal n x
    at_other d has some large e =
        let signed = by_sign n.sign d x e in
        record {
          digits = subst (λ (t : Digits). HasCommon n.span t) signed.1 has;
          large = λ _. (let place = ap (λ (t : Digits). t.place) signed.1 in omega (arith, large));
          sign = λ _. signed.0;
          nothing = λ none. absurd (some none);
        }

    tested : (d : Digits) → HasCommon n.span d → (b c : Bool) → (n.span.high == 0) ≡ b → (d.place == 0) ≡ c
        → (if b then some_decimal (record { negative = false; magnitude = d })
        else if c then None else decimal_by n.sign d) ≡ Some x → IsDecimal n x
    tested d has true c t u e = at_zero d has (eqb-true n.span.high 0 t) e
    tested d has false true t u e = absurd (none_is_some x e)
    tested d has false false t u e = at_other d has (eqb-false n.span.high 0 t) (eqb-false d.place 0 u) e

    chosen : (o : Option Digits)
        → common (digits_of (n.span.low * 2 ^ n.span.scale)) (digits_of (n.span.high * 2 ^ n.span.scale)) ≡ o
        → decimal_with n o ≡ Some x → IsDecimal n x
    chosen None is e = absurd (none_is_some x e)
    chosen (Some d) is e = tested d (both d is) (n.span.high == 0) (d.place == 0) refl refl e

-- ---- the text of a number

pub text_some : (n : Known) (x : Decimal) → IsDecimal n x → Ok (decimal_text x) ≡ number_text n
unfolding number_text
text_some n x h = sym (ap (λ (o : Option Decimal). text_of_decimal o) (decimal_found n x h))

pub text_none : (n : Known) → ((x : Decimal) → IsDecimal n x → ⊥) → Err Uncertain ≡ number_text n
unfolding number_text
text_none n none = sym (ap (λ (o : Option Decimal). text_of_decimal o) (no_decimal_of (decimal_of n) refl))
  where
    no_decimal_of : (o : Option Decimal) → decimal_of n ≡ o → o ≡ no_decimal
    no_decimal_of None e = refl
    no_decimal_of (Some x) e = absurd (none x (found_decimal n x e))

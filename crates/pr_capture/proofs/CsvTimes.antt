-- The fields of a row, and plain times in them: digits, or digits, a point and decimals.
use Rattle.std.proofs.Common.{◌≡◌, ℕ, suc, ◌+◌, ◌<◌, ◌==◌, Bool, true, false, List, [], ◌∷◌, ◌++◌, length, take, drop, refl, ap, subst, ◌∙◌, arith, append-nil, Some, None}
use Rattle.std.specs.Prelude.{◌&&◌, ◌||◌, not}
use Rattle.std.specs.List.{list_all, prefix_len}
use Rattle.std.proofs.lemmas.Grind.{common_steps}
use Rattle.pr_base.specs.Digits.{is_digit}
use Rattle.pr_base.specs.Lines.{onto_first}
use Rattle.pr_capture.specs.declared.times.Exponent.{Exponent}
use Rattle.pr_capture.specs.declared.times.Instant.{Instant}
use Rattle.pr_capture.specs.Csv.{fields_of, is_silent}
use Rattle.pr_capture.specs.Numbers.{behind_digits, digits_in}
use Rattle.pr_capture.specs.TableTimes.{behind_decimals_by, behind_sign_of, decimals_by, exponent_in, instant_by, instant_in, instant_or, is_minus, behind_plus_minus, dated_in, unsigned_in}
use Rattle.pr_capture.specs.Words.{is_space}
use Rattle.pr_capture.specs.Recording.{is_framing, without_front}

-- Digits.

-- digits in front, and no digit after them
pub digits-run : (xs rest : List ℕ) → list_all is_digit xs ≡ true → prefix_len is_digit rest ≡ 0
    → (take (prefix_len is_digit (xs ++ rest)) (xs ++ rest) ≡ xs) × (drop (prefix_len is_digit (xs ++ rest)) (xs ++ rest) ≡ rest)
digits-run [] rest h k = rw k (refl, refl)
digits-run (x ∷ xs) rest h k = by (is_digit x) refl h (digits-run xs rest)
  where
    by : (b : Bool) → is_digit x ≡ b → list_all is_digit (x ∷ xs) ≡ true
        → (list_all is_digit xs ≡ true → prefix_len is_digit rest ≡ 0
        → (take (prefix_len is_digit (xs ++ rest)) (xs ++ rest) ≡ xs) × (drop (prefix_len is_digit (xs ++ rest)) (xs ++ rest) ≡ rest))
        → (take (prefix_len is_digit ((x ∷ xs) ++ rest)) ((x ∷ xs) ++ rest) ≡ x ∷ xs)
        × (drop (prefix_len is_digit ((x ∷ xs) ++ rest)) ((x ∷ xs) ++ rest) ≡ rest)
    by true e j next =
        let all : list_all is_digit xs ≡ true = rw e at j in
        let both = next all k in
        let n : ℕ = prefix_len is_digit (xs ++ rest) in
        let more : prefix_len is_digit ((x ∷ xs) ++ rest) ≡ 1 + n = rw e refl in
        let next-one : 1 + n ≡ suc n = omega arith in
        let one : prefix_len is_digit ((x ∷ xs) ++ rest) ≡ suc n = more ∙ next-one in
        let front : take (prefix_len is_digit ((x ∷ xs) ++ rest)) ((x ∷ xs) ++ rest) ≡ x ∷ xs =
        ap (λ i. take i (x ∷ (xs ++ rest))) one ∙ ap (λ v. x ∷ v) both.0 in
        let behind : drop (prefix_len is_digit ((x ∷ xs) ++ rest)) ((x ∷ xs) ++ rest) ≡ rest =
        ap (λ i. drop i (x ∷ (xs ++ rest))) one ∙ both.1 in
        (front, behind)
    by false e j next = absurd (let no : false ≡ true = rw e at j in cc)

-- Fields.

-- a byte that ends no field and begins no quotation
abbrev pub is_inside : (sep : ℕ) → ℕ → Bool
is_inside sep b = not (b == sep) && not (b == 34)

same-byte : (n : ℕ) → (n == n) ≡ true
same-byte n = grind (arith, common_steps)

pub field-first : (sep : ℕ) (xs rest : List ℕ) → list_all (is_inside sep) xs ≡ true
    → fields_of sep false (xs ++ sep ∷ rest) ≡ xs ∷ fields_of sep false rest
field-first sep [] rest h = rw (same-byte sep) refl
field-first sep (x ∷ xs) rest h = by (x == sep) (x == 34) refl refl (field-first sep xs rest)
  where
    by : (a b : Bool) → (x == sep) ≡ a → (x == 34) ≡ b
        → (list_all (is_inside sep) xs ≡ true → fields_of sep false (xs ++ sep ∷ rest) ≡ xs ∷ fields_of sep false rest)
        → fields_of sep false ((x ∷ xs) ++ sep ∷ rest) ≡ (x ∷ xs) ∷ fields_of sep false rest
    by false false d e next =
        let all : list_all (is_inside sep) xs ≡ true = rw (d, e) at h in
        rw (d, e) (ap (onto_first x) (next all))
    by true b d e next = absurd (let no : false ≡ true = rw d at h in cc)
    by false true d e next = absurd (let no : false ≡ true = rw (d, e) at h in cc)

-- digits in front are no white space and no remark
pub digit-first : (xs rest : List ℕ) → 0 < length xs → list_all is_digit xs ≡ true
    → (without_front (xs ++ rest) ≡ xs ++ rest) × (is_silent (xs ++ rest) ≡ false)
    × (is_minus (xs ++ rest) ≡ false) × (behind_plus_minus (xs ++ rest) ≡ xs ++ rest)
digit-first [] rest some h = absurd (omega (arith, some))
digit-first (x ∷ xs) rest some h = by (is_digit x) refl h
  where
    by : (b : Bool) → is_digit x ≡ b → list_all is_digit (x ∷ xs) ≡ true
        → (without_front ((x ∷ xs) ++ rest) ≡ (x ∷ xs) ++ rest) × (is_silent ((x ∷ xs) ++ rest) ≡ false)
        × (is_minus ((x ∷ xs) ++ rest) ≡ false) × (behind_plus_minus ((x ∷ xs) ++ rest) ≡ (x ∷ xs) ++ rest)
    by true e j =
        let f : is_framing x ≡ false = grind (arith, common_steps) in
        let w : is_space x ≡ false = grind (arith, common_steps) in
        let r : (x == 59 || x == 35) ≡ false = grind (arith, common_steps) in
        let m : (x == 45) ≡ false = grind (arith, common_steps) in
        let p : (x == 45 || x == 43) ≡ false = grind (arith, common_steps) in
        (rw f refl, rw (w, r) refl, m, rw p refl)
    by false e j = absurd (let no : false ≡ true = rw e at j in cc)

-- Times.

-- this many microseconds from the start on
abbrev pub behind_start : ℕ → Instant
behind_start t = record { is_negative = false; micros = t }

-- no exponent
abbrev pub no_exponent : Exponent
no_exponent = record { right = 0; left = 0 }

-- what follows the digits of a number: a point and decimals, or nothing
pub record IsTail (parts tail : List ℕ) : Type 0 where
  pub front : prefix_len is_digit tail ≡ 0
  pub decimals : (sep : ℕ) → decimals_by sep tail ≡ parts
  pub ends : (sep : ℕ) → exponent_in (behind_decimals_by sep tail) ≡ Some no_exponent
  pub undated : behind_sign_of 45 tail ≡ None

-- the time that digits and a tail spell is read
pub digits-read : (sep unit : ℕ) (whole parts tail : List ℕ) (t : ℕ) → list_all is_digit whole ≡ true → 0 < length whole → IsTail parts tail
    → instant_by unit false whole parts (Some no_exponent) ≡ Some (behind_start t)
    → instant_in sep unit (without_front (whole ++ tail)) ≡ Some (behind_start t)
digits-read sep unit whole parts tail t all some h by =
    let text : List ℕ = whole ++ tail in
    let first = digit-first whole tail some all in
    let run = digits-run whole tail all h.front in
    let ends : exponent_in (behind_decimals_by sep (behind_digits text)) ≡ Some no_exponent =
    ap (λ v. exponent_in (behind_decimals_by sep v)) run.1 ∙ h.ends sep in
    let decimals : decimals_by sep (behind_digits text) ≡ parts = ap (decimals_by sep) run.1 ∙ h.decimals sep in
    let read : unsigned_in sep unit false text ≡ Some (behind_start t) =
    ap (λ v. instant_by unit false v (decimals_by sep (behind_digits text)) (exponent_in (behind_decimals_by sep (behind_digits text)))) run.0
    ∙ (ap (λ v. instant_by unit false whole v (exponent_in (behind_decimals_by sep (behind_digits text)))) decimals
    ∙ (ap (instant_by unit false whole parts) ends ∙ by)) in
    let undated : dated_in sep text ≡ None = undated-by text (ap (behind_sign_of 45) run.1 ∙ h.undated) in
    let signed : unsigned_in sep unit (is_minus text) (behind_plus_minus text) ≡ Some (behind_start t) =
    ap (λ v. unsigned_in sep unit v (behind_plus_minus text)) first.2 ∙ (ap (unsigned_in sep unit false) first.3 ∙ read) in
    ap (instant_in sep unit) first.0 ∙ (ap (λ o. instant_or o sep unit text) undated ∙ signed)
  where
    undated-by : (l : List ℕ) → behind_sign_of 45 (behind_digits l) ≡ None → dated_in sep l ≡ None
    undated-by l e = rw e refl

-- a point and decimals
pub tail-of-point : (parts : List ℕ) → list_all is_digit parts ≡ true → IsTail parts (46 ∷ parts)
tail-of-point parts six =
    let own = digits-run parts [] six refl in
    let own-in : digits_in parts ≡ parts = subst (λ v. take (prefix_len is_digit v) v ≡ parts) (append-nil parts) own.0 in
    let own-behind : behind_digits parts ≡ [] = subst (λ v. drop (prefix_len is_digit v) v ≡ []) (append-nil parts) own.1 in
    record { front = refl; decimals = λ sep. own-in; ends = λ sep. ap exponent_in own-behind; undated = refl }

-- nothing
pub tail-of-none : IsTail [] []
tail-of-none = record { front = refl; decimals = λ sep. refl; ends = λ sep. refl; undated = refl }

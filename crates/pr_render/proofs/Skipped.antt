-- Texts by their lines.
use Rattle.std.proofs.Common.{◌≡◌, ℕ, ◌+◌, ◌<◌, ◌%◌, ◌/◌, Bool, true, false, cond, List, [], ◌∷◌, ◌++◌, refl, subst, ap, ◌∙◌, arith, decimal}
use Rattle.std.specs.Prelude.{zero, suc, ◌≢◌, ◌==◌, ◌&&◌, not, flat_map}
use Rattle.std.specs.Fmt.{digit_glyph, digits_onto}
use Rattle.std.proofs.DigitsParse.{digits_onto-nil, digit_glyph_below_ten}
use Rattle.std.proofs.lemmas.Bool.{and_parts, eqb-true}
use Rattle.std.proofs.lemmas.List.{append_assoc}
use Rattle.std.proofs.lemmas.List.Concat.{flat_map-cons}
use Rattle.pr_render.proofs.Told.{Free}

-- what follows a text's first line
abbrev pub after_line : List ℕ → List ℕ
after_line [] = []
after_line (x ∷ xs) = cond (x == 10) xs (after_line xs)

-- a text without a line's end
abbrev pub in_line : List ℕ → Bool
in_line [] = true
in_line (x ∷ xs) = not (x == 10) && in_line xs

not-both : {b : Bool} → b ≡ true → b ≡ false → ⊥
not-both e f = grind (arith, e, f)

-- what is before the end of a line is passed over
pub after-part : (xs a : List ℕ) → in_line xs ≡ true → after_line (xs ++ a) ≡ after_line a
after-part [] a f = refl
after-part (x ∷ xs) a f = by (x == 10) refl (after-part xs a (and_parts (not (x == 10)) (in_line xs) f).1)
  where
    by : (b : Bool) → (x == 10) ≡ b → after_line (xs ++ a) ≡ after_line a → after_line ((x ∷ xs) ++ a) ≡ after_line a
    by true e rest = absurd (not-both (and_parts (not (x == 10)) (in_line xs) f).0 (ap not e))
    by false e rest = ap (λ b. cond b (xs ++ a) (after_line (xs ++ a))) e ∙ rest

pub in-append : (xs ys : List ℕ) → in_line xs ≡ true → in_line ys ≡ true → in_line (xs ++ ys) ≡ true
in-append [] ys f g = g
in-append (x ∷ xs) ys f g =
    let parts = and_parts (not (x == 10)) (in_line xs) f in
    ap (λ b. b && in_line (xs ++ ys)) parts.0 ∙ in-append xs ys parts.1 g

-- a number has only digits
module _ (q : ℕ) (outside : (d : ℕ) → d < 10 → 48 + d ≢ q) where
  glyph-not : (n : ℕ) → digit_glyph false (n % 10) ≢ q
  glyph-not n e = outside (n % 10) (omega arith) (digit_glyph_below_ten false (n % 10) (48 + n % 10) (omega arith) refl ∙ e)

  free-onto : (k n : ℕ) (acc : List ℕ) → Free q acc → Free q (digits_onto k 10 false n acc)
  free-onto zero n acc f = f
  free-onto (suc k) n acc f = by (n / 10 == 0) (free-onto k (n / 10) (digit_glyph false (n % 10) ∷ acc) (glyph-not n, f))
    where
      by : (b : Bool) → Free q (digits_onto k 10 false (n / 10) (digit_glyph false (n % 10) ∷ acc))
          → Free q (cond b (digit_glyph false (n % 10) ∷ acc) (digits_onto k 10 false (n / 10) (digit_glyph false (n % 10) ∷ acc)))
      by true rest = (glyph-not n, f)
      by false rest = rest

  pub free-number : (n : ℕ) → Free q (decimal n)
  free-number n = subst (Free q) (digits_onto-nil 10 false n) (free-onto 64 n [] tt)

in-free : (xs : List ℕ) → Free 10 xs → in_line xs ≡ true
in-free [] f = refl
in-free (x ∷ xs) f = by (x == 10) refl (in-free xs f.1)
  where
    by : (b : Bool) → (x == 10) ≡ b → in_line xs ≡ true → in_line (x ∷ xs) ≡ true
    by true e rest = absurd (f.0 (eqb-true x 10 e))
    by false e rest = ap (λ b. not b && in_line xs) e ∙ rest

pub in-number : (n : ℕ) → in_line (decimal n) ≡ true
in-number n = in-free (decimal n) (free-number 10 (λ d small e. omega arith) n)

-- texts side by side
pub in-flat : {A : Type 0} (f : A → List ℕ) → ((x : A) → in_line (f x) ≡ true) → (xs : List A) → in_line (flat_map f xs) ≡ true
in-flat f each [] = refl
in-flat f each (x ∷ xs) = ap in_line (flat_map-cons f x xs) ∙ in-append (f x) (flat_map f xs) (each x) (in-flat f each xs)

-- four texts before another one
pub regroup-four : (v w x y more : List ℕ) → (((v ++ w) ++ x) ++ y) ++ more ≡ v ++ (w ++ (x ++ (y ++ more)))
regroup-four v w x y more =
    append_assoc ((v ++ w) ++ x) y more ∙ (append_assoc (v ++ w) x (y ++ more) ∙ append_assoc v w (x ++ (y ++ more)))

-- Marks by their names and by their numbers.
use Rattle.std.proofs.Common.{◌≡◌, ℕ, ◌+◌, ◌*◌, ◌<◌, ◌≤◌, ◌%◌, ◌^◌, Bool, true, false, cond, List, [], ◌∷◌, ◌++◌, length, refl, sym, ap, ◌∙◌, arith, get_or, decimal}
use Rattle.std.specs.Prelude.{◌==◌, codes, nat_lt}
use Rattle.std.proofs.lemmas.Bool.{and_parts, eq-eqb, eqb-true}
use Rattle.std.proofs.lemmas.Fmt.{decimal_by_steps, decimal_injective}
use Rattle.std.proofs.lemmas.Grind.{common_steps}
use Rattle.pr_page.specs.declared.paper.Mark.{Mark}
use Rattle.pr_page.specs.declared.paper.Mark.TheVariants.{Cell, Dots}
use Rattle.pr_render.specs.Laws.{is_of_bytes, same_text}
use Rattle.pr_render.specs.Svg.{name_svg, number_of}
use Rattle.pr_render.specs.Words.{text_if}

-- a text begins with a digit
abbrev BeginsWithDigit : List ℕ → Type 0
BeginsWithDigit text = (0 < length text) × (get_or text 0 0 < 58)

-- a number does
decimal-begins : (n : ℕ) → n < 2 ^ 64 → BeginsWithDigit (decimal n)
decimal-begins = decimal_by_steps (λ n ds. BeginsWithDigit ds) one more
  where
    one : (n : ℕ) → n < 10 → BeginsWithDigit ((48 + n) ∷ [])
    one n small = (omega arith, omega arith)

    more : (n : ℕ) (ds : List ℕ) → 10 ≤ n → BeginsWithDigit ds → BeginsWithDigit (ds ++ ((48 + n % 10) ∷ []))
    more n [] large begins = grind (arith, begins.0)
    more n (d ∷ ds) large begins = (omega arith, begins.1)

-- flags before a text that begins with a digit, and that text, can be read back
flags-tell : (r w s v : Bool) (ds es : List ℕ) → BeginsWithDigit ds → BeginsWithDigit es
    → (text_if r (codes "r") ++ text_if w (codes "w")) ++ ds ≡ (text_if s (codes "r") ++ text_if v (codes "w")) ++ es
    → (r ≡ s) × (w ≡ v) × (ds ≡ es)
flags-tell true true true true ds es a b is = (refl, refl, cc)
flags-tell true true true false ds es a b is = grind (arith, common_steps, a.0, a.1, b.0, b.1, is)
flags-tell true true false true ds es a b is = grind (arith, common_steps, a.0, a.1, b.0, b.1, is)
flags-tell true true false false ds es a b is = grind (arith, common_steps, a.0, a.1, b.0, b.1, is)
flags-tell true false true true ds es a b is = grind (arith, common_steps, a.0, a.1, b.0, b.1, is)
flags-tell true false true false ds es a b is = (refl, refl, cc)
flags-tell true false false true ds es a b is = grind (arith, common_steps, a.0, a.1, b.0, b.1, is)
flags-tell true false false false ds es a b is = grind (arith, common_steps, a.0, a.1, b.0, b.1, is)
flags-tell false true true true ds es a b is = grind (arith, common_steps, a.0, a.1, b.0, b.1, is)
flags-tell false true true false ds es a b is = grind (arith, common_steps, a.0, a.1, b.0, b.1, is)
flags-tell false true false true ds es a b is = (refl, refl, cc)
flags-tell false true false false ds es a b is = grind (arith, common_steps, a.0, a.1, b.0, b.1, is)
flags-tell false false true true ds es a b is = grind (arith, common_steps, a.0, a.1, b.0, b.1, is)
flags-tell false false true false ds es a b is = grind (arith, common_steps, a.0, a.1, b.0, b.1, is)
flags-tell false false false true ds es a b is = grind (arith, common_steps, a.0, a.1, b.0, b.1, is)
flags-tell false false false false ds es a b is = (refl, refl, is)

-- what follows the first sign
rest-is : {a b : ℕ} {xs bs : List ℕ} → a ∷ xs ≡ b ∷ bs → xs ≡ bs
rest-is is = cc

-- a byte is small
pub byte-small : (n : ℕ) → nat_lt n 256 ≡ true → n < 2 ^ 64
byte-small n is = grind (arith, is)

-- cells of one set
cells-tell : (c d : ℕ) (l r w s v : Bool) → nat_lt c 256 ≡ true → nat_lt d 256 ≡ true
    → (text_if r (codes "r") ++ text_if w (codes "w")) ++ decimal c ≡ (text_if s (codes "r") ++ text_if v (codes "w")) ++ decimal d
    → Cell c l r w ≡ Cell d l s v
cells-tell c d l r w s v small other is =
    let tell = flags-tell r w s v (decimal c) (decimal d) (decimal-begins c (byte-small c small)) (decimal-begins d (byte-small d other)) is in
    rw (tell.0, tell.1, decimal_injective c d (byte-small c small) (byte-small d other) tell.2) refl

-- different marks have different names
pub names-tell : (m n : Mark) → is_of_bytes m ≡ true → is_of_bytes n ≡ true → name_svg m ≡ name_svg n → m ≡ n
unfolding name_svg
names-tell (Cell c true r w) (Cell d true s v) small other is = cells-tell c d true r w s v small other (rest-is is)
names-tell (Cell c false r w) (Cell d false s v) small other is = cells-tell c d false r w s v small other (rest-is is)
names-tell (Cell c true r w) (Cell d false s v) small other is = grind (arith, is)
names-tell (Cell c false r w) (Cell d true s v) small other is = grind (arith, is)
names-tell (Cell c true r w) (Dots value) small other is = grind (arith, is)
names-tell (Cell c false r w) (Dots value) small other is = grind (arith, is)
names-tell (Dots value) (Cell d true s v) small other is = grind (arith, is)
names-tell (Dots value) (Cell d false s v) small other is = grind (arith, is)
names-tell (Dots value) (Dots again) small other is =
    ap Dots (decimal_injective value again (byte-small value small) (byte-small again other) (rest-is is))

-- a bit of a number, and what is smaller than it
bit-tells : (a b : Bool) (k x y : ℕ) → x < k → y < k → x + cond a k 0 ≡ y + cond b k 0 → (a ≡ b) × (x ≡ y)
bit-tells true true k x y p q is = (refl, omega arith)
bit-tells true false k x y p q is = absurd (omega arith)
bit-tells false true k x y p q is = absurd (omega arith)
bit-tells false false k x y p q is = (refl, omega arith)

-- a bit is at most its value
bit-small : (a : Bool) (k : ℕ) → cond a k 0 ≤ k
bit-small true k = omega arith
bit-small false k = omega arith

-- different marks have different numbers
pub numbers-tell : (m n : Mark) → number_of m ≡ number_of n → m ≡ n
numbers-tell (Cell c l r w) (Cell d m s v) is =
    let nine : (c ≡ d) × (cond l 1 0 + cond r 2 0 + cond w 4 0 ≡ cond m 1 0 + cond s 2 0 + cond v 4 0) =
    nines c d (cond l 1 0) (cond r 2 0) (cond w 4 0) (cond m 1 0) (cond s 2 0) (cond v 4 0)
    (bit-small l 1) (bit-small r 2) (bit-small w 4) (bit-small m 1) (bit-small s 2) (bit-small v 4) is in
    let four = bit-tells w v 4 (cond l 1 0 + cond r 2 0) (cond m 1 0 + cond s 2 0)
    (below-four (cond l 1 0) (cond r 2 0) (bit-small l 1) (bit-small r 2)) (below-four (cond m 1 0) (cond s 2 0) (bit-small m 1) (bit-small s 2)) nine.1 in
    let two = bit-tells r s 2 (cond l 1 0) (cond m 1 0) (below-two (cond l 1 0) (bit-small l 1)) (below-two (cond m 1 0) (bit-small m 1)) four.1 in
    let one = bit-tells l m 1 0 0 (omega arith) (omega arith) (omega (arith, two.1)) in
    rw (nine.0, four.0, two.0, one.0) refl
  where
    nines : (c d a e i b f j : ℕ) → a ≤ 1 → e ≤ 2 → i ≤ 4 → b ≤ 1 → f ≤ 2 → j ≤ 4
        → 9 * c + a + e + i ≡ 9 * d + b + f + j → (c ≡ d) × (a + e + i ≡ b + f + j)
    nines c d a e i b f j u v w x y z is = (omega arith, omega arith)

    below-four : (a b : ℕ) → a ≤ 1 → b ≤ 2 → a + b < 4
    below-four a b x y = omega arith

    below-two : (a : ℕ) → a ≤ 1 → a < 2
    below-two a x = omega arith
numbers-tell (Cell c l r w) (Dots value) is =
    absurd (apart c value (cond l 1 0) (cond r 2 0) (cond w 4 0) (bit-small l 1) (bit-small r 2) (bit-small w 4) is)
  where
    apart : (c d a e i : ℕ) → a ≤ 1 → e ≤ 2 → i ≤ 4 → 9 * c + a + e + i ≡ 9 * d + 8 → ⊥
    apart c d a e i u v w is = omega arith
numbers-tell (Dots value) (Cell d m s v) is =
    absurd (apart d value (cond m 1 0) (cond s 2 0) (cond v 4 0) (bit-small m 1) (bit-small s 2) (bit-small v 4) is)
  where
    apart : (c d a e i : ℕ) → a ≤ 1 → e ≤ 2 → i ≤ 4 → 9 * d + 8 ≡ 9 * c + a + e + i → ⊥
    apart c d a e i u v w is = omega arith
numbers-tell (Dots value) (Dots again) is = ap Dots (omega arith)

-- a text is the same as itself
same-self : (text : List ℕ) → same_text text text ≡ true
same-self [] = refl
same-self (a ∷ xs) = grind (arith, same-self xs)

-- texts that are found the same are equal
same-equal : (xs bs : List ℕ) → same_text xs bs ≡ true → xs ≡ bs
same-equal [] [] same = refl
same-equal [] (b ∷ bs) same = grind (arith, same)
same-equal (a ∷ xs) [] same = grind (arith, same)
same-equal (a ∷ xs) (b ∷ bs) same =
    let parts = and_parts (a == b) (same_text xs bs) same in rw (eqb-true a b parts.0, same-equal xs bs parts.1) refl

-- names are the same where numbers are
pub names-numbers : (m n : Mark) → is_of_bytes m ≡ true → is_of_bytes n ≡ true
    → same_text (name_svg m) (name_svg n) ≡ (number_of m == number_of n)
names-numbers m n small other = by (number_of m == number_of n) (same_text (name_svg m) (name_svg n)) refl refl
  where
    by : (numbers names : Bool) → (number_of m == number_of n) ≡ numbers → same_text (name_svg m) (name_svg n) ≡ names → names ≡ numbers
    by true true a b = refl
    by false false a b = refl
    by true false a b =
        let same : m ≡ n = numbers-tell m n (eqb-true (number_of m) (number_of n) a) in
        sym b ∙ (ap (λ k. same_text (name_svg m) (name_svg k)) (sym same) ∙ same-self (name_svg m))
    by false true a b =
        let same : m ≡ n = names-tell m n small other (same-equal (name_svg m) (name_svg n) b) in
        sym (eq-eqb (number_of m) (number_of n) (ap number_of same)) ∙ a

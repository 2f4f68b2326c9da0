-- The signs of the columns that lines of signs make.
use Rattle.std.proofs.Common.{◌≡◌, ℕ, zero, suc, ◌+◌, ◌*◌, ◌/◌, ◌%◌, ◌^◌, ◌<◌, Bool, true, false, cond, List, [], ◌∷◌, length, get_or, refl, sym, ap, ◌∙◌, arith}
use Rattle.std.specs.Prelude.{◌==◌, ◌||◌, map, nat_lt}
use Rattle.std.specs.List.{list_all}
use Rattle.std.proofs.lemmas.Bool.{and_from, and_parts, eqb-true}
use Rattle.std.proofs.lemmas.Bool.Decides.{nat_tests}
use Rattle.pr_characters.specs.File.{is_character, sign}
use Rattle.pr_characters.specs.Rows.{are_signs, bits_of, column_at, columns_at, dot_at, dot_in, is_sign}
use Rattle.pr_characters.proofs.Elements.{all_at, six}

-- a bit of seven
seven : (a b c d e f g y : ℕ) → a < 2 → b < 2 → c < 2 → d < 2 → e < 2 → f < 2 → g < 2 → y < 7
    → (a + 2 * b + 4 * c + 8 * d + 16 * e + 32 * f + 64 * g) / 2 ^ y % 2 ≡ get_or (a ∷ b ∷ c ∷ d ∷ e ∷ f ∷ g ∷ []) y 0
seven a b c d e f g zero la lb lc ld le lf lg few = omega arith
seven a b c d e f g (suc zero) la lb lc ld le lf lg few = omega arith
seven a b c d e f g (suc (suc zero)) la lb lc ld le lf lg few = omega arith
seven a b c d e f g (suc (suc (suc zero))) la lb lc ld le lf lg few = omega arith
seven a b c d e f g (suc (suc (suc (suc zero)))) la lb lc ld le lf lg few = omega arith
seven a b c d e f g (suc (suc (suc (suc (suc zero))))) la lb lc ld le lf lg few = omega arith
seven a b c d e f g (suc (suc (suc (suc (suc (suc zero)))))) la lb lc ld le lf lg few = omega arith
seven a b c d e f g (suc (suc (suc (suc (suc (suc (suc y))))))) la lb lc ld le lf lg few = absurd (omega arith)

seven_below : (a b c d e f g : ℕ) → a < 2 → b < 2 → c < 2 → d < 2 → e < 2 → f < 2 → g < 2
    → nat_lt (a + 2 * b + 4 * c + 8 * d + 16 * e + 32 * f + 64 * g) 128 ≡ true
seven_below a b c d e f g la lb lc ld le lf lg = grind (arith, nat_tests)

-- a bit is below 2
bit_below : (n : ℕ) → n % 2 < 2
bit_below n = omega arith

-- a dot of a column
dots : (rows : List ℕ) (p x y : ℕ) → y < 7
    → get_or (dot_at rows p x 0 ∷ dot_at rows p x 1 ∷ dot_at rows p x 2 ∷ dot_at rows p x 3 ∷ dot_at rows p x 4 ∷ dot_at rows p x 5 ∷ dot_at rows p x 6 ∷ []) y 0
    ≡ dot_at rows p x y
dots rows p x zero few = refl
dots rows p x (suc zero) few = refl
dots rows p x (suc (suc zero)) few = refl
dots rows p x (suc (suc (suc zero))) few = refl
dots rows p x (suc (suc (suc (suc zero)))) few = refl
dots rows p x (suc (suc (suc (suc (suc zero))))) few = refl
dots rows p x (suc (suc (suc (suc (suc (suc zero)))))) few = refl
dots rows p x (suc (suc (suc (suc (suc (suc (suc y))))))) few = absurd (omega arith)

-- each dot of a column is below 2
dot_below : (rows : List ℕ) (p x y : ℕ) → dot_at rows p x y < 2
dot_below rows p x y = bit_below (get_or rows (8 * p + 1 + y) 0 / 2 ^ x)

column_dot : (rows : List ℕ) (p x y : ℕ) → y < 7 → column_at rows p x / 2 ^ y % 2 ≡ dot_at rows p x y
column_dot rows p x y few =
    seven (dot_at rows p x 0) (dot_at rows p x 1) (dot_at rows p x 2) (dot_at rows p x 3) (dot_at rows p x 4) (dot_at rows p x 5) (dot_at rows p x 6) y
    (dot_below rows p x 0) (dot_below rows p x 1) (dot_below rows p x 2) (dot_below rows p x 3) (dot_below rows p x 4) (dot_below rows p x 5) (dot_below rows p x 6) few
    ∙ dots rows p x y few

column_below : (rows : List ℕ) (p x : ℕ) → nat_lt (column_at rows p x) 128 ≡ true
column_below rows p x =
    seven_below (dot_at rows p x 0) (dot_at rows p x 1) (dot_at rows p x 2) (dot_at rows p x 3) (dot_at rows p x 4) (dot_at rows p x 5) (dot_at rows p x 6)
    (dot_below rows p x 0) (dot_below rows p x 1) (dot_below rows p x 2) (dot_below rows p x 3) (dot_below rows p x 4) (dot_below rows p x 5) (dot_below rows p x 6)

-- six columns of seven dots
pub columns_fit : (rows : List ℕ) (p : ℕ) → is_character (columns_at rows p) ≡ true
unfolding columns_at
columns_fit rows p =
    rw (column_below rows p 0, column_below rows p 1, column_below rows p 2, column_below rows p 3, column_below rows p 4, column_below rows p 5) refl

-- a sign of a line of signs
sign_bit : (b : ℕ) → cond (b == 35) 1 0 < 2
sign_bit b = by (b == 35)
  where
    by : (is : Bool) → cond is 1 0 < 2
    by true = omega arith
    by false = omega arith

sign_bits : (line : List ℕ) (x : ℕ) → x < 6 → bits_of line / 2 ^ x % 2 ≡ dot_in line x
sign_bits line x few =
    ap (λ n. n / 2 ^ x % 2) (longer (dot_in line 0) (dot_in line 1) (dot_in line 2) (dot_in line 3) (dot_in line 4) (dot_in line 5))
    ∙ seven (dot_in line 0) (dot_in line 1) (dot_in line 2) (dot_in line 3) (dot_in line 4) (dot_in line 5) 0 x
    (sign_bit (get_or line 0 0)) (sign_bit (get_or line 1 0)) (sign_bit (get_or line 2 0)) (sign_bit (get_or line 3 0)) (sign_bit (get_or line 4 0)) (sign_bit (get_or line 5 0)) (omega arith) (omega arith)
    ∙ at x few
  where
    longer : (a b c d e f : ℕ) → a + 2 * b + 4 * c + 8 * d + 16 * e + 32 * f ≡ a + 2 * b + 4 * c + 8 * d + 16 * e + 32 * f + 64 * 0
    longer a b c d e f = omega arith

    at : (x : ℕ) → x < 6 → get_or (dot_in line 0 ∷ dot_in line 1 ∷ dot_in line 2 ∷ dot_in line 3 ∷ dot_in line 4 ∷ dot_in line 5 ∷ 0 ∷ []) x 0 ≡ dot_in line x
    at zero few = refl
    at (suc zero) few = refl
    at (suc (suc zero)) few = refl
    at (suc (suc (suc zero))) few = refl
    at (suc (suc (suc (suc zero)))) few = refl
    at (suc (suc (suc (suc (suc zero))))) few = refl
    at (suc (suc (suc (suc (suc (suc x)))))) few = absurd (omega arith)

-- a sign is that of its dot
sign_is : (b : ℕ) → (b == 35 || b == 46) ≡ true → cond (cond (b == 35) 1 0 == 1) 35 46 ≡ b
sign_is b is = grind (arith, nat_tests, is)

-- the sign of a column in a row that a line makes
row_sign : (rows line : List ℕ) (p x y : ℕ) → y < 7 → x < 6 → are_signs line ≡ true → get_or rows (8 * p + 1 + y) 0 ≡ bits_of line
    → sign y (column_at rows p x) ≡ get_or line x 0
row_sign rows line p x y few within signs is =
    let parts = and_parts (length line == 6) (list_all is_sign line) signs in
    let long : length line ≡ 6 = eqb-true (length line) 6 parts.0 in
    let dot : column_at rows p x / 2 ^ y % 2 ≡ dot_in line x =
    column_dot rows p x y few ∙ ap (λ n. n / 2 ^ x % 2) is ∙ sign_bits line x within in
    ap (λ n. cond (n == 1) 35 46) dot ∙ sign_is (get_or line x 0) (all_at is_sign 0 line x parts.1 (omega arith))

-- a row of a picture is the line that makes it
pub row_signs : (rows line : List ℕ) (p y : ℕ) → y < 7 → are_signs line ≡ true → get_or rows (8 * p + 1 + y) 0 ≡ bits_of line
    → map (sign y) (columns_at rows p) ≡ line
unfolding columns_at
row_signs rows line p y few signs is =
    let long : length line ≡ 6 = eqb-true (length line) 6 (and_parts (length line == 6) (list_all is_sign line) signs).0 in
    same (row_sign rows line p 0 y few (omega arith) signs is) (row_sign rows line p 1 y few (omega arith) signs is) (row_sign rows line p 2 y few (omega arith) signs is)
    (row_sign rows line p 3 y few (omega arith) signs is) (row_sign rows line p 4 y few (omega arith) signs is) (row_sign rows line p 5 y few (omega arith) signs is)
    ∙ sym (six line long)
  where
    same : {a b c d e f g h i j k l : ℕ} → a ≡ g → b ≡ h → c ≡ i → d ≡ j → e ≡ k → f ≡ l
        → a ∷ b ∷ c ∷ d ∷ e ∷ f ∷ [] ≡ g ∷ h ∷ i ∷ j ∷ k ∷ l ∷ []
    same p q r s t u = rw (p, q, r, s, t, u) refl

-- the signs of columns are signs
pub signs_of : (y : ℕ) (columns : List ℕ) → list_all is_sign (map (sign y) columns) ≡ true
signs_of y [] = refl
signs_of y (column ∷ columns) =
    and_from (is_sign (sign y column)) (list_all is_sign (map (sign y) columns)) (by (column / 2 ^ y % 2 == 1)) (signs_of y columns)
  where
    by : (is : Bool) → is_sign (cond is 35 46) ≡ true
    by true = refl
    by false = refl

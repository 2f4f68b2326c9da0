-- Dots of rows that are apart, by their pixels.
use Rattle.std.proofs.Common.{◌≡◌, ℕ, zero, suc, ◌+◌, ◌*◌, ◌/◌, ◌%◌, ◌^◌, ◌<◌, ◌≤◌, Bool, true, false, List, [], ◌∷◌, ◌++◌, ◌⊎◌, inl, inr, refl, sym, ap, ◌∙◌, arith}
use Rattle.std.specs.Prelude.{◌==◌, ◌&&◌, ◌||◌, flat_map, nat_le, nat_lt, if◌then◌else◌}
use Rattle.std.specs.List.{list_any, range_with_len}
use Rattle.std.proofs.lemmas.Bool.{cases_Bool, false_from_ne_true, false≢true}
use Rattle.std.proofs.lemmas.Bool.Decides.{nat_tests}
use Rattle.std.proofs.lemmas.List.Folds.{list_any-append}
use Rattle.pr_page.specs.declared.paper.Paper.{Paper}
use Rattle.pr_page.specs.declared.paper.Placed.{Placed}
use Rattle.pr_page.specs.declared.paper.Row.{Row}
use Rattle.pr_dots.specs.Dots.{Dot, bit_dots, column_dots, columns_dots, columns_of, dots_of, has_dot, is_at, row_dots}
use Rattle.pr_dots.specs.Scales.{pixels_of}
use Rattle.pr_dots.specs.declared.character_sets.Shapes.{Shapes}
use Rattle.pr_dots.specs.declared.scale.Scale.{Scale}
use Rattle.pr_dots.specs.declared.scale.Scale.TheVariants.{One, Two, Three, Four, Five, Six, Seven, Eight}
use Rattle.pr_png.specs.Laws.{AreApart, PixelsTellDots}
use Rattle.pr_png.specs.Pixels.{covers, is_printed, line_at}

-- one of two lists has it
pub in-part : (test : Dot → Bool) (ds es : List Dot) → list_any test (ds ++ es) ≡ true → (list_any test ds ≡ true) ⊎ (list_any test es ≡ true)
in-part test ds es is = either (list_any test ds) (list_any test es) (sym (list_any-append test ds es) ∙ is)
  where
    either : (a b : Bool) → (a || b) ≡ true → (a ≡ true) ⊎ (b ≡ true)
    either true b is = inl refl
    either false b is = inr is

-- where the dots of a row are
record IsOfRow (top y : ℕ) : Type 0 where
  bit : ℕ
  low : bit < 7
  at : y ≡ top + 2 * bit

bit-at : (set : Bool) (x y column z : ℕ) → list_any (is_at x y) (if set then record { x = column; y = z } ∷ [] else []) ≡ true → y ≡ z
bit-at true x y column z is = tested x y column z is
  where
    tested : (x y column z : ℕ) → ((column == x && z == y) || false) ≡ true → y ≡ z
    tested x y column z is = grind (arith, nat_tests)
bit-at false x y column z is = absurd (false≢true is)

bits-at : (x y column top value a n : ℕ) → a + n ≤ 7
    → list_any (is_at x y) (flat_map (bit_dots column top value) (range_with_len a n)) ≡ true → IsOfRow top y
bits-at x y column top value a zero few is = absurd (false≢true is)
bits-at x y column top value a (suc n) few is =
    let fewer : a + 1 + n ≤ 7 = omega arith in
    let low : a < 7 = omega arith in
    elim (in-part (is_at x y) (bit_dots column top value a) (flat_map (bit_dots column top value) (range_with_len (a + 1) n)) is) [
      | inl here ↦ record { bit = a; low = low; at = bit-at (value / 2 ^ a % 2 == 1) x y column (top + 2 * a) here }
      | inr there ↦ bits-at x y column top value (a + 1) n fewer there
    ]

column-at : (x y column top value : ℕ) → list_any (is_at x y) (column_dots column top value) ≡ true → IsOfRow top y
column-at x y column top value is =
    let seven : 0 + 7 ≤ 7 = omega arith in
    bits-at x y column top value 0 7 seven is

columns-at : (x y column top : ℕ) (values : List ℕ) → list_any (is_at x y) (columns_dots column top values) ≡ true → IsOfRow top y
columns-at x y column top [] is = absurd (false≢true is)
columns-at x y column top (v ∷ values) is =
    elim (in-part (is_at x y) (column_dots column top v) (columns_dots (column + 1) top values) is) [
      | inl here ↦ column-at x y column top v here
      | inr there ↦ columns-at x y (column + 1) top values there
    ]

marks-at : (shapes : Shapes) (x y top : ℕ) (marks : List Placed)
    → list_any (is_at x y) (flat_map (λ p. columns_dots p.x top (columns_of shapes p.mark)) marks) ≡ true → IsOfRow top y
marks-at shapes x y top [] is = absurd (false≢true is)
marks-at shapes x y top (p ∷ marks) is =
    elim (in-part (is_at x y) (columns_dots p.x top (columns_of shapes p.mark)) (flat_map (λ p. columns_dots p.x top (columns_of shapes p.mark)) marks) is) [
      | inl here ↦ columns-at x y p.x top (columns_of shapes p.mark) here
      | inr there ↦ marks-at shapes x y top marks there
    ]

row-at : (shapes : Shapes) (x y : ℕ) (r : Row) → list_any (is_at x y) (row_dots shapes r) ≡ true → IsOfRow r.y y
row-at shapes x y r is = marks-at shapes x y r.y r.marks is

-- no dot is above the rows
rows-low : (shapes : Shapes) (from x y : ℕ) (rows : List Row) → AreApart from rows → list_any (is_at x y) (flat_map (row_dots shapes) rows) ≡ true → from ≤ y
rows-low shapes from x y [] apart is = absurd (false≢true is)
rows-low shapes from x y (r ∷ rows) apart is =
    elim (in-part (is_at x y) (row_dots shapes r) (flat_map (row_dots shapes) rows) is) [
      | inl here ↦ let dot = row-at shapes x y r here in let low = apart.0 in omega (arith, dot.at, low)
      | inr there ↦ let low = apart.0 in let lower = rows-low shapes (r.y + 14) x y rows apart.1 there in omega (arith, low, lower)
    ]

-- no dot is right below another
apart-dots : (shapes : Shapes) (from x y : ℕ) (rows : List Row) → AreApart from rows → list_any (is_at x y) (flat_map (row_dots shapes) rows) ≡ true
    → list_any (is_at x (suc y)) (flat_map (row_dots shapes) rows) ≡ true → ⊥
apart-dots shapes from x y [] apart upper lower = false≢true upper
apart-dots shapes from x y (r ∷ rows) apart upper lower =
    elim (in-part (is_at x y) (row_dots shapes r) (flat_map (row_dots shapes) rows) upper) [
      | inl u ↦ elim (in-part (is_at x (suc y)) (row_dots shapes r) (flat_map (row_dots shapes) rows) lower) [
        | inl l ↦ let a = row-at shapes x y r u in let b = row-at shapes x (suc y) r l in omega (arith, a.at, b.at)
        | inr l ↦ let a = row-at shapes x y r u in let b = rows-low shapes (r.y + 14) x (suc y) rows apart.1 l in omega (arith, a.at, a.low, b)
      ]
      | inr u ↦ elim (in-part (is_at x (suc y)) (row_dots shapes r) (flat_map (row_dots shapes) rows) lower) [
        | inl l ↦ let a = rows-low shapes (r.y + 14) x y rows apart.1 u in let b = row-at shapes x (suc y) r l in omega (arith, a, b.at, b.low)
        | inr l ↦ apart-dots shapes (r.y + 14) x y rows apart.1 u l
      ]
    ]

-- so a paper has no dot right below another
no-touch : (shapes : Shapes) (p : Paper) (x y : ℕ) → AreApart 0 p.rows → has_dot shapes p x y ≡ true → has_dot shapes p x (suc y) ≡ false
unfolding has_dot dots_of
no-touch shapes p x y apart upper = false_from_ne_true (has_dot shapes p x (suc y)) (λ lower. apart-dots shapes 0 x y p.rows apart upper lower)

-- tests of dots that are the same, and two tests at once
any-same : (p r : Dot → Bool) → ((d : Dot) → r d ≡ p d) → (dots : List Dot) → list_any r dots ≡ list_any p dots
any-same p r same [] = refl
any-same p r same (d ∷ ds) = ap (λ b. b || list_any r ds) (same d) ∙ ap (λ b. p d || b) (any-same p r same ds)

any-either : (p q r : Dot → Bool) → ((d : Dot) → r d ≡ (p d || q d)) → (dots : List Dot)
    → list_any r dots ≡ (list_any p dots || list_any q dots)
any-either p q r either [] = refl
any-either p q r either (d ∷ ds) =
    ap (λ b. b || list_any r ds) (either d) ∙ ap (λ b. (p d || q d) || b) (any-either p q r either ds)
    ∙ moved (p d) (q d) (list_any p ds) (list_any q ds)
  where
    moved : (a b c d : Bool) → ((a || b) || (c || d)) ≡ ((a || c) || (b || d))
    moved true b c d = refl
    moved false true true d = refl
    moved false true false d = refl
    moved false false c d = refl

-- which dots cover the line of pixels at a distance
first-covers : (scale : Scale) (n : ℕ) → 2 ≤ pixels_of scale
    → (nat_le (line_at scale n) (line_at scale 0) && nat_lt (line_at scale 0) (line_at scale n + pixels_of scale)) ≡ (n == 0)
first-covers One n fine = absurd (omega (arith, fine))
first-covers Two n fine = grind (arith, nat_tests)
first-covers Three n fine = grind (arith, nat_tests)
first-covers Four n fine = grind (arith, nat_tests)
first-covers Five n fine = grind (arith, nat_tests)
first-covers Six n fine = grind (arith, nat_tests)
first-covers Seven n fine = grind (arith, nat_tests)
first-covers Eight n fine = grind (arith, nat_tests)

next-covers : (scale : Scale) (n y : ℕ) → 2 ≤ pixels_of scale
    → (nat_le (line_at scale n) (line_at scale (suc y)) && nat_lt (line_at scale (suc y)) (line_at scale n + pixels_of scale)) ≡ (n == suc y || n == y)
next-covers One n y fine = absurd (omega (arith, fine))
next-covers Two n y fine = grind (arith, nat_tests)
next-covers Three n y fine = grind (arith, nat_tests)
next-covers Four n y fine = grind (arith, nat_tests)
next-covers Five n y fine = grind (arith, nat_tests)
next-covers Six n y fine = grind (arith, nat_tests)
next-covers Seven n y fine = grind (arith, nat_tests)
next-covers Eight n y fine = grind (arith, nat_tests)

-- a pixel by the dots of its column
dark-first : (shapes : Shapes) (p : Paper) (scale : Scale) (x : ℕ) → 2 ≤ pixels_of scale → is_printed shapes p scale x (line_at scale 0) ≡ has_dot shapes p x 0
unfolding is_printed has_dot
dark-first shapes p scale x fine =
    any-same (is_at x 0) (covers scale x (line_at scale 0)) (λ d. ap (λ b. d.x == x && b) (first-covers scale d.y fine)) (dots_of shapes p)

dark-next : (shapes : Shapes) (p : Paper) (scale : Scale) (x y : ℕ) → 2 ≤ pixels_of scale
    → is_printed shapes p scale x (line_at scale (suc y)) ≡ (has_dot shapes p x (suc y) || has_dot shapes p x y)
unfolding is_printed has_dot
dark-next shapes p scale x y fine =
    any-either (is_at x (suc y)) (is_at x y) (covers scale x (line_at scale (suc y)))
    (λ d. ap (λ b. d.x == x && b) (next-covers scale d.y y fine) ∙ each (d.x == x) (d.y == suc y) (d.y == y)) (dots_of shapes p)
  where
    each : (a p q : Bool) → (a && (p || q)) ≡ ((a && p) || (a && q))
    each true p q = refl
    each false p q = refl

pub tell-dots : PixelsTellDots
tell-dots shapes p q scale fine apart-p apart-q same x zero =
    sym (dark-first shapes p scale x fine) ∙ same x (line_at scale 0) ∙ dark-first shapes q scale x fine
tell-dots shapes p q scale fine apart-p apart-q same x (suc y) =
    let upper : has_dot shapes p x y ≡ has_dot shapes q x y = tell-dots shapes p q scale fine apart-p apart-q same x y in
    elim (cases_Bool (has_dot shapes p x y)) [
      | inl is ↦ no-touch shapes p x y apart-p is ∙ sym (no-touch shapes q x y apart-q (sym upper ∙ is))
      | inr is ↦ sym (alone (has_dot shapes p x (suc y)) (has_dot shapes p x y) is) ∙ sym (dark-next shapes p scale x y fine) ∙ same x (line_at scale (suc y))
          ∙ dark-next shapes q scale x y fine ∙ alone (has_dot shapes q x (suc y)) (has_dot shapes q x y) (sym upper ∙ is)
    ]
  where
    alone : (a b : Bool) → b ≡ false → (a || b) ≡ a
    alone true b is = refl
    alone false b is = is

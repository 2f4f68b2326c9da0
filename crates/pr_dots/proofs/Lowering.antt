-- The dots of a paper that is lowered.
use Rattle.std.proofs.Common.{◌≡◌, ℕ, ◌+◌, ◌-◌, ◌*◌, ◌/◌, ◌%◌, ◌^◌, Bool, true, false, List, [], ◌∷◌, ◌++◌, refl, sym, ap, ◌∙◌, arith}
use Rattle.std.specs.Prelude.{◌==◌, ◌&&◌, ◌||◌, flat_map, nat_le, if◌then◌else◌}
use Rattle.std.specs.List.{list_any}
use Rattle.std.proofs.lemmas.Bool.Decides.{nat_tests}
use Rattle.pr_page.specs.declared.paper.Placed.{Placed}
use Rattle.pr_page.specs.declared.paper.Row.{Row}
use Rattle.pr_dots.specs.Dots.{Dot, bit_dots, column_dots, columns_dots, columns_of, dots_of, has_dot, is_at, row_dots}
use Rattle.pr_dots.specs.Laws.{LowersDots}
use Rattle.pr_dots.specs.Sheets.{lowered_row, lowered_rows}
use Rattle.pr_dots.specs.declared.character_sets.Shapes.{Shapes}

-- whether the lists have a dot at (x, y) that is `by` farther down in the first
abbrev Lowers : (by x y : ℕ) → List Dot → List Dot → Type 0
Lowers by x y low dots = list_any (is_at x y) low ≡ (nat_le by y && list_any (is_at x (y - by)) dots)

-- no dot, and dots after dots
none : (by x y : ℕ) → Lowers by x y [] []
none by x y = sym (and-false (nat_le by y))
  where
    and-false : (b : Bool) → (b && false) ≡ false
    and-false true = refl
    and-false false = refl

any-append : (test : Dot → Bool) (ds es : List Dot) → list_any test (ds ++ es) ≡ (list_any test ds || list_any test es)
any-append test [] es = refl
any-append test (d ∷ ds) es = ap (λ b. test d || b) (any-append test ds es) ∙ grouped (test d) (list_any test ds) (list_any test es)
  where
    grouped : (a b c : Bool) → (a || (b || c)) ≡ ((a || b) || c)
    grouped true b c = refl
    grouped false b c = refl

both : (by x y : ℕ) (ls ms ds es : List Dot) → Lowers by x y ls ds → Lowers by x y ms es → Lowers by x y (ls ++ ms) (ds ++ es)
both by x y ls ms ds es first second =
    any-append (is_at x y) ls ms
    ∙ (ap (λ b. b || list_any (is_at x y) ms) first
    ∙ (ap (λ b. (nat_le by y && list_any (is_at x (y - by)) ds) || b) second
    ∙ (spread (nat_le by y) (list_any (is_at x (y - by)) ds) (list_any (is_at x (y - by)) es)
    ∙ ap (λ b. nat_le by y && b) (sym (any-append (is_at x (y - by)) ds es)))))
  where
    spread : (a b c : Bool) → ((a && b) || (a && c)) ≡ (a && (b || c))
    spread true b c = refl
    spread false b c = refl

-- a dot
place : (by a y : ℕ) → (a + by == y) ≡ (nat_le by y && a == y - by)
place by a y = grind (arith, nat_tests)

dot : (by x y a v : ℕ) → Lowers by x y (record { x = a; y = v + by } ∷ []) (record { x = a; y = v } ∷ [])
dot by x y a v = ap (λ b. (a == x && b) || false) (place by v y) ∙ moved (a == x) (nat_le by y) (v == y - by)
  where
    moved : (p q r : Bool) → ((p && (q && r)) || false) ≡ (q && ((p && r) || false))
    moved true true r = refl
    moved true false r = refl
    moved false true r = refl
    moved false false r = refl

bit : (by x y a v value b : ℕ) → Lowers by x y (bit_dots a (v + by) value b) (bit_dots a v value b)
bit by x y a v value b = either (value / 2 ^ b % 2 == 1)
  where
    farther : v + by + 2 * b ≡ v + 2 * b + by
    farther = omega arith

    either : (is : Bool) → Lowers by x y (if is then record { x = a; y = v + by + 2 * b } ∷ [] else []) (if is then record { x = a; y = v + 2 * b } ∷ [] else [])
    either true = rw farther (dot by x y a (v + 2 * b))
    either false = none by x y

bits : (by x y a v value : ℕ) (bs : List ℕ) → Lowers by x y (flat_map (bit_dots a (v + by) value) bs) (flat_map (bit_dots a v value) bs)
bits by x y a v value [] = none by x y
bits by x y a v value (b ∷ bs) =
    both by x y (bit_dots a (v + by) value b) (flat_map (bit_dots a (v + by) value) bs) (bit_dots a v value b) (flat_map (bit_dots a v value) bs)
    (bit by x y a v value b) (bits by x y a v value bs)

columns : (by x y a v : ℕ) (values : List ℕ) → Lowers by x y (columns_dots a (v + by) values) (columns_dots a v values)
columns by x y a v [] = none by x y
columns by x y a v (value ∷ values) =
    both by x y (column_dots a (v + by) value) (columns_dots (a + 1) (v + by) values) (column_dots a v value) (columns_dots (a + 1) v values)
    (bits by x y a v value (0 ∷ 1 ∷ 2 ∷ 3 ∷ 4 ∷ 5 ∷ 6 ∷ [])) (columns by x y (a + 1) v values)

marks : (shapes : Shapes) (by x y v : ℕ) (placed : List Placed)
    → Lowers by x y (flat_map (λ p. columns_dots p.x (v + by) (columns_of shapes p.mark)) placed) (flat_map (λ p. columns_dots p.x v (columns_of shapes p.mark)) placed)
marks shapes by x y v [] = none by x y
marks shapes by x y v (p ∷ placed) =
    both by x y (columns_dots p.x (v + by) (columns_of shapes p.mark)) (flat_map (λ p. columns_dots p.x (v + by) (columns_of shapes p.mark)) placed)
    (columns_dots p.x v (columns_of shapes p.mark)) (flat_map (λ p. columns_dots p.x v (columns_of shapes p.mark)) placed)
    (columns by x y p.x v (columns_of shapes p.mark)) (marks shapes by x y v placed)

rows : (shapes : Shapes) (top x y : ℕ) (rs : List Row) → Lowers (21 * top) x y (flat_map (row_dots shapes) (lowered_rows top rs)) (flat_map (row_dots shapes) rs)
rows shapes top x y [] = none (21 * top) x y
rows shapes top x y (r ∷ rs) =
    both (21 * top) x y (row_dots shapes (lowered_row top r)) (flat_map (row_dots shapes) (lowered_rows top rs)) (row_dots shapes r) (flat_map (row_dots shapes) rs)
    (marks shapes (21 * top) x y r.y r.marks) (rows shapes top x y rs)

pub lowers-dots : LowersDots
unfolding has_dot dots_of
lowers-dots shapes top paper x y = rows shapes top x y paper.rows

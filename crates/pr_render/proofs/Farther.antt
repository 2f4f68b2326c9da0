-- The discs of a paper that is lowered.
use Rattle.std.proofs.Common.{◌≡◌, ℕ, ◌+◌, ◌*◌, ◌/◌, ◌%◌, ◌^◌, Bool, true, false, List, [], ◌∷◌, ◌++◌, refl, sym, ap, ◌∙◌, arith}
use Rattle.std.specs.Prelude.{◌==◌, flat_map, map, if◌then◌else◌}
use Rattle.std.specs.List.{list_all}
use Rattle.std.proofs.lemmas.List.{map-append}
use Rattle.pr_page.specs.declared.paper.Mark.{Mark}
use Rattle.pr_page.specs.declared.paper.Paper.{Paper}
use Rattle.pr_page.specs.declared.paper.Placed.{Placed}
use Rattle.pr_page.specs.declared.paper.Row.{Row}
use Rattle.pr_dots.specs.Dots.{Dot, bit_dots, column_dots, columns_dots, columns_of, dots_of, row_dots}
use Rattle.pr_dots.specs.Sheets.{lowered, lowered_row, lowered_rows}
use Rattle.pr_dots.specs.declared.character_sets.Shapes.{Shapes}
use Rattle.pr_render.specs.Laws.{is_of_bytes, moved, paper_discs}
use Rattle.pr_render.specs.Svg.{Disc, disc_of, each_once, marks_down, marks_of}
use Rattle.pr_render.proofs.Drawn.{discs-dots}

-- the discs of the first dots are those of the second, moved down by this many 1/126 inch
abbrev Farther : (by : ℕ) → (low dots : List Dot) → Type 0
Farther by low dots = map disc_of low ≡ map (moved 0 (10 * by)) (map disc_of dots)

-- dots after dots
both : (by : ℕ) (ls ms ds es : List Dot) → Farther by ls ds → Farther by ms es → Farther by (ls ++ ms) (ds ++ es)
both by ls ms ds es first second =
    map-append disc_of ls ms
    ∙ (ap (λ q. q ++ map disc_of ms) first
    ∙ (ap (λ q. map (moved 0 (10 * by)) (map disc_of ds) ++ q) second
    ∙ (sym (map-append (moved 0 (10 * by)) (map disc_of ds) (map disc_of es))
    ∙ ap (map (moved 0 (10 * by))) (sym (map-append disc_of ds es)))))

-- a disc, and a list of it alone
at : (across down : ℕ) → List Disc
at across down = record { across = across; down = down } ∷ []

-- a dot
dot : (by a v : ℕ) → Farther by (record { x = a; y = v + by } ∷ []) (record { x = a; y = v } ∷ [])
unfolding at
dot by a v = ap (λ n. at n (10 * (v + by) + 10)) across ∙ ap (at (0 + (21 * a + 10))) lower
  where
    across : 21 * a + 10 ≡ 0 + (21 * a + 10)
    across = omega arith

    lower : 10 * (v + by) + 10 ≡ 10 * by + (10 * v + 10)
    lower = omega arith

bit : (by a v value b : ℕ) → Farther by (bit_dots a (v + by) value b) (bit_dots a v value b)
bit by a v value b = either (value / 2 ^ b % 2 == 1)
  where
    farther : v + by + 2 * b ≡ v + 2 * b + by
    farther = omega arith

    either : (is : Bool) → Farther by (if is then record { x = a; y = v + by + 2 * b } ∷ [] else []) (if is then record { x = a; y = v + 2 * b } ∷ [] else [])
    either true = rw farther (dot by a (v + 2 * b))
    either false = refl

bits : (by a v value : ℕ) (bs : List ℕ) → Farther by (flat_map (bit_dots a (v + by) value) bs) (flat_map (bit_dots a v value) bs)
bits by a v value [] = refl
bits by a v value (b ∷ bs) =
    both by (bit_dots a (v + by) value b) (flat_map (bit_dots a (v + by) value) bs) (bit_dots a v value b) (flat_map (bit_dots a v value) bs)
    (bit by a v value b) (bits by a v value bs)

columns : (by a v : ℕ) (values : List ℕ) → Farther by (columns_dots a (v + by) values) (columns_dots a v values)
columns by a v [] = refl
columns by a v (value ∷ values) =
    both by (column_dots a (v + by) value) (columns_dots (a + 1) (v + by) values) (column_dots a v value) (columns_dots (a + 1) v values)
    (bits by a v value (0 ∷ 1 ∷ 2 ∷ 3 ∷ 4 ∷ 5 ∷ 6 ∷ [])) (columns by (a + 1) v values)

marks : (shapes : Shapes) (by v : ℕ) (placed : List Placed)
    → Farther by (flat_map (λ p. columns_dots p.x (v + by) (columns_of shapes p.mark)) placed) (flat_map (λ p. columns_dots p.x v (columns_of shapes p.mark)) placed)
marks shapes by v [] = refl
marks shapes by v (p ∷ placed) =
    both by (columns_dots p.x (v + by) (columns_of shapes p.mark)) (flat_map (λ p. columns_dots p.x (v + by) (columns_of shapes p.mark)) placed)
    (columns_dots p.x v (columns_of shapes p.mark)) (flat_map (λ p. columns_dots p.x v (columns_of shapes p.mark)) placed)
    (columns by p.x v (columns_of shapes p.mark)) (marks shapes by v placed)

rows : (shapes : Shapes) (top : ℕ) (rs : List Row) → Farther (21 * top) (flat_map (row_dots shapes) (lowered_rows top rs)) (flat_map (row_dots shapes) rs)
rows shapes top [] = refl
rows shapes top (r ∷ rs) =
    both (21 * top) (row_dots shapes (lowered_row top r)) (flat_map (row_dots shapes) (lowered_rows top rs)) (row_dots shapes r) (flat_map (row_dots shapes) rs)
    (marks shapes (21 * top) r.y r.marks) (rows shapes top rs)

lowered-dots : (shapes : Shapes) (top : ℕ) (paper : Paper)
    → map (moved 0 (10 * (21 * top))) (map disc_of (dots_of shapes paper)) ≡ map disc_of (dots_of shapes (lowered top paper))
unfolding dots_of
lowered-dots shapes top paper = sym (rows shapes top paper.rows)

-- what a picture draws of a paper's rows, from its upper edge on
pub discs-lowered : (shapes : Shapes) (top : ℕ) (before : List Mark) (paper : Paper) (after : List Mark)
    → list_all is_of_bytes (before ++ (marks_of paper ++ after)) ≡ true
    → map (moved 0 (marks_down top)) (paper_discs shapes (each_once (before ++ (marks_of paper ++ after))) paper)
    ≡ map disc_of (dots_of shapes (lowered top paper))
discs-lowered shapes top before paper after all =
    ap (map (moved 0 (marks_down top))) (discs-dots shapes before paper after all)
    ∙ (ap (λ n. map (moved 0 n) (map disc_of (dots_of shapes paper))) units ∙ lowered-dots shapes top paper)
  where
    units : 210 * top ≡ 10 * (21 * top)
    units = omega arith

-- Strips by the cells that join them.
use Rattle.std.proofs.Common.{◌≡◌, ℕ, ◌+◌, ◌*◌, ◌<◌, ◌≤◌, ◌^◌, Bool, true, false, cond, List, [], ◌∷◌, ◌++◌, length, take, drop, get_or, refl, sym, subst, ap, ◌∙◌, arith, decimal, codes, length-append, length-take-le}
use Rattle.std.specs.Prelude.{zero, suc, ◌==◌, ◌&&◌, ◌||◌, flat_map}
use Rattle.std.proofs.lemmas.Fmt.{length-decimal-le}
use Rattle.std.proofs.lemmas.List.{append_assoc, append-nil}
use Rattle.std.proofs.lemmas.List.Concat.{flat_map-cons}
use Rattle.pr_page.specs.declared.paper.Placed.{Placed}
use Rattle.pr_page.specs.declared.paper.Mark.{Mark}
use Rattle.pr_page.specs.declared.paper.Mark.TheVariants.{Cell, Dots}
use Rattle.pr_render.specs.Characters.{character}
use Rattle.pr_render.specs.Parts.{letters_fitted, letters_width, text_end}
use Rattle.pr_render.specs.Svg.{Strip, cells_width, character_text, characters_svg, escaped, has_cells, joins, lengthened, no_strip, same, shows, stands_for_itself, strip_of, strip_svg, strips_svg}
use Rattle.pr_render.specs.Tables.{cells_svg, characters_of, extended, is_next, joined_count, letter_of, letters_of, shows_mark}
use Rattle.pr_render.specs.Words.{is_blank, text_if}

-- the text of a character is short
pub letter-short : (u : ℕ) → u < 2 ^ 32 → length (character_text u) ≤ 16
unfolding escaped
letter-short u small = by (is_blank u) (stands_for_itself u)
  where
    by : (b s : Bool) → length (cond b (32 ∷ []) (cond s (u ∷ []) ((codes "&#" ++ decimal u) ++ codes ";"))) ≤ 16
    by true s = omega arith
    by false true = omega arith
    by false false =
        omega (
          arith,
          length-append (codes "&#" ++ decimal u) (codes ";"),
          length-append (codes "&#") (decimal u),
          length-decimal-le 10 u (omega arith) (omega arith) (omega arith),
        )

-- the characters of a mark and of those after it
abbrev placed-at : ℕ → Mark → Placed
placed-at x mark = record { x = x; mark = mark }

characters-cons : (p : Placed) (ps : List Placed) → characters_of (p ∷ ps) ≡ (strip_of p.x p.mark).characters ++ characters_of ps
characters-cons p ps = flat_map-cons (λ q. (strip_of q.x q.mark).characters) p ps

-- a mark that shows, and what comes after it
pub shows_cons : (p : Placed) (ps : List Placed) → shows (characters_of (p ∷ ps)) ≡ (shows_mark p.mark || shows (characters_of ps))
shows_cons p ps = ap shows (characters-cons p ps) ∙ by p.x p.mark
  where
    by : (x : ℕ) (m : Mark) → shows ((strip_of x m).characters ++ characters_of ps) ≡ (shows_mark m || shows (characters_of ps))
    by x (Cell code lower reverse wide) = refl
    by x (Dots value) = refl

-- a strip with cells keeps them
has-more : (us vs : List ℕ) → has_cells us ≡ true → has_cells (us ++ vs) ≡ true
has-more [] vs has = absurd (no has)
  where
    no : false ≡ true → ⊥
    no e = grind (arith, e)
has-more (u ∷ us) vs has = refl

-- a mark joins a strip exactly if it is its next cell
joins-next : (x : ℕ) (m : Mark) (s : Strip) (end : ℕ) → has_cells s.characters ≡ true → end ≡ s.x + cells_width s.wide (length s.characters)
    → joins (strip_of x m) s ≡ is_next s.wide end (placed-at x m)
joins-next x (Dots value) s end has at = refl
joins-next x (Cell code lower reverse wide) s end has at = rw (has, at) refl

-- nothing joins a strip without cells
joins-none : (s : Strip) → joins s no_strip ≡ false
joins-none s = by (has_cells s.characters)
  where
    by : (b : Bool) → (b && false && same false s.wide && s.x == 0 + cells_width false 0) ≡ false
    by true = refl
    by false = refl

-- where a strip ends that has one more cell
ends-at : (x n : ℕ) (wide : Bool) (m k : ℕ) → k ≡ m + 1 → n ≡ x + cells_width wide m → n + cells_width wide 1 ≡ x + cells_width wide k
ends-at x n true m k more at = omega arith
ends-at x n false m k more at = omega arith

-- a strip with other characters
abbrev strip-at : ℕ → Bool → List ℕ → Strip
strip-at x wide us = record { x = x; wide = wide; characters = us }

-- a strip that has no more cells
extended-nil : (s : Strip) → extended s [] ≡ s
extended-nil s = ap (λ us. strip-at s.x s.wide us) (append-nil s.characters)

-- a strip with one more cell, and more after it
extended-cons : (s : Strip) (p : Placed) (ps : List Placed) → extended (lengthened s (strip_of p.x p.mark)) ps ≡ extended s (p ∷ ps)
extended-cons s p ps =
    ap (λ us. strip-at s.x s.wide us) (append_assoc s.characters (strip_of p.x p.mark).characters (characters_of ps)
    ∙ ap (λ us. s.characters ++ us) (sym (characters-cons p ps)))

-- marks after none begin anew
pub none-first : (p : Placed) (ps : List Placed) → strips_svg no_strip (p ∷ ps) ≡ strips_svg (strip_of p.x p.mark) ps
none-first p ps =
    ap (λ b. cond b (strips_svg (lengthened no_strip (strip_of p.x p.mark)) ps) (strip_svg no_strip ++ strips_svg (strip_of p.x p.mark) ps))
    (joins-none (strip_of p.x p.mark))

-- a cell adds one character
one-more : (x : ℕ) (m : Mark) (wide : Bool) (end : ℕ) (us : List ℕ) → is_next wide end (placed-at x m) ≡ true
    → length (us ++ (strip_of x m).characters) ≡ length us + 1
one-more x (Cell code lower reverse double) wide end us next = length-append us (character lower code ∷ [])
one-more x (Dots value) wide end us next = grind (arith, next)

-- the strips of marks after one, by whether the first mark joins it
abbrev going-on : Strip → Placed → List Placed → Bool → List ℕ
going-on s p ps b = cond b (strips_svg (lengthened s (strip_of p.x p.mark)) ps) (strip_svg s ++ strips_svg (strip_of p.x p.mark) ps)

-- a strip with this many marks after it, and the others after none
abbrev cut-after : Strip → List Placed → ℕ → List ℕ
cut-after s ps n = strip_svg (extended s (take n ps)) ++ strips_svg no_strip (drop n ps)

-- marks after a strip: those that join it, and the others after none
pub strips-cut : (s : Strip) (end : ℕ) (ps : List Placed) → has_cells s.characters ≡ true → end ≡ s.x + cells_width s.wide (length s.characters)
    → strips_svg s ps ≡ strip_svg (extended s (take (joined_count s.wide end ps) ps)) ++ strips_svg no_strip (drop (joined_count s.wide end ps) ps)
strips-cut s end [] has at = sym (append-nil (strip_svg (extended s [])) ∙ ap strip_svg (extended-nil s))
strips-cut s end (p ∷ ps) has at =
    by (is_next s.wide end p) refl (strips-cut (lengthened s (strip_of p.x p.mark)) (end + cells_width s.wide 1) ps)
  where
    first : (b : Bool) → is_next s.wide end p ≡ b → strips_svg s (p ∷ ps) ≡ going-on s p ps b
    first b e = ap (going-on s p ps) (joins-next p.x p.mark s end has at ∙ e)

    by : (b : Bool) → is_next s.wide end p ≡ b
        → (has_cells (s.characters ++ (strip_of p.x p.mark).characters) ≡ true
        → end + cells_width s.wide 1 ≡ s.x + cells_width s.wide (length (s.characters ++ (strip_of p.x p.mark).characters))
        → strips_svg (lengthened s (strip_of p.x p.mark)) ps
        ≡ cut-after (lengthened s (strip_of p.x p.mark)) ps (joined_count s.wide (end + cells_width s.wide 1) ps))
        → strips_svg s (p ∷ ps) ≡ cut-after s (p ∷ ps) (cond (is_next s.wide end p) (suc (joined_count s.wide (end + cells_width s.wide 1) ps)) 0)
    by true e next =
        first true e
        ∙ next (has-more s.characters (strip_of p.x p.mark).characters has)
        (ends-at s.x end s.wide (length s.characters) (length (s.characters ++ (strip_of p.x p.mark).characters)) (one-more p.x p.mark s.wide end s.characters e) at)
        ∙ ap (λ t. strip_svg t ++ strips_svg no_strip (drop (joined_count s.wide (end + cells_width s.wide 1) ps) ps))
        (extended-cons s p (take (joined_count s.wide (end + cells_width s.wide 1) ps) ps))
        ∙ ap (λ b. cut-after s (p ∷ ps) (cond b (suc (joined_count s.wide (end + cells_width s.wide 1) ps)) 0)) (sym e)
    by false e next =
        first false e
        ∙ ap (λ t. strip_svg t ++ strips_svg (strip_of p.x p.mark) ps) (sym (extended-nil s))
        ∙ ap (λ t. strip_svg (extended s []) ++ t) (sym (none-first p ps))
        ∙ ap (λ b. cut-after s (p ∷ ps) (cond b (suc (joined_count s.wide (end + cells_width s.wide 1) ps)) 0)) (sym e)

-- marks that join are cells, one character each
joined-length : (wide : Bool) (end : ℕ) (ps : List Placed) → length (characters_of (take (joined_count wide end ps) ps)) ≡ joined_count wide end ps
joined-length wide end [] = refl
joined-length wide end (p ∷ ps) = by (is_next wide end p) refl (joined-length wide (end + cells_width wide 1) ps)
  where
    taken : (n : ℕ) → length (characters_of (take n ps)) ≡ n → is_next wide end p ≡ true → length (characters_of (p ∷ take n ps)) ≡ suc n
    taken n rest e =
        ap length (characters-cons p (take n ps)) ∙ omega (
          arith,
          length-append (strip_of p.x p.mark).characters (characters_of (take n ps)),
          one-more p.x p.mark wide end [] e,
          rest,
        )

    by : (b : Bool) → is_next wide end p ≡ b
        → length (characters_of (take (joined_count wide (end + cells_width wide 1) ps) ps)) ≡ joined_count wide (end + cells_width wide 1) ps
        → length (characters_of (take (cond (is_next wide end p) (suc (joined_count wide (end + cells_width wide 1) ps)) 0) (p ∷ ps)))
        ≡ cond (is_next wide end p) (suc (joined_count wide (end + cells_width wide 1) ps)) 0
    by true e rest = subst (λ b. length (characters_of (take (cond b (suc (joined_count wide (end + cells_width wide 1) ps)) 0) (p ∷ ps)))
        ≡ cond b (suc (joined_count wide (end + cells_width wide 1) ps)) 0) (sym e)
        (taken (joined_count wide (end + cells_width wide 1) ps) rest e)
    by false e rest = subst (λ b. length (characters_of (take (cond b (suc (joined_count wide (end + cells_width wide 1) ps)) 0) (p ∷ ps)))
        ≡ cond b (suc (joined_count wide (end + cells_width wide 1) ps)) 0) (sym e) refl

-- the marks of a line, of which the first is a cell: a strip, and what is left
cell-first : (x code : ℕ) (lower reverse wide : Bool) (ps : List Placed) (n : ℕ) → n ≡ joined_count wide (x + cells_width wide 1) ps
    → strips_svg no_strip (placed-at x (Cell code lower reverse wide) ∷ ps)
    ≡ strip_svg (record { x = x; wide = wide; characters = characters_of (placed-at x (Cell code lower reverse wide) ∷ take n ps) }) ++ strips_svg no_strip (drop n ps)
cell-first x code lower reverse wide ps n is =
    none-first (placed-at x (Cell code lower reverse wide)) ps
    ∙ strips-cut (strip_of x (Cell code lower reverse wide)) (x + cells_width wide 1) ps refl refl
    ∙ ap (λ k. strip_svg (extended (strip_of x (Cell code lower reverse wide)) (take k ps)) ++ strips_svg no_strip (drop k ps)) (sym is)
    ∙ ap (λ us. strip_svg (strip-at x wide us) ++ strips_svg no_strip (drop n ps)) (sym (characters-cons (placed-at x (Cell code lower reverse wide)) (take n ps)))

one-plus : (n : ℕ) → 1 + n ≡ suc n
one-plus n = omega arith

-- the same of a list whose first mark has been read
cells-cut : (marks : List Placed) (d : Placed) (code : ℕ) (lower reverse wide : Bool) (n : ℕ) → 0 < length marks → (get_or marks 0 d).mark ≡ Cell code lower reverse wide
    → n ≡ joined_count wide ((get_or marks 0 d).x + cells_width wide 1) (drop 1 marks)
    → strips_svg no_strip marks ≡ strip_svg (strip-at (get_or marks 0 d).x wide (characters_of (take (1 + n) marks))) ++ strips_svg no_strip (drop (1 + n) marks)
cells-cut [] d code lower reverse wide n some mark count = absurd (omega arith)
cells-cut (p ∷ ps) d code lower reverse wide n some mark count =
    let here : p ≡ placed-at p.x (Cell code lower reverse wide) = ap (λ m. placed-at p.x m) mark in
    ap (λ q. strips_svg no_strip (q ∷ ps)) here ∙ cell-first p.x code lower reverse wide ps n count
    ∙ ap (λ q. strip_svg (strip-at p.x wide (characters_of (q ∷ take n ps))) ++ strips_svg no_strip (drop n ps)) (sym here)
    ∙ ap (λ k. strip_svg (strip-at p.x wide (characters_of (take k (p ∷ ps)))) ++ strips_svg no_strip (drop k (p ∷ ps))) (sym (one-plus n))

-- and how many characters the strip has
cells-length : (marks : List Placed) (d : Placed) (code : ℕ) (lower reverse wide : Bool) (n : ℕ) → 0 < length marks → (get_or marks 0 d).mark ≡ Cell code lower reverse wide
    → n ≡ joined_count wide ((get_or marks 0 d).x + cells_width wide 1) (drop 1 marks)
    → length (characters_of (take (1 + n) marks)) ≡ 1 + n
cells-length [] d code lower reverse wide n some mark count = absurd (omega arith)
cells-length (p ∷ ps) d code lower reverse wide n some mark count =
    let here : p ≡ placed-at p.x (Cell code lower reverse wide) = ap (λ m. placed-at p.x m) mark in
    ap (λ k. length (characters_of (take k (p ∷ ps)))) (one-plus n) ∙ ap length (characters-cons p (take n ps))
    ∙ ap (λ q. length ((strip_of q.x q.mark).characters ++ characters_of (take n ps))) here
    ∙ ap suc (ap (λ k. length (characters_of (take k ps))) count ∙ joined-length wide (p.x + cells_width wide 1) ps ∙ sym count)
    ∙ sym (one-plus n)

-- the letters of marks are the texts of their characters
letters-texts : (ps : List Placed) → flat_map character_text (characters_of ps) ≡ letters_of ps
letters-texts [] = refl
letters-texts (p ∷ ps) = by p.x p.mark (letters-texts ps)
  where
    by : (x : ℕ) (m : Mark) → flat_map character_text (characters_of ps) ≡ letters_of ps
        → flat_map character_text ((strip_of x m).characters ++ characters_of ps) ≡ letter_of m ++ letters_of ps
    by x (Cell code lower reverse wide) rest = ap (λ t. character_text (character lower code) ++ t) rest
    by x (Dots value) rest = rest

-- a strip of cells, by its marks
strip-cells : (x : ℕ) (wide : Bool) (cells : List Placed) → length (characters_of cells) ≡ length cells
    → strip_svg (strip-at x wide (characters_of cells)) ≡ text_if (shows (characters_of cells)) (cells_svg x wide (length cells) (letters_of cells))
unfolding characters_svg cells_svg
strip-cells x wide cells same-length =
    ap (λ n. text_if (shows (characters_of cells)) ((((((codes "<text x=\"" ++ decimal (21 * x)) ++ letters_width) ++ decimal (21 * cells_width wide n)) ++ letters_fitted)
    ++ flat_map character_text (characters_of cells)) ++ text_end)) same-length
    ∙ ap (λ t. text_if (shows (characters_of cells)) ((((((codes "<text x=\"" ++ decimal (21 * x)) ++ letters_width) ++ decimal (21 * cells_width wide (length cells))) ++ letters_fitted)
    ++ t) ++ text_end)) (letters-texts cells)

-- the marks of a line, of which the first is a cell: the letters of a strip, and what is left
pub first-cells : (marks : List Placed) (d : Placed) (code : ℕ) (lower reverse wide : Bool) (n : ℕ) → 0 < length marks → (get_or marks 0 d).mark ≡ Cell code lower reverse wide
    → n ≡ joined_count wide ((get_or marks 0 d).x + cells_width wide 1) (drop 1 marks) → 1 + n ≤ length marks
    → strips_svg no_strip marks
    ≡ text_if (shows (characters_of (take (1 + n) marks))) (cells_svg (get_or marks 0 d).x wide (length (take (1 + n) marks)) (letters_of (take (1 + n) marks)))
    ++ strips_svg no_strip (drop (1 + n) marks)
first-cells marks d code lower reverse wide n some mark count within =
    cells-cut marks d code lower reverse wide n some mark count
    ∙ ap (λ t. t ++ strips_svg no_strip (drop (1 + n) marks)) (strip-cells (get_or marks 0 d).x wide (take (1 + n) marks)
    (cells-length marks d code lower reverse wide n some mark count ∙ sym (length-take-le (1 + n) marks within)))

-- one more mark joins
pub count-next : (wide : Bool) (end n : ℕ) (marks : List Placed) (d : Placed) → n < length marks → is_next wide end (get_or marks n d) ≡ true
    → joined_count wide end (drop n marks) ≡ suc (joined_count wide (end + cells_width wide 1) (drop (n + 1) marks))
count-next wide end n [] d within next = absurd (omega arith)
count-next wide end zero (p ∷ ps) d within next = ap (λ b. cond b (suc (joined_count wide (end + cells_width wide 1) ps)) 0) next
count-next wide end (suc n) (p ∷ ps) d within next =
    count-next wide end n ps d (omega arith) next
    ∙ ap (λ k. suc (joined_count wide (end + cells_width wide 1) (drop k (p ∷ ps)))) (further n)
  where
    further : (n : ℕ) → suc (n + 1) ≡ suc n + 1
    further n = omega arith

-- a cell is six or twelve dots wide
pub width-least : (wide : Bool) → 6 ≤ cells_width wide 1
width-least true = omega arith
width-least false = omega arith

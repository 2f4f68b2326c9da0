-- What the elements of a picture draw.
use Rattle.std.proofs.Common.{◌≡◌, ℕ, ◌+◌, ◌*◌, ◌/◌, ◌%◌, ◌^◌, Bool, true, false, cond, List, [], ◌∷◌, ◌++◌, refl, sym, ap, ◌∙◌, arith, append_assoc, append-nil}
use Rattle.std.specs.Prelude.{◌==◌, ◌&&◌, ◌||◌, not, flat_map, map}
use Rattle.std.specs.List.{filter, list_all, list_any}
use Rattle.std.proofs.lemmas.Bool.{and_from, and_parts, eq-eqb, eqb-true}
use Rattle.std.proofs.lemmas.Grind.{common_steps}
use Rattle.pr_page.specs.declared.paper.Placed.{Placed}
use Rattle.pr_page.specs.declared.paper.Row.{Row}
use Rattle.pr_page.specs.declared.paper.Paper.{Paper}
use Rattle.pr_page.specs.declared.paper.Mark.{Mark}
use Rattle.pr_dots.specs.Dots.{Dot, bit_dots, column_dots, columns_dots, columns_of, dots_of, row_dots}
use Rattle.pr_dots.specs.declared.character_sets.Shapes.{Shapes}
use Rattle.pr_render.specs.Laws.{is_of_bytes, moved, paper_discs, used_discs}
use Rattle.pr_render.specs.Svg.{Disc, differ, disc_of, each_once, mark_discs, marks_of, name_svg, number_of}
use Rattle.pr_render.proofs.Names.{names-numbers, numbers-tell}

-- what the definitions of a mark give, by numbers
abbrev chosen : {A : Type 0} → (Mark → List A) → Mark → List Mark → List A
chosen f m ds = flat_map (λ d. cond (number_of d == number_of m) (f d) []) ds

-- without the marks that give something, nothing is given
filter-none : {A : Type 0} (f : Mark → List A) (m : Mark) (p : Mark → Bool) → ((d : Mark) → p d ≡ true → (number_of d == number_of m) ≡ false)
    → (ds : List Mark) → chosen f m (filter p ds) ≡ []
filter-none f m p none [] = refl
filter-none f m p none (d ∷ ds) = grind (arith, common_steps, none d, filter-none f m p none ds)

-- without marks that give nothing, the same is given
filter-same : {A : Type 0} (f : Mark → List A) (m : Mark) (p : Mark → Bool) → ((d : Mark) → p d ≡ false → (number_of d == number_of m) ≡ false)
    → (ds : List Mark) → chosen f m (filter p ds) ≡ chosen f m ds
filter-same f m p none [] = refl
filter-same f m p none (d ∷ ds) = grind (arith, common_steps, none d, filter-same f m p none ds)

-- a mark among others is defined once
once : {A : Type 0} (f : Mark → List A) (m : Mark) (ms : List Mark) → list_any (λ n. number_of n == number_of m) ms ≡ true
    → chosen f m (each_once ms) ≡ f m
once f m [] among = grind (arith, among)
once f m (n ∷ ms) among = by (number_of n == number_of m) refl (once f m ms)
  where
    apart : (a b c : ℕ) → (a == c) ≡ true → not (a == b) ≡ true → (b == c) ≡ false
    apart a b c is other = grind (arith, is, other)

    alike : (a b c : ℕ) → (a == c) ≡ false → not (a == b) ≡ false → (b == c) ≡ false
    alike a b c is other = grind (arith, is, other)

    later : (a b : Bool) → a ≡ false → (a || b) ≡ true → b ≡ true
    later true b is either = grind (arith, is)
    later false b is either = either

    by : (is : Bool) → (number_of n == number_of m) ≡ is
        → (list_any (λ n. number_of n == number_of m) ms ≡ true → chosen f m (each_once ms) ≡ f m)
        → chosen f m (n ∷ filter (differ n) (each_once ms)) ≡ f m
    by true is rest =
        let same : n ≡ m = numbers-tell n m (eqb-true (number_of n) (number_of m) is) in
        let others = filter-none f m (differ n) (λ d. apart (number_of n) (number_of d) (number_of m) is) (each_once ms) in
        rw (is, others) (append-nil (f n) ∙ ap f same)
    by false is rest =
        let others = filter-same f m (differ n) (λ d. alike (number_of n) (number_of d) (number_of m) is) (each_once ms) in
        rw (is, others) (rest (later (number_of n == number_of m) (list_any (λ n. number_of n == number_of m) ms) is among))

-- what is used by a name, by numbers
used-chosen : (shapes : Shapes) (ds : List Mark) (m : Mark) (across down : ℕ) → list_all is_of_bytes ds ≡ true → is_of_bytes m ≡ true
    → used_discs shapes ds across down (name_svg m) ≡ chosen (λ d. map (moved across down) (mark_discs shapes d)) m ds
used-chosen shapes [] m across down all small = refl
used-chosen shapes (d ∷ ds) m across down all small =
    let parts = and_parts (is_of_bytes d) (list_all is_of_bytes ds) all in
    rw (names-numbers d m parts.0 small, used-chosen shapes ds m across down parts.1 small) refl

-- marks that are left of marks of bytes are of bytes
bytes-filter : (p : Mark → Bool) (ms : List Mark) → list_all is_of_bytes ms ≡ true → list_all is_of_bytes (filter p ms) ≡ true
bytes-filter p [] all = refl
bytes-filter p (m ∷ ms) all = grind (arith, common_steps, all, bytes-filter p ms)

-- and so are they each once
bytes-once : (ms : List Mark) → list_all is_of_bytes ms ≡ true → list_all is_of_bytes (each_once ms) ≡ true
bytes-once [] all = refl
bytes-once (m ∷ ms) all =
    let parts = and_parts (is_of_bytes m) (list_all is_of_bytes ms) all in
    and_from (is_of_bytes m) (list_all is_of_bytes (filter (differ m) (each_once ms))) parts.0 (bytes-filter (differ m) (each_once ms) (bytes-once ms parts.1))

-- a disc
abbrev disc_at : ℕ → ℕ → Disc
disc_at a b = record { across = a; down = b }

-- the disc of a bit that is moved
bit-moved : (x y i j v b : ℕ) → j ≡ x + i
    → map (moved (21 * x) (10 * y)) (map disc_of (bit_dots i 0 v b)) ≡ map disc_of (bit_dots j y v b)
bit-moved x y i j v b at = by (v / 2 ^ b % 2 == 1)
  where
    both : (a b c d : ℕ) → a ≡ c → b ≡ d → disc_at a b ≡ disc_at c d
    both a b c d p q = rw (p, q) refl

    by : (is : Bool) → map (moved (21 * x) (10 * y)) (map disc_of (cond is (record { x = i; y = 0 + 2 * b } ∷ []) []))
        ≡ map disc_of (cond is (record { x = j; y = y + 2 * b } ∷ []) [])
    by true =
        ap (λ d. d ∷ [])
        (both (21 * x + (21 * i + 10)) (10 * y + (10 * (0 + 2 * b) + 10)) (21 * j + 10) (10 * (y + 2 * b) + 10) (omega (arith, at)) (omega arith))
    by false = refl

-- the discs of bits
bits-moved : (x y i j v : ℕ) → j ≡ x + i → (bs : List ℕ)
    → map (moved (21 * x) (10 * y)) (map disc_of (flat_map (bit_dots i 0 v) bs)) ≡ map disc_of (flat_map (bit_dots j y v) bs)
bits-moved x y i j v at [] = refl
bits-moved x y i j v at (b ∷ bs) = grind (arith, common_steps, bit-moved x y i j v b at, bits-moved x y i j v at bs)

-- the discs of columns
columns-moved : (x y i j : ℕ) → j ≡ x + i → (vs : List ℕ)
    → map (moved (21 * x) (10 * y)) (map disc_of (columns_dots i 0 vs)) ≡ map disc_of (columns_dots j y vs)
columns-moved x y i j at [] = refl
columns-moved x y i j at (v ∷ vs) =
    joined (moved (21 * x) (10 * y)) (column_dots i 0 v) (columns_dots (i + 1) 0 vs) (column_dots j y v) (columns_dots (j + 1) y vs)
    (bits-moved x y i j v at (0 ∷ 1 ∷ 2 ∷ 3 ∷ 4 ∷ 5 ∷ 6 ∷ [])) (columns-moved x y (i + 1) (j + 1) (omega (arith, at)) vs)
  where
    joined : (f : Disc → Disc) (a b c d : List Dot) → map f (map disc_of a) ≡ map disc_of c → map f (map disc_of b) ≡ map disc_of d
        → map f (map disc_of (a ++ b)) ≡ map disc_of (c ++ d)
    joined f a b c d p q = grind (arith, common_steps, p, q)

-- a mark is defined, and of bytes
abbrev is_known : List Mark → Mark → Bool
is_known ms m = list_any (λ n. number_of n == number_of m) ms && is_of_bytes m

-- what an element draws: the dots of its mark
use-dots : (shapes : Shapes) (ms : List Mark) (p : Placed) (y : ℕ) → list_all is_of_bytes ms ≡ true → is_known ms p.mark ≡ true
    → used_discs shapes (each_once ms) (21 * p.x) (10 * y) (name_svg p.mark) ≡ map disc_of (columns_dots p.x y (columns_of shapes p.mark))
use-dots shapes ms p y all known =
    let parts = and_parts (list_any (λ n. number_of n == number_of p.mark) ms) (is_of_bytes p.mark) known in
    used-chosen shapes (each_once ms) p.mark (21 * p.x) (10 * y) (bytes-once ms all) parts.1
    ∙ (once (λ d. map (moved (21 * p.x) (10 * y)) (mark_discs shapes d)) p.mark ms parts.0
    ∙ columns-moved p.x y 0 p.x (omega arith) (columns_of shapes p.mark))

-- lists of discs, one after the other
discs-append : (a b : List Disc) (c d : List Dot) → a ≡ map disc_of c → b ≡ map disc_of d → a ++ b ≡ map disc_of (c ++ d)
discs-append a b c d p q = grind (arith, common_steps, p, q)

-- what the elements of a line draw
line-dots : (shapes : Shapes) (ms : List Mark) (y : ℕ) (ps : List Placed) → list_all is_of_bytes ms ≡ true → list_all (is_known ms) (map (λ p. p.mark) ps) ≡ true
    → flat_map (λ p. used_discs shapes (each_once ms) (21 * p.x) (10 * y) (name_svg p.mark)) ps
    ≡ map disc_of (flat_map (λ p. columns_dots p.x y (columns_of shapes p.mark)) ps)
line-dots shapes ms y [] all known = refl
line-dots shapes ms y (p ∷ ps) all known =
    let parts = and_parts (is_known ms p.mark) (list_all (is_known ms) (map (λ p. p.mark) ps)) known in
    discs-append (used_discs shapes (each_once ms) (21 * p.x) (10 * y) (name_svg p.mark))
    (flat_map (λ p. used_discs shapes (each_once ms) (21 * p.x) (10 * y) (name_svg p.mark)) ps) (columns_dots p.x y (columns_of shapes p.mark))
    (flat_map (λ p. columns_dots p.x y (columns_of shapes p.mark)) ps) (use-dots shapes ms p y all parts.0) (line-dots shapes ms y ps all parts.1)

-- a test of two lists of marks
all-parts : (test : Mark → Bool) (ps qs : List Mark) → list_all test (ps ++ qs) ≡ true → (list_all test ps ≡ true) × (list_all test qs ≡ true)
all-parts test [] qs all = (refl, all)
all-parts test (p ∷ ps) qs all =
    let parts = and_parts (test p) (list_all test (ps ++ qs)) all in
    let more = all-parts test ps qs parts.1 in
    (and_from (test p) (list_all test ps) parts.0 more.0, more.1)

-- the marks of two lists
marks-append : (ps qs : List Placed) → map (λ p. p.mark) (ps ++ qs) ≡ map (λ p. p.mark) ps ++ map (λ p. p.mark) qs
marks-append [] qs = refl
marks-append (p ∷ ps) qs = ap (λ ms. p.mark ∷ ms) (marks-append ps qs)

-- what the elements of rows draw
rows-dots : (shapes : Shapes) (ms : List Mark) (rs : List Row) → list_all is_of_bytes ms ≡ true
    → list_all (is_known ms) (map (λ p. p.mark) (flat_map (λ r. r.marks) rs)) ≡ true
    → flat_map (λ r. flat_map (λ p. used_discs shapes (each_once ms) (21 * p.x) (10 * r.y) (name_svg p.mark)) r.marks) rs
    ≡ map disc_of (flat_map (row_dots shapes) rs)
rows-dots shapes ms [] all known = refl
rows-dots shapes ms (r ∷ rs) all known =
    let both : list_all (is_known ms) (map (λ p. p.mark) r.marks ++ map (λ p. p.mark) (flat_map (λ r. r.marks) rs)) ≡ true =
    ap (list_all (is_known ms)) (sym (marks-append r.marks (flat_map (λ r. r.marks) rs))) ∙ known in
    let parts = all-parts (is_known ms) (map (λ p. p.mark) r.marks) (map (λ p. p.mark) (flat_map (λ r. r.marks) rs)) both in
    discs-append (flat_map (λ p. used_discs shapes (each_once ms) (21 * p.x) (10 * r.y) (name_svg p.mark)) r.marks)
    (flat_map (λ r. flat_map (λ p. used_discs shapes (each_once ms) (21 * p.x) (10 * r.y) (name_svg p.mark)) r.marks) rs)
    (row_dots shapes r) (flat_map (row_dots shapes) rs) (line-dots shapes ms r.y r.marks all parts.0) (rows-dots shapes ms rs all parts.1)

-- a mark between others is among them
any-between : (test : Mark → Bool) (ps : List Mark) (m : Mark) (qs : List Mark) → test m ≡ true → list_any test (ps ++ m ∷ qs) ≡ true
any-between test [] m qs is = grind (arith, is)
any-between test (p ∷ ps) m qs is = grind (arith, any-between test ps m qs is)

-- each of the marks after others is among them all
each-known : (ps qs : List Mark) → list_all is_of_bytes qs ≡ true → list_all (is_known (ps ++ qs)) qs ≡ true
each-known ps [] all = refl
each-known ps (q ∷ qs) all =
    let parts = and_parts (is_of_bytes q) (list_all is_of_bytes qs) all in
    and_from (is_known (ps ++ q ∷ qs) q) (list_all (is_known (ps ++ q ∷ qs)) qs)
    (and_from (list_any (λ n. number_of n == number_of q) (ps ++ q ∷ qs)) (is_of_bytes q)
    (any-between (λ n. number_of n == number_of q) ps q qs (eq-eqb (number_of q) (number_of q) refl)) parts.0)
    (ap (λ ms. list_all (is_known ms) qs) (sym (append_assoc ps (q ∷ []) qs)) ∙ each-known (ps ++ q ∷ []) qs parts.1)

-- the elements of a paper draw its dots
pub discs-dots : (shapes : Shapes) (before : List Mark) (paper : Paper) (after : List Mark) → list_all is_of_bytes (before ++ (marks_of paper ++ after)) ≡ true
    → paper_discs shapes (each_once (before ++ (marks_of paper ++ after))) paper ≡ map disc_of (dots_of shapes paper)
unfolding dots_of
discs-dots shapes before paper after all =
    let known = each-known [] (before ++ (marks_of paper ++ after)) all in
    let behind = all-parts (is_known (before ++ (marks_of paper ++ after))) before (marks_of paper ++ after) known in
    let own = all-parts (is_known (before ++ (marks_of paper ++ after))) (marks_of paper) after behind.1 in
    let both : list_all (is_known (before ++ (marks_of paper ++ after)))
    (map (λ p. p.mark) (flat_map (λ r. r.marks) paper.rows) ++ map (λ p. p.mark) paper.held) ≡ true =
    ap (list_all (is_known (before ++ (marks_of paper ++ after)))) (sym (marks-append (flat_map (λ r. r.marks) paper.rows) paper.held)) ∙ own.0 in
    let rows = all-parts (is_known (before ++ (marks_of paper ++ after))) (map (λ p. p.mark) (flat_map (λ r. r.marks) paper.rows)) (map (λ p. p.mark) paper.held) both in
    rows-dots shapes (before ++ (marks_of paper ++ after)) paper.rows all rows.0

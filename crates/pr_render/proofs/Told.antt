-- Rows by the text of their elements.
use Rattle.std.proofs.Common.{◌≡◌, ℕ, ◌+◌, ◌*◌, ◌<◌, ◌≤◌, ◌%◌, ◌^◌, Bool, true, false, List, [], ◌∷◌, ◌++◌, refl, sym, subst, ap, ◌∙◌, arith, get_or, decimal, codes}
use Rattle.std.specs.Prelude.{◌≢◌, nat_lt, flat_map, if◌then◌else◌}
use Rattle.std.specs.List.{list_all}
use Rattle.std.proofs.lemmas.Bool.{and_parts}
use Rattle.std.proofs.lemmas.Fmt.{decimal_by_steps, decimal_injective}
use Rattle.std.proofs.lemmas.List.{append_assoc, append_cancel_left}
use Rattle.std.proofs.lemmas.List.Concat.{flat_map-cons}
use Rattle.pr_page.specs.declared.paper.Mark.{Mark}
use Rattle.pr_page.specs.declared.paper.Mark.TheVariants.{Cell, Dots}
use Rattle.pr_page.specs.declared.paper.Placed.{Placed}
use Rattle.pr_page.specs.declared.paper.Row.{Row}
use Rattle.pr_render.specs.Laws.{is_drawn, is_of_bytes, is_row}
use Rattle.pr_render.specs.Parts.{row_begin, use_begin, use_end, use_place}
use Rattle.pr_render.specs.Svg.{Strip, characters_svg, joins, lengthened, line_svg, name_svg, no_strip, row_svg, shows, strip_of, strip_svg, strips_svg, use_svg}
use Rattle.pr_render.specs.Words.{either_text, text_if}
use Rattle.pr_render.proofs.Names.{byte-small, names-tell}

-- a list's first item, and what follows it
pub first-is : {a b : ℕ} {xs bs : List ℕ} → a ∷ xs ≡ b ∷ bs → a ≡ b
first-is is = cc

pub rest-is : {a b : ℕ} {xs bs : List ℕ} → a ∷ xs ≡ b ∷ bs → xs ≡ bs
rest-is is = cc

-- a text without a byte
abbrev pub Free : (q : ℕ) → List ℕ → Type 0
Free q [] = Unit {0}
Free q (x ∷ xs) = (x ≢ q) × Free q xs

-- a text up to a byte that it does not have
pub cut-at : (q : ℕ) (xs ys r s : List ℕ) → Free q xs → Free q ys → xs ++ (q ∷ r) ≡ ys ++ (q ∷ s) → (xs ≡ ys) × (r ≡ s)
cut-at q [] [] r s f g is = (refl, rest-is is)
cut-at q [] (y ∷ ys) r s f g is = absurd (g.0 (sym (first-is is)))
cut-at q (x ∷ xs) [] r s f g is = absurd (f.0 (first-is is))
cut-at q (x ∷ xs) (y ∷ ys) r s f g is =
    let more = cut-at q xs ys r s f.1 g.1 (rest-is is) in (rw (first-is is, more.0) refl, more.1)

free-append : (q : ℕ) (xs ys : List ℕ) → Free q xs → Free q ys → Free q (xs ++ ys)
free-append q [] ys f g = g
free-append q (x ∷ xs) ys f g = (f.0, free-append q xs ys f.1 g)

-- a number has no sign below its digits
free-decimal : (q : ℕ) → q < 48 → (n : ℕ) → n < 2 ^ 64 → Free q (decimal n)
free-decimal q low = decimal_by_steps (λ n ds. Free q ds) one more
  where
    one : (n : ℕ) → n < 10 → Free q ((48 + n) ∷ [])
    one n small = (λ e. omega arith, tt)

    more : (n : ℕ) (ds : List ℕ) → 10 ≤ n → Free q ds → Free q (ds ++ ((48 + n % 10) ∷ []))
    more n ds large f = free-append q ds ((48 + n % 10) ∷ []) f (λ e. omega arith, tt)

-- a name has no quotation mark
free-flags : (l r w : Bool) → Free 34 ((either_text l (codes "l") (codes "u") ++ text_if r (codes "r")) ++ text_if w (codes "w"))
free-flags true true true = (λ e. omega arith, (λ e. omega arith, (λ e. omega arith, tt)))
free-flags true true false = (λ e. omega arith, (λ e. omega arith, tt))
free-flags true false true = (λ e. omega arith, (λ e. omega arith, tt))
free-flags true false false = (λ e. omega arith, tt)
free-flags false true true = (λ e. omega arith, (λ e. omega arith, (λ e. omega arith, tt)))
free-flags false true false = (λ e. omega arith, (λ e. omega arith, tt))
free-flags false false true = (λ e. omega arith, (λ e. omega arith, tt))
free-flags false false false = (λ e. omega arith, tt)

free-name : (m : Mark) → is_of_bytes m ≡ true → Free 34 (name_svg m)
unfolding name_svg
free-name (Cell code l r w) small =
    free-append 34 ((either_text l (codes "l") (codes "u") ++ text_if r (codes "r")) ++ text_if w (codes "w")) (decimal code) (free-flags l r w)
    (free-decimal 34 (omega arith) code (byte-small code small))
free-name (Dots value) small = (λ e. omega arith, free-decimal 34 (omega arith) value (byte-small value small))

-- five texts before another one
pub regroup : (v w x y z more : List ℕ) → ((((v ++ w) ++ x) ++ y) ++ z) ++ more ≡ v ++ (w ++ (x ++ (y ++ (z ++ more))))
regroup v w x y z more =
    append_assoc (((v ++ w) ++ x) ++ y) z more ∙ (append_assoc ((v ++ w) ++ x) y (z ++ more)
    ∙ (append_assoc (v ++ w) x (y ++ (z ++ more)) ∙ append_assoc v w (x ++ (y ++ (z ++ more)))))

-- a mark's element, and what follows it
abbrev placed-at : ℕ → Mark → Placed
placed-at x mark = record { x = x; mark = mark }

placed-is : (p q : Placed) → p.x ≡ q.x → p.mark ≡ q.mark → p ≡ q
placed-is p q e f = ap (λ x. placed-at x p.mark) e ∙ ap (λ mark. placed-at q.x mark) f

-- a place is small
place-small : (x : ℕ) → nat_lt x 480 ≡ true → 21 * x < 2 ^ 64
place-small x is = grind (arith, is)

places-tell : (x y : ℕ) → nat_lt x 480 ≡ true → nat_lt y 480 ≡ true → decimal (21 * x) ≡ decimal (21 * y) → x ≡ y
places-tell x y small other is =
    let e : 21 * x ≡ 21 * y = decimal_injective (21 * x) (21 * y) (place-small x small) (place-small y other) is in omega arith

-- what a use is without its beginning
use-cut : (p q : Placed) (a b : List ℕ) → is_drawn p ≡ true → is_drawn q ≡ true
    → name_svg p.mark ++ (use_place ++ (decimal (21 * p.x) ++ (use_end ++ a))) ≡ name_svg q.mark ++ (use_place ++ (decimal (21 * q.x) ++ (use_end ++ b)))
    → (p ≡ q) × (a ≡ b)
unfolding use_place use_end
use-cut p q a b f g is =
    let pf = and_parts (is_of_bytes p.mark) (nat_lt p.x 480) f in
    let qf = and_parts (is_of_bytes q.mark) (nat_lt q.x 480) g in
    let named = cut-at 34 (name_svg p.mark) (name_svg q.mark) (codes " x=\"" ++ (decimal (21 * p.x) ++ (codes "\"/>\n" ++ a))) (codes " x=\"" ++ (decimal (21 * q.x) ++ (codes "\"/>\n" ++ b)))
    (free-name p.mark pf.0) (free-name q.mark qf.0) is in
    let after = append_cancel_left (codes " x=\"") (decimal (21 * p.x) ++ (codes "\"/>\n" ++ a)) (decimal (21 * q.x) ++ (codes "\"/>\n" ++ b)) named.1 in
    let placed = cut-at 34 (decimal (21 * p.x)) (decimal (21 * q.x)) (codes "/>\n" ++ a) (codes "/>\n" ++ b)
    (free-decimal 34 (omega arith) (21 * p.x) (place-small p.x pf.1)) (free-decimal 34 (omega arith) (21 * q.x) (place-small q.x qf.1)) after in
    (placed-is p q (places-tell p.x q.x pf.1 qf.1 placed.0) (names-tell p.mark q.mark pf.0 qf.0 named.0), append_cancel_left (codes "/>\n") a b placed.1)

use-split : (p q : Placed) (a b : List ℕ) → is_drawn p ≡ true → is_drawn q ≡ true → use_svg p ++ a ≡ use_svg q ++ b → (p ≡ q) × (a ≡ b)
unfolding use_svg
use-split p q a b f g is =
    use-cut p q a b f g (append_cancel_left use_begin _ _ (sym (regroup use_begin (name_svg p.mark) use_place (decimal (21 * p.x)) use_end a)
    ∙ (is ∙ regroup use_begin (name_svg q.mark) use_place (decimal (21 * q.x)) use_end b)))

-- a text that does not begin with the element of a mark
abbrev NotUse : List ℕ → Type 0
NotUse e = get_or e 1 0 < 117

use-no : (q : Placed) (a b : List ℕ) → NotUse a → a ≡ use_svg q ++ b → ⊥
unfolding use_svg use_begin
use-no q a b far is = by (ap (λ e. get_or e 1 0) is)
  where
    by : get_or a 1 0 ≡ 117 → ⊥
    by e = omega arith

-- the elements of marks, and what follows them
marks-split : (ps qs : List Placed) (a b : List ℕ) → list_all is_drawn ps ≡ true → list_all is_drawn qs ≡ true → NotUse a → NotUse b
    → flat_map use_svg ps ++ a ≡ flat_map use_svg qs ++ b → (ps ≡ qs) × (a ≡ b)
marks-split [] [] a b f g far near is = (refl, is)
marks-split [] (q ∷ qs) a b f g far near is =
    absurd (use-no q a (flat_map use_svg qs ++ b) far (is ∙ (ap (λ e. e ++ b) (flat_map-cons use_svg q qs) ∙ append_assoc (use_svg q) (flat_map use_svg qs) b)))
marks-split (p ∷ ps) [] a b f g far near is =
    absurd (use-no p b (flat_map use_svg ps ++ a) near (sym is ∙ (ap (λ e. e ++ a) (flat_map-cons use_svg p ps) ∙ append_assoc (use_svg p) (flat_map use_svg ps) a)))
marks-split (p ∷ ps) (q ∷ qs) a b f g far near is =
    let pf = and_parts (is_drawn p) (list_all is_drawn ps) f in
    let qf = and_parts (is_drawn q) (list_all is_drawn qs) g in
    let first = use-split p q (flat_map use_svg ps ++ a) (flat_map use_svg qs ++ b) pf.0 qf.0
    (sym (ap (λ e. e ++ a) (flat_map-cons use_svg p ps) ∙ append_assoc (use_svg p) (flat_map use_svg ps) a)
    ∙ (is ∙ (ap (λ e. e ++ b) (flat_map-cons use_svg q qs) ∙ append_assoc (use_svg q) (flat_map use_svg qs) b))) in
    let more = marks-split ps qs a b pf.1 qf.1 far near first.1 in
    (rw (first.0, more.0) refl, more.1)

-- letters do not begin so
strip-no : (s : Strip) (e : List ℕ) → NotUse e → NotUse (strip_svg s ++ e)
unfolding characters_svg
strip-no s e far = by (shows s.characters)
  where
    by : (b : Bool) → NotUse (text_if b (characters_svg s) ++ e)
    by true = omega arith
    by false = far

strips-no : (s : Strip) (ps : List Placed) (e : List ℕ) → NotUse e → NotUse (strips_svg s ps ++ e)
strips-no s [] e far = strip-no s e far
strips-no s (p ∷ ps) e far =
    by (joins (strip_of p.x p.mark) s) (strips-no (lengthened s (strip_of p.x p.mark)) ps e far) (strips-no (strip_of p.x p.mark) ps e far)
  where
    by : (b : Bool) → NotUse (strips_svg (lengthened s (strip_of p.x p.mark)) ps ++ e) → NotUse (strips_svg (strip_of p.x p.mark) ps ++ e)
        → NotUse ((if b then strips_svg (lengthened s (strip_of p.x p.mark)) ps else strip_svg s ++ strips_svg (strip_of p.x p.mark) ps) ++ e)
    by true longer next = longer
    by false longer next = subst NotUse (sym (append_assoc (strip_svg s) (strips_svg (strip_of p.x p.mark) ps) e))
        (strip-no s (strips_svg (strip_of p.x p.mark) ps ++ e) next)

-- a row, and what follows it
abbrev row-at : ℕ → List Placed → Row
row-at y marks = record { y = y; marks = marks }

row-is : (r s : Row) → r.y ≡ s.y → r.marks ≡ s.marks → r ≡ s
row-is r s e f = ap (λ y. row-at y r.marks) e ∙ ap (λ marks. row-at s.y marks) f

distance-small : (y : ℕ) → nat_lt y (2 ^ 60) ≡ true → 10 * y < 2 ^ 64
distance-small y is = grind (arith, is)

distances-tell : (x y : ℕ) → nat_lt x (2 ^ 60) ≡ true → nat_lt y (2 ^ 60) ≡ true → decimal (10 * x) ≡ decimal (10 * y) → x ≡ y
distances-tell x y small other is =
    let e : 10 * x ≡ 10 * y = decimal_injective (10 * x) (10 * y) (distance-small x small) (distance-small y other) is in omega arith

pub line-split : (ps qs : List Placed) (a b : List ℕ) → list_all is_drawn ps ≡ true → list_all is_drawn qs ≡ true
    → line_svg ps ++ (codes "</g>\n" ++ a) ≡ line_svg qs ++ (codes "</g>\n" ++ b) → (ps ≡ qs) × (a ≡ b)
unfolding line_svg
line-split ps qs a b f g is =
    let end : (e : List ℕ) → NotUse (codes "</g>\n" ++ e) = λ e. omega arith in
    let told = marks-split ps qs (strips_svg no_strip ps ++ (codes "</g>\n" ++ a)) (strips_svg no_strip qs ++ (codes "</g>\n" ++ b)) f g
    (strips-no no_strip ps (codes "</g>\n" ++ a) (end a)) (strips-no no_strip qs (codes "</g>\n" ++ b) (end b))
    (sym (append_assoc (flat_map use_svg ps) (strips_svg no_strip ps) (codes "</g>\n" ++ a))
    ∙ (is ∙ append_assoc (flat_map use_svg qs) (strips_svg no_strip qs) (codes "</g>\n" ++ b))) in
    let letters = told.1 ∙ ap (λ ms. strips_svg no_strip ms ++ (codes "</g>\n" ++ b)) (sym told.0) in
    (told.0, append_cancel_left (codes "</g>\n") a b (append_cancel_left (strips_svg no_strip ps) (codes "</g>\n" ++ a) (codes "</g>\n" ++ b) letters))

pub row-split : (r s : Row) (a b : List ℕ) → is_row r ≡ true → is_row s ≡ true → row_svg r ++ a ≡ row_svg s ++ b → (r ≡ s) × (a ≡ b)
unfolding row_svg
row-split r s a b f g is =
    let rf = and_parts (nat_lt r.y (2 ^ 60)) (list_all is_drawn r.marks) f in
    let sf = and_parts (nat_lt s.y (2 ^ 60)) (list_all is_drawn s.marks) g in
    let whole = append_cancel_left row_begin _ _ (sym (regroup row_begin (decimal (10 * r.y)) (codes ")\">\n") (line_svg r.marks) (codes "</g>\n") a)
    ∙ (is ∙ regroup row_begin (decimal (10 * s.y)) (codes ")\">\n") (line_svg s.marks) (codes "</g>\n") b)) in
    let placed = cut-at 41 (decimal (10 * r.y)) (decimal (10 * s.y)) (codes "\">\n" ++ (line_svg r.marks ++ (codes "</g>\n" ++ a))) (codes "\">\n" ++ (line_svg s.marks ++ (codes "</g>\n" ++ b)))
    (free-decimal 41 (omega arith) (10 * r.y) (distance-small r.y rf.0)) (free-decimal 41 (omega arith) (10 * s.y) (distance-small s.y sf.0)) whole in
    let told = line-split r.marks s.marks a b rf.1 sf.1
    (append_cancel_left (codes "\">\n") (line_svg r.marks ++ (codes "</g>\n" ++ a)) (line_svg s.marks ++ (codes "</g>\n" ++ b)) placed.1) in
    (row-is r s (distances-tell r.y s.y rf.0 sf.0 placed.0) told.0, told.1)

row-some : (s : Row) (b : List ℕ) → [] ≡ row_svg s ++ b → ⊥
unfolding row_svg row_begin
row-some s b is = absurd (cc is)

-- rows are determined by their elements
pub rows-tell : (these those : List Row) → list_all is_row these ≡ true → list_all is_row those ≡ true → flat_map row_svg these ≡ flat_map row_svg those → these ≡ those
rows-tell [] [] f g is = refl
rows-tell [] (s ∷ ss) f g is = absurd (row-some s (flat_map row_svg ss) (is ∙ flat_map-cons row_svg s ss))
rows-tell (r ∷ rs) [] f g is = absurd (row-some r (flat_map row_svg rs) (sym is ∙ flat_map-cons row_svg r rs))
rows-tell (r ∷ rs) (s ∷ ss) f g is =
    let rf = and_parts (is_row r) (list_all is_row rs) f in
    let sf = and_parts (is_row s) (list_all is_row ss) g in
    let first = row-split r s (flat_map row_svg rs) (flat_map row_svg ss) rf.0 sf.0 (sym (flat_map-cons row_svg r rs) ∙ (is ∙ flat_map-cons row_svg s ss)) in
    rw (first.0, rows-tell rs ss rf.1 sf.1 first.1) refl

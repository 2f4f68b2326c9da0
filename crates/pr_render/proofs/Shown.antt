-- What a line of text shows, and where it is in the text of its paper.
use Rattle.std.proofs.Common.{◌≡◌, ℕ, zero, suc, ◌+◌, ◌-◌, ◌<◌, ◌≤◌, ◌/◌, Bool, true, false, cond, List, [], ◌∷◌, ◌++◌, length, refl, sym, ap, ◌∙◌, arith, append_assoc}
use Rattle.std.specs.Prelude.{◌==◌, ◌&&◌, ◌||◌, not, codes, map, replicate, slice_index_or}
use Rattle.std.specs.List.{list_all}
use Rattle.std.proofs.lemmas.Bool.{and_parts, eqb-true, not-true}
use Rattle.std.proofs.lemmas.Grind.{common_steps}
use Rattle.pr_base.specs.Lines.{onto_first}
use Rattle.pr_page.specs.declared.paper.Placed.{Placed}
use Rattle.pr_page.specs.declared.paper.Row.{Row}
use Rattle.pr_page.specs.declared.paper.Mark.{Mark}
use Rattle.pr_page.specs.declared.paper.Mark.TheVariants.{Cell, Dots}
use Rattle.pr_dots.specs.Codes.{place_of, printed_as}
use Rattle.pr_render.specs.Characters.{character, lower_characters, upper_characters}
use Rattle.pr_render.specs.Laws.{Shows, lines_before, none_reaches, reaches, sign_lines}
use Rattle.pr_render.specs.Plain.{Column, Sign, beside, empty_column, empty_lines, held_heading, held_text, is_bare, line_text, paint_cell, paint_mark, painted, put, rows_text, seen_in, shade_of, showing, shown, sign_of, trimmed, turned, written}
use Rattle.pr_render.specs.Words.{is_blank}
use Rattle.pr_render.specs.declared.format.Look.{Look}
use Rattle.pr_render.specs.declared.format.Look.TheVariants.{Blocks, Video}
use Rattle.pr_render.proofs.Signs.{end-written, line-written, stays-off}

-- the sign of a blank
abbrev bare : Sign
bare = sign_of 32

abbrev sign-at : ℕ → Bool → Sign
sign-at u v = record { code_point = u; video = v }

-- a sign of which nothing is seen is that of a blank
bare-is : (s : Sign) → is_bare s ≡ true → s ≡ bare
bare-is s h =
    let parts = and_parts (not s.video) (s.code_point == 32) h in
    ap (λ u. sign-at u s.video) (eqb-true s.code_point 32 parts.1) ∙ ap (λ v. sign-at 32 v) (not-true s.video parts.0)

-- blanks in front of more
blank-front : (n j : ℕ) (more : List Sign) → j < n → slice_index_or (replicate n bare ++ more) j bare ≡ bare
blank-front zero j more h = absurd (omega arith)
blank-front (suc n) zero more h = refl
blank-front (suc n) (suc j) more h = blank-front n j more (omega (arith, h))

-- the columns before these are blanks
trimmed-front : (blanks : ℕ) (cs : List Column) (j : ℕ) → j < blanks → slice_index_or (trimmed blanks cs) j bare ≡ bare
trimmed-front blanks [] j h = refl
trimmed-front blanks (c ∷ cs) j h =
    by (is_bare (seen_in c)) (trimmed-front (blanks + 1) cs j (omega (arith, h))) (blank-front blanks j (seen_in c ∷ trimmed 0 cs) h)
  where
    by : (b : Bool) → slice_index_or (trimmed (blanks + 1) cs) j bare ≡ bare
        → slice_index_or (replicate blanks bare ++ seen_in c ∷ trimmed 0 cs) j bare ≡ bare
        → slice_index_or (cond b (trimmed (blanks + 1) cs) (replicate blanks bare ++ seen_in c ∷ trimmed 0 cs)) j bare ≡ bare
    by true more none = more
    by false more none = none

-- past blanks
blank-past : (n j : ℕ) (more : List Sign) → slice_index_or (replicate n bare ++ more) (n + j) bare ≡ slice_index_or more j bare
blank-past zero j more = let e : 0 + j ≡ j = omega arith in ap (λ i. slice_index_or more i bare) e
blank-past (suc n) j more =
    let e : suc n + j ≡ suc (n + j) = omega arith in ap (λ i. slice_index_or (bare ∷ (replicate n bare ++ more)) i bare) e ∙ blank-past n j more

-- each column is among them at its place, or a blank past their end
trimmed-at : (blanks : ℕ) (cs : List Column) (k : ℕ) → slice_index_or (trimmed blanks cs) (blanks + k) bare ≡ seen_in (slice_index_or cs k empty_column)
trimmed-at blanks [] k = refl
trimmed-at blanks (c ∷ cs) zero = by (is_bare (seen_in c)) refl
  where
    by : (b : Bool) → is_bare (seen_in c) ≡ b
        → slice_index_or (cond b (trimmed (blanks + 1) cs) (replicate blanks bare ++ seen_in c ∷ trimmed 0 cs)) (blanks + 0) bare ≡ seen_in c
    by true e = trimmed-front (blanks + 1) cs (blanks + 0) (omega arith) ∙ sym (bare-is (seen_in c) e)
    by false e = blank-past blanks 0 (seen_in c ∷ trimmed 0 cs)
trimmed-at blanks (c ∷ cs) (suc k) = by (is_bare (seen_in c)) (trimmed-at (blanks + 1) cs k) (trimmed-at 0 cs k)
  where
    by : (b : Bool) → slice_index_or (trimmed (blanks + 1) cs) (blanks + 1 + k) bare ≡ seen_in (slice_index_or cs k empty_column)
        → slice_index_or (trimmed 0 cs) (0 + k) bare ≡ seen_in (slice_index_or cs k empty_column)
        → slice_index_or (cond b (trimmed (blanks + 1) cs) (replicate blanks bare ++ seen_in c ∷ trimmed 0 cs)) (blanks + suc k) bare
        ≡ seen_in (slice_index_or cs k empty_column)
    by true more none =
        let e : blanks + suc k ≡ blanks + 1 + k = omega arith in ap (λ i. slice_index_or (trimmed (blanks + 1) cs) i bare) e ∙ more
    by false more none =
        let e : k ≡ 0 + k = omega arith in
        blank-past blanks (suc k) (seen_in c ∷ trimmed 0 cs) ∙ ap (λ i. slice_index_or (trimmed 0 cs) i bare) e ∙ none

-- putting into a column keeps how many there are
put-length : (k : ℕ) (c : Column) (cs : List Column) → length (put k c cs) ≡ length cs
put-length k c cs = grind (arith, common_steps)

-- and the other columns
put-other : (k j : ℕ) (c : Column) (cs : List Column) → (j == k) ≡ false
    → slice_index_or (put k c cs) j empty_column ≡ slice_index_or cs j empty_column
put-other k j c cs other = grind (arith, common_steps, other)

-- the column into which something is put has it
put-same : (k : ℕ) (c : Column) (cs : List Column) → k < length cs → slice_index_or (put k c cs) k empty_column ≡ c
put-same k c cs within = grind (arith, common_steps)

-- past the last column nothing is put
put-past : (k : ℕ) (c : Column) (cs : List Column) → length cs ≤ k → put k c cs ≡ cs
put-past k c cs past = grind (arith, common_steps)

-- a cell keeps how many columns there are
cell-length : (look : Look) (k u : ℕ) (reverse wide : Bool) (cs : List Column) → length (paint_cell look k u reverse wide cs) ≡ length cs
cell-length look k u reverse wide cs = grind (arith, put-length)

-- so does a mark
mark-length : (look : Look) (k : ℕ) (m : Mark) (cs : List Column) → length (paint_mark look k m cs) ≡ length cs
mark-length look k (Cell code lower reverse wide) cs = cell-length look k (character lower code) reverse wide cs
mark-length look k (Dots value) cs = grind (arith, put-length)

-- and marks
marks-length : (look : Look) (cs : List Column) (ps : List Placed) → length (painted look cs ps) ≡ length cs
marks-length look cs [] = refl
marks-length look cs (p ∷ ps) = marks-length look (paint_mark look (p.x / 6) p.mark cs) ps ∙ mark-length look (p.x / 6) p.mark cs

-- a mark that does not reach a column leaves it
mark-other : (look : Look) (j k : ℕ) (m : Mark) (cs : List Column) → not (reaches j k m) ≡ true
    → slice_index_or (paint_mark look k m cs) j empty_column ≡ slice_index_or cs j empty_column
mark-other look j k (Cell code lower reverse true) cs other = grind (arith, put-other, other)
mark-other look j k (Cell code lower reverse false) cs other = grind (arith, put-other, other)
mark-other look j k (Dots value) cs other = grind (arith, put-other, other)

-- nor do marks
marks-other : (look : Look) (j : ℕ) (cs : List Column) (ps : List Placed) → none_reaches j ps ≡ true
    → slice_index_or (painted look cs ps) j empty_column ≡ slice_index_or cs j empty_column
marks-other look j cs [] all = refl
marks-other look j cs (p ∷ ps) all =
    let parts = and_parts (not (reaches j (p.x / 6) p.mark)) (none_reaches j ps) all in
    marks-other look j (paint_mark look (p.x / 6) p.mark cs) ps parts.1 ∙ mark-other look j (p.x / 6) p.mark cs parts.0

-- a cell shows at its column
cell-here : (look : Look) (k u : ℕ) (reverse wide : Bool) (cs : List Column) → (reverse || not (is_blank u)) ≡ true → k < length cs
    → slice_index_or (paint_cell look k u reverse wide cs) k empty_column ≡ showing (shown look reverse u)
cell-here look k u true true cs visible within = grind (arith, put-same, put-length)
cell-here look k u true false cs visible within = grind (arith, put-same, put-length)
cell-here look k u false true cs visible within = grind (arith, put-same, put-length, visible)
cell-here look k u false false cs visible within = grind (arith, put-same, put-length, visible)

-- a wide one at the next column too
wide-next : (look : Look) (k u : ℕ) (reverse : Bool) (cs : List Column) → (reverse || not (is_blank u)) ≡ true → k + 1 < length cs
    → slice_index_or (paint_cell look k u reverse true cs) (k + 1) empty_column ≡ showing (beside look reverse u)
wide-next look k u true cs visible within = grind (arith, put-same, put-other)
wide-next look k u false cs visible within = grind (arith, put-same, put-other, visible)

-- marks in two parts
painted-parts : (look : Look) (cs : List Column) (ps qs : List Placed) → painted look cs (ps ++ qs) ≡ painted look (painted look cs ps) qs
painted-parts look cs [] qs = refl
painted-parts look cs (p ∷ ps) qs = painted-parts look (paint_mark look (p.x / 6) p.mark cs) ps qs

-- The signs of a line.

-- the signs of marks on a line
abbrev signs_of : Look → List Placed → List Sign
signs_of look marks = trimmed 0 (painted look (replicate 80 empty_column) marks)

-- a character that ends no line, and characters and signs of which none does
abbrev goes_on : ℕ → Bool
goes_on u = not (u == 10)

abbrev all_go_on : List ℕ → Bool
all_go_on us = list_all goes_on us

abbrev all_inner : List Sign → Bool
all_inner ss = list_all (λ s. goes_on s.code_point) ss

-- no column shows the end of a line
abbrev AreInner : List Column → Type 0
AreInner cs = (j : ℕ) → goes_on (slice_index_or cs j empty_column).sign.code_point ≡ true

-- one of a list, or a blank past its end
one-of : (us : List ℕ) (k : ℕ) → all_go_on us ≡ true → goes_on (slice_index_or us k 32) ≡ true
one-of [] k all = refl
one-of (u ∷ us) zero all = (and_parts (goes_on u) (all_go_on us) all).0
one-of (u ∷ us) (suc k) all = one-of us k (and_parts (goes_on u) (all_go_on us) all).1

-- no character of a code ends a line
character-inner : (lower : Bool) (code : ℕ) → goes_on (character lower code) ≡ true
unfolding character lower_characters upper_characters
character-inner true code = one-of lower_characters (place_of (printed_as code)) refl
character-inner false code = one-of upper_characters (place_of (printed_as code)) refl

-- nor does the sign of a cell, nor the one beside it
filled-inner : (b : Bool) (u : ℕ) → goes_on u ≡ true → goes_on (cond b 9608 u) ≡ true
filled-inner true u h = refl
filled-inner false u h = h

shown-inner : (look : Look) (reverse : Bool) (u : ℕ) → goes_on u ≡ true → goes_on (shown look reverse u).code_point ≡ true
shown-inner Blocks reverse u h = filled-inner (reverse && is_blank u) u h
shown-inner Video reverse u h = h

beside-inner : (look : Look) (reverse : Bool) (u : ℕ) → goes_on (beside look reverse u).code_point ≡ true
beside-inner Blocks reverse u = shown-inner Blocks (reverse && is_blank u) 32 refl
beside-inner Video reverse u = refl

put-inner : (k : ℕ) (c : Column) (cs : List Column) → goes_on c.sign.code_point ≡ true → AreInner cs → AreInner (put k c cs)
put-inner k c cs h inner = λ j. by j (j == k) refl
  where
    by : (j : ℕ) (b : Bool) → (j == k) ≡ b → goes_on (slice_index_or (put k c cs) j empty_column).sign.code_point ≡ true
    by j false other = rw (put-other k j c cs other) (inner j)
    by j true same = grind (arith, common_steps, put-same k c cs, put-past k c cs, inner j, h, same)

cell-inner : (look : Look) (k u : ℕ) (reverse wide : Bool) (cs : List Column) → goes_on u ≡ true → AreInner cs → AreInner (paint_cell look k u reverse wide cs)
cell-inner look k u reverse wide cs h inner = by (not reverse && is_blank u) wide
  where
    next : AreInner (put (k + 1) (showing (beside look reverse u)) cs)
    next = put-inner (k + 1) (showing (beside look reverse u)) cs (beside-inner look reverse u) inner

    by : (b w : Bool) → AreInner (cond b cs (put k (showing (shown look reverse u)) (cond w (put (k + 1) (showing (beside look reverse u)) cs) cs)))
    by true w = inner
    by false true = put-inner k (showing (shown look reverse u)) (put (k + 1) (showing (beside look reverse u)) cs) (shown-inner look reverse u h) next
    by false false = put-inner k (showing (shown look reverse u)) cs (shown-inner look reverse u h) inner

mark-inner : (look : Look) (k : ℕ) (m : Mark) (cs : List Column) → AreInner cs → AreInner (paint_mark look k m cs)
mark-inner look k (Cell code lower reverse wide) cs inner =
    cell-inner look k (character lower code) reverse wide cs (character-inner lower code) inner
mark-inner look k (Dots value) cs inner = put-inner k _ cs (inner k) inner

marks-inner : (look : Look) (cs : List Column) (ps : List Placed) → AreInner cs → AreInner (painted look cs ps)
marks-inner look cs [] inner = inner
marks-inner look cs (p ∷ ps) inner =
    marks-inner look (paint_mark look (p.x / 6) p.mark cs) ps (mark-inner look (p.x / 6) p.mark cs inner)

empty-inner : (n : ℕ) → AreInner (replicate n empty_column)
empty-inner zero j = refl
empty-inner (suc n) zero = refl
empty-inner (suc n) (suc j) = empty-inner n j

shade-inner : (n : ℕ) → goes_on (shade_of n) ≡ true
shade-inner n = grind (arith, common_steps)

seen-inner : (c : Column) → goes_on c.sign.code_point ≡ true → goes_on (seen_in c).code_point ≡ true
seen-inner c h = by (c.dots == 0)
  where
    by : (b : Bool) → goes_on (cond b c.sign (sign_of (shade_of c.dots))).code_point ≡ true
    by true = h
    by false = shade-inner c.dots

blanks-go-on : (n : ℕ) (us : List Sign) → all_inner us ≡ true → all_inner (replicate n bare ++ us) ≡ true
blanks-go-on zero us h = h
blanks-go-on (suc n) us h = blanks-go-on n us h

both : (a b : Bool) → a ≡ true → b ≡ true → a && b ≡ true
both true true x y = refl
both true false x y = y
both false b x y = x

trimmed-inner : (blanks : ℕ) (cs : List Column) → AreInner cs → all_inner (trimmed blanks cs) ≡ true
trimmed-inner blanks [] inner = refl
trimmed-inner blanks (c ∷ cs) inner =
    by (is_bare (seen_in c)) (trimmed-inner (blanks + 1) cs (λ j. inner (suc j))) (trimmed-inner 0 cs (λ j. inner (suc j)))
  where
    by : (b : Bool) → all_inner (trimmed (blanks + 1) cs) ≡ true → all_inner (trimmed 0 cs) ≡ true
        → all_inner (cond b (trimmed (blanks + 1) cs) (replicate blanks bare ++ seen_in c ∷ trimmed 0 cs)) ≡ true
    by true more none = more
    by false more none =
        blanks-go-on blanks (seen_in c ∷ trimmed 0 cs) (both (goes_on (seen_in c).code_point) (all_inner (trimmed 0 cs)) (seen-inner c (inner 0)) none)

-- no sign of a line ends it
signs-inner : (look : Look) (marks : List Placed) → all_inner (signs_of look marks) ≡ true
signs-inner look marks =
    trimmed-inner 0 (painted look (replicate 80 empty_column) marks) (marks-inner look (replicate 80 empty_column) marks (empty-inner 80))

-- the first line of signs
first-line : (us more : List Sign) → all_inner us ≡ true → sign_lines (us ++ sign_of 10 ∷ more) ≡ us ∷ sign_lines more
first-line [] more all = refl
first-line (u ∷ us) more all =
    let parts = and_parts (goes_on u.code_point) (all_inner us) all in
    rw (not-true (u.code_point == 10) parts.0) (ap (onto_first u) (first-line us more parts.1))

-- The lines of rows.

-- this many ends of lines, and then more
abbrev ended : ℕ → List Sign → List Sign
ended zero more = more
ended (suc n) more = sign_of 10 ∷ ended n more

-- the signs of rows
abbrev rows_signs : Look → ℕ → List Row → List Sign
rows_signs look empty [] = []
rows_signs look empty (r ∷ rs) = ended ((r.y - empty) / 21) (signs_of look r.marks ++ sign_of 10 ∷ rows_signs look (r.y + 21) rs)

-- empty lines in front of a text
lines-written : (look : Look) (n : ℕ) (more : List Sign) → empty_lines n ++ written look false more ≡ written look false (ended n more)
lines-written look zero more = refl
lines-written look (suc n) more =
    append_assoc (empty_lines n) (codes "\n") (written look false more)
    ∙ (ap (λ t. empty_lines n ++ t) (sym (end-written look more))
    ∙ (lines-written look n (sign_of 10 ∷ more) ∙ ap (λ l. written look false l) (later n more)))
  where
    later : (n : ℕ) (more : List Sign) → ended n (sign_of 10 ∷ more) ≡ sign_of 10 ∷ ended n more
    later zero more = refl
    later (suc n) more = ap (λ l. sign_of 10 ∷ l) (later n more)

-- a line, and what follows it
line-and : (look : Look) (marks : List Placed) (more : List Sign)
    → line_text look marks ++ written look false more ≡ written look false (signs_of look marks ++ sign_of 10 ∷ more)
unfolding line_text
line-and look marks more =
    append_assoc (written look false (signs_of look marks)) (codes "\n") (written look false more)
    ∙ sym (line-written look false (signs_of look marks) more)

rows-written : (look : Look) (empty : ℕ) (rs : List Row) → rows_text look empty rs ≡ written look false (rows_signs look empty rs)
rows-written look empty [] = sym (stays-off look)
rows-written look empty (r ∷ rs) =
    let n = (r.y - empty) / 21 in
    let us = signs_of look r.marks in
    let more = rows_signs look (r.y + 21) rs in
    let line : line_text look r.marks ++ rows_text look (r.y + 21) rs ≡ written look false (us ++ sign_of 10 ∷ more)
    = ap (λ l. line_text look r.marks ++ l) (rows-written look (r.y + 21) rs) ∙ line-and look r.marks more in
    append_assoc (empty_lines n) (line_text look r.marks) (rows_text look (r.y + 21) rs)
    ∙ (ap (λ l. empty_lines n ++ l) line ∙ lines-written look n (us ++ sign_of 10 ∷ more))

-- a line after empty ones
later-line : (n j : ℕ) (more : List Sign) → slice_index_or (sign_lines (ended n more)) (n + j) [] ≡ slice_index_or (sign_lines more) j []
later-line zero j more = let e : 0 + j ≡ j = omega arith in ap (λ i. slice_index_or (sign_lines more) i []) e
later-line (suc n) j more =
    let e : suc n + j ≡ suc (n + j) = omega arith in ap (λ i. slice_index_or ([] ∷ sign_lines (ended n more)) i []) e ∙ later-line n j more

-- the line of a row has its signs
row-line : (look : Look) (empty : ℕ) (above : List Row) (y : ℕ) (marks : List Placed) (below : List Row)
    → slice_index_or (sign_lines (rows_signs look empty (above ++ record { y = y; marks = marks } ∷ below))) (lines_before empty above y) [] ≡ signs_of look marks
row-line look empty [] y marks below =
    let more = rows_signs look (y + 21) below in
    let past = later-line ((y - empty) / 21) 0 (signs_of look marks ++ sign_of 10 ∷ more) in
    let first = first-line (signs_of look marks) more (signs-inner look marks) in
    let e : (y - empty) / 21 ≡ (y - empty) / 21 + 0 = omega arith in
    ap (λ i. slice_index_or (sign_lines (ended ((y - empty) / 21) (signs_of look marks ++ sign_of 10 ∷ more))) i []) e
    ∙ (past ∙ ap (λ l. slice_index_or l 0 []) first)
row-line look empty (r ∷ rs) y marks below =
    let n = (r.y - empty) / 21 in
    let j = lines_before (r.y + 21) rs y in
    let more = rows_signs look (r.y + 21) (rs ++ record { y = y; marks = marks } ∷ below) in
    let e : 1 + j ≡ suc j = omega arith in
    later-line n (1 + j) (signs_of look r.marks ++ sign_of 10 ∷ more)
    ∙ (ap (λ l. slice_index_or l (1 + j) []) (first-line (signs_of look r.marks) more (signs-inner look r.marks))
    ∙ (ap (λ i. slice_index_or (signs_of look r.marks ∷ sign_lines more) i []) e ∙ row-line look (r.y + 21) rs y marks below))

-- What marks show.

-- the heading of the marks held is a line
abbrev heading : List Sign
heading = map sign_of (codes "Held, not yet printed:")

heading-inner : all_inner heading ≡ true
heading-inner = refl

heading-written : (look : Look) (more : List Sign) → held_heading ++ written look false more ≡ written look false (heading ++ sign_of 10 ∷ more)
unfolding held_heading turned lib.Utf8.encode
heading-written Blocks more = refl
heading-written Video more = refl

-- a line alone
line-alone : (look : Look) (marks : List Placed) → line_text look marks ≡ written look false (signs_of look marks ++ sign_of 10 ∷ [])
unfolding line_text
line-alone look marks =
    ap (λ t. written look false (signs_of look marks) ++ (10 ∷ t)) (sym (stays-off look)) ∙ sym (line-written look false (signs_of look marks) [])

-- marks of which the line shows a sign at a column show it there
shows-there : (look : Look) (k : ℕ) (sign : Sign) (marks : List Placed) → slice_index_or (signs_of look marks) k bare ≡ sign
    → held_text look marks ≡ held_heading ++ line_text look marks → Shows look k sign marks
shows-there look k sign marks at is_held = record {
  row = λ above y below. record {
    signs = rows_signs look 0 (above ++ record { y = y; marks = marks } ∷ below);
    spells = rows-written look 0 (above ++ record { y = y; marks = marks } ∷ below);
    at = ap (λ l. slice_index_or l k bare) (row-line look 0 above y marks below) ∙ at;
  };
  held = record {
    signs = heading ++ sign_of 10 ∷ (signs_of look marks ++ sign_of 10 ∷ []);
    spells = is_held ∙ (ap (λ l. held_heading ++ l) (line-alone look marks) ∙ heading-written look (signs_of look marks ++ sign_of 10 ∷ []));
    at =
        ap (λ l. slice_index_or (slice_index_or l 1 []) k bare) (first-line heading (signs_of look marks ++ sign_of 10 ∷ []) heading-inner)
        ∙ (ap (λ l. slice_index_or (slice_index_or l 0 []) k bare) (first-line (signs_of look marks) [] (signs-inner look marks)) ∙ at);
  };
}

-- a list with an element is held under the heading
is-held : (look : Look) (before : List Placed) (p : Placed) (after : List Placed)
    → held_text look (before ++ p ∷ after) ≡ held_heading ++ line_text look (before ++ p ∷ after)
is-held look [] p after = refl
is-held look (q ∷ qs) p after = refl

-- a column of a line into which a mark puts a sign, which no later mark reaches
shows-put : (look : Look) (k : ℕ) (sign : Sign) (before : List Placed) (p : Placed) (after : List Placed) → none_reaches k after ≡ true
    → slice_index_or (paint_mark look (p.x / 6) p.mark (painted look (replicate 80 empty_column) before)) k empty_column ≡ showing sign
    → Shows look k sign (before ++ p ∷ after)
shows-put look k sign before p after others here =
    let cs = painted look (replicate 80 empty_column) before in
    let all = painted-parts look (replicate 80 empty_column) before (p ∷ after) in
    let column = ap (λ l. slice_index_or l k empty_column) all ∙ (marks-other look k (paint_mark look (p.x / 6) p.mark cs) after others ∙ here) in
    let place : k ≡ 0 + k = omega arith in
    let line = painted look (replicate 80 empty_column) (before ++ p ∷ after) in
    let at = ap (λ i. slice_index_or (trimmed 0 line) i bare) place ∙ (trimmed-at 0 line k ∙ ap seen_in column) in
    shows-there look k sign (before ++ p ∷ after) at (is-held look before p after)

-- there are 80 columns
eighty : (look : Look) (before : List Placed) (k : ℕ) → k < 80 → k < length (painted look (replicate 80 empty_column) before)
eighty look before k within = grind (arith, common_steps, within, marks-length look (replicate 80 empty_column) before)

-- a cell shows in its line
pub cell-shown : (look : Look) (before : List Placed) (x code : ℕ) (lower reverse wide : Bool) (after : List Placed)
    → (reverse || not (is_blank (character lower code))) ≡ true → x / 6 < 80 → none_reaches (x / 6) after ≡ true
    → Shows look (x / 6) (shown look reverse (character lower code)) (before ++ record { x = x; mark = Cell code lower reverse wide } ∷ after)
cell-shown look before x code lower reverse wide after visible within others =
    shows-put look (x / 6) (shown look reverse (character lower code)) before (record { x = x; mark = Cell code lower reverse wide }) after others
    (cell-here look (x / 6) (character lower code) reverse wide (painted look (replicate 80 empty_column) before) visible (eighty look before (x / 6) within))

-- and a wide one at the next column
pub wide-shown : (look : Look) (before : List Placed) (x code : ℕ) (lower reverse : Bool) (after : List Placed)
    → (reverse || not (is_blank (character lower code))) ≡ true → x / 6 + 1 < 80 → none_reaches (x / 6 + 1) after ≡ true
    → Shows look (x / 6 + 1) (beside look reverse (character lower code)) (before ++ record { x = x; mark = Cell code lower reverse true } ∷ after)
wide-shown look before x code lower reverse after visible within others =
    shows-put look (x / 6 + 1) (beside look reverse (character lower code)) before (record { x = x; mark = Cell code lower reverse true }) after others
    (wide-next look (x / 6) (character lower code) reverse (painted look (replicate 80 empty_column) before) visible (eighty look before (x / 6 + 1) within))

-- Papers by the whole document.
use Rattle.std.proofs.Common.{◌≡◌, ℕ, ◌+◌, ◌-◌, ◌*◌, ◌<◌, Bool, true, false, List, [], ◌∷◌, ◌++◌, refl, sym, ap, ◌∙◌, arith, get_or, decimal, codes}
use Rattle.std.specs.Prelude.{◌≢◌, flat_map}
use Rattle.std.specs.List.{list_all}
use Rattle.std.proofs.lemmas.Bool.{and_parts}
use Rattle.std.proofs.lemmas.List.{append_assoc, append_cancel_left}
use Rattle.std.proofs.lemmas.List.Concat.{flat_map-cons}
use Rattle.pr_page.specs.declared.paper.Mark.{Mark}
use Rattle.pr_page.specs.declared.paper.Mark.TheVariants.{Cell, Dots}
use Rattle.pr_page.specs.declared.paper.Paper.{Paper}
use Rattle.pr_page.specs.declared.paper.Placed.{Placed}
use Rattle.pr_page.specs.declared.paper.Row.{Row}
use Rattle.pr_dots.specs.declared.character_sets.Shapes.{Shapes}
use Rattle.pr_dots.specs.Sheets.{rows_on}
use Rattle.pr_render.specs.Laws.{SheetsTellRows, is_drawn, is_paper, is_row}
use Rattle.pr_render.specs.Parts.{definitions_begin, definitions_end, document_about, held_begin, ink_begin, mark_begin, mark_path, paper_folds, paper_piece, row_begin, sheet_begin, sheet_end, sheet_marks, sheet_name, sheet_paper, single_begin, single_end, single_marks, single_paper, single_size, use_end}
use Rattle.pr_render.specs.SheetSvg.{row_marks, single_head, single_sheet, single_svg, single_top}
use Rattle.pr_render.specs.Svg.{Disc, definition_svg, definitions_svg, disc_svg, each_once, held_line, held_svg, ink_svg, line_svg, mark_discs, marks_place, name_line, name_svg, paper_svg, row_svg, rows_end, sheet_picas, sheet_svg}
use Rattle.pr_render.specs.Words.{either_text, text_if}
use Rattle.pr_render.proofs.Skipped.{after-part, after_line, free-number, in-append, in-flat, in-number, in_line, regroup-four}
use Rattle.pr_render.proofs.Told.{cut-at, line-split, regroup, row-split}

-- rows, and what follows them, which does not begin with a row
abbrev Closes : List ℕ → Type 0
Closes e = get_or e 3 0 < 116

row-no : (s : Row) (a b : List ℕ) → Closes a → a ≡ row_svg s ++ b → ⊥
unfolding row_svg row_begin
row-no s a b far is = by (ap (λ e. get_or e 3 0) is)
  where
    by : get_or a 3 0 ≡ 116 → ⊥
    by e = omega arith

pub rows-split : (rs ss : List Row) (a b : List ℕ) → list_all is_row rs ≡ true → list_all is_row ss ≡ true → Closes a → Closes b
    → flat_map row_svg rs ++ a ≡ flat_map row_svg ss ++ b → (rs ≡ ss) × (a ≡ b)
rows-split [] [] a b f g far near is = (refl, is)
rows-split [] (s ∷ ss) a b f g far near is =
    absurd (row-no s a (flat_map row_svg ss ++ b) far (is ∙ (ap (λ e. e ++ b) (flat_map-cons row_svg s ss) ∙ append_assoc (row_svg s) (flat_map row_svg ss) b)))
rows-split (r ∷ rs) [] a b f g far near is =
    absurd (row-no r b (flat_map row_svg rs ++ a) near (sym is ∙ (ap (λ e. e ++ a) (flat_map-cons row_svg r rs) ∙ append_assoc (row_svg r) (flat_map row_svg rs) a)))
rows-split (r ∷ rs) (s ∷ ss) a b f g far near is =
    let rf = and_parts (is_row r) (list_all is_row rs) f in
    let sf = and_parts (is_row s) (list_all is_row ss) g in
    let first = row-split r s (flat_map row_svg rs ++ a) (flat_map row_svg ss ++ b) rf.0 sf.0
    (sym (ap (λ e. e ++ a) (flat_map-cons row_svg r rs) ∙ append_assoc (row_svg r) (flat_map row_svg rs) a)
    ∙ (is ∙ (ap (λ e. e ++ b) (flat_map-cons row_svg s ss) ∙ append_assoc (row_svg s) (flat_map row_svg ss) b))) in
    let more = rows-split rs ss a b rf.1 sf.1 far near first.1 in
    (rw (first.0, more.0) refl, more.1)

-- held marks, and what follows them
abbrev Ends : List ℕ → Type 0
Ends e = get_or e 3 0 < 111

held-no : (y : ℕ) (q : Placed) (qs : List Placed) (a b : List ℕ) → Ends a → a ≡ held_svg y (q ∷ qs) ++ b → ⊥
unfolding held_svg held_begin
held-no y q qs a b far is = by (ap (λ e. get_or e 3 0) is)
  where
    by : get_or a 3 0 ≡ 111 → ⊥
    by e = omega arith

closes-too : (n : ℕ) → n < 111 → n < 116
closes-too n small = omega arith

pale-closes : 111 < 116
pale-closes = omega arith

held-closes : (y : ℕ) (qs : List Placed) (b : List ℕ) → Ends b → Closes (held_svg y qs ++ b)
unfolding held_svg held_begin
held-closes y [] b far = closes-too (get_or b 3 0) far
held-closes y (q ∷ qs) b far = pale-closes

held-nil : (y : ℕ) (b : List ℕ) → held_svg y [] ++ b ≡ b
unfolding held_svg
held-nil y b = refl

bracket-not : (d : ℕ) → d < 10 → 48 + d ≢ 41
bracket-not d small e = omega arith

held-cut : (y z : ℕ) (p : Placed) (ps : List Placed) (q : Placed) (qs : List Placed) (a b : List ℕ) → list_all is_drawn (p ∷ ps) ≡ true → list_all is_drawn (q ∷ qs) ≡ true
    → held_svg y (p ∷ ps) ++ a ≡ held_svg z (q ∷ qs) ++ b → ((p ∷ ps) ≡ (q ∷ qs)) × (a ≡ b)
unfolding held_svg
held-cut y z p ps q qs a b f g is =
    let whole = append_cancel_left held_begin _ _ (sym (regroup held_begin (decimal (10 * y)) (codes ")\">\n") (line_svg (p ∷ ps)) (codes "</g>\n") a)
    ∙ (is ∙ regroup held_begin (decimal (10 * z)) (codes ")\">\n") (line_svg (q ∷ qs)) (codes "</g>\n") b)) in
    let placed = cut-at 41 (decimal (10 * y)) (decimal (10 * z)) (codes "\">\n" ++ (line_svg (p ∷ ps) ++ (codes "</g>\n" ++ a))) (codes "\">\n" ++ (line_svg (q ∷ qs) ++ (codes "</g>\n" ++ b)))
    (free-number 41 bracket-not (10 * y)) (free-number 41 bracket-not (10 * z)) whole in
    line-split (p ∷ ps) (q ∷ qs) a b f g
    (append_cancel_left (codes "\">\n") (line_svg (p ∷ ps) ++ (codes "</g>\n" ++ a)) (line_svg (q ∷ qs) ++ (codes "</g>\n" ++ b)) placed.1)

held-split : (y z : ℕ) (ps qs : List Placed) (a b : List ℕ) → list_all is_drawn ps ≡ true → list_all is_drawn qs ≡ true → Ends a → Ends b
    → held_svg y ps ++ a ≡ held_svg z qs ++ b → (ps ≡ qs) × (a ≡ b)
held-split y z [] [] a b f g far near is = (refl, sym (held-nil y a) ∙ (is ∙ held-nil z b))
held-split y z [] (q ∷ qs) a b f g far near is = absurd (held-no z q qs a b far (sym (held-nil y a) ∙ is))
held-split y z (p ∷ ps) [] a b f g far near is = absurd (held-no y p ps b a near (sym (held-nil z b) ∙ sym is))
held-split y z (p ∷ ps) (q ∷ qs) a b f g far near is = held-cut y z p ps q qs a b f g is

-- a sheet's place is passed over

name-skip : (d x : ℕ) (r : List ℕ) → after_line (name_line d x ++ r) ≡ codes "<text font-size=\"210\" fill=\"#555\" y=\"-210\">Printer " ++ (decimal d ++ r)
unfolding name_line sheet_begin sheet_name
name-skip d x r =
    ap after_line (regroup-four sheet_begin (decimal (210 * (x + 5))) sheet_name (decimal d) r)
    ∙ after-part (decimal (210 * (x + 5))) (sheet_name ++ (decimal d ++ r)) (in-number (210 * (x + 5)))

-- the paper of a sheet, which begins with a tag's end, is passed over
paper-parts : (t k : ℕ) (r : List ℕ) → paper_svg t k ++ r
    ≡ sheet_paper ++ (decimal (210 * k) ++ (paper_folds ++ (decimal (210 * (k - 6)) ++ (marks_place t ++ r))))
unfolding paper_svg
paper-parts t k r = regroup sheet_paper (decimal (210 * k)) paper_folds (decimal (210 * (k - 6))) (marks_place t) r

place-skip : (t : ℕ) (r : List ℕ) → after_line (after_line (marks_place t ++ r)) ≡ r
unfolding marks_place sheet_marks
place-skip t r =
    ap (λ e. after_line (after_line e)) (append_assoc (sheet_marks ++ decimal (210 * t)) (codes ")\">\n") r ∙ append_assoc sheet_marks (decimal (210 * t)) (codes ")\">\n" ++ r))
    ∙ after-part (decimal (210 * t)) (codes ")\">\n" ++ r) (in-number (210 * t))

paper-skip : (m n t : ℕ) (r : List ℕ)
    → after_line (after_line (after_line (after_line (sheet_paper ++ (decimal m ++ (paper_folds ++ (decimal n ++ (marks_place t ++ r)))))))) ≡ r
unfolding sheet_paper paper_folds
paper-skip m n t r =
    ap (λ e. after_line (after_line e)) (after-part (decimal m) (paper_folds ++ (decimal n ++ (marks_place t ++ r))) (in-number m))
    ∙ ap after_line (after-part (decimal n) (marks_place t ++ r) (in-number n))
    ∙ place-skip t r

tag-not : (d : ℕ) → d < 10 → 48 + d ≢ 60
tag-not d small e = omega arith

number-cut : (d e : ℕ) (a b : List ℕ) → decimal d ++ (sheet_paper ++ a) ≡ decimal e ++ (sheet_paper ++ b) → (decimal d ≡ decimal e) × (sheet_paper ++ a ≡ sheet_paper ++ b)
unfolding sheet_paper
number-cut d e a b is =
    let parts = cut-at 60 (decimal d) (decimal e) (codes "/text>\n<rect width=\"12600\" height=\"" ++ a) (codes "/text>\n<rect width=\"12600\" height=\"" ++ b)
    (free-number 60 tag-not d) (free-number 60 tag-not e) is in
    (parts.0, ap (λ t. 60 ∷ t) parts.1)

-- a printer's number, and what follows its paper
device-cut : (d e m n t k l u : ℕ) (r s : List ℕ)
    → decimal d ++ (sheet_paper ++ (decimal m ++ (paper_folds ++ (decimal n ++ (marks_place t ++ r)))))
    ≡ decimal e ++ (sheet_paper ++ (decimal k ++ (paper_folds ++ (decimal l ++ (marks_place u ++ s)))))
    → (decimal d ≡ decimal e) × (r ≡ s)
device-cut d e m n t k l u r s is =
    let parts = number-cut d e (decimal m ++ (paper_folds ++ (decimal n ++ (marks_place t ++ r)))) (decimal k ++ (paper_folds ++ (decimal l ++ (marks_place u ++ s)))) is in
    (parts.0, sym (paper-skip m n t r) ∙ (ap (λ t. after_line (after_line (after_line (after_line t)))) parts.1 ∙ paper-skip k l u s))

-- the marks of a paper, and what follows them
ink-skip : (p : Paper) (r : List ℕ) → after_line (ink_svg p ++ r)
    ≡ flat_map row_svg p.rows ++ (held_svg (rows_end 0 p.rows + 21) p.held ++ (codes "</g>\n" ++ r))
unfolding ink_svg ink_begin
ink-skip p r =
    ap after_line (regroup-four ink_begin (flat_map row_svg p.rows) (held_svg (rows_end 0 p.rows + 21) p.held) (codes "</g>\n") r)

abbrev paper-at : List Row → List Placed → Paper
paper-at rows held = record { rows = rows; held = held }

marks-split : (p q : Paper) (r s : List ℕ) → is_paper p ≡ true → is_paper q ≡ true → ink_svg p ++ r ≡ ink_svg q ++ s → (p ≡ q) × (r ≡ s)
marks-split p q r s f g is =
    let pf = and_parts (list_all is_row p.rows) (list_all is_drawn p.held) f in
    let qf = and_parts (list_all is_row q.rows) (list_all is_drawn q.held) g in
    let ends : (e : List ℕ) → Ends (codes "</g>\n" ++ e) = λ e. omega arith in
    let rows = rows-split p.rows q.rows (held_svg (rows_end 0 p.rows + 21) p.held ++ (codes "</g>\n" ++ r)) (held_svg (rows_end 0 q.rows + 21) q.held ++ (codes "</g>\n" ++ s)) pf.0 qf.0
    (held-closes (rows_end 0 p.rows + 21) p.held (codes "</g>\n" ++ r) (ends r)) (held-closes (rows_end 0 q.rows + 21) q.held (codes "</g>\n" ++ s) (ends s))
    (sym (ink-skip p r) ∙ (ap after_line is ∙ ink-skip q s)) in
    let held = held-split (rows_end 0 p.rows + 21) (rows_end 0 q.rows + 21) p.held q.held (codes "</g>\n" ++ r) (codes "</g>\n" ++ s) pf.1 qf.1 (ends r) (ends s) rows.1 in
    (ap (λ t. paper-at t p.held) rows.0 ∙ ap (λ t. paper-at q.rows t) held.0, append_cancel_left (codes "</g>\n") r s held.1)

-- a sheet, and what follows it
sheet-parts : (t d x : ℕ) (p : Paper) (a : List ℕ) → sheet_svg t d x p ++ a
    ≡ name_line d x ++ (paper_svg t (sheet_picas t p) ++ (ink_svg p ++ (held_line (rows_end 0 p.rows) p.held ++ (sheet_end ++ a))))
unfolding sheet_svg
sheet-parts t d x p a = regroup (name_line d x) (paper_svg t (sheet_picas t p)) (ink_svg p) (held_line (rows_end 0 p.rows) p.held) sheet_end a

sheet-skip : (t d x : ℕ) (p : Paper) (a : List ℕ) → after_line (sheet_svg t d x p ++ a)
    ≡ codes "<text font-size=\"210\" fill=\"#555\" y=\"-210\">Printer " ++ (decimal d ++ (sheet_paper ++ (decimal (210 * sheet_picas t p) ++ (paper_folds
    ++ (decimal (210 * (sheet_picas t p - 6)) ++ (marks_place t ++ (ink_svg p ++ (held_line (rows_end 0 p.rows) p.held ++ (sheet_end ++ a)))))))))
sheet-skip t d x p a =
    ap after_line (sheet-parts t d x p a)
    ∙ name-skip d x (paper_svg t (sheet_picas t p) ++ (ink_svg p ++ (held_line (rows_end 0 p.rows) p.held ++ (sheet_end ++ a))))
    ∙ ap (λ t. codes "<text font-size=\"210\" fill=\"#555\" y=\"-210\">Printer " ++ (decimal d ++ t))
    (paper-parts t (sheet_picas t p) (ink_svg p ++ (held_line (rows_end 0 p.rows) p.held ++ (sheet_end ++ a))))

pub sheet-split : (t d x : ℕ) (p : Paper) (u e y : ℕ) (q : Paper) (a b : List ℕ) → is_paper p ≡ true → is_paper q ≡ true
    → sheet_svg t d x p ++ a ≡ sheet_svg u e y q ++ b → (decimal d ≡ decimal e) × ((p ≡ q) × (a ≡ b))
sheet-split t d x p u e y q a b f g is =
    let pt = held_line (rows_end 0 p.rows) p.held ++ (sheet_end ++ a) in
    let qt = held_line (rows_end 0 q.rows) q.held ++ (sheet_end ++ b) in
    let named = device-cut d e (210 * sheet_picas t p) (210 * (sheet_picas t p - 6)) t (210 * sheet_picas u q) (210 * (sheet_picas u q - 6)) u
    (ink_svg p ++ pt) (ink_svg q ++ qt)
    (append_cancel_left (codes "<text font-size=\"210\" fill=\"#555\" y=\"-210\">Printer ") _ _ (sym (sheet-skip t d x p a) ∙ (ap after_line is ∙ sheet-skip u e y q b))) in
    let told = marks-split p q pt qt f g named.1 in
    let tails : pt ≡ held_line (rows_end 0 p.rows) p.held ++ (sheet_end ++ b) = told.1 ∙ ap (λ t. held_line (rows_end 0 t.rows) t.held ++ (sheet_end ++ b)) (sym told.0) in
    (named.0, (told.0, append_cancel_left sheet_end a b (append_cancel_left (held_line (rows_end 0 p.rows) p.held) (sheet_end ++ a) (sheet_end ++ b) tails)))

-- definitions are passed over
in-flags : (l r w : Bool) → in_line ((either_text l (codes "l") (codes "u") ++ text_if r (codes "r")) ++ text_if w (codes "w")) ≡ true
in-flags true true true = refl
in-flags true true false = refl
in-flags true false true = refl
in-flags true false false = refl
in-flags false true true = refl
in-flags false true false = refl
in-flags false false true = refl
in-flags false false false = refl

in-name : (m : Mark) → in_line (name_svg m) ≡ true
unfolding name_svg
in-name (Cell code l r w) =
    in-append ((either_text l (codes "l") (codes "u") ++ text_if r (codes "r")) ++ text_if w (codes "w")) (decimal code) (in-flags l r w) (in-number code)
in-name (Dots value) = in-number value

in-disc : (d : Disc) → in_line (disc_svg d) ≡ true
unfolding disc_svg
in-disc d =
    in-append (((codes "M" ++ decimal d.across) ++ codes " ") ++ decimal d.down) (codes "h0")
    (in-append ((codes "M" ++ decimal d.across) ++ codes " ") (decimal d.down)
    (in-append (codes "M" ++ decimal d.across) (codes " ") (in-number d.across) refl) (in-number d.down)) refl

definition-skip : (s : Shapes) (m : Mark) (a : List ℕ) → after_line (definition_svg s m ++ a) ≡ a
unfolding definition_svg mark_begin mark_path use_end
definition-skip s m a =
    ap after_line (regroup mark_begin (name_svg m) mark_path (flat_map disc_svg (mark_discs s m)) use_end a)
    ∙ after-part (name_svg m) (mark_path ++ (flat_map disc_svg (mark_discs s m) ++ (use_end ++ a))) (in-name m)
    ∙ after-part (flat_map disc_svg (mark_discs s m)) (use_end ++ a) (in-flat disc_svg in-disc (mark_discs s m))

apart : (x y : ℕ) → x ≡ 47 → y ≡ 112 → x ≡ y → ⊥
apart x y e f is = omega arith

definition-no : (s : Shapes) (m : Mark) (a b : List ℕ) → definitions_end ++ a ≡ definition_svg s m ++ b → ⊥
unfolding definition_svg definitions_end mark_begin
definition-no s m a b is = apart (get_or (definitions_end ++ a) 1 0) (get_or (definition_svg s m ++ b) 1 0) refl refl (ap (λ e. get_or e 1 0) is)

definitions-split : (s t : Shapes) (ms ns : List Mark) (a b : List ℕ)
    → flat_map (definition_svg s) ms ++ (definitions_end ++ a) ≡ flat_map (definition_svg t) ns ++ (definitions_end ++ b) → a ≡ b
definitions-split s t [] [] a b is = append_cancel_left definitions_end a b is
definitions-split s t [] (n ∷ ns) a b is =
    absurd (definition-no t n a (flat_map (definition_svg t) ns ++ (definitions_end ++ b)) (is ∙ (ap (λ e. e ++ (definitions_end ++ b)) (flat_map-cons (definition_svg t) n ns)
    ∙ append_assoc (definition_svg t n) (flat_map (definition_svg t) ns) (definitions_end ++ b))))
definitions-split s t (m ∷ ms) [] a b is =
    absurd (definition-no s m b (flat_map (definition_svg s) ms ++ (definitions_end ++ a)) (sym is ∙ (ap (λ e. e ++ (definitions_end ++ a)) (flat_map-cons (definition_svg s) m ms)
    ∙ append_assoc (definition_svg s m) (flat_map (definition_svg s) ms) (definitions_end ++ a))))
definitions-split s t (m ∷ ms) (n ∷ ns) a b is =
    definitions-split s t ms ns a b (sym (rest s m ms a) ∙ (ap after_line is ∙ rest t n ns b))
  where
    rest : (s : Shapes) (m : Mark) (ms : List Mark) (a : List ℕ)
        → after_line (flat_map (definition_svg s) (m ∷ ms) ++ (definitions_end ++ a)) ≡ flat_map (definition_svg s) ms ++ (definitions_end ++ a)
    rest s m ms a =
        ap after_line (ap (λ e. e ++ (definitions_end ++ a)) (flat_map-cons (definition_svg s) m ms) ∙ append_assoc (definition_svg s m) (flat_map (definition_svg s) ms) (definitions_end ++ a))
        ∙ definition-skip s m (flat_map (definition_svg s) ms ++ (definitions_end ++ a))

pub all-definitions-split : (s t : Shapes) (ms ns : List Mark) (a b : List ℕ) → definitions_svg s ms ++ a ≡ definitions_svg t ns ++ b → a ≡ b
unfolding definitions_svg
all-definitions-split s t ms ns a b is =
    definitions-split s t (each_once ms) (each_once ns) a b (append_cancel_left definitions_begin _ _ (sym (three s ms a) ∙ (is ∙ three t ns b)))
  where
    three : (s : Shapes) (ms : List Mark) (a : List ℕ) → ((definitions_begin ++ flat_map (definition_svg s) (each_once ms)) ++ definitions_end) ++ a
        ≡ definitions_begin ++ (flat_map (definition_svg s) (each_once ms) ++ (definitions_end ++ a))
    three s ms a = append_assoc (definitions_begin ++ flat_map (definition_svg s) (each_once ms)) definitions_end a
        ∙ append_assoc definitions_begin (flat_map (definition_svg s) (each_once ms)) (definitions_end ++ a)

-- the document of one sheet
single-head-skip : (top : ℕ) (r : List ℕ) → after_line (after_line (after_line (after_line (single_head top ++ r)))) ≡ r
unfolding single_head single_begin single_size document_about paper_piece
single-head-skip top r =
    ap (λ e. after_line (after_line (after_line (after_line e)))) (regroup single_begin (decimal top) single_size document_about paper_piece r)
    ∙ ap (λ e. after_line (after_line (after_line e))) (after-part (decimal top) (single_size ++ (document_about ++ (paper_piece ++ r))) (in-number top))

single-sheet-skip : (top : ℕ) (r : List ℕ) → after_line (after_line (single_sheet top ++ r)) ≡ r
unfolding single_sheet single_paper single_marks
single-sheet-skip top r =
    ap (λ e. after_line (after_line e)) (append_assoc (single_paper ++ decimal top) single_marks r ∙ append_assoc single_paper (decimal top) (single_marks ++ r))
    ∙ ap after_line (after-part (decimal top) (single_marks ++ r) (in-number top))

ink-begin-skip : (r : List ℕ) → after_line (ink_begin ++ r) ≡ r
unfolding ink_begin
ink-begin-skip r = refl

single-parts : (s : Shapes) (top : ℕ) (rows : List Row) → single_svg s top rows
    ≡ single_head top ++ (definitions_svg s (row_marks rows) ++ (single_sheet top ++ (ink_begin ++ (flat_map row_svg rows ++ (sheet_end ++ single_end)))))
unfolding single_svg
single-parts s top rows =
    append_assoc ((((single_head top ++ definitions_svg s (row_marks rows)) ++ single_sheet top) ++ ink_begin) ++ flat_map row_svg rows) sheet_end single_end
    ∙ regroup (single_head top) (definitions_svg s (row_marks rows)) (single_sheet top) ink_begin (flat_map row_svg rows) (sheet_end ++ single_end)

sheet-closes : Closes (sheet_end ++ single_end)
unfolding sheet_end
sheet-closes = omega arith

single-tell : (s t : Shapes) (m n : ℕ) (rs ss : List Row) → list_all is_row rs ≡ true → list_all is_row ss ≡ true
    → single_svg s m rs ≡ single_svg t n ss → rs ≡ ss
single-tell s t m n rs ss f g is =
    let headless : definitions_svg s (row_marks rs) ++ (single_sheet m ++ (ink_begin ++ (flat_map row_svg rs ++ (sheet_end ++ single_end))))
    ≡ definitions_svg t (row_marks ss) ++ (single_sheet n ++ (ink_begin ++ (flat_map row_svg ss ++ (sheet_end ++ single_end))))
    = sym (single-head-skip m _) ∙ (ap (λ e. after_line (after_line (after_line (after_line e)))) (sym (single-parts s m rs) ∙ (is ∙ single-parts t n ss)) ∙ single-head-skip n _) in
    let sheets = all-definitions-split s t (row_marks rs) (row_marks ss) _ _ headless in
    let inks = sym (single-sheet-skip m _) ∙ (ap (λ e. after_line (after_line e)) sheets ∙ single-sheet-skip n _) in
    let rows : flat_map row_svg rs ++ (sheet_end ++ single_end) ≡ flat_map row_svg ss ++ (sheet_end ++ single_end) = sym (ink-begin-skip _) ∙ (ap after_line inks ∙ ink-begin-skip _) in
    (rows-split rs ss (sheet_end ++ single_end) (sheet_end ++ single_end) f g sheet-closes sheet-closes rows).0

-- the document of a sheet determines the rows on it
pub sheets-tell : SheetsTellRows
sheets-tell shapes other this that sheet again f g is =
    single-tell shapes other (single_top sheet) (single_top again) (rows_on sheet this.rows) (rows_on again that.rows) f g is

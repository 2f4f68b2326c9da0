-- Papers by the picture of all pages.
use Rattle.std.proofs.Common.{◌≡◌, ℕ, ◌*◌, ◌<◌, ◌^◌, Bool, true, false, cond, List, [], ◌∷◌, ◌++◌, refl, sym, ap, ◌∙◌, arith, get_or, decimal, codes}
use Rattle.std.specs.Prelude.{◌&&◌, nat_lt, flat_map, map}
use Rattle.std.specs.List.{list_all}
use Rattle.std.proofs.lemmas.Bool.{and_parts}
use Rattle.std.proofs.lemmas.Fmt.{decimal_injective}
use Rattle.std.proofs.lemmas.List.{append_assoc, append-nil}
use Rattle.std.proofs.lemmas.List.Concat.{flat_map-cons}
use Rattle.pr_page.specs.declared.paper.Paper.{Paper}
use Rattle.pr_serial.specs.declared.Present.{Present}
use Rattle.pr_system.specs.declared.outcome.Outcome.{Outcome}
use Rattle.pr_dots.specs.declared.character_sets.Shapes.{Shapes}
use Rattle.pr_render.specs.Laws.{PicturesTellPapers, drawn_papers, is_paper}
use Rattle.pr_render.specs.Parts.{desk, document_about, document_begin, notes_begin, paper_piece, sheet_begin, units_begin}
use Rattle.pr_render.specs.Svg.{definitions_svg, drawn_marks, drawn_of, head_svg, height_of, name_line, notes_svg, picture_svg, sheet_room, sheet_svg, sheets_picas, size_svg, units_svg}
use Rattle.pr_render.specs.Words.{text_if}
use Rattle.pr_render.proofs.Documents.{all-definitions-split, sheet-split}
use Rattle.pr_render.proofs.Skipped.{after-part, after_line, in-append, in-number, in_line}
use Rattle.pr_render.proofs.Told.{regroup}

-- the head is passed over
in-size : (h : ℕ) → in_line (size_svg h) ≡ true
unfolding size_svg document_begin
in-size h = in-append document_begin (decimal h) refl (in-number h)

in-units : (h : ℕ) → in_line (units_svg h) ≡ true
unfolding units_svg units_begin
in-units h = in-append units_begin (decimal (210 * h)) refl (in-number (210 * h))

about-skip : (r : List ℕ) → after_line (after_line (after_line (after_line (after_line (document_about ++ (paper_piece ++ (desk ++ r))))))) ≡ r
unfolding document_about paper_piece desk
about-skip r = refl

head-skip : (h : ℕ) (r : List ℕ) → after_line (after_line (after_line (after_line (after_line (head_svg h ++ r))))) ≡ r
unfolding head_svg
head-skip h r =
    ap (λ e. after_line (after_line (after_line (after_line (after_line e))))) (regroup (size_svg h) (units_svg h) document_about paper_piece desk r)
    ∙ ap (λ e. after_line (after_line (after_line (after_line e)))) (after-part (size_svg h) (units_svg h ++ (document_about ++ (paper_piece ++ (desk ++ r)))) (in-size h)
    ∙ after-part (units_svg h) (document_about ++ (paper_piece ++ (desk ++ r))) (in-units h))
    ∙ about-skip r

-- a printer's sheet: the lines above its first row, the sheets above it in the document, in picas, and its paper
record Sheet : Type 0 where
  top : ℕ
  device : ℕ
  above : ℕ
  paper : Paper

abbrev sheet-text : Sheet → List ℕ
sheet-text s = sheet_svg s.top s.device s.above s.paper

abbrev told-by : Sheet → ℕ × Paper
told-by s = (s.device, s.paper)

abbrev told-first : ℕ → Paper → List (ℕ × Paper) → List (ℕ × Paper)
told-first device paper rest = (device, paper) ∷ rest

abbrev is-sheet : Sheet → Bool
is-sheet s = nat_lt s.device 10 && is_paper s.paper

-- what follows sheets begins with no group
abbrev Follows : List ℕ → Type 0
Follows e = 103 < get_or e 1 0

sheet-no : (s : Sheet) (a b : List ℕ) → Follows a → a ≡ sheet-text s ++ b → ⊥
unfolding sheet_svg name_line sheet_begin
sheet-no s a b far is = by (ap (λ e. get_or e 1 0) is)
  where
    by : get_or a 1 0 ≡ 103 → ⊥
    by e = omega arith

device-small : (d : ℕ) → nat_lt d 10 ≡ true → d < 2 ^ 64
device-small d is = grind (arith, is)

sheets-split : (ss ts : List Sheet) (a b : List ℕ) → list_all is-sheet ss ≡ true → list_all is-sheet ts ≡ true → Follows a → Follows b
    → flat_map sheet-text ss ++ a ≡ flat_map sheet-text ts ++ b → map told-by ss ≡ map told-by ts
sheets-split [] [] a b f g far near is = refl
sheets-split [] (t ∷ ts) a b f g far near is =
    absurd (sheet-no t a (flat_map sheet-text ts ++ b) far (is ∙ (ap (λ e. e ++ b) (flat_map-cons sheet-text t ts) ∙ append_assoc (sheet-text t) (flat_map sheet-text ts) b)))
sheets-split (s ∷ ss) [] a b f g far near is =
    absurd (sheet-no s b (flat_map sheet-text ss ++ a) near (sym is ∙ (ap (λ e. e ++ a) (flat_map-cons sheet-text s ss) ∙ append_assoc (sheet-text s) (flat_map sheet-text ss) a)))
sheets-split (s ∷ ss) (t ∷ ts) a b f g far near is =
    let sf = and_parts (is-sheet s) (list_all is-sheet ss) f in
    let tf = and_parts (is-sheet t) (list_all is-sheet ts) g in
    let sp = and_parts (nat_lt s.device 10) (is_paper s.paper) sf.0 in
    let tp = and_parts (nat_lt t.device 10) (is_paper t.paper) tf.0 in
    let first = sheet-split s.top s.device s.above s.paper t.top t.device t.above t.paper (flat_map sheet-text ss ++ a) (flat_map sheet-text ts ++ b) sp.1 tp.1
    (sym (ap (λ e. e ++ a) (flat_map-cons sheet-text s ss) ∙ append_assoc (sheet-text s) (flat_map sheet-text ss) a)
    ∙ (is ∙ (ap (λ e. e ++ b) (flat_map-cons sheet-text t ts) ∙ append_assoc (sheet-text t) (flat_map sheet-text ts) b))) in
    let devices = decimal_injective s.device t.device (device-small s.device sp.0) (device-small t.device tp.0) first.0 in
    let more = sheets-split ss ts a b sf.1 tf.1 far near first.1.1 in
    ap (λ d. told-first d s.paper (map told-by ss)) devices
    ∙ (ap (λ p. told-first t.device p (map told-by ss)) first.1.0 ∙ ap (λ ps. told-first t.device t.paper ps) more)

-- the sheets of a picture
abbrev first-sheet : (top : ℕ) → Outcome → Sheet
first-sheet top outcome = record { top = top; device = 4; above = 0; paper = outcome.paper4 }

abbrev second-sheet : (top : ℕ) → Bool → Outcome → Sheet
second-sheet top four outcome = record { top = top; device = 5; above = sheet_room four top outcome.paper4; paper = outcome.paper5 }

abbrev sheets-of : (top : ℕ) → Outcome → (four five : Bool) → List Sheet
sheets-of top outcome four five = cond four (first-sheet top outcome ∷ []) [] ++ cond five (second-sheet top four outcome ∷ []) []

one-sheet : (s : Sheet) → flat_map sheet-text (s ∷ []) ≡ sheet-text s
one-sheet s = flat_map-cons sheet-text s [] ∙ append-nil (sheet-text s)

sheets-text : (top : ℕ) (outcome : Outcome) (four five : Bool) (more : List ℕ)
    → text_if four (sheet-text (first-sheet top outcome)) ++ (text_if five (sheet-text (second-sheet top four outcome)) ++ more)
    ≡ flat_map sheet-text (sheets-of top outcome four five) ++ more
sheets-text top outcome true true more =
    sym (append_assoc (sheet-text (first-sheet top outcome)) (sheet-text (second-sheet top true outcome)) more)
    ∙ ap (λ t. (sheet-text (first-sheet top outcome) ++ t) ++ more) (sym (one-sheet (second-sheet top true outcome)))
    ∙ ap (λ t. t ++ more) (sym (flat_map-cons sheet-text (first-sheet top outcome) (second-sheet top true outcome ∷ [])))
sheets-text top outcome true false more = ap (λ t. t ++ more) (sym (one-sheet (first-sheet top outcome)))
sheets-text top outcome false true more = ap (λ t. t ++ more) (sym (one-sheet (second-sheet top false outcome)))
sheets-text top outcome false false more = refl

sheets-fit : (top : ℕ) (outcome : Outcome) (four five : Bool) → is_paper outcome.paper4 ≡ true → is_paper outcome.paper5 ≡ true
    → list_all is-sheet (sheets-of top outcome four five) ≡ true
sheets-fit top outcome true true f g = ap (λ b. b && (is_paper outcome.paper5 && true)) f ∙ ap (λ b. b && true) g
sheets-fit top outcome true false f g = ap (λ b. b && true) f
sheets-fit top outcome false true f g = ap (λ b. b && true) g
sheets-fit top outcome false false f g = refl

sheets-papers : (top : ℕ) (outcome : Outcome) (four five : Bool) → map told-by (sheets-of top outcome four five) ≡ drawn_papers outcome (record { four = four; five = five })
sheets-papers top outcome true true = refl
sheets-papers top outcome true false = refl
sheets-papers top outcome false true = refl
sheets-papers top outcome false false = refl

-- the document, part by part
abbrev notes-end : (top : ℕ) → Outcome → Present → List ℕ
notes-end top outcome drawn = notes_svg (sheets_picas top outcome drawn) outcome ++ codes "</svg>\n"

notes-follow : (top : ℕ) (outcome : Outcome) (drawn : Present) → Follows (notes-end top outcome drawn)
unfolding notes_svg notes_begin
notes-follow top outcome drawn = omega arith

picture-parts : (shapes : Shapes) (top : ℕ) (outcome : Outcome) (drawn : Present) → picture_svg shapes top outcome drawn
    ≡ head_svg (height_of (sheets_picas top outcome drawn) outcome)
    ++ (definitions_svg shapes (drawn_marks outcome drawn) ++ (flat_map sheet-text (sheets-of top outcome drawn.four drawn.five) ++ notes-end top outcome drawn))
unfolding picture_svg
picture-parts shapes top outcome drawn =
    regroup (head_svg (height_of (sheets_picas top outcome drawn) outcome)) (definitions_svg shapes (drawn_marks outcome drawn))
    (text_if drawn.four (sheet-text (first-sheet top outcome))) (text_if drawn.five (sheet-text (second-sheet top drawn.four outcome)))
    (notes_svg (sheets_picas top outcome drawn) outcome) (codes "</svg>\n")
    ∙ ap (λ t. head_svg (height_of (sheets_picas top outcome drawn) outcome) ++ (definitions_svg shapes (drawn_marks outcome drawn) ++ t))
    (sheets-text top outcome drawn.four drawn.five (notes-end top outcome drawn))

drawn-tell : (shapes other : Shapes) (top lower : ℕ) (these those : Outcome) (drawn kept : Present)
    → is_paper these.paper4 ≡ true → is_paper these.paper5 ≡ true → is_paper those.paper4 ≡ true → is_paper those.paper5 ≡ true
    → picture_svg shapes top these drawn ≡ picture_svg other lower those kept → drawn_papers these drawn ≡ drawn_papers those kept
drawn-tell shapes other top lower these those drawn kept e f g h is =
    let headless : definitions_svg shapes (drawn_marks these drawn) ++ (flat_map sheet-text (sheets-of top these drawn.four drawn.five) ++ notes-end top these drawn)
    ≡ definitions_svg other (drawn_marks those kept) ++ (flat_map sheet-text (sheets-of lower those kept.four kept.five) ++ notes-end lower those kept)
    = sym (head-skip (height_of (sheets_picas top these drawn) these) _)
    ∙ (ap (λ t. after_line (after_line (after_line (after_line (after_line t))))) (sym (picture-parts shapes top these drawn) ∙ (is ∙ picture-parts other lower those kept))
    ∙ head-skip (height_of (sheets_picas lower those kept) those) _) in
    let sheets = all-definitions-split shapes other (drawn_marks these drawn) (drawn_marks those kept) _ _ headless in
    let told = sheets-split (sheets-of top these drawn.four drawn.five) (sheets-of lower those kept.four kept.five) (notes-end top these drawn) (notes-end lower those kept)
    (sheets-fit top these drawn.four drawn.five e f) (sheets-fit lower those kept.four kept.five g h) (notes-follow top these drawn) (notes-follow lower those kept) sheets in
    sym (sheets-papers top these drawn.four drawn.five) ∙ (told ∙ sheets-papers lower those kept.four kept.five)

-- pictures determine their papers
pub pictures-tell : PicturesTellPapers
pictures-tell shapes other top lower these those present around e f g h is =
    drawn-tell shapes other top lower these those (drawn_of these present) (drawn_of those around) e f g h is

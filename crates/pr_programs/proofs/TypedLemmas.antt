-- The text of a typed program, piece by piece.
use Rattle.std.proofs.Common.{◌≡◌, ℕ, zero, suc, ◌+◌, ◌-◌, ◌<◌, ◌≤◌, Bool, List, [], ◌∷◌, ◌++◌, length, get_or, drop, replicate, Ok, Err, refl, ap, sym, ◌∙◌, arith, append_assoc, append-nil, add-zero, length-drop}
use Rattle.std.specs.Prelude.{if◌then◌else◌}
use Rattle.std.proofs.lemmas.List.{drop-drop, get_or-drop}
use Rattle.std.proofs.lemmas.Bool.{le-ltb, lt-ltb}
use Rattle.pr_programs.specs.declared.fault.Reason.{Reason}
use Rattle.pr_programs.specs.declared.typed.Part.{Part}
use Rattle.pr_programs.specs.declared.typed.Piece.{Piece}
use Rattle.pr_programs.specs.Typed.{Typed, after_piece, in_piece, piece, place_from, part_after, typed, typed_from, with_front}

-- nothing in front changes nothing
pub with_nothing : (t : Typed) → with_front [] t ≡ t
with_nothing (Ok rest) = refl
with_nothing (Err fault) = refl

-- two fronts are one
pub with_fronts : (a b : List ℕ) (t : Typed) → with_front a (with_front b t) ≡ with_front (a ++ b) t
with_fronts a b (Ok rest) = ap Ok (sym (append_assoc a b rest))
with_fronts a b (Err fault) = refl

-- the bytes that belong to a piece are skipped
typed_skipped : (n place : ℕ) (part : Part) (bs : List ℕ)
    → typed_from place n part bs ≡ typed_from (place + n) 0 part (drop n bs)
unfolding typed_from
typed_skipped zero place part bs = ap (λ v. typed_from v 0 part bs) (sym (add-zero place))
typed_skipped (suc n) place part [] = refl
typed_skipped (suc n) place part (b ∷ bs) =
    let e : place + 1 + n ≡ place + suc n = omega arith in
    typed_skipped n (place + 1) part bs ∙ ap (λ v. typed_from v 0 part (drop n bs)) e

-- a piece at the front
typed_piece : (place : ℕ) (part : Part) (b : ℕ) (bs : List ℕ) (p : Piece) → piece part b bs ≡ Ok p → 0 < p.size
    → typed_from place 0 part (b ∷ bs) ≡ with_front (replicate p.count p.byte)
    (typed_from (place + p.size) 0 (part_after part b) (drop (p.size - 1) bs))
unfolding typed_from
typed_piece place part b bs p e h =
    let at : place + 1 + (p.size - 1) ≡ place + p.size = omega arith in
    let more = typed_skipped (p.size - 1) (place + 1) (part_after part b) bs in
    ap (λ r. after_piece place r (λ size. typed_from (place + 1) (size - 1) (part_after part b) bs)) e
    ∙ ap (with_front (replicate p.count p.byte)) (more
    ∙ ap (λ v. typed_from v 0 (part_after part b) (drop (p.size - 1) bs)) at)

-- no piece at the front
typed_refused : (place : ℕ) (part : Part) (b : ℕ) (bs : List ℕ) (why : Reason) → piece part b bs ≡ Err why
    → typed_from place 0 part (b ∷ bs) ≡ Err (place, why)
unfolding typed_from
typed_refused place part b bs why e = ap (λ r. after_piece place r
    (λ size. typed_from (place + 1) (size - 1) (part_after part b) bs)) e

-- what is left of a list from a place on
left_at : (text : List ℕ) (place size : ℕ) → place < length text → 0 < size
    → drop (size - 1) (drop 1 (drop place text)) ≡ drop (place + size) text
left_at text place size h k =
    let n : place + 1 + (size - 1) ≡ place + size = omega arith in
    ap (drop (size - 1)) (drop-drop 1 place text) ∙ (drop-drop (size - 1) (place + 1) text ∙ ap (λ m. drop m text) n)

-- the first byte of what is left, and the bytes after it
cut_at : (text : List ℕ) (place : ℕ) → place < length text
    → drop place text ≡ get_or (drop place text) 0 0 ∷ drop 1 (drop place text)
cut_at text place h = first (drop place text) (omega (arith, length-drop place text))
  where
    first : (bs : List ℕ) → 0 < length bs → bs ≡ get_or bs 0 0 ∷ drop 1 bs
    first [] k = absurd (omega arith)
    first (b ∷ bs) k = refl

-- its first byte, by the place
byte_at : (text : List ℕ) (place : ℕ) → get_or (drop place text) 0 0 ≡ get_or text place 0
byte_at text place = get_or-drop place text 0 0 ∙ ap (λ n. get_or text n 0) (add-zero place)

-- a piece is taken at a place
taken_at : (text : List ℕ) (place : ℕ) (part : Part) (p : Piece) → place < length text
    → Ok p ≡ piece part (get_or (drop place text) 0 0) (drop 1 (drop place text)) → 0 < p.size
    → typed_from place 0 part (drop place text) ≡ with_front (replicate p.count p.byte)
    (typed_from (place + p.size) 0 (part_after part (get_or (drop place text) 0 0))
    (drop (place + p.size) text))
taken_at text place part p h e k =
    ap (typed_from place 0 part) (cut_at text place h)
    ∙ (typed_piece place part (get_or (drop place text) 0 0) (drop 1 (drop place text)) p (sym e) k
    ∙ ap (λ v. with_front (replicate p.count p.byte)
    (typed_from (place + p.size) 0 (part_after part (get_or (drop place text) 0 0)) v))
    (left_at text place p.size h k))

pub typed_step : (text made new : List ℕ) (place : ℕ) (part next : Part) (p : Piece) → place < length text
    → Ok p ≡ piece part (get_or (drop place text) 0 0) (drop 1 (drop place text)) → 0 < p.size
    → new ≡ made ++ replicate p.count p.byte → next ≡ part_after part (get_or text place 0)
    → typed text ≡ with_front made (typed_from place 0 part (drop place text))
    → typed text ≡ with_front new (typed_from (place + p.size) 0 next (drop (place + p.size) text))
typed_step text made new place part next p h e k added goes leads =
    let went : part_after part (get_or (drop place text) 0 0) ≡ next =
    ap (part_after part) (byte_at text place) ∙ sym goes in
    leads
    ∙ (ap (with_front made) (taken_at text place part p h e k)
    ∙ (with_fronts made (replicate p.count p.byte)
    (typed_from (place + p.size) 0 (part_after part (get_or (drop place text) 0 0))
    (drop (place + p.size) text))
    ∙ (ap (λ v. with_front v (typed_from (place + p.size) 0 (part_after part (get_or (drop place text) 0 0))
    (drop (place + p.size) text))) (sym added)
    ∙ ap (λ v. with_front new (typed_from (place + p.size) 0 v (drop (place + p.size) text))) went)))

-- a text is refused at a place
pub typed_stop : (text : List ℕ) (place : ℕ) (part : Part) (why : Reason) → place < length text
    → Err why ≡ piece part (get_or (drop place text) 0 0) (drop 1 (drop place text))
    → typed_from place 0 part (drop place text) ≡ Err (place, why)
typed_stop text place part why h e =
    ap (typed_from place 0 part) (cut_at text place h)
    ∙ typed_refused place part (get_or (drop place text) 0 0) (drop 1 (drop place text)) why (sym e)

-- nothing is left
pub typed_end : (place : ℕ) (part : Part) (front bs : List ℕ) → length bs ≡ 0
    → with_front front (typed_from place 0 part bs) ≡ Ok front
unfolding typed_from
typed_end place part front [] h = ap Ok (append-nil front)
typed_end place part front (b ∷ bs) h = absurd (omega arith)

-- ---- the same of places

place_skipped : (n place : ℕ) (part : Part) (made : ℕ) (bs : List ℕ) → n ≤ length bs
    → place_from place n part made bs ≡ place_from (place + n) 0 part made (drop n bs)
unfolding place_from
place_skipped zero place part made bs h = ap (λ v. place_from v 0 part made bs) (sym (add-zero place))
place_skipped (suc n) place part made [] h = absurd (omega arith)
place_skipped (suc n) place part made (b ∷ bs) h =
    let e : place + 1 + n ≡ place + suc n = omega arith in
    place_skipped n (place + 1) part made bs (omega arith) ∙ ap (λ v. place_from v 0 part made (drop n bs)) e

-- the program's byte is not in the piece at the front
place_after : (place : ℕ) (part : Part) (made b : ℕ) (bs : List ℕ) (p : Piece) → piece part b bs ≡ Ok p → 0 < p.size
    → p.size ≤ length bs + 1 → p.count ≤ made
    → place_from place 0 part made (b ∷ bs) ≡ place_from (place + p.size) 0 (part_after part b) (made - p.count)
    (drop (p.size - 1) bs)
unfolding place_from
place_after place part made b bs p e h l m =
    let at : place + 1 + (p.size - 1) ≡ place + p.size = omega arith in
    let within : p.size - 1 ≤ length bs = omega arith in
    let more = place_skipped (p.size - 1) (place + 1) (part_after part b) (made - p.count) bs within in
    ap (λ r. in_piece place made r (λ size left. place_from (place + 1) (size - 1) (part_after part b) left bs)) e
    ∙ (ap (λ t. if t then place else place_from (place + 1) (p.size - 1) (part_after part b) (made - p.count) bs)
    (le-ltb made p.count m)
    ∙ (more ∙ ap (λ v. place_from v 0 (part_after part b) (made - p.count) (drop (p.size - 1) bs)) at))

-- it is in that piece
place_within : (place : ℕ) (part : Part) (made b : ℕ) (bs : List ℕ) (p : Piece) → piece part b bs ≡ Ok p
    → made < p.count → place_from place 0 part made (b ∷ bs) ≡ place
unfolding place_from
place_within place part made b bs p e m =
    ap (λ r. in_piece place made r (λ size left. place_from (place + 1) (size - 1) (part_after part b) left bs)) e
    ∙ ap (λ t. if t then place else place_from (place + 1) (p.size - 1) (part_after part b) (made - p.count) bs)
    (lt-ltb made p.count m)

-- no piece is at the front
place_refused : (place : ℕ) (part : Part) (made b : ℕ) (bs : List ℕ) (why : Reason) → piece part b bs ≡ Err why
    → place_from place 0 part made (b ∷ bs) ≡ place
unfolding place_from
place_refused place part made b bs why e =
    ap (λ r. in_piece place made r (λ size left. place_from (place + 1) (size - 1) (part_after part b) left bs)) e

-- a piece is passed at a place
pub place_step : (text : List ℕ) (place : ℕ) (part next : Part) (made : ℕ) (p : Piece) → place < length text
    → Ok p ≡ piece part (get_or (drop place text) 0 0) (drop 1 (drop place text)) → 0 < p.size
    → p.size ≤ length (drop place text) → p.count ≤ made
    → next ≡ part_after part (get_or text place 0)
    → place_from place 0 part made (drop place text) ≡ place_from (place + p.size) 0 next (made - p.count)
    (drop (place + p.size) text)
place_step text place part next made p h e k l m goes =
    let within : p.size ≤ length (drop 1 (drop place text)) + 1 = omega (arith, length-drop 1 (drop place text)) in
    let went : part_after part (get_or (drop place text) 0 0) ≡ next =
    ap (part_after part) (byte_at text place) ∙ sym goes in
    ap (place_from place 0 part made) (cut_at text place h)
    ∙ (place_after place part made (get_or (drop place text) 0 0) (drop 1 (drop place text)) p (sym e) k within m
    ∙ (ap (place_from (place + p.size) 0 (part_after part (get_or (drop place text) 0 0)) (made - p.count))
    (left_at text place p.size h k)
    ∙ ap (λ v. place_from (place + p.size) 0 v (made - p.count) (drop (place + p.size) text)) went))

-- the byte is in the piece at a place
pub place_found : (text : List ℕ) (place : ℕ) (part : Part) (made : ℕ) (p : Piece) → place < length text
    → Ok p ≡ piece part (get_or (drop place text) 0 0) (drop 1 (drop place text)) → made < p.count
    → place_from place 0 part made (drop place text) ≡ place
place_found text place part made p h e m =
    ap (place_from place 0 part made) (cut_at text place h)
    ∙ place_within place part made (get_or (drop place text) 0 0) (drop 1 (drop place text)) p (sym e) m

pub place_stop : (text : List ℕ) (place : ℕ) (part : Part) (made : ℕ) (why : Reason) → place < length text
    → Err why ≡ piece part (get_or (drop place text) 0 0) (drop 1 (drop place text))
    → place_from place 0 part made (drop place text) ≡ place
place_stop text place part made why h e =
    ap (place_from place 0 part made) (cut_at text place h)
    ∙ place_refused place part made (get_or (drop place text) 0 0) (drop 1 (drop place text)) why (sym e)

-- nothing is left
pub place_end : (place : ℕ) (part : Part) (made : ℕ) (bs : List ℕ) → length bs ≡ 0
    → place_from place 0 part made bs ≡ place
unfolding place_from
place_end place part made [] h = refl
place_end place part made (b ∷ bs) h = absurd (omega arith)

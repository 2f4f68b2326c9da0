-- Equal columns of dots, made one by one and all at once.
use Rattle.std.proofs.Common.{◌≡◌, ℕ, zero, suc, true, List, [], ◌∷◌, ◌++◌, inl, inr, refl, ap, ◌∙◌, append_assoc, arith, ◌+◌, ◌≤◌, ◌<◌, add-zero, zero-add}
use Rattle.std.specs.Prelude.{replicate}
use Rattle.std.proofs.lemmas.List.{append-nil}
use Rattle.std.proofs.lemmas.Bool.Decides.{leb_tells}
use Rattle.pr_page.specs.Acts.{Print}
use Rattle.pr_page.specs.Steps.{ended, printed, sheet_after_all, columns_from}
use Rattle.pr_page.specs.declared.paper.Mark.TheVariants.{Dots}
use Rattle.pr_page.specs.declared.paper.Placed.{Placed}
use Rattle.pr_page.specs.declared.sheet.Sheet.{Sheet}

-- one column more at the end
pub columns_from-push : (x dots n : ℕ) → columns_from x dots (n + 1) ≡ columns_from x dots n ++ record { x = x + n; mark = Dots dots } ∷ []
columns_from-push x dots zero = rw (add-zero x) refl
columns_from-push x dots (suc n) =
    let e : suc n + 1 ≡ suc (n + 1) = omega arith in
    let at : (x + 1) + n ≡ x + suc n = omega arith in
    rw e (ap (λ (m : List Placed). record { x = x; mark = Dots dots } ∷ m)
    (columns_from-push (x + 1) dots n ∙ ap (λ at. columns_from (x + 1) dots n ++ record { x = at; mark = Dots dots } ∷ []) at))

-- the sheet with columns added to the line
abbrev pub with_columns : Sheet → ℕ → ℕ → Sheet
with_columns s dots n = record s {
  position = s.position + n;
  paper = record { rows = s.paper.rows; held = s.paper.held ++ columns_from s.position dots n };
}

-- a column that fits
one_fits : (s : Sheet) (dots : ℕ) → s.position + 1 ≤ 480 → printed s true (Dots dots) 1 ≡
    record s { position = s.position + 1; paper = record { rows = s.paper.rows; held = s.paper.held ++ record { x = s.position; mark = Dots dots } ∷ [] } }
one_fits s dots h = elim (leb_tells (s.position + 1) 480) [ inl e ↦ rw e.0 refl | inr e ↦ absurd (omega arith) ]

-- columns that fit
pub fits : (s : Sheet) (dots n : ℕ) → s.position + n ≤ 480 → sheet_after_all s (replicate n (Print true (Dots dots) 1)) ≡ with_columns s dots n
fits s dots zero h =
    rw (add-zero s.position, append-nil s.paper.held) refl
fits s dots (suc n) h =
    let s' : Sheet = record s { position = s.position + 1; paper = record { rows = s.paper.rows; held = s.paper.held ++ record { x = s.position; mark = Dots dots } ∷ [] } } in
    let first : s.position + 1 ≤ 480 = omega arith in
    let rest : s'.position + n ≤ 480 = omega arith in
    let at : (s.position + 1) + n ≡ s.position + suc n = omega arith in
    ap (λ s. sheet_after_all s (replicate n (Print true (Dots dots) 1))) (one_fits s dots first)
    ∙ fits s' dots n rest
    ∙ ap (λ at. record s { position = at; paper = record { rows = s.paper.rows; held = s'.paper.held ++ columns_from (s.position + 1) dots n } }) at
    ∙ ap (λ held. record s { position = s.position + suc n; paper = record { rows = s.paper.rows; held = held } })
    (append_assoc s.paper.held (record { x = s.position; mark = Dots dots } ∷ []) (columns_from (s.position + 1) dots n))

-- a column that goes to the next line
one_over : (s : Sheet) (dots : ℕ) → s.position ≡ 480 → printed s true (Dots dots) 1 ≡ ended s true (record { x = 0; mark = Dots dots } ∷ []) 1
one_over s dots h = elim (leb_tells (s.position + 1) 480) [ inl e ↦ absurd (omega arith) | inr e ↦ rw e.0 refl ]

-- columns that fill the line, and more in the next one
pub over : (s : Sheet) (dots room n : ℕ) → s.position + room ≡ 480 → suc n ≤ 480 →
    sheet_after_all s (replicate (room + suc n) (Print true (Dots dots) 1)) ≡ ended (with_columns s dots room) true (columns_from 0 dots (suc n)) (suc n)
over s dots zero n full h =
    let now : s.position ≡ 480 = omega arith in
    let fit : 1 + n ≤ 480 = omega arith in
    let at : 1 + n ≡ suc n = omega arith in
    rw (zero-add (suc n)) (
    ap (λ s. sheet_after_all s (replicate n (Print true (Dots dots) 1))) (one_over s dots now)
    ∙ fits (ended s true (record { x = 0; mark = Dots dots } ∷ []) 1) dots n fit
    ∙ rw (at, append-nil s.paper.held, zero-add 1) refl)
over s dots (suc room) n full h =
    let s' : Sheet = record s { position = s.position + 1; paper = record { rows = s.paper.rows; held = s.paper.held ++ record { x = s.position; mark = Dots dots } ∷ [] } } in
    let first : s.position + 1 ≤ 480 = omega arith in
    let full' : s'.position + room ≡ 480 = omega arith in
    let count : suc room + suc n ≡ suc (room + suc n) = omega arith in
    rw count (
    ap (λ s. sheet_after_all s (replicate (room + suc n) (Print true (Dots dots) 1))) (one_fits s dots first)
    ∙ over s' dots room n full' h
    ∙ ap (λ held. ended (record s { paper = record { rows = s.paper.rows; held = held } }) true (columns_from 0 dots (suc n)) (suc n))
    (append_assoc s.paper.held (record { x = s.position; mark = Dots dots } ∷ []) (columns_from (s.position + 1) dots room)))

-- the same for a count that does not fit
pub over_count : (s : Sheet) (dots count room left : ℕ) → s.position + room ≡ 480 → room + left ≡ count → 0 < left → left ≤ 480 →
    sheet_after_all s (replicate count (Print true (Dots dots) 1)) ≡ ended (with_columns s dots room) true (columns_from 0 dots left) left
over_count s dots count room zero full parts some small = absurd (omega arith)
over_count s dots count room (suc n) full parts some small = rw (← parts) (over s dots room n full small)

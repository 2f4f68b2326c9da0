-- A file holds the lines of one program, or it is cut off in one line, and never both.
use Rattle.std.proofs.Common.{◌≡◌, ℕ, suc, true, List, [], ◌∷◌, ◌++◌, ◌≤◌, length, refl, ap, sym, ◌∙◌, arith, subst, ◌⊎◌, inl, inr}
use Rattle.std.proofs.lemmas.Grind.{common_steps}
use Rattle.std.specs.List.{list_all}
use Rattle.pr_listing.specs.Listing.{IsProgramText, lines_text}
use Rattle.pr_listing.specs.Program.{BeginsWith, BeginsWithLines, Holds, IsCutOff, IsProgramFault, Line, is_not_zero}
use Rattle.pr_listing.specs.declared.fault.ListingFault.{ListingFault}
use Rattle.pr_listing.specs.declared.fault.ListingFault.TheVariants.{CutOff}
use Rattle.pr_listing.proofs.Marks.{first_mark}

-- where no line begins any more: a link of 0, or the end of the bytes
abbrev pub IsStop : List ℕ → Type 0
IsStop bytes = ((more : List ℕ) × (bytes ≡ 0 ∷ 0 ∷ more)) ⊎ IsCutOff bytes

-- a list that passes a test has no element that fails it
no_fails : (xs r : List ℕ) → list_all is_not_zero (xs ++ 0 ∷ r) ≡ true → ⊥
no_fails [] r h = cc
no_fails (x ∷ xs) r h = no_fails xs r (grind (arith, common_steps))

-- no line is cut off
not_cut_off : (l : Line) (bytes after : List ℕ) → BeginsWith l bytes after → IsCutOff bytes → ⊥
not_cut_off l bytes after h (inl few) = omega (arith, ap length h.cut)
not_cut_off l bytes after h (inr (a, b, rest, cut, linked, inl few)) = omega (arith, ap length (sym cut ∙ h.cut), few)
not_cut_off l bytes after h (inr (a, b, rest, cut, linked, inr (c, d, line, more, whole))) =
    let same : a ∷ b ∷ c ∷ d ∷ line ≡ h.link_low ∷ h.link_high ∷ h.low ∷ h.high ∷ (l.bytes ++ 0 ∷ after) = ap (λ v. a ∷ b ∷ v) (sym more) ∙ (sym cut ∙ h.cut) in
    let lines : line ≡ l.bytes ++ 0 ∷ after = cc in
    no_fails l.bytes after (ap (list_all is_not_zero) (sym lines) ∙ whole)

-- no line is at a stop
no_line : (l : Line) (bytes after : List ℕ) → BeginsWith l bytes after → IsStop bytes → ⊥
no_line l bytes after h (inl (more, e)) =
    let same : h.link_low ∷ h.link_high ∷ h.low ∷ h.high ∷ (l.bytes ++ 0 ∷ after) ≡ 0 ∷ 0 ∷ more = sym h.cut ∙ e in
    let low : h.link_low ≡ 0 = cc in
    let high : h.link_high ≡ 0 = cc in
    omega (arith, h.linked, low, high)
no_line l bytes after h (inr k) = not_cut_off l bytes after h k

-- bytes begin with one line
pub one_line : (l m : Line) (bytes after behind : List ℕ) → BeginsWith l bytes after → BeginsWith m bytes behind → (l ≡ m) × (after ≡ behind)
one_line l m bytes after behind h k =
    let same : h.link_low ∷ h.link_high ∷ h.low ∷ h.high ∷ (l.bytes ++ 0 ∷ after) ≡ k.link_low ∷ k.link_high ∷ k.low ∷ k.high ∷ (m.bytes ++ 0 ∷ behind) = sym h.cut ∙ k.cut in
    let low : h.low ≡ k.low = cc in
    let high : h.high ≡ k.high = cc in
    let rest : l.bytes ++ 0 ∷ after ≡ m.bytes ++ 0 ∷ behind = cc in
    let both : (l.bytes ≡ m.bytes) × (after ≡ behind) = first_mark is_not_zero 0 refl l.bytes m.bytes after behind h.no_zero k.no_zero rest in
    let number : l.number ≡ m.number = omega (arith, h.numbered, k.numbered, low, high) in
    let bytes_same : l.bytes ≡ m.bytes = both.0 in
    (ap (λ n. record { number = n; bytes = l.bytes }) number ∙ ap (λ bs. record { number = m.number; bytes = bs }) bytes_same, both.1)

-- lines up to a stop are the same, and so is the stop
pub one_stop : (ls ms : List Line) (bytes rest left : List ℕ) → BeginsWithLines ls bytes rest → BeginsWithLines ms bytes left → IsStop rest → IsStop left → (ls ≡ ms) × (rest ≡ left)
one_stop [] [] bytes rest left h k s t = (refl, sym h ∙ k)
one_stop [] (m ∷ ms) bytes rest left h k s t = absurd (no_line m bytes k.0 k.1 (subst IsStop (sym h) s))
one_stop (l ∷ ls) [] bytes rest left h k s t = absurd (no_line l bytes h.0 h.1 (subst IsStop (sym k) t))
one_stop (l ∷ ls) (m ∷ ms) bytes rest left h k s t =
    let first : (l ≡ m) × (h.0 ≡ k.0) = one_line l m bytes h.0 k.0 h.1 k.1 in
    let more : (ls ≡ ms) × (rest ≡ left) = one_stop ls ms h.0 rest left h.2 (subst (λ (v : List ℕ). BeginsWithLines ms v left) (sym first.1) k.2) s t in
    let e : l ≡ m = first.0 in
    let f : ls ≡ ms = more.0 in
    (cc, more.1)

-- as many lines leave the same rest
pub same_rest : (ls ms : List Line) (bytes rest left : List ℕ) → BeginsWithLines ls bytes rest → BeginsWithLines ms bytes left → length ls ≡ length ms → rest ≡ left
same_rest [] [] bytes rest left h k e = sym h ∙ k
same_rest [] (m ∷ ms) bytes rest left h k e = absurd (omega (arith, e))
same_rest (l ∷ ls) [] bytes rest left h k e = absurd (omega (arith, e))
same_rest (l ∷ ls) (m ∷ ms) bytes rest left h k e =
    let first : (l ≡ m) × (h.0 ≡ k.0) = one_line l m bytes h.0 k.0 h.1 k.1 in
    same_rest ls ms h.0 rest left h.2 (subst (λ (v : List ℕ). BeginsWithLines ms v left) (sym first.1) k.2) (omega (arith, e))

-- no line is after a stop
pub none_past : (ls ms : List Line) (bytes rest left : List ℕ) (l : Line) (after : List ℕ) → BeginsWithLines ls bytes rest → IsStop rest → BeginsWithLines ms bytes left → BeginsWith l left after → length ls ≤ length ms → ⊥
none_past [] [] bytes rest left l after h s k b e = no_line l left after b (subst IsStop (sym h ∙ k) s)
none_past [] (m ∷ ms) bytes rest left l after h s k b e = no_line m bytes k.0 k.1 (subst IsStop (sym h) s)
none_past (o ∷ ls) [] bytes rest left l after h s k b e = omega (arith, e)
none_past (o ∷ ls) (m ∷ ms) bytes rest left l after h s k b e =
    let first : (o ≡ m) × (h.0 ≡ k.0) = one_line o m bytes h.0 k.0 h.1 k.1 in
    none_past ls ms h.0 rest left l after h.2 s (subst (λ (v : List ℕ). BeginsWithLines ms v left) (sym first.1) k.2) b (omega (arith, e))

-- the same of files
held : (ls ms : List Line) (file rest left : List ℕ) → Holds ls file rest → Holds ms file left → IsStop rest → IsStop left → (ls ≡ ms) × (rest ≡ left)
held ls ms file rest left h k s t =
    let same : h.0 ∷ h.1 ∷ h.2 ≡ k.0 ∷ k.1 ∷ k.2 = sym h.3 ∙ k.3 in
    let bytes : h.2 ≡ k.2 = cc in
    one_stop ls ms h.2 rest left h.4 (subst (λ (v : List ℕ). BeginsWithLines ms v left) (sym bytes) k.4) s t

-- a file holds one program's text
pub one_text : (file a b : List ℕ) → IsProgramText file a → IsProgramText file b → a ≡ b
one_text file a b (ls, (more, h, some), e) (ms, (left, k, any), f) =
    e ∙ (ap lines_text (held ls ms file (0 ∷ 0 ∷ more) (0 ∷ 0 ∷ left) h k (inl (more, refl)) (inl (left, refl))).0 ∙ sym f)

-- bytes that are cut off have no link of 0
no_end : (more : List ℕ) → IsCutOff (0 ∷ 0 ∷ more) → ⊥
no_end more (inl few) = omega (arith, few)
no_end more (inr (a, b, rest, cut, linked, k)) =
    let low : a ≡ 0 = cc in
    let high : b ≡ 0 = cc in
    omega (arith, linked, low, high)

-- a program has no fault
pub not_both : (file text : List ℕ) (fault : ListingFault) → IsProgramText file text → IsProgramFault file fault → ⊥
not_both file text fault (ls, (more, h, some), e) (inl (few, f)) = omega (arith, few, ap length h.3)
not_both file text fault (ls, (more, h, some), e) (inr (inl (left, k, f))) =
    let none : ls ≡ [] = (held ls [] file (0 ∷ 0 ∷ more) (0 ∷ 0 ∷ left) h k (inl (more, refl)) (inl (left, refl))).0 in
    omega (arith, some, ap (λ (v : List Line). length v) none)
not_both file text fault (ls, (more, h, some), e) (inr (inr (ms, rest, k, cut, f))) =
    let same : (ls ≡ ms) × (0 ∷ 0 ∷ more ≡ rest) = held ls ms file (0 ∷ 0 ∷ more) rest h k (inl (more, refl)) (inr cut) in
    no_end more (subst IsCutOff (sym same.1) cut)

-- a file without a line is not cut off
no_line_not_cut_off : (file more rest : List ℕ) (ms : List Line) → Holds [] file (0 ∷ 0 ∷ more) → Holds ms file rest → IsCutOff rest → ⊥
no_line_not_cut_off file more rest ms h k cut =
    let same : ([] ≡ ms) × (0 ∷ 0 ∷ more ≡ rest) = held [] ms file (0 ∷ 0 ∷ more) rest h k (inl (more, refl)) (inr cut) in
    no_end more (subst IsCutOff (sym same.1) cut)

-- a file has one fault
pub one_fault : (file : List ℕ) (f g : ListingFault) → IsProgramFault file f → IsProgramFault file g → f ≡ g
one_fault file f g (inl (few, e)) (inl (less, d)) = e ∙ sym d
one_fault file f g (inl (few, e)) (inr (inl (left, k, d))) = absurd (omega (arith, few, ap length k.3))
one_fault file f g (inl (few, e)) (inr (inr (ms, rest, k, cut, d))) = absurd (omega (arith, few, ap length k.3))
one_fault file f g (inr (inl (more, h, e))) (inl (less, d)) = absurd (omega (arith, less, ap length h.3))
one_fault file f g (inr (inl (more, h, e))) (inr (inl (left, k, d))) = e ∙ sym d
one_fault file f g (inr (inl (more, h, e))) (inr (inr (ms, rest, k, cut, d))) = absurd (no_line_not_cut_off file more rest ms h k cut)
one_fault file f g (inr (inr (ls, left, h, cut, e))) (inl (less, d)) = absurd (omega (arith, less, ap length h.3))
one_fault file f g (inr (inr (ls, left, h, cut, e))) (inr (inl (more, k, d))) = absurd (no_line_not_cut_off file more left ls k h cut)
one_fault file f g (inr (inr (ls, left, h, c, e))) (inr (inr (ms, rest, k, cut, d))) =
    let same : (ls ≡ ms) × (left ≡ rest) = held ls ms file left rest h k (inr c) (inr cut) in
    e ∙ (ap (λ v. CutOff (suc (length v))) same.0 ∙ sym d)

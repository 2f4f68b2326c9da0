-- Fields of a line, one by one.
use Rattle.std.proofs.Common.{◌≡◌, ℕ, zero, suc, ◌+◌, ◌-◌, ◌<◌, ◌≤◌, ◌==◌, Bool, true, false, List, [], ◌∷◌, length, take, drop, refl, ap, subst, ◌∙◌, arith, Some, None}
use Rattle.std.specs.Prelude.{◌&&◌, is_some, not, if◌then◌else◌}
use Rattle.pr_base.specs.Lines.{onto_first}
use Rattle.pr_capture.specs.Csv.{field_at, fields_of}
use Rattle.pr_capture.specs.CsvSteps.{field_len}

-- a separator ends the first field
pub field-ended : (sep : ℕ) (quoted : Bool) (l : List ℕ) → field_len sep quoted l < length l
    → fields_of sep quoted l ≡ take (field_len sep quoted l) l ∷ fields_of sep false (drop (field_len sep quoted l + 1) l)
field-ended sep quoted [] h = absurd (omega arith)
field-ended sep quoted (b ∷ bs) h = step (b == sep && not quoted) refl h (λ k. field-ended sep (if b == 34 then not quoted else quoted) bs k)
  where
    step : (t : Bool) → (b == sep && not quoted) ≡ t → field_len sep quoted (b ∷ bs) < length (b ∷ bs)
        → (field_len sep (if b == 34 then not quoted else quoted) bs < length bs
        → fields_of sep (if b == 34 then not quoted else quoted) bs
        ≡ take (field_len sep (if b == 34 then not quoted else quoted) bs) bs ∷ fields_of sep false (drop (field_len sep (if b == 34 then not quoted else quoted) bs + 1) bs))
        → fields_of sep quoted (b ∷ bs) ≡ take (field_len sep quoted (b ∷ bs)) (b ∷ bs) ∷ fields_of sep false (drop (field_len sep quoted (b ∷ bs) + 1) (b ∷ bs))
    step true e k next = rw e refl
    step false e k next =
        let m : ℕ = field_len sep (if b == 34 then not quoted else quoted) bs in
        let n : suc m ≡ field_len sep quoted (b ∷ bs) = rw e (omega arith) in
        let less : m < length bs = omega (arith, k, n) in
        let f : fields_of sep quoted (b ∷ bs) ≡ onto_first b (fields_of sep (if b == 34 then not quoted else quoted) bs) = rw e refl in
        let g : onto_first b (fields_of sep (if b == 34 then not quoted else quoted) bs) ≡ take (suc m) (b ∷ bs) ∷ fields_of sep false (drop (suc (m + 1)) (b ∷ bs)) =
        ap (onto_first b) (next less) in
        let o : suc (m + 1) ≡ suc m + 1 = omega arith in
        let P : ℕ → Type 0 = λ j. fields_of sep quoted (b ∷ bs) ≡ take (suc m) (b ∷ bs) ∷ fields_of sep false (drop j (b ∷ bs)) in
        let Q : ℕ → Type 0 = λ j. fields_of sep quoted (b ∷ bs) ≡ take j (b ∷ bs) ∷ fields_of sep false (drop (j + 1) (b ∷ bs)) in
        subst Q n (subst P o (f ∙ g))

-- a line without one is one field
pub field-alone : (sep : ℕ) (quoted : Bool) (l : List ℕ) → length l ≤ field_len sep quoted l → fields_of sep quoted l ≡ l ∷ []
field-alone sep quoted [] h = refl
field-alone sep quoted (b ∷ bs) h = step (b == sep && not quoted) refl h (λ k. field-alone sep (if b == 34 then not quoted else quoted) bs k)
  where
    step : (t : Bool) → (b == sep && not quoted) ≡ t → length (b ∷ bs) ≤ field_len sep quoted (b ∷ bs)
        → (length bs ≤ field_len sep (if b == 34 then not quoted else quoted) bs → fields_of sep (if b == 34 then not quoted else quoted) bs ≡ bs ∷ [])
        → fields_of sep quoted (b ∷ bs) ≡ (b ∷ bs) ∷ []
    step true e k next = let none : length (b ∷ bs) ≤ 0 = rw e at k in absurd (omega (arith, none))
    step false e k next =
        let less : length (b ∷ bs) ≤ 1 + field_len sep (if b == 34 then not quoted else quoted) bs = rw e at k in
        rw e (ap (onto_first b) (next (omega (arith, less))))

-- a field is at a place that is less than how many there are
pub at-within : (place : ℕ) (fields : List (List ℕ)) → is_some (field_at place fields) ≡ true → place < length fields
at-within place [] h = absurd (cc)
at-within zero (f ∷ fs) h = omega arith
at-within (suc place) (f ∷ fs) h = let less = at-within place fs h in omega (arith, less)

-- the field of a place, by those after the first
pub at-none : (place : ℕ) (fields : List (List ℕ)) (f : List ℕ) → 0 < place → fields ≡ f ∷ [] → field_at place fields ≡ None
at-none zero fields f h e = absurd (omega arith)
at-none (suc place) fields f h e = rw e refl

pub at-more : (place : ℕ) (fields fs : List (List ℕ)) (f : List ℕ) → 0 < place → fields ≡ f ∷ fs → field_at place fields ≡ field_at (place - 1) fs
at-more zero fields fs f h e = absurd (omega arith)
at-more (suc place) fields fs f h e = let p : suc place - 1 ≡ place = omega arith in rw (e, p) refl

pub at-first : (place : ℕ) (fields fs : List (List ℕ)) (f : List ℕ) → place ≡ 0 → fields ≡ f ∷ fs → field_at place fields ≡ Some f
at-first place fields fs f h e = rw (h, e) refl

-- a line has at most one field more than bytes
pub fields-few : (sep : ℕ) (quoted : Bool) (l : List ℕ) → length (fields_of sep quoted l) ≤ length l + 1
fields-few sep quoted [] = omega arith
fields-few sep quoted (b ∷ bs) = step (b == sep && not quoted) refl (fields-few sep false bs) (fields-few sep (if b == 34 then not quoted else quoted) bs)
  where
    onto : (fs : List (List ℕ)) → length fs ≤ length bs + 1 → length (onto_first b fs) ≤ length (b ∷ bs) + 1
    onto [] k = omega arith
    onto (f ∷ fs) k = omega (arith, k)

    step : (t : Bool) → (b == sep && not quoted) ≡ t → length (fields_of sep false bs) ≤ length bs + 1
        → length (fields_of sep (if b == 34 then not quoted else quoted) bs) ≤ length bs + 1
        → length (fields_of sep quoted (b ∷ bs)) ≤ length (b ∷ bs) + 1
    step true e j k = rw e (omega (arith, j))
    step false e j k = rw e (onto (fields_of sep (if b == 34 then not quoted else quoted) bs) k)

-- and at most as many after the first
pub left-few : (sep : ℕ) (l f : List ℕ) (fs : List (List ℕ)) → fields_of sep false l ≡ f ∷ fs → length fs ≤ length l
left-few sep l f fs e = let few : length (f ∷ fs) ≤ length l + 1 = subst (λ v. length v ≤ length l + 1) e (fields-few sep false l) in omega (arith, few)

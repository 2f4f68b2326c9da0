use Rattle.std.proofs.Common.{◌≡◌, suc, ◌+◌, ◌<◌, ◌≤◌, Bool, List, [], ◌∷◌, ◌++◌, length, set, arith, refl, ap, inl}
use Rattle.std.proofs.Common.{inr}
use Rattle.std.proofs.lemmas.Bool.{cases_Bool}
use Rattle.std.specs.List.{position_or_len}
use Rattle.pr_run.specs.Assignments.{added_unless, replaced}

-- there is one that is wanted
pub replaced_at : {A : Type 0} (wanted : A → Bool) (a : A) (xs : List A) → position_or_len wanted xs < length xs
    → replaced wanted a xs ≡ set xs (position_or_len wanted xs) a
replaced_at wanted a [] h = absurd (omega arith)
replaced_at {A = A} wanted a (x ∷ xs) h =
    elim (cases_Bool (wanted x)) [
      | inl hit ↦ rw hit refl
      | inr miss ↦
          let within = rw miss at h in
          let less : position_or_len wanted xs < length xs = omega arith in
          let next : 1 + position_or_len wanted xs ≡ suc (position_or_len wanted xs) = omega arith in
          rw (miss, next) (ap (λ (ys : List A). x ∷ ys) (replaced_at wanted a xs less))
    ]

-- there is none
pub replaced_end : {A : Type 0} (wanted : A → Bool) (a : A) (xs : List A) → length xs ≤ position_or_len wanted xs
    → replaced wanted a xs ≡ xs ++ a ∷ []
replaced_end wanted a [] h = refl
replaced_end {A = A} wanted a (x ∷ xs) h =
    elim (cases_Bool (wanted x)) [
      | inl hit ↦ let none = rw hit at h in absurd (omega arith)
      | inr miss ↦
          let beyond = rw miss at h in
          let all : length xs ≤ position_or_len wanted xs = omega arith in
          rw miss (ap (λ (ys : List A). x ∷ ys) (replaced_end wanted a xs all))
    ]

-- what is wanted is there
pub added_at : {A : Type 0} (wanted : A → Bool) (a : A) (xs : List A) → position_or_len wanted xs < length xs
    → added_unless wanted a xs ≡ xs
added_at wanted a [] h = absurd (omega arith)
added_at {A = A} wanted a (x ∷ xs) h =
    elim (cases_Bool (wanted x)) [
      | inl hit ↦ rw hit refl
      | inr miss ↦
          let within = rw miss at h in
          let less : position_or_len wanted xs < length xs = omega arith in
          rw miss (ap (λ (ys : List A). x ∷ ys) (added_at wanted a xs less))
    ]

-- it comes at the end
pub added_end : {A : Type 0} (wanted : A → Bool) (a : A) (xs : List A) → length xs ≤ position_or_len wanted xs
    → added_unless wanted a xs ≡ xs ++ a ∷ []
added_end wanted a [] h = refl
added_end {A = A} wanted a (x ∷ xs) h =
    elim (cases_Bool (wanted x)) [
      | inl hit ↦ let none = rw hit at h in absurd (omega arith)
      | inr miss ↦
          let beyond = rw miss at h in
          let all : length xs ≤ position_or_len wanted xs = omega arith in
          rw miss (ap (λ (ys : List A). x ∷ ys) (added_end wanted a xs all))
    ]

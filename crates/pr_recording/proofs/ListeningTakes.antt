-- Calls that are taken one after the other.
use Rattle.std.proofs.Common.{◌≡◌, ℕ, ◌+◌, List, ◌++◌, Result, Ok, Err, OnOk, arith, subst}
use Rattle.std.specs.declared.alloc.AllocError.{AllocError}
use Rattle.pr_decode.specs.declared.reading.Reading.{Reading}

pub both_taken : {S : Type 0} (takes : List Reading → S → S → Type 0)
    → ((xs ys : List Reading) (a b c : S) → takes xs a b → takes ys b c → takes (xs ++ ys) a c)
    → (xs ys : List Reading) (a b c : S) (result : Result (Unit {0}) AllocError) → takes xs a b → OnOk result (takes ys b c) → OnOk result (takes (xs ++ ys) a c)
both_taken takes both xs ys a b c (Ok u) h k = both xs ys a b c h k
both_taken takes both xs ys a b c (Err e) h k = tt

-- there is room for so many fewer
pub room_for : {S : Type 0} (may_take : ℕ → S → Type 0) (i j : ℕ) (a b c : S) (result : Result (Unit {0}) AllocError)
    → ((n : ℕ) → may_take (i + n) a → may_take n b) → OnOk result ((n : ℕ) → may_take (j + n) b → may_take n c)
    → OnOk result ((n : ℕ) → may_take ((i + j) + n) a → may_take n c)
room_for may_take i j a b c (Ok u) first second = λ n h.
    let P : ℕ → Type 0 = λ k. may_take k a in
    let same : (i + j) + n ≡ i + (j + n) = omega arith in
    second n (first (j + n) (subst P same h))
room_for may_take i j a b c (Err e) first second = tt

-- Counts and sums over a list of lengths.
use Rattle.std.proofs.Common.{◌≡◌, ℕ, ◌+◌, ◌<◌, ◌≤◌, Bool, true, false, cond, List, [], ◌∷◌, ◌++◌, length, refl, sym, ap, ◌∙◌, arith}
use Rattle.std.specs.Prelude.{◌==◌, ◌^◌, nat_le, nat_lt}
use Rattle.std.specs.List.{count_by, sum_by}
use Rattle.std.proofs.lemmas.Bool.Decides.{nat_tests}
use Rattle.std.proofs.lemmas.List.{length-append}
use Rattle.std.proofs.lemmas.List.Sums.{count_by-le-length, sum_by-cons, sum_by-le-sum_by, sum_by_push}
use Rattle.pr_report.specs.Steps.{counted}
use Rattle.pr_report.specs.Summary.{at_most}
use Rattle.pr_report.specs.Taking.{equal_to}

-- a count that has room goes up by one where its test holds
counted-small : (b : Bool) (n : ℕ) → n + 1 < 2 ^ 64 → counted b n ≡ n + cond b 1 0
counted-small true n few = omega arith
counted-small false n few = omega arith

pub counted-more : {X : Type 0} (p : X → Bool) (xs : List X) (x : X) (n new : ℕ) → length xs + 1 < 2 ^ 64 → n ≡ count_by p xs
    → new ≡ counted (p x) n → new ≡ count_by p (xs ++ x ∷ [])
counted-more p xs x n new few e now =
    let le : count_by p xs ≤ length xs = count_by-le-length p xs in
    let small : n + 1 < 2 ^ 64 = omega arith in
    let push : count_by p (xs ++ x ∷ []) ≡ count_by p xs + cond (p x) 1 0 = sum_by_push (λ y. cond (p y) 1 0) xs x in
    now ∙ (counted-small (p x) n small ∙ (ap (λ m. m + cond (p x) 1 0) e ∙ sym push))

pub one-longer : {X : Type 0} (xs : List X) (x : X) → length (xs ++ x ∷ []) ≡ length xs + 1
one-longer xs x = length-append xs (x ∷ [])

-- how many are below n
abbrev pub below : ℕ → List ℕ → ℕ
below n ns = count_by (λ m. nat_lt m n) ns

-- a sum of two
sum_by-both : (f g h : ℕ → ℕ) → ((x : ℕ) → f x ≡ g x + h x) → (xs : List ℕ) → sum_by f xs ≡ sum_by g xs + sum_by h xs
sum_by-both f g h each [] = refl
sum_by-both f g h each (x ∷ xs) =
    let rest : sum_by f xs ≡ sum_by g xs + sum_by h xs = sum_by-both f g h each xs in
    let here : f x ≡ g x + h x = each x in
    let first : sum_by f (x ∷ xs) ≡ f x + sum_by f xs = sum_by-cons f x xs in
    let second : sum_by g (x ∷ xs) ≡ g x + sum_by g xs = sum_by-cons g x xs in
    let third : sum_by h (x ∷ xs) ≡ h x + sum_by h xs = sum_by-cons h x xs in
    omega arith

one-at : (n m : ℕ) → cond (nat_le m n) 1 0 ≡ cond (nat_lt m n) 1 0 + cond (m == n) 1 0
one-at n m = grind (arith, nat_tests)

one-next : (n m : ℕ) → cond (nat_lt m (n + 1)) 1 0 ≡ cond (nat_lt m n) 1 0 + cond (m == n) 1 0
one-next n m = grind (arith, nat_tests)

one-less : (a b : ℕ) → a < b → (m : ℕ) → cond (nat_le m a) 1 0 ≤ cond (nat_lt m b) 1 0
one-less a b less m = grind (arith, nat_tests)

none-less : (m : ℕ) → ◌≡◌ {A = ℕ} (cond (nat_lt m 0) 1 0) 0
none-less m = grind (arith, nat_tests)

-- those at most n are those below it and those equal to it
pub at_most-parts : (n : ℕ) (ns : List ℕ) → at_most n ns ≡ below n ns + equal_to n ns
at_most-parts n ns =
    sum_by-both (λ m. cond (nat_le m n) 1 0) (λ m. cond (nat_lt m n) 1 0) (λ m. cond (m == n) 1 0) (one-at n) ns

-- and they are those below the next number
pub below-next : (n : ℕ) (ns : List ℕ) → below (n + 1) ns ≡ at_most n ns
below-next n ns =
    sum_by-both (λ m. cond (nat_lt m (n + 1)) 1 0) (λ m. cond (nat_lt m n) 1 0) (λ m. cond (m == n) 1 0) (one-next n) ns
    ∙ sym (at_most-parts n ns)

pub at_most-below : (a b : ℕ) (ns : List ℕ) → a < b → at_most a ns ≤ below b ns
at_most-below a b ns less = sum_by-le-sum_by (λ m. cond (nat_le m a) 1 0) (λ m. cond (nat_lt m b) 1 0) ns (one-less a b less)

pub none-below : (ns : List ℕ) → below 0 ns ≡ 0
none-below [] = refl
none-below (m ∷ ms) =
    let rest : below 0 ms ≡ 0 = none-below ms in
    let here = none-less m in
    let first : below 0 (m ∷ ms) ≡ cond (nat_lt m 0) 1 0 + below 0 ms = sum_by-cons (λ k. cond (nat_lt k 0) 1 0) m ms in
    omega arith

pub at_most-all : (n : ℕ) (ns : List ℕ) → at_most n ns ≤ length ns
at_most-all n ns = count_by-le-length (λ m. nat_le m n) ns

-- one in front of others
pub equal_to-cons : (n m : ℕ) (ms : List ℕ) → equal_to n (m ∷ ms) ≡ cond (m == n) 1 0 + equal_to n ms
equal_to-cons n m ms = sum_by-cons (λ k. cond (k == n) 1 0) m ms

pub at_most-cons : (n m : ℕ) (ms : List ℕ) → at_most n (m ∷ ms) ≡ cond (nat_le m n) 1 0 + at_most n ms
at_most-cons n m ms = sum_by-cons (λ k. cond (nat_le k n) 1 0) m ms

pub equal_to-push : (n : ℕ) (ns : List ℕ) (m : ℕ) → equal_to n (ns ++ m ∷ []) ≡ equal_to n ns + cond (m == n) 1 0
equal_to-push n ns m = sum_by_push (λ k. cond (k == n) 1 0) ns m

pub equal_to-few : (n : ℕ) (ns : List ℕ) → equal_to n ns ≤ length ns
equal_to-few n ns = count_by-le-length (λ m. m == n) ns

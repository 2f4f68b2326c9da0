-- How far a test holds of a list's elements.
use Rattle.std.proofs.Common.{◌≡◌, ℕ, zero, suc, ◌+◌, ◌<◌, ◌≤◌, List, [], ◌∷◌, ◌++◌, length, refl, ap, arith, Bool, true, false, one-add}
use Rattle.std.specs.List.{list_all, prefix_len}
use Rattle.std.proofs.lemmas.Grind.{common_steps}

-- a prefix is no longer than the list
pub prefix_within : (p : ℕ → Bool) (s : List ℕ) → prefix_len p s ≤ length s
prefix_within p [] = omega arith
prefix_within p (b ∷ s) = step (p b) refl (prefix_within p s)
  where
    step : (t : Bool) → p b ≡ t → prefix_len p s ≤ length s → prefix_len p (b ∷ s) ≤ length (b ∷ s)
    step true e k = rw e (omega (arith, k))
    step false e k = rw e (omega arith)

-- a test that holds of all has all as its prefix
pub prefix_all : (p : ℕ → Bool) (s : List ℕ) → list_all p s ≡ true → prefix_len p s ≡ length s
prefix_all p [] h = refl
prefix_all p (b ∷ s) h =
    let first : p b ≡ true = grind (arith, common_steps) in
    let more : list_all p s ≡ true = grind (arith, common_steps) in
    let rest : prefix_len p s ≡ length s = prefix_all p s more in
    rw first (omega (arith, rest))

-- a test with all as its prefix holds of all
pub all_prefix : (p : ℕ → Bool) (s : List ℕ) → length s ≤ prefix_len p s → list_all p s ≡ true
all_prefix p [] h = refl
all_prefix p (b ∷ s) h = step (p b) refl h (λ k. all_prefix p s k)
  where
    step : (t : Bool) → p b ≡ t → length (b ∷ s) ≤ prefix_len p (b ∷ s) → (length s ≤ prefix_len p s → list_all p s ≡ true) → list_all p (b ∷ s) ≡ true
    step true e k next = let more : length (b ∷ s) ≤ 1 + prefix_len p s = rw e at k in rw (e, next (omega (arith, more))) refl
    step false e k next = let none : length (b ∷ s) ≤ 0 = rw e at k in absurd (omega (arith, none))

-- a list cut at an element of which the test is true or not, with a front of which it is
pub record IsCut (p : ℕ → Bool) (s : List ℕ) (n : ℕ) (t : Bool) : Type 0 where
  pub good : List ℕ
  pub b : ℕ
  pub more : List ℕ
  pub cut : s ≡ good ++ b ∷ more
  pub all : list_all p good ≡ true
  pub test : p b ≡ t
  pub size : length good ≡ n

-- a cut further on
further : (p : ℕ → Bool) (b : ℕ) (s : List ℕ) (n : ℕ) (t : Bool) → p b ≡ true → IsCut p s n t → IsCut p (b ∷ s) (suc n) t
further p b s n t e c = record {
  good = b ∷ c.good;
  b = c.b;
  more = c.more;
  cut = ap (λ v. b ∷ v) c.cut;
  all = rw e c.all;
  test = c.test;
  size = ap suc c.size;
}

-- the element after a prefix that is not all
pub cut_after : (p : ℕ → Bool) (s : List ℕ) → prefix_len p s < length s → IsCut p s (prefix_len p s) false
cut_after p [] h = absurd (omega arith)
cut_after p (b ∷ s) h = step (p b) refl h (λ k. cut_after p s k)
  where
    step : (t : Bool) → p b ≡ t → prefix_len p (b ∷ s) < length (b ∷ s) → (prefix_len p s < length s → IsCut p s (prefix_len p s) false) → IsCut p (b ∷ s) (prefix_len p (b ∷ s)) false
    step true e k next =
        let less : 1 + prefix_len p s < length (b ∷ s) = rw e at k in
        rw (e, one-add) (further p b s (prefix_len p s) false e (next (omega (arith, less))))
    step false e k next = rw e (record { good = []; b = b; more = s; cut = refl; all = refl; test = e; size = refl })

-- an element within the prefix
pub cut_within : (p : ℕ → Bool) (s : List ℕ) (n : ℕ) → n < prefix_len p s → IsCut p s n true
cut_within p [] n h = absurd (omega arith)
cut_within p (b ∷ s) zero h = step (p b) refl h
  where
    step : (t : Bool) → p b ≡ t → 0 < prefix_len p (b ∷ s) → IsCut p (b ∷ s) 0 true
    step true e k = record { good = []; b = b; more = s; cut = refl; all = refl; test = e; size = refl }
    step false e k = let none : 0 < 0 = rw e at k in absurd (omega (arith, none))
cut_within p (b ∷ s) (suc n) h = step (p b) refl h (λ k. cut_within p s n k)
  where
    step : (t : Bool) → p b ≡ t → suc n < prefix_len p (b ∷ s) → (n < prefix_len p s → IsCut p s n true) → IsCut p (b ∷ s) (suc n) true
    step true e k next = let less : suc n < 1 + prefix_len p s = rw e at k in further p b s n true e (next (omega (arith, less)))
    step false e k next = let none : suc n < 0 = rw e at k in absurd (omega (arith, none))

-- where a list is cut at an element of which the test is not true, that is the prefix's end
pub prefix_to_cut : (p : ℕ → Bool) (good : List ℕ) (b : ℕ) (more : List ℕ) → list_all p good ≡ true → p b ≡ false → prefix_len p (good ++ b ∷ more) ≡ length good
prefix_to_cut p [] b more h e = rw e refl
prefix_to_cut p (g ∷ good) b more h e =
    let first : p g ≡ true = grind (arith, common_steps) in
    let rest : list_all p good ≡ true = grind (arith, common_steps) in
    let k : prefix_len p (good ++ b ∷ more) ≡ length good = prefix_to_cut p good b more rest e in
    rw first (omega (arith, k))

-- where a list is cut at an element of which the test is true, the prefix goes past it
pub prefix_past_cut : (p : ℕ → Bool) (good : List ℕ) (b : ℕ) (more : List ℕ) → list_all p good ≡ true → p b ≡ true → length good < prefix_len p (good ++ b ∷ more)
prefix_past_cut p [] b more h e = rw e (omega arith)
prefix_past_cut p (g ∷ good) b more h e =
    let first : p g ≡ true = grind (arith, common_steps) in
    let rest : list_all p good ≡ true = grind (arith, common_steps) in
    let k : length good < prefix_len p (good ++ b ∷ more) = prefix_past_cut p good b more rest e in
    rw first (omega (arith, k))

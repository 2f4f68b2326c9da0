-- The middle of lengths: the first number that at least half of them do not exceed.
use Rattle.std.proofs.Common.{◌≡◌, ℕ, zero, suc, ◌+◌, ◌-◌, ◌*◌, ◌<◌, ◌≤◌, Bool, true, false, cond, min, max, List, [], ◌∷◌, length, get_or, Option, Some, None, if◌then◌else◌, ◌⊎◌, inl, inr, refl, sym, ap, ◌∙◌, arith}
use Rattle.std.specs.Prelude.{◌==◌, ◌^◌, nat_le, nat_lt}
use Rattle.std.specs.List.{filter}
use Rattle.std.proofs.lemmas.Bool.{le-leb, le-ltb, leb-false, leb-true, lt-ltb}
use Rattle.std.proofs.lemmas.Bool.Decides.{nat_tests}
use Rattle.pr_decode.specs.Readings.{greatest, least}
use Rattle.pr_report.specs.ReadingLaws.{MiddlesAreLeast}
use Rattle.pr_report.specs.Steps.{first_half}
use Rattle.pr_report.specs.Summary.{at_most, is_half, least_of, middle}
use Rattle.pr_report.specs.Taking.{equal_to}
use Rattle.pr_report.proofs.Sums.{at_most-all, at_most-below, at_most-cons, at_most-parts, below, below-next, equal_to-cons, none-below}

-- nothing that passes is below v
abbrev IsAbove : (p : ℕ → Bool) (v : ℕ) → Type 0
IsAbove p v = (k : ℕ) → p k ≡ true → v ≤ k

-- one of two numbers is v, so their minimum is
min-there : (v n m e : ℕ) → v ≤ n → v ≤ m → 0 < cond (n == v) 1 0 + (cond (m == v) 1 0 + e) → 0 < cond (min n m == v) 1 0 + e
min-there v n m e at_n at_m some = grind (arith, nat_tests)

-- a number that does not pass is not v
not-there : (p : ℕ → Bool) (v m : ℕ) → p m ≡ false → p v ≡ true → ◌≡◌ {A = ℕ} (cond (m == v) 1 0) 0
not-there p v m fails passes = grind (arith, nat_tests)

-- the least of those that pass is v, where v is among them and nothing that passes is below it
least-step : (p : ℕ → Bool) (v n m : ℕ) (ms : List ℕ) (b : Bool) → p m ≡ b → IsAbove p v → p v ≡ true → v ≤ n
    → 0 < cond (n == v) 1 0 + (cond (m == v) 1 0 + equal_to v ms)
    → ((k : ℕ) → v ≤ k → 0 < cond (k == v) 1 0 + equal_to v ms → least k (filter p ms) ≡ v)
    → least n (cond b (m ∷ filter p ms) (filter p ms)) ≡ v
least-step p v n m ms true e above passes low some rest =
    let at_m : v ≤ m = above m e in
    let at_min : v ≤ min n m = omega arith in
    rest (min n m) at_min (min-there v n m (equal_to v ms) low at_m some)
least-step p v n m ms false e above passes low some rest =
    let apart = not-there p v m e passes in
    rest n low (omega arith)

last-there : (n v : ℕ) → 0 < cond (n == v) 1 0 + 0 → n ≡ v
last-there n v some = grind (arith, nat_tests)

least-passing : (p : ℕ → Bool) (v n : ℕ) (ns : List ℕ) → IsAbove p v → p v ≡ true → v ≤ n → 0 < cond (n == v) 1 0 + equal_to v ns
    → least n (filter p ns) ≡ v
least-passing p v n [] above passes low some = last-there n v some
least-passing p v n (m ∷ ms) above passes low some =
    let parts : equal_to v (m ∷ ms) ≡ cond (m == v) 1 0 + equal_to v ms = equal_to-cons v m ms in
    least-step p v n m ms (p m) refl above passes low (omega arith) (λ k at_k there. least-passing p v k ms above passes at_k there)

least_of-step : (p : ℕ → Bool) (v m : ℕ) (ms : List ℕ) (b : Bool) → p m ≡ b → IsAbove p v → p v ≡ true
    → 0 < cond (m == v) 1 0 + equal_to v ms
    → (0 < equal_to v ms → least_of (filter p ms) ≡ v)
    → least_of (cond b (m ∷ filter p ms) (filter p ms)) ≡ v
least_of-step p v m ms true e above passes some rest = least-passing p v m ms above passes (above m e) some
least_of-step p v m ms false e above passes some rest =
    let apart = not-there p v m e passes in
    rest (omega arith)

least_of-passing : (p : ℕ → Bool) (v : ℕ) (ns : List ℕ) → IsAbove p v → p v ≡ true → 0 < equal_to v ns → least_of (filter p ns) ≡ v
least_of-passing p v [] above passes some =
    let none : equal_to v [] ≡ 0 = refl in
    absurd (omega arith)
least_of-passing p v (m ∷ ms) above passes some =
    let parts : equal_to v (m ∷ ms) ≡ cond (m == v) 1 0 + equal_to v ms = equal_to-cons v m ms in
    least_of-step p v m ms (p m) refl above passes (omega arith) (λ there. least_of-passing p v ms above passes there)

-- the least of those that pass is not below v, where some pass and none of them is below it
above-step : (p : ℕ → Bool) (v n m : ℕ) (ms : List ℕ) (b : Bool) → p m ≡ b → IsAbove p v → v ≤ n
    → ((k : ℕ) → v ≤ k → v ≤ least k (filter p ms))
    → v ≤ least n (cond b (m ∷ filter p ms) (filter p ms))
above-step p v n m ms true e above low rest =
    let at_m : v ≤ m = above m e in
    rest (min n m) (omega arith)
above-step p v n m ms false e above low rest = rest n low

least-above : (p : ℕ → Bool) (v n : ℕ) (ns : List ℕ) → IsAbove p v → v ≤ n → v ≤ least n (filter p ns)
least-above p v n [] above low = low
least-above p v n (m ∷ ms) above low = above-step p v n m ms (p m) refl above low (λ k at_k. least-above p v k ms above at_k)

least_of-above-step : (p : ℕ → Bool) (v g m : ℕ) (ms : List ℕ) (b : Bool) → p m ≡ b → IsAbove p v → p g ≡ true
    → 0 < cond (m == g) 1 0 + equal_to g ms
    → (0 < equal_to g ms → v ≤ least_of (filter p ms))
    → v ≤ least_of (cond b (m ∷ filter p ms) (filter p ms))
least_of-above-step p v g m ms true e above passes some rest = least-above p v m ms above (above m e)
least_of-above-step p v g m ms false e above passes some rest =
    let apart = not-there p g m e passes in
    rest (omega arith)

least_of-above : (p : ℕ → Bool) (v g : ℕ) (ns : List ℕ) → IsAbove p v → p g ≡ true → 0 < equal_to g ns → v ≤ least_of (filter p ns)
least_of-above p v g [] above passes some =
    let none : equal_to g [] ≡ 0 = refl in
    absurd (omega arith)
least_of-above p v g (m ∷ ms) above passes some =
    let parts : equal_to g (m ∷ ms) ≡ cond (m == g) 1 0 + equal_to g ms = equal_to-cons g m ms in
    least_of-above-step p v g m ms (p m) refl above passes (omega arith) (λ there. least_of-above p v g ms above passes there)

-- the greatest is among them, and none exceeds it
greatest-above : (n : ℕ) (ns : List ℕ) → n ≤ greatest n ns
greatest-above n [] = omega arith
greatest-above n (m ∷ ms) =
    let rest : max n m ≤ greatest (max n m) ms = greatest-above (max n m) ms in
    omega arith

one-within : (m g : ℕ) → m ≤ g → ◌≡◌ {A = ℕ} (cond (nat_le m g) 1 0) 1
one-within m g within = grind (arith, nat_tests)

greatest-all : (n : ℕ) (ns : List ℕ) → at_most (greatest n ns) ns ≡ length ns
greatest-all n [] = refl
greatest-all n (m ∷ ms) =
    let g : ℕ = greatest (max n m) ms in
    let rest : at_most g ms ≡ length ms = greatest-all (max n m) ms in
    let above : max n m ≤ g = greatest-above (max n m) ms in
    let within : m ≤ g = omega arith in
    let here = one-within m g within in
    let parts : at_most g (m ∷ ms) ≡ cond (nat_le m g) 1 0 + at_most g ms = at_most-cons g m ms in
    omega arith

max-there : (g n m e : ℕ) → 0 < cond (max n m == g) 1 0 + e → 0 < cond (n == g) 1 0 + (cond (m == g) 1 0 + e)
max-there g n m e some = grind (arith, nat_tests)

one-same : (n : ℕ) → 0 < cond (n == n) 1 0 + 0
one-same n = grind (arith, nat_tests)

greatest-there : (n : ℕ) (ns : List ℕ) → 0 < cond (n == greatest n ns) 1 0 + equal_to (greatest n ns) ns
greatest-there n [] = one-same n
greatest-there n (m ∷ ms) =
    let g : ℕ = greatest (max n m) ms in
    let rest : 0 < cond (max n m == g) 1 0 + equal_to g ms = greatest-there (max n m) ms in
    let parts : equal_to g (m ∷ ms) ≡ cond (m == g) 1 0 + equal_to g ms = equal_to-cons g m ms in
    let both : 0 < cond (n == g) 1 0 + (cond (m == g) 1 0 + equal_to g ms) = max-there g n m (equal_to g ms) rest in
    omega arith

-- nothing below v is passed by half, where those below v are less than half
half-less : (ns : List ℕ) (v k : ℕ) → 2 * below v ns < length ns → length ns ≤ 2 * at_most k ns → k < v → v ≤ k
half-less ns v k few enough less =
    let up : at_most k ns ≤ below v ns = at_most-below k v ns less in
    omega arith

half-above : (ns : List ℕ) (v : ℕ) → 2 * below v ns < length ns → IsAbove (is_half ns) v
half-above ns v few k half =
    let enough : length ns ≤ 2 * at_most k ns = leb-true (length ns) (2 * at_most k ns) half in
    let either : (v ≤ k) ⊎ (k < v) = grind arith in
    elim either [ inl at_least ↦ at_least | inr less ↦ half-less ns v k few enough less ]

-- all do not exceed the greatest
greatest-half : (n : ℕ) (ns : List ℕ) → is_half (n ∷ ns) (greatest n ns) ≡ true
greatest-half n ns =
    let g : ℕ = greatest n ns in
    let all : at_most g ns ≡ length ns = greatest-all n ns in
    let above : n ≤ g = greatest-above n ns in
    let here = one-within n g above in
    let parts : at_most g (n ∷ ns) ≡ cond (nat_le n g) 1 0 + at_most g ns = at_most-cons g n ns in
    le-leb (length (n ∷ ns)) (2 * at_most g (n ∷ ns)) (omega arith)

-- so the middle is not below v
middle-above : (ns : List ℕ) (v : ℕ) → 2 * below v ns < length ns → v ≤ middle ns
unfolding middle
middle-above [] v few = absurd (omega arith)
middle-above (n ∷ ns) v few =
    let g : ℕ = greatest n ns in
    let there : 0 < cond (n == g) 1 0 + equal_to g ns = greatest-there n ns in
    let some : equal_to g (n ∷ ns) ≡ cond (n == g) 1 0 + equal_to g ns = equal_to-cons g n ns in
    least_of-above (is_half (n ∷ ns)) v g (n ∷ ns) (half-above (n ∷ ns) v few) (greatest-half n ns) (omega arith)

-- and it is v, where those at most v are half
middle-is : (ns : List ℕ) (v : ℕ) → 2 * below v ns < length ns → length ns ≤ 2 * at_most v ns → middle ns ≡ v
unfolding middle
middle-is ns v few enough =
    let parts : at_most v ns ≡ below v ns + equal_to v ns = at_most-parts v ns in
    least_of-passing (is_half ns) v ns (half-above ns v few) (le-leb (length ns) (2 * at_most v ns) enough) (omega arith)

-- a number, if it is below a bound
abbrev pub told_below : (bound : ℕ) → ℕ → Option ℕ
told_below bound n = if nat_lt n bound then Some n else None

told-within : (bound n : ℕ) → n < bound → Some n ≡ told_below bound n
told-within bound n less = ap (λ b. if b then Some n else None) (sym (lt-ltb n bound less))

told-above : (bound n : ℕ) → bound ≤ n → None ≡ told_below bound n
told-above bound n more = ap (λ b. if b then Some n else None) (sym (le-ltb n bound more))

-- what the counters say from v on
half-step : (ns cs : List ℕ) (a v bound : ℕ) (b : Bool) → nat_le (length ns - a) a ≡ b → a ≡ at_most v ns → 2 * below v ns < length ns
    → v < bound → (2 * a < length ns → first_half (length ns) a (v + 1) cs ≡ told_below bound (middle ns))
    → (if b then Some v else first_half (length ns) a (v + 1) cs) ≡ told_below bound (middle ns)
half-step ns cs a v bound true test same few less rest =
    let half : length ns - a ≤ a = leb-true (length ns - a) a test in
    let found : middle ns ≡ v = middle-is ns v few (omega arith) in
    told-within bound v less ∙ ap (told_below bound) (sym found)
half-step ns cs a v bound false test same few less rest =
    let more : a < length ns - a = leb-false (length ns - a) a test in
    rest (omega arith)

shifted : (v k : ℕ) → v + suc k ≡ v + 1 + k
shifted v k = omega arith

pub half-found : (ns cs : List ℕ) (s v : ℕ) → length ns < 2 ^ 64 → s ≡ below v ns → 2 * below v ns < length ns
    → ((k : ℕ) → k < length cs → get_or cs k 0 ≡ equal_to (v + k) ns)
    → first_half (length ns) s v cs ≡ told_below (v + length cs) (middle ns)
half-found ns [] s v small same few each =
    let above : v ≤ middle ns = middle-above ns v few in
    told-above (v + 0) (middle ns) (omega arith)
half-found ns (c ∷ cs) s v small same few each =
    let first : c ≡ equal_to (v + 0) ns = each 0 (omega arith) in
    let zero_more : v + 0 ≡ v = omega arith in
    let here : c ≡ equal_to v ns = first ∙ ap (λ n. equal_to n ns) zero_more in
    let parts : at_most v ns ≡ below v ns + equal_to v ns = at_most-parts v ns in
    let within : at_most v ns ≤ length ns = at_most-all v ns in
    let a : ℕ = min (s + c) (2 ^ 64 - 1) in
    let sum : min (s + c) (2 ^ 64 - 1) ≡ at_most v ns = omega arith in
    let next : below (v + 1) ns ≡ at_most v ns = below-next v ns in
    let shift : v + 1 + length cs ≡ v + length (c ∷ cs) = omega arith in
    half-step ns cs a v (v + length (c ∷ cs)) (nat_le (length ns - a) a) refl sum few (omega arith)
    (λ more. half-found ns cs a (v + 1) small (sum ∙ sym next) (omega arith)
    (λ k less. each (suc k) (omega arith) ∙ ap (λ n. equal_to n ns) (shifted v k))
    ∙ ap (λ n. told_below n (middle ns)) shift)

half-from-step : (n : ℕ) (ns : List ℕ) (k : ℕ) (b : Bool) → is_half (n ∷ ns) k ≡ b → is_half (n ∷ ns) (suc k) ≡ true
    → (is_half (n ∷ ns) k ≡ true → (is_half (n ∷ ns) (middle (n ∷ ns)) ≡ true) × (middle (n ∷ ns) ≤ k))
    → (is_half (n ∷ ns) (middle (n ∷ ns)) ≡ true) × (middle (n ∷ ns) ≤ suc k)
half-from-step n ns k true e half rest =
    let found = rest e in
    let within : middle (n ∷ ns) ≤ k = found.1 in
    (found.0, omega arith)
half-from-step n ns k false e half rest =
    let few : 2 * at_most k (n ∷ ns) < length (n ∷ ns) = leb-false (length (n ∷ ns)) (2 * at_most k (n ∷ ns)) e in
    let next : below (k + 1) (n ∷ ns) ≡ at_most k (n ∷ ns) = below-next k (n ∷ ns) in
    let one : k + 1 ≡ suc k = omega arith in
    let same : below (suc k) (n ∷ ns) ≡ at_most k (n ∷ ns) = ap (λ m. below m (n ∷ ns)) (sym one) ∙ next in
    let enough : length (n ∷ ns) ≤ 2 * at_most (suc k) (n ∷ ns) =
    leb-true (length (n ∷ ns)) (2 * at_most (suc k) (n ∷ ns)) half in
    let found : middle (n ∷ ns) ≡ suc k = middle-is (n ∷ ns) (suc k) (omega arith) enough in
    (ap (is_half (n ∷ ns)) found ∙ half, omega arith)

-- a number that at least half do not exceed is not below the middle, and the middle is one
half-from : (n : ℕ) (ns : List ℕ) (k : ℕ) → is_half (n ∷ ns) k ≡ true
    → (is_half (n ∷ ns) (middle (n ∷ ns)) ≡ true) × (middle (n ∷ ns) ≤ k)
half-from n ns zero half =
    let none : below 0 (n ∷ ns) ≡ 0 = none-below (n ∷ ns) in
    let enough : length (n ∷ ns) ≤ 2 * at_most 0 (n ∷ ns) = leb-true (length (n ∷ ns)) (2 * at_most 0 (n ∷ ns)) half in
    let found : middle (n ∷ ns) ≡ 0 = middle-is (n ∷ ns) 0 (omega arith) enough in
    (ap (is_half (n ∷ ns)) found ∙ half, omega arith)
half-from n ns (suc k) half = half-from-step n ns k (is_half (n ∷ ns) k) refl half (half-from n ns k)

pub middle-least : MiddlesAreLeast
middle-least n ns =
    ((half-from n ns (greatest n ns) (greatest-half n ns)).0, λ k half. (half-from n ns k half).1)

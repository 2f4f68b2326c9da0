-- What two devices do to one line together.
use Rattle.std.proofs.Common.{◌≡◌, ℕ, ◌+◌, ◌<◌, ◌≤◌, nat_lt, min, max, Bool, true, false, not, ◌&&◌, ◌||◌, Some, None}
use Rattle.std.proofs.Common.{if◌then◌else◌, refl, sym, ap, ◌∙◌, arith, ltb-true, ltb-false, le-ltb, lt-ltb, ◌⊎◌, inl}
use Rattle.std.proofs.Common.{inr}
use Rattle.pr_device.specs.declared.place.Place.{Place}
use Rattle.pr_device.specs.declared.place.Place.TheVariants.{Between, Sent, Opening}
use Rattle.pr_device.specs.declared.timing.Timing.{Timing}
use Rattle.pr_device.specs.Data.{Standing, pulls, pulls_at, calls, leaves, is_away}
use Rattle.pr_device.specs.Laws.{PairsShareTheLine}
use Rattle.pr_device.proofs.Tests.{or-left, or-right}
use Rattle.pr_device.proofs.Delays.{near}
use Rattle.pr_device.proofs.Stepping.{left-true, right-true}
use Rattle.pr_device.proofs.Walking.{chosen}

-- two tests that hold together are one
pub same-tests : (a b : Bool) → (a ≡ true → b ≡ true) → (b ≡ true → a ≡ true) → a ≡ b
same-tests true b h k = sym (h refl)
same-tests false true h k = k refl
same-tests false false h k = refl

pub not-lt : (n m : ℕ) → m ≤ n → not (nat_lt n m) ≡ true
not-lt n m h = ap not (le-ltb n m h)

pub lt-not : (n m : ℕ) → not (nat_lt n m) ≡ true → m ≤ n
lt-not n m h = by (nat_lt n m) refl h
  where
    by : (b : Bool) → nat_lt n m ≡ b → not b ≡ true → m ≤ n
    by false k i = ltb-false n m k
    by true k i = absurd (let j : false ≡ true = i in cc)

pub both-hold : (a b : Bool) → a ≡ true → b ≡ true → (a && b) ≡ true
both-hold true b h k = k
both-hold false b h k = absurd (let i : false ≡ true = h in cc)

-- one of two tests holds
abbrev pub OneHolds : Bool → Bool → Type 0
OneHolds a b = (a ≡ true) ⊎ (b ≡ true)

pub one-holds : (a b : Bool) → (a || b) ≡ true → OneHolds a b
one-holds true b h = inl refl
one-holds false b h = inr h

-- two numbers in order
pub either-order : (a b : ℕ) → (a ≤ b) ⊎ (b < a)
either-order a b = by (nat_lt b a) refl
  where
    by : (x : Bool) → nat_lt b a ≡ x → (a ≤ b) ⊎ (b < a)
    by true h = inr (ltb-true b a h)
    by false h = inl (ltb-false b a h)

-- released with the last
pub last-releases : (n m a b : ℕ) → (nat_lt n (m + a) || nat_lt n (m + b)) ≡ nat_lt n (m + max a b)
last-releases n m a b = same-tests (nat_lt n (m + a) || nat_lt n (m + b)) (nat_lt n (m + max a b)) to from
  where
    by : OneHolds (nat_lt n (m + a)) (nat_lt n (m + b)) → nat_lt n (m + max a b) ≡ true
    by (inl h) = let k : n < m + a = ltb-true n (m + a) h in lt-ltb n (m + max a b) (omega arith)
    by (inr h) = let k : n < m + b = ltb-true n (m + b) h in lt-ltb n (m + max a b) (omega arith)

    to : (nat_lt n (m + a) || nat_lt n (m + b)) ≡ true → nat_lt n (m + max a b) ≡ true
    to h = by (one-holds (nat_lt n (m + a)) (nat_lt n (m + b)) h)

    which : n < m + max a b → (a ≤ b) ⊎ (b < a) → (nat_lt n (m + a) || nat_lt n (m + b)) ≡ true
    which k (inl h) = or-right (nat_lt n (m + a)) (nat_lt n (m + b)) (lt-ltb n (m + b) (omega arith))
    which k (inr h) = or-left (nat_lt n (m + a)) (nat_lt n (m + b)) (lt-ltb n (m + a) (omega arith))

    from : nat_lt n (m + max a b) ≡ true → (nat_lt n (m + a) || nat_lt n (m + b)) ≡ true
    from h = which (ltb-true n (m + max a b) h) (either-order a b)

-- pulled with the first
pub first-pulls : (n m a b : ℕ) → (not (nat_lt n (m + a)) || not (nat_lt n (m + b))) ≡ not (nat_lt n (m + min a b))
first-pulls n m a b =
    same-tests (not (nat_lt n (m + a)) || not (nat_lt n (m + b))) (not (nat_lt n (m + min a b))) to from
  where
    by : OneHolds (not (nat_lt n (m + a))) (not (nat_lt n (m + b))) → not (nat_lt n (m + min a b)) ≡ true
    by (inl h) = let k : m + a ≤ n = lt-not n (m + a) h in not-lt n (m + min a b) (omega arith)
    by (inr h) = let k : m + b ≤ n = lt-not n (m + b) h in not-lt n (m + min a b) (omega arith)

    to : (not (nat_lt n (m + a)) || not (nat_lt n (m + b))) ≡ true → not (nat_lt n (m + min a b)) ≡ true
    to h = by (one-holds (not (nat_lt n (m + a))) (not (nat_lt n (m + b))) h)

    which : m + min a b ≤ n → (a ≤ b) ⊎ (b < a) → (not (nat_lt n (m + a)) || not (nat_lt n (m + b))) ≡ true
    which k (inl h) = or-left (not (nat_lt n (m + a))) (not (nat_lt n (m + b))) (not-lt n (m + a) (omega arith))
    which k (inr h) = or-right (not (nat_lt n (m + a))) (not (nat_lt n (m + b))) (not-lt n (m + b) (omega arith))

    from : not (nat_lt n (m + min a b)) ≡ true → (not (nat_lt n (m + a)) || not (nat_lt n (m + b))) ≡ true
    from h = which (lt-not n (m + min a b) h) (either-order a b)

-- a moment in an answer
abbrev pub is_in : ℕ → ℕ → ℕ → Bool
is_in n from to = not (nat_lt n from) && nat_lt n to

pub in-from : (n p q : ℕ) → is_in n p q ≡ true → p ≤ n
in-from n p q h = lt-not n p (left-true (not (nat_lt n p)) (nat_lt n q) h)

pub in-to : (n p q : ℕ) → is_in n p q ≡ true → n < q
in-to n p q h = ltb-true n q (right-true (not (nat_lt n p)) (nat_lt n q) h)

pub is-in : (n p q : ℕ) → p ≤ n → n < q → is_in n p q ≡ true
is-in n p q h k = both-hold (not (nat_lt n p)) (nat_lt n q) (not-lt n p h) (lt-ltb n q k)

-- two answers that overlap are one
answers-meet : (n m a b c d : ℕ) → a < b + d → b < a + c
    → (is_in n (m + a) (m + a + c) || is_in n (m + b) (m + b + d)) ≡ is_in n (m + min a b) (m + max (a + c) (b + d))
answers-meet n m a b c d i j =
    same-tests (is_in n (m + a) (m + a + c) || is_in n (m + b) (m + b + d))
    (is_in n (m + min a b) (m + max (a + c) (b + d))) to from
  where
    by : OneHolds (is_in n (m + a) (m + a + c)) (is_in n (m + b) (m + b + d))
        → is_in n (m + min a b) (m + max (a + c) (b + d)) ≡ true
    by (inl h) =
        let k : m + a ≤ n = in-from n (m + a) (m + a + c) h in
        let l : n < m + a + c = in-to n (m + a) (m + a + c) h in
        is-in n (m + min a b) (m + max (a + c) (b + d)) (omega arith) (omega arith)
    by (inr h) =
        let k : m + b ≤ n = in-from n (m + b) (m + b + d) h in
        let l : n < m + b + d = in-to n (m + b) (m + b + d) h in
        is-in n (m + min a b) (m + max (a + c) (b + d)) (omega arith) (omega arith)

    to : (is_in n (m + a) (m + a + c) || is_in n (m + b) (m + b + d)) ≡ true
        → is_in n (m + min a b) (m + max (a + c) (b + d)) ≡ true
    to h = by (one-holds (is_in n (m + a) (m + a + c)) (is_in n (m + b) (m + b + d)) h)

    one : m + a ≤ n → n < m + a + c → (is_in n (m + a) (m + a + c) || is_in n (m + b) (m + b + d)) ≡ true
    one k l = or-left (is_in n (m + a) (m + a + c)) (is_in n (m + b) (m + b + d)) (is-in n (m + a) (m + a + c) k l)

    other : m + b ≤ n → n < m + b + d → (is_in n (m + a) (m + a + c) || is_in n (m + b) (m + b + d)) ≡ true
    other k l = or-right (is_in n (m + a) (m + a + c)) (is_in n (m + b) (m + b + d)) (is-in n (m + b) (m + b + d) k l)

    which : m + min a b ≤ n → n < m + max (a + c) (b + d) → (m + a ≤ n) ⊎ (n < m + a) → (m + b ≤ n) ⊎ (n < m + b)
        → (m + a + c ≤ n) ⊎ (n < m + a + c)
        → (is_in n (m + a) (m + a + c) || is_in n (m + b) (m + b + d)) ≡ true
    which k l (inl x) y (inr z) = one x z
    which k l (inl x) (inl y) (inl z) = other y (omega arith)
    which k l (inl x) (inr y) (inl z) = absurd (omega arith)
    which k l (inr x) (inl y) z = other y (omega arith)
    which k l (inr x) (inr y) z = absurd (omega arith)

    from : is_in n (m + min a b) (m + max (a + c) (b + d)) ≡ true
        → (is_in n (m + a) (m + a + c) || is_in n (m + b) (m + b + d)) ≡ true
    from h =
        which (in-from n (m + min a b) (m + max (a + c) (b + d)) h) (in-to n (m + min a b) (m + max (a + c) (b + d)) h)
        (either-order (m + a) n) (either-order (m + b) n) (either-order (m + a + c) n)

-- the rules of two devices at a place
both-near : (t u : Timing) (before : Bool) (s : Standing) (now : ℕ) (p : Place) → is_away s ≡ false → s.place ≡ p
    → (pulls t 0 before s now || pulls u 0 before s now) ≡ (pulls_at t 0 before s p now || pulls_at u 0 before s p now)
both-near t u before s now p a e =
    ap (λ v. v || pulls u 0 before s now) (near t 0 before s now p a e)
    ∙ ap (λ v. pulls_at t 0 before s p now || v) (near u 0 before s now p a e)

-- a greatest of a number and 0
pub or-zero : (n : ℕ) → max n 0 ≡ n
or-zero n = omega arith

pub pairs-share : PairsShareTheLine
pairs-share t u s now w v = record {
  called = λ since a x e k.
      let one : (r : Timing) → pulls_at r 0 false s Between now ≡ not (nat_lt now (since + r.attention)) =
      λ (r : Timing). ap (λ b. if b then not s.clock else calls r false s.since now) x
      ∙ ap (λ o. calls r false o now) k in
      both-near t u false s now Between a e
      ∙ (ap (λ b. b || pulls_at u 0 false s Between now) (one t)
      ∙ (ap (λ b. not (nat_lt now (since + t.attention)) || b) (one u)
      ∙ first-pulls now since t.attention u.attention));
  held = λ look eoi a e.
      both-near t u true s now (Opening look None eoi) a e
      ∙ (ap (λ m. nat_lt now m || nat_lt now (max (look + u.hold) 0)) (or-zero (look + t.hold))
      ∙ (ap (λ m. nat_lt now (look + t.hold) || nat_lt now m) (or-zero (look + u.hold))
      ∙ last-releases now look t.hold u.hold));
  answered = λ look free eoi before a x e.
      let t1 : 200 ≤ t.wait = w.wait.from in
      let t2 : t.wait ≤ 250 = w.wait.to in
      let t3 : 80 ≤ t.answer = w.answer.from in
      let u1 : 200 ≤ u.wait = v.wait.from in
      let u2 : u.wait ≤ 250 = v.wait.to in
      let u3 : 80 ≤ u.answer = v.answer.from in
      both-near t u before s now (Opening look (Some free) eoi) a e
      ∙ (ap (λ b. (b && (not (nat_lt now (free + t.wait)) && nat_lt now (free + t.wait + t.answer)))
      || (b && (not (nat_lt now (free + u.wait)) && nat_lt now (free + u.wait + u.answer)))) x
      ∙ answers-meet now free t.wait u.wait t.answer u.answer (omega arith) (omega arith));
  accepted = λ pull a e. both-near t u false s now (Sent pull) a e ∙ first-pulls now pull t.accept u.accept;
  left = λ since a k.
      let one : (r : Timing) → pulls r 0 true s now ≡ nat_lt now (since + r.leave) =
      λ (r : Timing). chosen (is_away s) (leaves r true s.since now) (pulls_at r 0 true s s.place now) a
      ∙ ap (λ o. leaves r true o now) k in
      ap (λ b. b || pulls u 0 true s now) (one t)
      ∙ (ap (λ b. nat_lt now (since + t.leave) || b) (one u) ∙ last-releases now since t.leave u.leave);
}

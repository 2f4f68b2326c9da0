-- What devices do to a line together, by what each does.
use Rattle.std.proofs.Common.{◌≡◌, ℕ, ◌+◌, ◌<◌, ◌≤◌, nat_lt, min, max, Bool, true, false, not, ◌&&◌, ◌||◌, List, []}
use Rattle.std.proofs.Common.{◌∷◌, map, if◌then◌else◌, refl, ap, ◌∙◌, arith, lt-ltb, ◌⊎◌, inl, inr}
use Rattle.pr_wire.specs.declared.Edge.{Edge}
use Rattle.pr_bus.specs.Timed.{ListenerTiming, greatest, least}
use Rattle.pr_device.specs.Data.{is_away, standing}
use Rattle.pr_device.specs.Course.{Party, Each, pulling, one_pulls, heeding, hearer}
use Rattle.pr_device.specs.Timing.{IsTiming}
use Rattle.pr_device.proofs.Tests.{or-left, or-right, or-false, and-false}
use Rattle.pr_device.proofs.Pairs.{same-tests, OneHolds, one-holds, either-order, last-releases, first-pulls, is_in}
use Rattle.pr_device.proofs.Pairs.{in-from, in-to, is-in}

-- one of some devices keeps a test
abbrev pub any_by : (Party → Bool) → List Party → Bool
any_by f [] = false
any_by f (p ∷ ps) = f p || any_by f ps

-- a device heeds what is said
abbrev pub heeds : List Edge → Party → Bool
heeds h p = not (is_away (standing p.timing.wait p.device h))

-- a condition on each, from another one
pub each-map : (P Q : Party → Type 0) (ps : List Party) → ((p : Party) → P p → Q p) → Each P ps → Each Q ps
each-map P Q [] f w = tt
each-map P Q (p ∷ ps) f (a, w) = (f p a, each-map P Q ps f w)

pub each-both : (P Q : Party → Type 0) (ps : List Party) → Each P ps → Each Q ps → Each (λ (p : Party). P p × Q p) ps
each-both P Q [] u w = tt
each-both P Q (p ∷ ps) (a, u) (b, w) = ((a, b), each-both P Q ps u w)

-- what devices do together
pub one-is : (h : List Edge) (n : ℕ) (f : Party → Bool) (ps : List Party) → Each (λ (p : Party). pulling p h n ≡ f p) ps
    → one_pulls ps h n ≡ any_by f ps
one-is h n f [] w = refl
one-is h n f (p ∷ ps) (a, w) = ap (λ v. v || one_pulls ps h n) a ∙ ap (λ v. f p || v) (one-is h n f ps w)

-- only those that heed count
pub any-heeds : (h : List Edge) (f : Party → Bool) (ps : List Party)
    → any_by (λ (p : Party). heeds h p && f p) ps ≡ any_by f (heeding h ps)
any-heeds h f [] = refl
any-heeds h f (p ∷ ps) = by (is_away (standing p.timing.wait p.device h)) (any-heeds h f ps)
  where
    by : (a : Bool) → any_by (λ (q : Party). heeds h q && f q) ps ≡ any_by f (heeding h ps)
        → ((not a && f p) || any_by (λ (q : Party). heeds h q && f q) ps)
        ≡ any_by f (if a then heeding h ps else p ∷ heeding h ps)
    by true e = e
    by false e = ap (λ v. f p || v) e

-- so do those that heed
pub one-heeds : (g h : List Edge) (n : ℕ) (f : Party → Bool) (ps : List Party)
    → Each (λ (p : Party). pulling p h n ≡ (heeds g p && f p)) ps → one_pulls ps h n ≡ any_by f (heeding g ps)
one-heeds g h n f ps w = one-is h n (λ (p : Party). heeds g p && f p) ps w ∙ any-heeds g f ps

-- those that heed have what all have
pub each-heeds : (P : Party → Type 0) (h : List Edge) (ps : List Party) → Each P ps → Each P (heeding h ps)
each-heeds P h [] w = tt
each-heeds P h (p ∷ ps) (a, w) = by (is_away (standing p.timing.wait p.device h)) (each-heeds P h ps w)
  where
    by : (b : Bool) → Each P (heeding h ps) → Each P (if b then heeding h ps else p ∷ heeding h ps)
    by true e = e
    by false e = (a, e)

-- a test that nobody keeps
pub any-none : (f : Party → Bool) (ps : List Party) → Each (λ (p : Party). f p ≡ false) ps → any_by f ps ≡ false
any-none f [] w = refl
any-none f (p ∷ ps) (a, w) = ap (λ v. v || any_by f ps) a ∙ any-none f ps w

pub any-all : (f : Party → Bool) (p : Party) (ps : List Party) → f p ≡ true → any_by f (p ∷ ps) ≡ true
any-all f p ps e = ap (λ v. v || any_by f ps) e

-- released with the last of some devices
pub any-last : (F : ListenerTiming → ℕ) (H : Party → ListenerTiming) (n m : ℕ) (p : Party) (ps : List Party)
    → any_by (λ (q : Party). nat_lt n (m + F (H q))) (p ∷ ps) ≡ nat_lt n (m + greatest (map F (map H (p ∷ ps))))
any-last F H n m p [] =
    or-false (nat_lt n (m + F (H p))) ∙ ap (λ k. nat_lt n (m + k)) (let e : F (H p) ≡ max (F (H p)) 0 =
    omega arith in e)
any-last F H n m p (q ∷ ps) =
    ap (λ v. nat_lt n (m + F (H p)) || v) (any-last F H n m q ps)
    ∙ last-releases n m (F (H p)) (greatest (map F (map H (q ∷ ps))))

-- pulled with the first
pub any-first : (F : ListenerTiming → ℕ) (H : Party → ListenerTiming) (n m : ℕ) (p : Party) (ps : List Party)
    → any_by (λ (q : Party). not (nat_lt n (m + F (H q)))) (p ∷ ps)
    ≡ not (nat_lt n (m + least (map F (map H (p ∷ ps)))))
any-first F H n m p [] = or-false (not (nat_lt n (m + F (H p))))
any-first F H n m p (q ∷ ps) =
    ap (λ v. not (nat_lt n (m + F (H p))) || v) (any-first F H n m q ps)
    ∙ first-pulls n m (F (H p)) (least (map F (map H (q ∷ ps))))

-- two intervals that overlap are one
pub meet : (n m a b p q : ℕ) → a ≤ q → b ≤ p → a ≤ p → b ≤ q
    → (is_in n (m + a) (m + p) || is_in n (m + b) (m + q)) ≡ is_in n (m + min a b) (m + max p q)
meet n m a b p q i j u v =
    same-tests (is_in n (m + a) (m + p) || is_in n (m + b) (m + q)) (is_in n (m + min a b) (m + max p q)) to from
  where
    by : OneHolds (is_in n (m + a) (m + p)) (is_in n (m + b) (m + q)) → is_in n (m + min a b) (m + max p q) ≡ true
    by (inl h) =
        let k : m + a ≤ n = in-from n (m + a) (m + p) h in
        let l : n < m + p = in-to n (m + a) (m + p) h in
        is-in n (m + min a b) (m + max p q) (omega arith) (omega arith)
    by (inr h) =
        let k : m + b ≤ n = in-from n (m + b) (m + q) h in
        let l : n < m + q = in-to n (m + b) (m + q) h in
        is-in n (m + min a b) (m + max p q) (omega arith) (omega arith)

    to : (is_in n (m + a) (m + p) || is_in n (m + b) (m + q)) ≡ true → is_in n (m + min a b) (m + max p q) ≡ true
    to h = by (one-holds (is_in n (m + a) (m + p)) (is_in n (m + b) (m + q)) h)

    one : m + a ≤ n → n < m + p → (is_in n (m + a) (m + p) || is_in n (m + b) (m + q)) ≡ true
    one k l = or-left (is_in n (m + a) (m + p)) (is_in n (m + b) (m + q)) (is-in n (m + a) (m + p) k l)

    other : m + b ≤ n → n < m + q → (is_in n (m + a) (m + p) || is_in n (m + b) (m + q)) ≡ true
    other k l = or-right (is_in n (m + a) (m + p)) (is_in n (m + b) (m + q)) (is-in n (m + b) (m + q) k l)

    which : m + min a b ≤ n → n < m + max p q → (m + a ≤ n) ⊎ (n < m + a) → (m + b ≤ n) ⊎ (n < m + b)
        → (m + p ≤ n) ⊎ (n < m + p)
        → (is_in n (m + a) (m + p) || is_in n (m + b) (m + q)) ≡ true
    which k l (inl x) y (inr z) = one x z
    which k l (inl x) (inl y) (inl z) = other y (omega arith)
    which k l (inl x) (inr y) (inl z) = absurd (omega arith)
    which k l (inr x) (inl y) z = other y (omega arith)
    which k l (inr x) (inr y) z = absurd (omega arith)

    from : is_in n (m + min a b) (m + max p q) ≡ true → (is_in n (m + a) (m + p) || is_in n (m + b) (m + q)) ≡ true
    from h =
        which (in-from n (m + min a b) (m + max p q) h) (in-to n (m + min a b) (m + max p q) h)
        (either-order (m + a) n) (either-order (m + b) n) (either-order (m + p) n)

-- the delays of a device lie within their bounds
abbrev pub IsParty : Party → Type 0
IsParty p = IsTiming p.timing

-- the first answer to end-or-identify and the end of the last one
abbrev pub first_wait : List Party → ℕ
first_wait ps = least (map (λ (h : ListenerTiming). h.wait) (map (hearer true) ps))

abbrev pub last_end : List Party → ℕ
last_end ps = greatest (map (λ (h : ListenerTiming). h.wait + h.answer) (map (hearer true) ps))

pub record Spans (ps : List Party) : Type 0 where
  pub from : 200 ≤ first_wait ps
  pub to : first_wait ps ≤ 250
  pub end : 280 ≤ last_end ps

pub spans : (p : Party) (ps : List Party) → Each IsParty (p ∷ ps) → Spans (p ∷ ps)
spans p [] (t, w) =
    let a : 200 ≤ p.timing.wait = t.wait.from in
    let b : p.timing.wait ≤ 250 = t.wait.to in
    let c : 80 ≤ p.timing.answer = t.answer.from in
    record { from = a; to = b; end = omega arith }
spans p (q ∷ ps) (t, w) =
    let a : 200 ≤ p.timing.wait = t.wait.from in
    let b : p.timing.wait ≤ 250 = t.wait.to in
    let c : 80 ≤ p.timing.answer = t.answer.from in
    let s = spans q ps w in
    let d : 200 ≤ first_wait (q ∷ ps) = s.from in
    let e : first_wait (q ∷ ps) ≤ 250 = s.to in
    let f : 280 ≤ last_end (q ∷ ps) = s.end in
    record { from = omega arith; to = omega arith; end = omega arith }

-- answers are one pulse
pub any-answers : (n m : ℕ) (p : Party) (ps : List Party) → Each IsParty (p ∷ ps)
    → any_by (λ (q : Party). is_in n (m + q.timing.wait) (m + q.timing.wait + q.timing.answer)) (p ∷ ps)
    ≡ is_in n (m + first_wait (p ∷ ps)) (m + last_end (p ∷ ps))
any-answers n m p [] w =
    or-false (is_in n (m + p.timing.wait) (m + p.timing.wait + p.timing.answer))
    ∙ ap (λ k. is_in n (m + p.timing.wait) k) (let e : m + p.timing.wait + p.timing.answer
    ≡ m + max (p.timing.wait + p.timing.answer) 0 = omega arith in e)
any-answers n m p (q ∷ ps) (t, w) =
    let a : 200 ≤ p.timing.wait = t.wait.from in
    let b : p.timing.wait ≤ 250 = t.wait.to in
    let c : 80 ≤ p.timing.answer = t.answer.from in
    let s = spans q ps w in
    let d : 200 ≤ first_wait (q ∷ ps) = s.from in
    let e : first_wait (q ∷ ps) ≤ 250 = s.to in
    let f : 280 ≤ last_end (q ∷ ps) = s.end in
    let g : m + p.timing.wait + p.timing.answer ≡ m + (p.timing.wait + p.timing.answer) = omega arith in
    ap (λ v. is_in n (m + p.timing.wait) (m + p.timing.wait + p.timing.answer) || v) (any-answers n m q ps w)
    ∙ (ap (λ k. is_in n (m + p.timing.wait) k || is_in n (m + first_wait (q ∷ ps)) (m + last_end (q ∷ ps))) g
    ∙ meet n m p.timing.wait (first_wait (q ∷ ps)) (p.timing.wait + p.timing.answer) (last_end (q ∷ ps)) (omega arith)
    (omega arith) (omega arith) (omega arith))

-- nobody answers within 200 microseconds
pub none-answers : (x : Bool) (n m : ℕ) (ps : List Party) → Each IsParty ps → n < m + 200
    → any_by (λ (q : Party). x && is_in n (m + q.timing.wait) (m + q.timing.wait + q.timing.answer)) ps ≡ false
none-answers x n m ps w k =
    any-none (λ (q : Party). x && is_in n (m + q.timing.wait) (m + q.timing.wait + q.timing.answer)) ps
    (each-map IsParty (λ (q : Party). (x && is_in n (m + q.timing.wait) (m + q.timing.wait + q.timing.answer))
    ≡ false) ps one w)
  where
    one : (q : Party) → IsParty q → (x && is_in n (m + q.timing.wait) (m + q.timing.wait + q.timing.answer)) ≡ false
    one q t =
        let a : 200 ≤ q.timing.wait = t.wait.from in
        ap (λ v. x && (not v && nat_lt n (m + q.timing.wait + q.timing.answer)))
        (lt-ltb n (m + q.timing.wait) (omega arith)) ∙ and-false x false refl

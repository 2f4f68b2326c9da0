-- Each wake is the moment of the device's next act.
use Rattle.std.proofs.Common.{◌≡◌, ℕ, ◌+◌, ◌<◌, ◌≤◌, ◌==◌, nat_lt, max, Bool, true, false, not, ◌&&◌, ◌||◌, Option}
use Rattle.std.proofs.Common.{Some, None, if◌then◌else◌, refl, sym, ap, ◌∙◌, arith, ltb-false, le-ltb, lt-ltb, eqb-true}
use Rattle.std.proofs.Common.{eq-eqb, subst}
use Rattle.pr_device.specs.declared.place.Place.{Place}
use Rattle.pr_device.specs.declared.place.Place.TheVariants.{Between, Sent, Opening, Bits}
use Rattle.pr_device.specs.declared.timing.Timing.{Timing}
use Rattle.pr_device.specs.Data.{Standing, pulls_at, calls, leaves, is_away, wake_at, where_true, after_where}
use Rattle.pr_device.specs.Shown.{IsBefore}
use Rattle.pr_device.specs.Laws.{IsPast, WakesAreActs}

-- pulled from a moment on
stays-up : (h : Bool) (later m : ℕ) → (h ≡ false → later < m) → (h || not (nat_lt later m)) ≡ h
stays-up true later m k = refl
stays-up false later m k = ap not (lt-ltb later m (k refl))

-- released from a moment on
stays-down : (h : Bool) (later m : ℕ) → (h ≡ true → later < m) → (h && nat_lt later m) ≡ h
stays-down true later m k = lt-ltb later m (k refl)
stays-down false later m k = refl

before-where : (b : Bool) (m later : ℕ) → IsBefore later (where_true b m) → b ≡ true → later < m
before-where true m later h k = h
before-where false m later h k = absurd (let i : false ≡ true = k in cc)

-- two bounds of an answer, while neither is passed
answer-stays : (x : Bool) (d e now later : ℕ) → now ≤ later → d ≤ e
    → IsBefore later (if nat_lt now d then where_true x d else where_true (x && nat_lt now e) e)
    → (x && (not (nat_lt later d) && nat_lt later e)) ≡ (x && (not (nat_lt now d) && nat_lt now e))
answer-stays false d e now later i j h = refl
answer-stays true d e now later i j h = by (nat_lt now d) (nat_lt now e) refl refl h
  where
    by : (p q : Bool) → nat_lt now d ≡ p → nat_lt now e ≡ q
        → IsBefore later (if p then where_true true d else where_true (true && q) e)
        → (not (nat_lt later d) && nat_lt later e) ≡ (not p && q)
    by true q a b k = ap (λ v. not v && nat_lt later e) (lt-ltb later d k)
    by false true a b k =
        let n : d ≤ now = ltb-false now d a in
        ap (λ v. not v && nat_lt later e) (le-ltb later d (omega arith)) ∙ lt-ltb later e k
    by false false a b k =
        let n : d ≤ now = ltb-false now d a in
        let m : e ≤ now = ltb-false now e b in
        ap (λ v. not v && nat_lt later e) (le-ltb later d (omega arith)) ∙ le-ltb later e (omega arith)

after-is : (b : Bool) (a d : ℕ) → after_where b (Some a) d ≡ where_true b (a + d)
after-is true a d = refl
after-is false a d = refl

before-after : (b : Bool) (a d later : ℕ) → IsBefore later (after_where b (Some a) d) → b ≡ true → later < a + d
before-after b a d later h k = before-where b (a + d) later (subst (IsBefore later) (after-is b a d) h) k

-- between two bytes
between-stays : (t : Timing) (before clock atn : Bool) (since : Option ℕ) (now later : ℕ)
    → IsBefore later (after_where (not atn && not (if atn then not clock else calls t before since now)) since
    t.attention)
    → (if atn then not clock else calls t (if atn then not clock else calls t before since now) since later)
    ≡ (if atn then not clock else calls t before since now)
between-stays t before clock true since now later h = refl
between-stays t before clock false None now later h = refl
between-stays t before clock false (Some a) now later h =
    let held : Bool = before || not (nat_lt now (a + t.attention)) in
    stays-up held later (a + t.attention) (λ k. before-after (not held) a t.attention later h (ap not k))

-- before a byte
last-false : (a b x : Bool) → ((a || b) && x) ≡ false → b ≡ true → x ≡ false
last-false true b x h k = h
last-false false true x h k = h
last-false false false x h k = absurd (let i : false ≡ true = k in cc)

open-stays : (before h : Bool) (look m now later : ℕ) → ((before || now == look) && nat_lt now m) ≡ h → look ≤ now
    → now ≤ later → IsBefore later (where_true h m) → ((h || later == look) && nat_lt later m) ≡ h
open-stays before true look m now later e p i w = lt-ltb later m w
open-stays before false look m now later e p i w = by (later == look) refl
  where
    by : (b : Bool) → (later == look) ≡ b → (b && nat_lt later m) ≡ false
    by false k = refl
    by true k =
        let x : later ≡ look = eqb-true later look k in
        let y : (now == look) ≡ true = eq-eqb now look (omega arith) in
        let z : m ≤ now = ltb-false now m (last-false before (now == look) (nat_lt now m) e y) in
        le-ltb later m (omega arith)

-- where somebody speaks to the device
near-stays : (t : Timing) (until : ℕ) (before : Bool) (s : Standing) (p : Place) (now later : ℕ) → IsPast p now
    → now ≤ later → IsBefore later (wake_at t until (pulls_at t until before s p now) s p now)
    → pulls_at t until (pulls_at t until before s p now) s p later ≡ pulls_at t until before s p now
near-stays t until before s Between now later c i h = between-stays t before s.clock s.atn s.since now later h
near-stays t until before s (Sent pull) now later c i h =
    let held : Bool = before || not (nat_lt now (pull + t.accept)) in
    stays-up held later (pull + t.accept) (λ k. before-where (not held) (pull + t.accept) later h (ap not k))
near-stays t until before s (Opening look None eoi) now later c i h =
    open-stays before ((before || now == look) && nat_lt now (max (look + t.hold) until)) look
    (max (look + t.hold) until) now later refl c i h
near-stays t until before s (Opening look (Some free) eoi) now later c i h =
    answer-stays s.atn (free + t.wait) (free + t.wait + t.answer) now later i (omega arith) h
near-stays t until before s (Bits eoi count byte) now later c i h = refl

-- where nobody does
away-stays : (t : Timing) (before : Bool) (since : Option ℕ) (now later : ℕ)
    → IsBefore later (after_where (leaves t before since now) since t.leave)
    → leaves t (leaves t before since now) since later ≡ leaves t before since now
away-stays t before None now later h = refl
away-stays t before (Some r) now later h =
    let held : Bool = before && nat_lt now (r + t.leave) in
    stays-down held later (r + t.leave) (λ k. before-after held r t.leave later h k)

-- at the wake it does the other thing
turns-up : (h : Bool) (next m : ℕ) → where_true (not h) m ≡ Some next → (h || not (nat_lt next m)) ≡ not h
turns-up true next m e = absurd (let k : Some next ≡ None = sym e in cc)
turns-up false next m e = let j : Some m ≡ Some next = e in let k : m ≡ next =
    cc in ap not (le-ltb next m (omega arith))

turns-down : (h : Bool) (next m : ℕ) → where_true h m ≡ Some next → (h && nat_lt next m) ≡ not h
turns-down true next m e = let j : Some m ≡ Some next = e in let k : m ≡ next = cc in le-ltb next m (omega arith)
turns-down false next m e = absurd (let k : Some next ≡ None = sym e in cc)

between-turns : (t : Timing) (before clock atn : Bool) (since : Option ℕ) (now next : ℕ)
    → after_where (not atn && not (if atn then not clock else calls t before since now)) since t.attention ≡ Some next
    → (if atn then not clock else calls t (if atn then not clock else calls t before since now) since next)
    ≡ not (if atn then not clock else calls t before since now)
between-turns t before clock true since now next e = absurd (let k : Some next ≡ None = sym e in cc)
between-turns t true clock false None now next e = absurd (let k : Some next ≡ None = sym e in cc)
between-turns t false clock false None now next e = absurd (let k : Some next ≡ None = sym e in cc)
between-turns t before clock false (Some a) now next e =
    let held : Bool = before || not (nat_lt now (a + t.attention)) in
    turns-up held next (a + t.attention) (sym (after-is (not held) a t.attention) ∙ e)

open-turns : (h : Bool) (look m next : ℕ) → where_true h m ≡ Some next → ((h || next == look) && nat_lt next m) ≡ not h
open-turns true look m next e = turns-down true next m e
open-turns false look m next e = absurd (let k : Some next ≡ None = sym e in cc)

answer-turns : (x : Bool) (d e now next : ℕ) → d < e
    → (if nat_lt now d then where_true x d else where_true (x && nat_lt now e) e) ≡ Some next
    → (x && (not (nat_lt next d) && nat_lt next e)) ≡ not (x && (not (nat_lt now d) && nat_lt now e))
answer-turns x d e now next i h = by x (nat_lt now d) (nat_lt now e) h
  where
    by : (x p q : Bool) → (if p then where_true x d else where_true (x && q) e) ≡ Some next
        → (x && (not (nat_lt next d) && nat_lt next e)) ≡ not (x && (not p && q))
    by true true q k =
        let j : Some d ≡ Some next = k in
        let n : d ≡ next = cc in
        ap (λ v. not v && nat_lt next e) (le-ltb next d (omega arith)) ∙ lt-ltb next e (omega arith)
    by true false true k =
        let j : Some e ≡ Some next = k in
        let n : e ≡ next = cc in
        ap (λ v. not v && nat_lt next e) (le-ltb next d (omega arith)) ∙ le-ltb next e (omega arith)
    by true false false k = absurd (let i : Some next ≡ None = sym k in cc)
    by false true q k = absurd (let i : Some next ≡ None = sym k in cc)
    by false false q k = absurd (let i : Some next ≡ None = sym k in cc)

near-turns : (t : Timing) (until : ℕ) (before : Bool) (s : Standing) (p : Place) (now next : ℕ) → 0 < t.answer
    → wake_at t until (pulls_at t until before s p now) s p now ≡ Some next
    → pulls_at t until (pulls_at t until before s p now) s p next ≡ not (pulls_at t until before s p now)
near-turns t until before s Between now next a h = between-turns t before s.clock s.atn s.since now next h
near-turns t until before s (Sent pull) now next a h =
    turns-up (before || not (nat_lt now (pull + t.accept))) next (pull + t.accept) h
near-turns t until before s (Opening look None eoi) now next a h =
    open-turns ((before || now == look) && nat_lt now (max (look + t.hold) until)) look
    (max (look + t.hold) until) next h
near-turns t until before s (Opening look (Some free) eoi) now next a h =
    answer-turns s.atn (free + t.wait) (free + t.wait + t.answer) now next (omega arith) h
near-turns t until before s (Bits eoi count byte) now next a h = absurd (let i : Some next ≡ None = sym h in cc)

away-turns : (t : Timing) (before : Bool) (since : Option ℕ) (now next : ℕ)
    → after_where (leaves t before since now) since t.leave ≡ Some next
    → leaves t (leaves t before since now) since next ≡ not (leaves t before since now)
away-turns t before None now next h = absurd (let i : Some next ≡ None = sym h in cc)
away-turns t before (Some r) now next h =
    let held : Bool = before && nat_lt now (r + t.leave) in
    turns-down held next (r + t.leave) (sym (after-is held r t.leave) ∙ h)

-- by whether somebody speaks to the device
abbrev ruled : Timing → ℕ → Standing → Bool → Bool → ℕ → Bool
ruled t until s away before now = if away then leaves t before s.since now else pulls_at t until before s s.place now

abbrev woken : Timing → ℕ → Standing → Bool → Bool → ℕ → Option ℕ
woken t until s away held now = if away then after_where held s.since t.leave else wake_at t until held s s.place now

all-stays : (t : Timing) (until : ℕ) (before : Bool) (s : Standing) (now later : ℕ) (b : Bool) → IsPast s.place now
    → now ≤ later → IsBefore later (woken t until s b (ruled t until s b before now) now)
    → ruled t until s b (ruled t until s b before now) later ≡ ruled t until s b before now
all-stays t until before s now later true c i h = away-stays t before s.since now later h
all-stays t until before s now later false c i h = near-stays t until before s s.place now later c i h

all-turns : (t : Timing) (until : ℕ) (before : Bool) (s : Standing) (now next : ℕ) (b : Bool) → 0 < t.answer
    → woken t until s b (ruled t until s b before now) now ≡ Some next
    → ruled t until s b (ruled t until s b before now) next ≡ not (ruled t until s b before now)
all-turns t until before s now next true a h = away-turns t before s.since now next h
all-turns t until before s now next false a h = near-turns t until before s s.place now next a h

pub wakes-act : WakesAreActs
wakes-act t until before s now w c =
    let from : 80 ≤ t.answer = w.answer.from in
    record {
      stays = λ later i h. all-stays t until before s now later (is_away s) c i h;
      turns = λ next h. all-turns t until before s now next (is_away s) (omega arith) h;
    }

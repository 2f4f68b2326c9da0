-- Stretches, with one edge more.
use Rattle.std.proofs.Common.{◌≡◌, ℕ, Bool, true, false, not, ◌&&◌, List, [], ◌∷◌, ◌++◌, Some, None, if◌then◌else◌, refl, sym, ap, ◌∙◌, append_assoc, append-nil}
use Rattle.pr_wire.specs.declared.Edge.{Edge}
use Rattle.pr_wire.specs.Table.{same}
use Rattle.pr_decode.specs.Readings.{first_late, is_late}
use Rattle.pr_decode.specs.ClockPhases.{ClockPhase, begun, calls, goes_on, longer, stretches_from}

-- an edge goes on with a stretch, or ends it
pub stretches-on : (s : ClockPhase) (last e : Edge) (es : List Edge) → goes_on s.first last e ≡ true
    → stretches_from s last (e ∷ es) ≡ stretches_from (longer s e) e es
stretches-on s last e es h =
    ap (λ v. if v then stretches_from (longer s e) e es else s ∷ stretches_from (begun (calls last e) e) e es) h

pub stretches-off : (s : ClockPhase) (last e : Edge) (es : List Edge) → goes_on s.first last e ≡ false
    → stretches_from s last (e ∷ es) ≡ s ∷ stretches_from (begun (calls last e) e) e es
stretches-off s last e es h =
    ap (λ v. if v then stretches_from (longer s e) e es else s ∷ stretches_from (begun (calls last e) e) e es) h

-- the first stretch is the one that has begun, with further edges
pub record Head (s : ClockPhase) (ss : List ClockPhase) : Type 0 where
  pub more : List Edge
  pub behind : List ClockPhase
  pub is : ss ≡ record s { rest = s.rest ++ more } ∷ behind

pub head-of : (s : ClockPhase) (last : Edge) (es : List Edge) → Head s (stretches_from s last es)
head-of s last [] =
    record { more = []; behind = []; is = ap (λ l. record s { rest = l } ∷ []) (sym (append-nil s.rest)) }
head-of s last (e ∷ es) = by (goes_on s.first last e) refl (head-of (longer s e) e es)
  where
    by : (v : Bool) → goes_on s.first last e ≡ v → Head (longer s e) (stretches_from (longer s e) e es) → Head s (stretches_from s last (e ∷ es))
    by true h k = record {
      more = e ∷ k.more;
      behind = k.behind;
      is = stretches-on s last e es h ∙ (k.is ∙ ap (λ l. record s { rest = l } ∷ k.behind) (append_assoc s.rest (e ∷ []) k.more));
    }
    by false h k = record {
      more = [];
      behind = stretches_from (begun (calls last e) e) e es;
      is = stretches-off s last e es h
          ∙ ap (λ l. record s { rest = l } ∷ stretches_from (begun (calls last e) e) e es) (sym (append-nil s.rest));
    }

-- a call ends a stretch
pub calls-off : (s : ClockPhase) (last e : Edge) → calls last e ≡ true → goes_on s.first last e ≡ false
calls-off s last e h = by (same e.levels.clock s.first.levels.clock) (calls last e) h
  where
    by : (x y : Bool) → y ≡ true → (x && not y) ≡ false
    by true true k = refl
    by false true k = refl
    by x false k = absurd (cc)

-- where no call ends a stretch, CLOCK does
pub clock-turns : (s : ClockPhase) (last e : Edge) → goes_on s.first last e ≡ false → calls last e ≡ false
    → same e.levels.clock s.first.levels.clock ≡ false
clock-turns s last e h k = by (same e.levels.clock s.first.levels.clock) (calls last e) h k
  where
    by : (x y : Bool) → (x && not y) ≡ false → y ≡ false → x ≡ false
    by false y p q = refl
    by true true p q = absurd (cc)
    by true false p q = absurd (cc)

pub clock-rises : (s : ClockPhase) (last e : Edge) → goes_on s.first last e ≡ false → calls last e ≡ false → s.first.levels.clock ≡ false
    → e.levels.clock ≡ true
clock-rises s last e h k m = by e.levels.clock s.first.levels.clock (clock-turns s last e h k) m
  where
    by : (x y : Bool) → same x y ≡ false → y ≡ false → x ≡ true
    by true y p q = refl
    by false false p q = absurd (cc)
    by false true p q = absurd (cc)

pub clock-falls : (s : ClockPhase) (last e : Edge) → goes_on s.first last e ≡ false → calls last e ≡ false → s.first.levels.clock ≡ true
    → e.levels.clock ≡ false
clock-falls s last e h k m = by e.levels.clock s.first.levels.clock (clock-turns s last e h k) m
  where
    by : (x y : Bool) → same x y ≡ false → y ≡ true → x ≡ false
    by false y p q = refl
    by true true p q = absurd (cc)
    by true false p q = absurd (cc)

-- the first edge too late, among some edges and more
pub late-behind : (t : ℕ) (xs ys : List Edge) → first_late t xs ≡ None → first_late t (xs ++ ys) ≡ first_late t ys
late-behind t [] ys h = refl
late-behind t (x ∷ xs) ys h = by (is_late t x) h (late-behind t xs ys)
  where
    by : (v : Bool) → (if v then Some x.time else first_late t xs) ≡ None
        → (first_late t xs ≡ None → first_late t (xs ++ ys) ≡ first_late t ys)
        → (if v then Some x.time else first_late t (xs ++ ys)) ≡ first_late t ys
    by true k m = absurd (cc)
    by false k m = m k

pub late-stays : (t : ℕ) (xs ys : List Edge) (u : ℕ) → first_late t xs ≡ Some u → first_late t (xs ++ ys) ≡ Some u
late-stays t [] ys u h = absurd (cc)
late-stays t (x ∷ xs) ys u h = by (is_late t x) h (late-stays t xs ys u)
  where
    by : (v : Bool) → (if v then Some x.time else first_late t xs) ≡ Some u
        → (first_late t xs ≡ Some u → first_late t (xs ++ ys) ≡ Some u)
        → (if v then Some x.time else first_late t (xs ++ ys)) ≡ Some u
    by true k m = k
    by false k m = m k

-- one edge more is too late, or it is not
pub late-one : (t : ℕ) (xs : List Edge) (e : Edge) → first_late t xs ≡ None → is_late t e ≡ true → first_late t (xs ++ e ∷ []) ≡ Some e.time
late-one t xs e h k = late-behind t xs (e ∷ []) h ∙ ap (λ v. if v then Some e.time else None) k

pub late-none : (t : ℕ) (xs : List Edge) (e : Edge) → first_late t xs ≡ None → is_late t e ≡ false → first_late t (xs ++ e ∷ []) ≡ None
late-none t xs e h k = late-behind t xs (e ∷ []) h ∙ ap (λ v. if v then Some e.time else None) k

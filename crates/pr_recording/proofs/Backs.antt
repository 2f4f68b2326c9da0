-- Where time goes back in edges, as more of them come.
use Rattle.std.proofs.Common.{◌≡◌, ℕ, ◌+◌, ◌-◌, ◌<◌, ◌≤◌, Bool, true, false, List, [], ◌∷◌, ◌++◌, length, take, refl, ap, sym, subst, ◌∙◌, arith, append-nil, append_assoc, Option, Some, None}
use Rattle.std.specs.Prelude.{nat_lt, if◌then◌else◌}
use Rattle.std.proofs.Math.Seq.{take-append-add, take-append_seam}
use Rattle.std.proofs.lemmas.Grind.{common_steps}
use Rattle.std.proofs.lemmas.List.{take-append-le}
use Rattle.pr_wire.specs.declared.Edge.{Edge}
use Rattle.pr_decode.specs.Taking.{AreInOrder, StandsBefore, time_behind}
use Rattle.pr_recording.specs.Decoded.{back_behind, back_in, in_front}
use Rattle.pr_recording.specs.Taped.{time_after, time_of}

-- more edges change nothing after the first that goes back
behind_more : (i last : ℕ) (es more : List Edge) (n : ℕ) → back_behind i last es ≡ Some n → back_behind i last (es ++ more) ≡ Some n
behind_more i last [] more n h = absurd (cc)
behind_more i last (e ∷ es) more n h = by (behind_more (i + 1) e.time es more n) (nat_lt e.time last) h
  where
    by : (back_behind (i + 1) e.time es ≡ Some n → back_behind (i + 1) e.time (es ++ more) ≡ Some n) → (b : Bool) → (if b then Some i else back_behind (i + 1) e.time es) ≡ Some n
        → (if b then Some i else back_behind (i + 1) e.time (es ++ more)) ≡ Some n
    by rest true h = h
    by rest false h = rest h

pub back_stays : (es more : List Edge) (n : ℕ) → back_in es ≡ Some n → back_in (es ++ more) ≡ Some n
back_stays [] more n h = absurd (cc)
back_stays (e ∷ es) more n h = behind_more 1 e.time es more n h

-- it is one of the edges
pub behind_within : (i last : ℕ) (es : List Edge) (n : ℕ) → back_behind i last es ≡ Some n → (i ≤ n) × (n < i + length es)
behind_within i last [] n h = absurd (cc)
behind_within i last (e ∷ es) n h = by (behind_within (i + 1) e.time es n) (nat_lt e.time last) h
  where
    by : (back_behind (i + 1) e.time es ≡ Some n → (i + 1 ≤ n) × (n < i + 1 + length es)) → (b : Bool) → (if b then Some i else back_behind (i + 1) e.time es) ≡ Some n → (i ≤ n) × (n < i + length (e ∷ es))
    by rest true h = let k : i ≡ n = cc in (omega (arith, k), omega (arith, k))
    by rest false h = let w = rest h in (omega (arith, w.0), omega (arith, w.1))

pub back_within : (es : List Edge) (n : ℕ) → back_in es ≡ Some n → n < length es
back_within [] n h = absurd (cc)
back_within (e ∷ es) n h = omega (arith, (behind_within 1 e.time es n h).1)

-- after edges of which none goes back
behind_later : (i last : ℕ) (es more : List Edge) (n : ℕ) → back_behind i last es ≡ None → back_behind i last (es ++ more) ≡ Some n → i + length es ≤ n
behind_later i last [] more n h k = omega (arith, (behind_within i last more n k).0)
behind_later i last (e ∷ es) more n h k = by (behind_later (i + 1) e.time es more n) (nat_lt e.time last) h k
  where
    by : (back_behind (i + 1) e.time es ≡ None → back_behind (i + 1) e.time (es ++ more) ≡ Some n → i + 1 + length es ≤ n) → (b : Bool) → (if b then Some i else back_behind (i + 1) e.time es) ≡ None → (if b then Some i else back_behind (i + 1) e.time (es ++ more)) ≡ Some n → i + length (e ∷ es) ≤ n
    by rest true h k = absurd (cc)
    by rest false h k = omega (arith, rest h k)

pub back_later : (es more : List Edge) (n : ℕ) → back_in es ≡ None → back_in (es ++ more) ≡ Some n → length es ≤ n
back_later [] more n h k = omega (arith)
back_later (e ∷ es) more n h k = omega (arith, behind_later 1 e.time es more n h k)

-- one edge more
behind_one : (i last : ℕ) (es : List Edge) (e : Edge) → back_behind i last es ≡ None
    → back_behind i last (es ++ e ∷ []) ≡ (if nat_lt e.time (time_after last es) then Some (i + length es) else None)
behind_one i last [] e h = ap (λ k. if nat_lt e.time last then Some k else None) (omega arith)
behind_one i last (f ∷ es) e h = by (behind_one (i + 1) f.time es e) (nat_lt f.time last) h
  where
    by : (back_behind (i + 1) f.time es ≡ None → back_behind (i + 1) f.time (es ++ e ∷ []) ≡ (if nat_lt e.time (time_after f.time es) then Some (i + 1 + length es) else None)) → (b : Bool) → (if b then Some i else back_behind (i + 1) f.time es) ≡ None
        → (if b then Some i else back_behind (i + 1) f.time (es ++ e ∷ [])) ≡ (if nat_lt e.time (time_after f.time es) then Some (i + length (f ∷ es)) else None)
    by rest true h = absurd (cc)
    by rest false h = rest h ∙ ap (λ k. if nat_lt e.time (time_after f.time es) then Some k else None) (omega arith)

pub goes_on : (es : List Edge) (e : Edge) → back_in es ≡ None → (StandsBefore e.time (time_of es) → ⊥) → back_in (es ++ e ∷ []) ≡ None
goes_on [] e h later = refl
goes_on (f ∷ es) e h later =
    let not : nat_lt e.time (time_after f.time es) ≡ false = grind (arith, common_steps, later) in
    behind_one 1 f.time es e h ∙ ap (λ b. if b then Some (1 + length es) else None) not

pub goes_back : (es : List Edge) (e : Edge) → back_in es ≡ None → StandsBefore e.time (time_of es) → back_in (es ++ e ∷ []) ≡ Some (length es)
goes_back [] e h before = absurd before
goes_back (f ∷ es) e h before =
    let is : nat_lt e.time (time_after f.time es) ≡ true = grind (arith, common_steps, before) in
    behind_one 1 f.time es e h ∙ (ap (λ b. if b then Some (1 + length es) else None) is ∙ ap (λ (k : ℕ). Some k) (omega arith))

-- the moment of the last edge
after_one : (last : ℕ) (es : List Edge) (e : Edge) → time_after last (es ++ e ∷ []) ≡ e.time
after_one last [] e = refl
after_one last (f ∷ es) e = after_one f.time es e

pub time_of_one : (es : List Edge) (e : Edge) → time_of (es ++ e ∷ []) ≡ Some e.time
time_of_one [] e = refl
time_of_one (f ∷ es) e = ap (λ (t : ℕ). Some t) (after_one f.time es e)

-- the edges in front of one that goes back stay
pub front_stays : (es more : List Edge) (n : ℕ) → back_in es ≡ Some n → in_front (back_in (es ++ more)) (es ++ more) ≡ in_front (back_in es) es
front_stays es more n h =
    ap (λ v. in_front v (es ++ more)) (back_stays es more n h)
    ∙ (take-append-le n es more (omega (arith, back_within es n h)) ∙ sym (ap (λ v. in_front v es) h))

pub front_back : (es : List Edge) (e : Edge) → back_in es ≡ None → StandsBefore e.time (time_of es) → in_front (back_in (es ++ e ∷ [])) (es ++ e ∷ []) ≡ in_front (back_in es) es
front_back es e h before =
    ap (λ v. in_front v (es ++ e ∷ [])) (goes_back es e h before) ∙ (take-append_seam es (e ∷ []) ∙ sym (ap (λ v. in_front v es) h))

-- with more edges more may be in front
pub front_more : (es more : List Edge) → (later : List Edge) × (in_front (back_in (es ++ more)) (es ++ more) ≡ in_front (back_in es) es ++ later)
front_more es more = by (back_in es) refl
  where
    open_front : back_in es ≡ None → (v : Option ℕ) → back_in (es ++ more) ≡ v → (later : List Edge) × (in_front v (es ++ more) ≡ es ++ later)
    open_front h None k = (more, refl)
    open_front h (Some n) k =
        let long = back_later es more n h k in
        let is : n ≡ length es + (n - length es) = omega (arith, long) in
        (take (n - length es) more, ap (λ i. take i (es ++ more)) is ∙ take-append-add es more (n - length es))

    by : (v : Option ℕ) → back_in es ≡ v → (later : List Edge) × (in_front (back_in (es ++ more)) (es ++ more) ≡ in_front (back_in es) es ++ later)
    by None h =
        let f = open_front h (back_in (es ++ more)) refl in
        (f.0, f.1 ∙ sym (ap (λ v. in_front v es ++ f.0) h))
    by (Some n) h = ([], front_stays es more n h ∙ sym (append-nil (in_front (back_in es) es)))

-- edges in order after others
pub many_on : (es more : List Edge) → back_in es ≡ None → AreInOrder (time_of es) more → back_in (es ++ more) ≡ None
many_on es [] h order = ap back_in (append-nil es) ∙ h
many_on es (e ∷ more) h (later, order) =
    let Q : Option ℕ → Type 0 = λ t. AreInOrder t more in
    ap back_in (sym (append_assoc es (e ∷ []) more))
    ∙ many_on (es ++ e ∷ []) more (goes_on es e h later) (subst Q (sym (time_of_one es e)) order)

pub times_many : (es more : List Edge) → time_of (es ++ more) ≡ time_behind (time_of es) more
times_many es [] = ap time_of (append-nil es)
times_many es (e ∷ more) =
    ap time_of (sym (append_assoc es (e ∷ []) more))
    ∙ (times_many (es ++ e ∷ []) more ∙ ap (λ t. time_behind t more) (time_of_one es e))

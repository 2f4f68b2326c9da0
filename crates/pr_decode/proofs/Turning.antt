-- The turns of DATA in a stretch, with one edge more.
use Rattle.std.proofs.Common.{◌≡◌, ℕ, Bool, true, false, not, List, [], ◌∷◌, ◌++◌, Some, None, if◌then◌else◌, refl, ap, ◌∙◌}
use Rattle.pr_wire.specs.declared.Edge.{Edge}
use Rattle.pr_wire.specs.Table.{same}
use Rattle.pr_decode.specs.declared.clock_phase.DataTransitions.TheVariants.{Still, Once, Twice, Thrice, Often}
use Rattle.pr_decode.specs.Readings.{acknowledgement, opening, turns, turns_of}
use Rattle.pr_decode.specs.Steps.{acknowledged_in, opened, turned}
use Rattle.pr_decode.specs.ClockPhases.{ClockPhase, edges_in, longer, begun}
use Rattle.pr_decode.specs.Taking.{noted}

-- the level that DATA turns to next, after some turns
abbrev pub flipped : Bool → List Edge → Bool
flipped b [] = b
flipped b (t ∷ ts) = flipped (not b) ts

-- the turns of some edges and more
pub turns-append : (b : Bool) (xs ys : List Edge) → turns b (xs ++ ys) ≡ turns b xs ++ turns (flipped b (turns b xs)) ys
turns-append b [] ys = refl
turns-append b (x ∷ xs) ys = by (same x.levels.line b) (turns-append (not b) xs ys) (turns-append b xs ys)
  where
    by : (v : Bool)
        → turns (not b) (xs ++ ys) ≡ turns (not b) xs ++ turns (flipped (not b) (turns (not b) xs)) ys
        → turns b (xs ++ ys) ≡ turns b xs ++ turns (flipped b (turns b xs)) ys
        → (if v then x ∷ turns (not b) (xs ++ ys) else turns b (xs ++ ys))
        ≡ (if v then x ∷ turns (not b) xs else turns b xs) ++ turns (flipped b (if v then x ∷ turns (not b) xs else turns b xs)) ys
    by true h k = ap (λ l. x ∷ l) h
    by false h k = k

-- one edge more turns what is noted
noted-more : (b : Bool) (ts : List Edge) (e : Edge) → noted (ts ++ turns (flipped b ts) (e ∷ [])) ≡ turned b (noted ts) e
noted-more b [] e = by e.levels.line b
  where
    by : (l c : Bool) → noted (if same l c then e ∷ [] else []) ≡ (if same l c then Once e else Still)
    by true true = refl
    by true false = refl
    by false true = refl
    by false false = refl
noted-more b (x ∷ []) e = by e.levels.line b
  where
    by : (l c : Bool) → noted (x ∷ (if same l (not c) then e ∷ [] else [])) ≡ (if same l c then Once x else Twice x e)
    by true true = refl
    by true false = refl
    by false true = refl
    by false false = refl
noted-more b (x ∷ y ∷ []) e = by e.levels.line b
  where
    by : (l c : Bool) → noted (x ∷ y ∷ (if same l (not (not c)) then e ∷ [] else [])) ≡ (if same l c then Thrice x y e else Twice x y)
    by true true = refl
    by true false = refl
    by false true = refl
    by false false = refl
noted-more b (x ∷ y ∷ z ∷ []) e = by e.levels.line b
  where
    by : (l c : Bool) → noted (x ∷ y ∷ z ∷ (if same l (not (not (not c))) then e ∷ [] else [])) ≡ (if same l c then Thrice x y z else Often x y z e)
    by true true = refl
    by true false = refl
    by false true = refl
    by false false = refl
noted-more b (x ∷ y ∷ z ∷ w ∷ ts) e = refl

-- the turns of a stretch with one edge more
pub turns-longer : (s : ClockPhase) (e : Edge) → noted (turns_of (longer s e)) ≡ turned (not s.first.levels.clock) (noted (turns_of s)) e
turns-longer s e =
    ap noted (turns-append (not s.first.levels.clock) (edges_in s) (e ∷ [])) ∙ noted-more (not s.first.levels.clock) (turns_of s) e

-- the turns of a stretch that begins
pub turns-begun : (attention : Bool) (e : Edge) → noted (turns_of (begun attention e)) ≡ turned (not e.levels.clock) Still e
turns-begun attention e = noted-more (not e.levels.clock) [] e

-- what is noted makes the opening and the acknowledgement
pub opened-noted : (ts : List Edge) → opened (noted ts) ≡ opening ts
opened-noted [] = refl
opened-noted (a ∷ []) = refl
opened-noted (a ∷ b ∷ []) = refl
opened-noted (a ∷ b ∷ c ∷ []) = refl
opened-noted (a ∷ b ∷ c ∷ d ∷ ts) = refl

pub acknowledged-noted : (ts : List Edge) → acknowledged_in (noted ts) ≡ acknowledgement ts
acknowledged-noted [] = refl
acknowledged-noted (a ∷ []) = refl
acknowledged-noted (a ∷ b ∷ []) = refl
acknowledged-noted (a ∷ b ∷ c ∷ []) = refl
acknowledged-noted (a ∷ b ∷ c ∷ d ∷ ts) = refl

-- an acknowledgement stays
acknowledged-stays : (ts us : List Edge) (t : ℕ) → acknowledgement ts ≡ Some t → acknowledgement (ts ++ us) ≡ Some t
acknowledged-stays [] us t h = absurd (cc)
acknowledged-stays (a ∷ []) us t h = absurd (cc)
acknowledged-stays (a ∷ b ∷ ts) us t h = h

pub acknowledged-longer : (s : ClockPhase) (r : List Edge) (t : ℕ) → acknowledgement (turns_of s) ≡ Some t
    → acknowledgement (turns_of (record s { rest = s.rest ++ r })) ≡ Some t
acknowledged-longer s r t h =
    let level : Bool = not s.first.levels.clock in
    ap acknowledgement (turns-append level (edges_in s) r)
    ∙ acknowledged-stays (turns_of s) (turns (flipped level (turns_of s)) r) t h

-- a stretch that begins acknowledges nothing
pub begun-unacknowledged : (attention : Bool) (e : Edge) → acknowledgement (turns_of (begun attention e)) ≡ None
begun-unacknowledged attention e = by (same e.levels.line (not e.levels.clock))
  where
    by : (v : Bool) → acknowledgement (if v then e ∷ [] else []) ≡ None
    by true = refl
    by false = refl

-- Brief pulses, as more edges come.
use Rattle.std.proofs.Common.{◌≡◌, ℕ, ◌+◌, ◌-◌, ◌^◌, ◌<◌, ◌≤◌, min, List, [], ◌∷◌, ◌++◌, length, get_or, take, Some, refl, sym, ap, ◌∙◌, subst, add-one, arith, append_assoc, append-nil}
use Rattle.std.specs.Prelude.{zero, suc}
use Rattle.std.proofs.lemmas.List.{take_all}
use Rattle.pr_wire.specs.declared.Edge.{Edge}
use Rattle.pr_report.specs.declared.brief_pulses.PulseCount.{PulseCount}
use Rattle.pr_report.specs.declared.brief_pulses.Turn.{Turn}
use Rattle.pr_report.specs.BriefPulses.{brief_after, brief_at, brief_pulses}
use Rattle.pr_report.specs.Steps.{brief_with, turn_with}
use Rattle.pr_report.specs.Taking.{HasPulses, last_turn, turn_after}

turn-more : (t : Turn) (es : List Edge) (f : Edge) → turn_after t (es ++ f ∷ []) ≡ record { before = (turn_after t es).edge.levels; edge = f }
turn-more t [] f = refl
turn-more t (e ∷ es) f = turn-more (record { before = t.edge.levels; edge = e }) es f

last-more : (es : List Edge) (f : Edge) → last_turn (es ++ f ∷ []) ≡ Some (turn_with (last_turn es) f)
last-more [] f = refl
last-more (e ∷ es) f = ap (λ (t : Turn). Some t) (turn-more (record { before = e.levels; edge = e }) es f)

-- a sum with nothing, and with another number in front
sum-one : (n : ℕ) → n + 0 ≡ 0 + n
sum-one n = omega arith

sum-front : (a b c d : ℕ) → b ≡ c + d → a + b ≡ (a + c) + d
sum-front a b c d h = omega arith

brief-after : (t : Turn) (es : List Edge) (f : Edge)
    → brief_after t.before t.edge (es ++ f ∷ []) ≡ brief_after t.before t.edge es + brief_with (Some (turn_after t es)) f
brief-after t [] f = sum-one (brief_at t.before t.edge f)
brief-after t (e ∷ es) f =
    let next : Turn = record { before = t.edge.levels; edge = e } in
    sum-front (brief_at t.before t.edge e) (brief_after t.edge.levels e (es ++ f ∷ [])) (brief_after t.edge.levels e es) (brief_with (Some (turn_after next es)) f)
    (brief-after next es f)

brief-more : (es : List Edge) (f : Edge) → brief_pulses (es ++ f ∷ []) ≡ brief_pulses es + brief_with (last_turn es) f
brief-more [] f = refl
brief-more (e ∷ es) f = brief-after (record { before = e.levels; edge = e }) es f

-- a count that stops at its greatest value
count-more : (old new sum more next : ℕ) → old ≡ min sum (2 ^ 64 - 1) → new ≡ min (old + more) (2 ^ 64 - 1) → next ≡ sum + more → new ≡ min next (2 ^ 64 - 1)
count-more old new sum more next was is so = omega arith

pub pulses-more : (old new : PulseCount) (f : Edge) → new.count ≡ min (old.count + brief_with old.last f) (2 ^ 64 - 1)
    → new.last ≡ Some (turn_with old.last f) → (es : List Edge) → HasPulses es old → HasPulses (es ++ f ∷ []) new
pulses-more old new f count last = λ es h. record {
  last = last ∙ (ap (λ o. Some (turn_with o f)) h.last ∙ sym (last-more es f));
  count = count-more old.count new.count (brief_pulses es) (brief_with old.last f) (brief_pulses (es ++ f ∷ [])) h.count count
      (brief-more es f ∙ ap (λ o. brief_pulses es + brief_with o f) (sym h.last));
}

-- edges that come one after another
pub pulses-none : (old : PulseCount) → (es : List Edge) → HasPulses es old → HasPulses (es ++ []) old
pulses-none old = λ es h. let P : List Edge → Type 0 = λ l. HasPulses l old in subst P (sym (append-nil es)) h

front-more : {X : Type 0} (xs : List X) (i : ℕ) (d : X) → i < length xs → take (suc i) xs ≡ take i xs ++ get_or xs i d ∷ []
front-more [] i d h = absurd (omega (arith, h))
front-more (x ∷ xs) zero d h = refl
front-more (x ∷ xs) (suc i) d h = let k : i < length xs = omega (arith, h) in ap (λ l. x ∷ l) (front-more xs i d k)

pub pulses-next : (fs : List Edge) (i : ℕ) (d : Edge) (old mid new : PulseCount) → i < length fs
    → ((es : List Edge) → HasPulses es old → HasPulses (es ++ take i fs) mid) → ((es : List Edge) → HasPulses es mid → HasPulses (es ++ get_or fs i d ∷ []) new)
    → (es : List Edge) → HasPulses es old → HasPulses (es ++ take (i + 1) fs) new
pulses-next fs i d old mid new within before next = λ es h.
    let P : List Edge → Type 0 = λ l. HasPulses l new in
    let same : (es ++ take i fs) ++ get_or fs i d ∷ [] ≡ es ++ take (i + 1) fs =
    append_assoc es (take i fs) (get_or fs i d ∷ []) ∙ ap (λ l. es ++ l) (sym (rw add-one (front-more fs i d within))) in
    subst P same (next (es ++ take i fs) (before es h))

pub pulses-all : (fs : List Edge) (i : ℕ) (old new : PulseCount) → length fs ≤ i → ((es : List Edge) → HasPulses es old → HasPulses (es ++ take i fs) new)
    → (es : List Edge) → HasPulses es old → HasPulses (es ++ fs) new
pulses-all fs i old new whole all = λ es h.
    let P : List Edge → Type 0 = λ l. HasPulses (es ++ l) new in
    subst P (take_all i fs whole) (all es h)

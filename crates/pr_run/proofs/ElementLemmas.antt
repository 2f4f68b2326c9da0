use Rattle.std.proofs.Common.{◌≡◌, ℕ, ◌+◌, ◌-◌, ◌<◌, ◌≤◌, List, [], ◌∷◌, ◌++◌, length, max, replicate, arith, ap, ◌∙◌}
use Rattle.std.proofs.Common.{append_assoc}
use Rattle.std.proofs.lemmas.List.{length_push, replicate_more}
use Rattle.pr_interpreter.specs.declared.values.Value.{Value}

-- one more element is the first value
pub grown : (old now new : List Value) (first : Value) → length old ≤ length now
    → now ≡ old ++ replicate (length now - length old) first → new ≡ now ++ first ∷ []
    → new ≡ old ++ replicate (length new - length old) first
grown old now new first longer items put =
    let size : length new ≡ length now + 1 = ap (λ (es : List Value). length es) put ∙ length_push now first in
    let count : length now - length old + 1 ≡ length new - length old = omega arith in
    let more : replicate (length now - length old) first ++ first ∷ [] ≡ replicate (length new - length old) first =
    replicate_more (length now - length old) first ∙ ap (λ (n : ℕ). replicate n first) count in
    let joined : now ++ first ∷ [] ≡ old ++ (replicate (length now - length old) first ++ first ∷ []) =
    ap (λ (es : List Value). es ++ first ∷ []) items
    ∙ append_assoc old (replicate (length now - length old) first) (first ∷ []) in
    put ∙ (joined ∙ ap (λ (es : List Value). old ++ es) more)

-- there are enough of them
pub enough : (old now : List Value) (first : Value) (place : ℕ) → length old ≤ length now
    → length now ≤ max (length old) (place + 1) → place < length now
    → now ≡ old ++ replicate (length now - length old) first → now ≡ old ++ replicate (place + 1 - length old) first
enough old now first place longer within h items =
    let count : length now - length old ≡ place + 1 - length old = omega arith in
    items ∙ ap (λ (n : ℕ). old ++ replicate n first) count

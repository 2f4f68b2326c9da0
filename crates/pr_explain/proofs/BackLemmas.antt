-- Edges in which time goes back.
use Rattle.std.proofs.Common.{◌≡◌, ℕ, ◌+◌, ◌<◌, ◌≤◌, Bool, true, false, List, [], ◌∷◌, ◌++◌, length, take, refl, ap, subst, ◌∙◌, sym, arith, append_assoc, append-nil, length-append, Option, Some, None}
use Rattle.std.specs.Prelude.{MatchOption, nat_lt, if◌then◌else◌}
use Rattle.std.proofs.lemmas.Grind.{common_steps}
use Rattle.std.proofs.lemmas.List.{take_at}
use Rattle.pr_wire.specs.declared.Edge.{Edge}
use Rattle.pr_explain.specs.Followed.{back_from}
use Rattle.pr_explain.specs.TracePlaces.{AreInOrder, AreInOrderBehind, GoesBackAt}

-- the edges up to the last one are in order
pub record SeenTo (all rest : List Edge) (last : Edge) (index : ℕ) : Type 0 where
  pub before : List Edge
  pub cut : all ≡ (before ++ last ∷ []) ++ rest
  pub in_order : AreInOrder (before ++ last ∷ [])
  pub number : index ≡ length before + 1

pub seen_first : (first : Edge) (others : List Edge) → SeenTo (first ∷ others) others first 1
seen_first first others = record { before = []; cut = refl; in_order = tt; number = refl }

behind_push : (t : ℕ) (es : List Edge) (last e : Edge) → AreInOrderBehind t (es ++ last ∷ []) → last.time ≤ e.time → AreInOrderBehind t ((es ++ last ∷ []) ++ e ∷ [])
behind_push t [] last e h k = (h.0, (k, tt))
behind_push t (f ∷ es) last e h k = (h.0, behind_push f.time es last e h.1 k)

order_push : (es : List Edge) (last e : Edge) → AreInOrder (es ++ last ∷ []) → last.time ≤ e.time → AreInOrder ((es ++ last ∷ []) ++ e ∷ [])
order_push [] last e h k = (k, tt)
order_push (f ∷ es) last e h k = behind_push f.time es last e h k

pub seen_more : (all more : List Edge) (last e : Edge) (index : ℕ) → SeenTo all (e ∷ more) last index → last.time ≤ e.time → SeenTo all more e (index + 1)
seen_more all more last e index s k = record {
  before = s.before ++ last ∷ [];
  cut = s.cut ∙ sym (append_assoc (s.before ++ last ∷ []) (e ∷ []) more);
  in_order = order_push s.before last e s.in_order k;
  number = omega (arith, length-append s.before (last ∷ []), s.number);
}

pub seen_all : (all rest : List Edge) (last : Edge) (index : ℕ) → rest ≡ [] → SeenTo all rest last index → AreInOrder all
seen_all all rest last index e s = subst AreInOrder (sym (s.cut ∙ (ap (λ r. (s.before ++ last ∷ []) ++ r) e ∙ append-nil (s.before ++ last ∷ [])))) s.in_order

-- edges in order end in order
order_behind : (t : ℕ) (es : List Edge) (last e : Edge) → AreInOrderBehind t ((es ++ last ∷ []) ++ e ∷ []) → last.time ≤ e.time
order_behind t [] last e h = h.1.0
order_behind t (f ∷ es) last e h = order_behind f.time es last e h.1

order_end : (es : List Edge) (last e : Edge) → AreInOrder ((es ++ last ∷ []) ++ e ∷ []) → last.time ≤ e.time
order_end [] last e h = h.0
order_end (f ∷ es) last e h = order_behind f.time es last e h

pub seen_back : (all more : List Edge) (last e : Edge) (index : ℕ) → SeenTo all (e ∷ more) last index → e.time < last.time → GoesBackAt all index
seen_back all more last e index s k =
    let front = s.before ++ last ∷ [] in
    let size : length front ≡ index = omega (arith, length-append s.before (last ∷ []), s.number) in
    let before : take index all ≡ front = ap (take index) s.cut ∙ take_at front (e ∷ more) index size in
    let with_it : take (index + 1) all ≡ front ++ e ∷ []
    = ap (take (index + 1)) (s.cut ∙ sym (append_assoc front (e ∷ []) more))
    ∙ take_at (front ++ e ∷ []) more (index + 1) (omega (arith, length-append front (e ∷ []), size)) in
    (subst AreInOrder (sym before) s.in_order, λ h. let later = order_end s.before last e (subst AreInOrder with_it h) in absurd (omega (arith, later, k)))

-- what is found is the first edge with which time goes back
walk : (all es : List Edge) (last : Edge) (i : ℕ) → SeenTo all es last i → (v : Option ℕ) → back_from i (Some last) es ≡ v → MatchOption v (AreInOrder all) (λ n. GoesBackAt all n)
walk all [] last i s None h = seen_all all [] last i refl s
walk all [] last i s (Some n) h = absurd (cc)
walk all (e ∷ es) last i s v h = by (nat_lt e.time last.time) refl h (λ more. walk all es e (i + 1) more v)
  where
    by : (b : Bool) → nat_lt e.time last.time ≡ b → (if b then Some i else back_from (i + 1) (Some e) es) ≡ v
        → (SeenTo all es e (i + 1) → back_from (i + 1) (Some e) es ≡ v → MatchOption v (AreInOrder all) (λ n. GoesBackAt all n)) → MatchOption v (AreInOrder all) (λ n. GoesBackAt all n)
    by true k h on =
        let before : e.time < last.time = grind (arith, common_steps, k) in
        rw (← h) (seen_back all es last e i s before)
    by false k h on =
        let later : last.time ≤ e.time = grind (arith, common_steps, k) in
        on (seen_more all es last e i s later) h

pub back_found : (edges : List Edge) (v : Option ℕ) → v ≡ back_from 0 None edges → MatchOption v (AreInOrder edges) (λ n. GoesBackAt edges n)
back_found [] None h = tt
back_found [] (Some n) h = absurd (cc)
back_found (e ∷ es) v h = walk (e ∷ es) es e 1 (seen_first e es) v (sym h)

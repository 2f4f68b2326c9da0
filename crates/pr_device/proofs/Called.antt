-- Where talker and devices make edges, each device can be called at its wakes.
use Rattle.std.proofs.Common.{◌≡◌, ℕ, zero, suc, ◌+◌, ◌<◌, ◌≤◌, nat_lt, Bool, true, false, not, ◌&&◌, List, []}
use Rattle.std.proofs.Common.{◌∷◌, map, Option, Some, None, IfSome, refl, sym, ap, subst, ◌∙◌, arith, ltb-true}
use Rattle.std.proofs.Common.{ltb-false}
use Rattle.pr_wire.specs.declared.Edge.{Edge}
use Rattle.pr_receiver.specs.Laws.{ListeningAfterOneMore}
use Rattle.pr_device.specs.Data.{standing}
use Rattle.pr_device.specs.Course.{Party, Each, Move, AreMade, next_moment, after_moves, pulling, one_pulls}
use Rattle.pr_device.specs.Shown.{Moment, levels_after, time_after, moments_shown, changes_shown, does_after}
use Rattle.pr_device.specs.Shown.{wake_after, IsBefore, AreInTime, CanBeCalled, GoForward}
use Rattle.pr_device.specs.Shown.Moment.{Change, Wake}
use Rattle.pr_device.specs.Laws.{DevicesCanBeCalled}
use Rattle.pr_device.proofs.Tests.{or-left, or-right}
use Rattle.pr_device.proofs.Sharing.{each-map, each-both, IsParty}
use Rattle.pr_device.proofs.Stepping.{wake-later}
use Rattle.pr_device.proofs.Shown.{wakes-suffice}

-- the levels after all moments are those after the changes
levels-same : (ms : List Moment) → levels_after (moments_shown ms) ≡ levels_after (changes_shown ms)
levels-same [] = refl
levels-same (Change e ∷ ms) = refl
levels-same (Wake n ∷ ms) = levels-same ms

-- a wake is later than the last moment
wake-is-later : (p : Party) (h : List Edge) (n : ℕ) → wake_after p h ≡ Some n → time_after h < n
wake-is-later p [] n k = absurd (let a : None ≡ Some n = k in cc)
wake-is-later p (x ∷ g) n k =
    subst (λ o. IfSome o (λ i. x.time < i)) k
    (wake-later p.timing 0 (does_after p g) (standing p.timing.wait p.device (x ∷ g)) x.time)

-- a device that is called at its wakes up to a moment
record Caught (p : Party) (h : List Edge) (next : ℕ) : Type 0 where
  moments : List Moment
  changes : changes_shown moments ≡ h
  in_time : AreInTime p moments
  by : time_after (moments_shown moments) ≤ next
  before : IsBefore next (wake_after p (moments_shown moments))

catch-up : ListeningAfterOneMore → (p : Party) (e : Edge) (h : List Edge) (next : ℕ) → IsParty p
    → ((n : ℕ) → e.time ≤ n → n < next → pulling p (e ∷ h) n ≡ true → e.levels.line ≡ false)
    → (fuel : ℕ) (ms : List Moment) → changes_shown ms ≡ e ∷ h → AreInTime p ms → e.time ≤ time_after (moments_shown ms)
    → time_after (moments_shown ms) ≤ next → next ≤ time_after (moments_shown ms) + fuel → Caught p (e ∷ h) next
catch-up law p e h next i f zero ms c w a b m = by (wake_after p (moments_shown ms)) refl
  where
    by : (o : Option ℕ) → wake_after p (moments_shown ms) ≡ o → Caught p (e ∷ h) next
    by None k = record { moments = ms; changes = c; in_time = w; by = b; before = subst (IsBefore next) (sym k) tt }
    by (Some n) k =
        let lt : time_after (moments_shown ms) < n = wake-is-later p (moments_shown ms) n k in
        record {
          moments = ms;
          changes = c;
          in_time = w;
          by = b;
          before = subst (IsBefore next) (sym k) (omega (arith, lt, m));
        }
catch-up law p e h next i f (suc fuel) ms c w a b m =
    by (wake_after p (moments_shown ms)) refl
    (λ n k v. catch-up law p e h next i f fuel (Wake n ∷ ms) c (k, held n k v, w)
    (omega (arith, a, wake-is-later p (moments_shown ms) n k)) v
    (omega (arith, m, wake-is-later p (moments_shown ms) n k)))
  where
    held : (n : ℕ) → wake_after p (moments_shown ms) ≡ Some n → n ≤ next → does_after p (moments_shown ms) ≡ true
        → (levels_after (moments_shown ms)).line ≡ false
    held n k v d =
        let lt : time_after (moments_shown ms) < n = wake-is-later p (moments_shown ms) n k in
        let s : pulling p (changes_shown ms) (time_after (moments_shown ms)) ≡ does_after p (moments_shown ms) =
        wakes-suffice law p ms i w (time_after (moments_shown ms)) (omega arith)
        (subst (IsBefore (time_after (moments_shown ms))) (sym k) lt) in
        ap (λ l. l.line) (levels-same ms)
        ∙ (ap (λ g. (levels_after g).line) c
        ∙ f (time_after (moments_shown ms)) a (omega (arith, lt, v))
        (ap (λ g. pulling p g (time_after (moments_shown ms))) (sym c) ∙ (s ∙ d)))

    late : (n : ℕ) → wake_after p (moments_shown ms) ≡ Some n
        → ((k : ℕ) → wake_after p (moments_shown ms) ≡ Some k → k ≤ next → Caught p (e ∷ h) next) → (v : Bool)
        → nat_lt next n ≡ v → Caught p (e ∷ h) next
    late n k g true j = record {
      moments = ms;
      changes = c;
      in_time = w;
      by = b;
      before = subst (IsBefore next) (sym k) (ltb-true next n j);
    }
    late n k g false j = g n k (ltb-false next n j)

    by : (o : Option ℕ) → wake_after p (moments_shown ms) ≡ o
        → ((n : ℕ) → wake_after p (moments_shown ms) ≡ Some n → n ≤ next → Caught p (e ∷ h) next)
        → Caught p (e ∷ h) next
    by None k g = record { moments = ms; changes = c; in_time = w; by = b; before = subst (IsBefore next) (sym k) tt }
    by (Some n) k g = late n k g (nat_lt next n) refl

and-not : (a b : Bool) → b ≡ true → (a && not b) ≡ false
and-not true b h = ap not h
and-not false b h = refl

-- over moves
call-all : ListeningAfterOneMore → (p : Party) (ps : List Party) (e : Edge) (h : List Edge) (ms : List Move) (end : ℕ)
    → IsParty p → ((g : List Edge) (n : ℕ) → pulling p g n ≡ true → one_pulls ps g n ≡ true)
    → ((n : ℕ) → e.time ≤ n → n < next_moment ms end → pulling p (e ∷ h) n ≡ true → e.levels.line ≡ false)
    → (moments : List Moment) → changes_shown moments ≡ e ∷ h → AreInTime p moments
    → time_after (moments_shown moments) ≡ e.time
    → GoForward e.time (map (λ (m : Move). m.edge) ms) → AreMade ps (e ∷ h) ms end
    → CanBeCalled p (after_moves (e ∷ h) ms)
call-all law p ps e h [] end i o f moments c w t a m = record { moments = moments; changes = c; in_time = w }
call-all law p ps e h (x ∷ ms) end i o f moments c w t (a, later) (m, made) =
    let v = catch-up law p e h x.edge.time i f x.edge.time moments c w (omega (arith, t)) (omega (arith, t, a))
    (omega arith) in
    call-all law p ps x.edge (e ∷ h) ms end i o
    (λ n j k d. m.stays n j k ∙ and-not x.level (one_pulls ps (x.edge ∷ (e ∷ h)) n) (o (x.edge ∷ (e ∷ h)) n d))
    (Change x.edge ∷ v.moments) (ap (λ g. x.edge ∷ g) v.changes) (v.by, v.before, v.in_time) refl later made

-- what one of the devices does, one of them does
abbrev Counts : List Party → Party → Type 0
Counts ps p = (g : List Edge) (n : ℕ) → pulling p g n ≡ true → one_pulls ps g n ≡ true

counts : (ps : List Party) → Each (Counts ps) ps
counts [] = tt
counts (p ∷ ps) = (
  λ g n k. or-left (pulling p g n) (one_pulls ps g n) k,
  each-map (Counts ps) (Counts (p ∷ ps)) ps (λ q f g n k. or-right (pulling p g n) (one_pulls ps g n) (f g n k))
      (counts ps),
)

call-one : ListeningAfterOneMore → (ps : List Party) (ms : List Move) (end : ℕ)
    → GoForward 0 (map (λ (m : Move). m.edge) ms) → AreMade ps [] ms end → (p : Party) → Counts ps p × IsParty p
    → CanBeCalled p (after_moves [] ms)
call-one law ps [] end a m p (o, i) = record { moments = []; changes = refl; in_time = tt }
call-one law ps (x ∷ ms) end (a, later) (m, made) p (o, i) =
    call-all law p ps x.edge [] ms end i o (λ n j k d. m.stays n j k
    ∙ and-not x.level (one_pulls ps (x.edge ∷ []) n) (o (x.edge ∷ []) n d))
    (Change x.edge ∷ []) refl (omega arith, tt, tt) refl later made

pub can-be-called : ListeningAfterOneMore → DevicesCanBeCalled
can-be-called law ps ms end t a m =
    each-map (λ (p : Party). Counts ps p × IsParty p) (λ (p : Party). CanBeCalled p (after_moves [] ms)) ps
    (call-one law ps ms end a m) (each-both (Counts ps) IsParty ps (counts ps) t)

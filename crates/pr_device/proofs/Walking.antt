-- How a history grows, moment by moment.
use Rattle.std.proofs.Common.{◌≡◌, ℕ, ◌+◌, ◌==◌, nat_lt, Bool, true, false, not, ◌&&◌, ◌||◌, List, [], ◌∷◌, ◌++◌}
use Rattle.std.proofs.Common.{Option, Some, None, if◌then◌else◌, refl, sym, ap, subst, ◌∙◌, append-nil}
use Rattle.std.specs.Option.{option_to_list}
use Rattle.pr_wire.specs.declared.Edge.{Edge}
use Rattle.pr_wire.specs.declared.Frame.{Frame}
use Rattle.pr_wire.specs.Table.{same}
use Rattle.pr_device.specs.declared.place.Place.{Place}
use Rattle.pr_device.specs.declared.place.Place.TheVariants.{Between, Sent, Opening, Bits}
use Rattle.pr_device.specs.Following.{atn_of, clock_of, place_after, said, frame_at, leads, ends, freed, begun}
use Rattle.pr_device.specs.Following.{is_answered, shifted}
use Rattle.pr_device.specs.Talkers.{Stay, is_answered_from, is_answered_in, is_released_in}

-- moments in order, in front of a history
abbrev pub onto : List Edge → List Edge → List Edge
onto [] h = h
onto (e ∷ es) h = onto es (e ∷ h)

pub onto-append : (xs ys h : List Edge) → onto (xs ++ ys) h ≡ onto ys (onto xs h)
onto-append [] ys h = refl
onto-append (x ∷ xs) ys h = onto-append xs ys (x ∷ h)

-- where a history leads, and what it says
pub record Stands (wait : ℕ) (h : List Edge) (atn clock : Bool) (p : Place) (fs : List Frame) : Type 0 where
  pub atn_is : atn_of h ≡ atn
  pub clock_is : clock_of h ≡ clock
  pub place_is : place_after wait h ≡ p
  pub said_is : said wait h ≡ fs

-- ATN's level and what is said, wherever a history leads
pub record IsAt (wait : ℕ) (h : List Edge) (atn : Bool) (fs : List Frame) : Type 0 where
  pub atn_is : atn_of h ≡ atn
  pub said_is : said wait h ≡ fs

pub same-self : (x : Bool) → same x x ≡ true
same-self true = refl
same-self false = refl

pub same-not : (x : Bool) → same x (not x) ≡ false
same-not true = refl
same-not false = refl

pub not-not : (x : Bool) → not (not x) ≡ x
not-not true = refl
not-not false = refl

-- the choice of a test that holds, and of one that does not
pub chosen : {A : Type 0} (b : Bool) (x y : A) → b ≡ true → (if b then x else y) ≡ x
chosen true x y h = refl
chosen false x y h = absurd (let k : false ≡ true = h in cc)

pub refused : {A : Type 0} (b : Bool) (x y : A) → b ≡ false → (if b then x else y) ≡ y
refused false x y h = refl
refused true x y h = absurd (let k : true ≡ false = h in cc)

-- ATN stays
stays : (e : Edge) (h : List Edge) (x : Bool) → e.levels.atn ≡ x → atn_of h ≡ x → same e.levels.atn (atn_of h) ≡ true
stays e h x a b = ap (λ v. same v (atn_of h)) a ∙ (ap (λ v. same x v) b ∙ same-self x)

-- one moment more at which ATN stays
pub goes-on : (wait : ℕ) (h : List Edge) (x c d : Bool) (p : Place) (fs : List Frame) (e : Edge)
    → Stands wait h x c p fs → e.levels.atn ≡ x → e.levels.clock ≡ d
    → Stands wait (e ∷ h) x d (leads wait p c e) (fs ++ option_to_list (ends p c e))
goes-on wait h x c d p fs e s a k =
    let b : same e.levels.atn (atn_of h) ≡ true = stays e h x a s.atn_is in
    record {
      atn_is = a;
      clock_is = k;
      place_is =
          chosen (same e.levels.atn (atn_of h)) (leads wait (place_after wait h) (clock_of h) e) Between b
          ∙ (ap (λ q. leads wait q (clock_of h) e) s.place_is ∙ ap (λ l. leads wait p l e) s.clock_is);
      said_is =
          ap (λ l. l ++ option_to_list (frame_at wait h e)) s.said_is
          ∙ ap (λ o. fs ++ option_to_list o)
          (chosen (same e.levels.atn (atn_of h)) (ends (place_after wait h) (clock_of h) e) None b
          ∙ (ap (λ q. ends q (clock_of h) e) s.place_is ∙ ap (λ l. ends p l e) s.clock_is));
    }

-- the same, by where it leads and what it ends
pub goes-to : (wait : ℕ) (h : List Edge) (x c d : Bool) (p q : Place) (fs : List Frame) (o : Option Frame) (e : Edge)
    → Stands wait h x c p fs → e.levels.atn ≡ x → e.levels.clock ≡ d → leads wait p c e ≡ q → ends p c e ≡ o
    → Stands wait (e ∷ h) x d q (fs ++ option_to_list o)
goes-to wait h x c d p q fs o e s a k l n =
    let t = goes-on wait h x c d p fs e s a k in
    record {
      atn_is = t.atn_is;
      clock_is = t.clock_is;
      place_is = t.place_is ∙ l;
      said_is = t.said_is ∙ ap (λ v. fs ++ option_to_list v) n;
    }

-- and where it ends no byte
pub goes-quietly : (wait : ℕ) (h : List Edge) (x c d : Bool) (p q : Place) (fs : List Frame) (e : Edge)
    → Stands wait h x c p fs → e.levels.atn ≡ x → e.levels.clock ≡ d → leads wait p c e ≡ q → ends p c e ≡ None
    → Stands wait (e ∷ h) x d q fs
goes-quietly wait h x c d p q fs e s a k l n =
    let t = goes-to wait h x c d p q fs None e s a k l n in
    record { atn_is = t.atn_is; clock_is = t.clock_is; place_is = t.place_is; said_is = t.said_is ∙ append-nil fs }

-- a moment at which ATN changes
pub turns : (wait : ℕ) (h : List Edge) (x d : Bool) (fs : List Frame) (e : Edge) → IsAt wait h (not x) fs
    → e.levels.atn ≡ x → e.levels.clock ≡ d → Stands wait (e ∷ h) x d Between fs
turns wait h x d fs e s a k =
    let b : same e.levels.atn (atn_of h) ≡ false =
    ap (λ v. same v (atn_of h)) a ∙ (ap (λ v. same x v) s.atn_is ∙ same-not x) in
    record {
      atn_is = a;
      clock_is = k;
      place_is = refused (same e.levels.atn (atn_of h)) (leads wait (place_after wait h) (clock_of h) e) Between b;
      said_is =
          ap (λ l. l ++ option_to_list (frame_at wait h e)) s.said_is
          ∙ (ap (λ o. fs ++ option_to_list o)
          (refused (same e.levels.atn (atn_of h)) (ends (place_after wait h) (clock_of h) e) None b)
          ∙ append-nil fs);
    }

-- no byte, whatever a test says
abbrev none_by : Bool → Option Frame
none_by b = if b then None else None

-- a byte
abbrev pub framed : Bool → ℕ → Bool → Frame
framed attention byte eoi = record { attention = attention; byte = byte; eoi = eoi }

-- the first moment of all
pub begins-all : (wait : ℕ) (x d : Bool) (e : Edge) → e.levels.atn ≡ x → e.levels.clock ≡ d
    → Stands wait (e ∷ []) x d Between []
begins-all wait x d e a k = record {
  atn_is = a;
  clock_is = k;
  place_is = by (same e.levels.atn true);
  said_is = ap option_to_list (to (same e.levels.atn true));
}
  where
    by : (b : Bool) → (if b then Between else Between) ≡ Between
    by true = refl
    by false = refl

    to : (b : Bool) → none_by b ≡ None
    to true = refl
    to false = refl

-- the places other than before a byte, where CLOCK is released
abbrev pub IsCalm : Place → Type 0
IsCalm (Opening look free eoi) = ⊥
IsCalm _ = Unit {0}

-- between two bytes
abbrev pub IsBetween : Place → Type 0
IsBetween Between = Unit {0}
IsBetween (Sent z) = Unit {0}
IsBetween _ = ⊥

-- at a moment at which CLOCK stays, such a place stays
calm-leads : (wait : ℕ) (p : Place) (c : Bool) (e : Edge) → IsCalm p → e.levels.clock ≡ c → leads wait p c e ≡ p
calm-leads wait Between true e i k = refl
calm-leads wait Between false e i k = refused e.levels.clock (Opening e.time None false) Between k
calm-leads wait (Sent z) true e i k = refl
calm-leads wait (Sent z) false e i k = refused e.levels.clock (Opening e.time None false) (Sent z) k
calm-leads wait (Opening look free eoi) c e i k = absurd i
calm-leads wait (Bits eoi n v) true e i k = ap (λ l. if not l && n == 8 then Sent e.time else Bits eoi n v) k
calm-leads wait (Bits eoi n v) false e i k =
    ap (λ l. if l && nat_lt n 8 then Bits eoi (n + 1) (shifted v e.levels.line) else Bits eoi n v) k

calm-ends : (p : Place) (c : Bool) (e : Edge) → IsCalm p → e.levels.clock ≡ c → ends p c e ≡ None
calm-ends Between c e i k = refl
calm-ends (Sent z) c e i k = refl
calm-ends (Opening look free eoi) c e i k = absurd i
calm-ends (Bits eoi n v) true e i k =
    ap (λ l. if not l && n == 8 then Some (framed (not e.levels.atn) v eoi) else None) k
calm-ends (Bits eoi n v) false e i k = refl

-- moments at which ATN and CLOCK stay
pub walk-calm : (wait : ℕ) (h : List Edge) (x c : Bool) (p : Place) (fs : List Frame) (es : List Edge) → IsCalm p
    → Stands wait h x c p fs → Stay x c es → Stands wait (onto es h) x c p fs
walk-calm wait h x c p fs [] i s w = s
walk-calm wait h x c p fs (e ∷ es) i s (a, k, w) =
    walk-calm wait (e ∷ h) x c p fs es i
    (goes-quietly wait h x c c p p fs e s a k (calm-leads wait p c e i k) (calm-ends p c e i k)) w

-- end-or-identify is answered in more moments
abbrev pub is_answered_more : ℕ → Option ℕ → List Edge → Bool
is_answered_more wait None es = is_answered_in wait es
is_answered_more wait (Some free) es = is_answered_from wait free es

-- the first moment at which DATA is released, of more moments
abbrev pub freed_in : Option ℕ → List Edge → Option ℕ
freed_in free [] = free
freed_in free (e ∷ es) = freed_in (freed free e) es

open-leads : (wait look : ℕ) (free : Option ℕ) (eoi x : Bool) (e : Edge) → e.levels.atn ≡ x → e.levels.clock ≡ true
    → leads wait (Opening look free eoi) true e ≡ Opening look (freed free e) (eoi || (x && is_answered wait free e))
open-leads wait look free eoi x e a k =
    chosen e.levels.clock (Opening look (freed free e) (eoi || (e.levels.atn && is_answered wait free e)))
    (begun free eoi) k
    ∙ ap (λ v. Opening look (freed free e) (eoi || (v && is_answered wait free e))) a

-- the answer in one moment more
or-and : (a x b d : Bool) → ((a || (x && b)) || (x && d)) ≡ (a || (x && (b || d)))
or-and true x b d = refl
or-and false true true d = refl
or-and false true false d = refl
or-and false false b d = refl

or-false : (a x : Bool) → (a || (x && false)) ≡ a
or-false true x = refl
or-false false true = refl
or-false false false = refl

answered-next : (wait : ℕ) (free : Option ℕ) (eoi x : Bool) (e : Edge) (es : List Edge)
    → ((eoi || (x && is_answered wait free e)) || (x && is_answered_more wait (freed free e) es))
    ≡ (eoi || (x && is_answered_more wait free (e ∷ es)))
answered-next wait (Some free) eoi x e es =
    or-and eoi x (is_answered wait (Some free) e) (is_answered_from wait free es)
answered-next wait None eoi x e es = ap (λ v. v || (x && is_answered_more wait (freed None e) es)) (or-false eoi x)
    ∙ ap (λ v. eoi || (x && v)) (by e.levels.line)
  where
    by : (b : Bool)
        → is_answered_more wait (if b then Some e.time else None) es
        ≡ (if b then is_answered_from wait e.time es else is_answered_in wait es)
    by true = refl
    by false = refl

-- moments before a byte
pub walk-open : (wait : ℕ) (h : List Edge) (x : Bool) (look : ℕ) (free : Option ℕ) (eoi : Bool) (fs : List Frame)
    (es : List Edge)
    → Stands wait h x true (Opening look free eoi) fs → Stay x true es
    → Stands wait (onto es h) x true (Opening look (freed_in free es) (eoi || (x && is_answered_more wait free es))) fs
walk-open wait h x look None eoi fs [] s w =
    subst (λ v. Stands wait h x true (Opening look None v) fs) (sym (or-false eoi x)) s
walk-open wait h x look (Some f) eoi fs [] s w =
    subst (λ v. Stands wait h x true (Opening look (Some f) v) fs) (sym (or-false eoi x)) s
walk-open wait h x look free eoi fs (e ∷ es) s (a, k, w) =
    let t = goes-quietly wait h x true true (Opening look free eoi)
    (Opening look (freed free e) (eoi || (x && is_answered wait free e))) fs e s a k
    (open-leads wait look free eoi x e a k) refl in
    subst (λ v. Stands wait (onto es (e ∷ h)) x true (Opening look (freed_in (freed free e) es) v) fs)
    (answered-next wait free eoi x e es)
    (walk-open wait (e ∷ h) x look (freed free e) (eoi || (x && is_answered wait free e)) fs es t w)

-- once DATA is released, the moment stays
freed-stays : (f : ℕ) (es : List Edge) → freed_in (Some f) es ≡ Some f
freed-stays f [] = refl
freed-stays f (e ∷ es) = freed-stays f es

-- CLOCK's pull begins the bits, where DATA was released before
pub begins-bits : (es : List Edge) (eoi : Bool) → is_released_in es ≡ true → begun (freed_in None es) eoi ≡ Bits eoi 0 0
begins-bits [] eoi h = absurd (let k : false ≡ true = h in cc)
begins-bits (e ∷ es) eoi h = by e.levels.line h (λ k. begins-bits es eoi k)
  where
    by : (b : Bool) → (b || is_released_in es) ≡ true
        → (is_released_in es ≡ true → begun (freed_in None es) eoi ≡ Bits eoi 0 0)
        → begun (freed_in (if b then Some e.time else None) es) eoi ≡ Bits eoi 0 0
    by true k next = ap (λ o. begun o eoi) (freed-stays e.time es)
    by false k next = next k

-- A device that is called at its wakes does what the changes of the lines alone say.
use Rattle.std.proofs.Common.{◌≡◌, ℕ, ◌+◌, ◌<◌, ◌≤◌, ◌==◌, nat_lt, max, Bool, true, false, not, ◌&&◌, ◌||◌, List, []}
use Rattle.std.proofs.Common.{◌∷◌, ◌++◌, Option, Some, None, IfSome, if◌then◌else◌, refl, sym, ap, subst, ◌∙◌}
use Rattle.std.proofs.Common.{append-nil, arith, le-ltb, ltb-false}
use Rattle.std.specs.Option.{option_to_list}
use Rattle.pr_wire.specs.declared.Edge.{Edge}
use Rattle.pr_wire.specs.declared.Frame.{Frame}
use Rattle.pr_wire.specs.Table.{same}
use Rattle.pr_receiver.specs.Heard.{is_listening, is_unlisten, is_listen}
use Rattle.pr_receiver.specs.Laws.{ListeningAfterOneMore}
use Rattle.pr_device.specs.declared.place.Place.{Place}
use Rattle.pr_device.specs.declared.place.Place.TheVariants.{Between, Sent, Opening, Bits}
use Rattle.pr_device.specs.declared.timing.Timing.{Timing}
use Rattle.pr_device.specs.Data.{Standing, standing, pulls, pulls_at, calls, leaves, is_away, wake, wake_at, where_true}
use Rattle.pr_device.specs.Data.{after_where}
use Rattle.pr_device.specs.Following.{atn_of, clock_of, since_of, place_after, said, frame_at, leads, ends, freed}
use Rattle.pr_device.specs.Following.{begun, is_answered, rises, falls, shifted}
use Rattle.pr_device.specs.Course.{Party, pulling}
use Rattle.pr_device.specs.Shown.{Moment, levels_after, time_after, moments_shown, changes_shown, does_after}
use Rattle.pr_device.specs.Shown.{wake_after, IsBefore, AreInTime}
use Rattle.pr_device.specs.Shown.Moment.{Change, Wake}
use Rattle.pr_device.specs.Laws.{IsPast, WakesSuffice}
use Rattle.pr_device.specs.Timing.{IsTiming}
use Rattle.pr_device.proofs.Walking.{chosen, same-self}
use Rattle.pr_device.proofs.Tests.{and-false}
use Rattle.pr_device.proofs.Stepping.{wake-later, stood}
use Rattle.pr_device.proofs.Waking.{wakes-act}

-- a place, whatever is said of end-or-identify
abbrev blind : Place → Place
blind (Opening look free eoi) = Opening look free false
blind (Bits eoi n v) = Bits false n v
blind p = p

-- what a device does rests on no more
blind-pulls : (t : Timing) (u : ℕ) (b atn clock : Bool) (since : Option ℕ) (listens : Bool) (p : Place) (n : ℕ)
    → pulls t u b (stood atn clock since listens p) n ≡ pulls t u b (stood atn clock since listens (blind p)) n
blind-pulls t u b atn clock since listens Between n = refl
blind-pulls t u b atn clock since listens (Sent z) n = refl
blind-pulls t u b atn clock since listens (Opening look None eoi) n = refl
blind-pulls t u b atn clock since listens (Opening look (Some f) eoi) n = refl
blind-pulls t u b atn clock since listens (Bits eoi k v) n = refl

-- two ways in which things stand alike for a device
record Alike (s z : Standing) : Type 0 where
  atn_is : s.atn ≡ z.atn
  clock_is : s.clock ≡ z.clock
  since_is : s.since ≡ z.since
  listens_is : s.listens ≡ z.listens
  place_is : blind s.place ≡ blind z.place

alike-pulls : (t : Timing) (b : Bool) (s z : Standing) (n : ℕ) → Alike s z → pulls t 0 b s n ≡ pulls t 0 b z n
alike-pulls t b s z n a =
    blind-pulls t 0 b s.atn s.clock s.since s.listens s.place n
    ∙ (ap (λ x. pulls t 0 b (stood x s.clock s.since s.listens (blind s.place)) n) a.atn_is
    ∙ (ap (λ x. pulls t 0 b (stood z.atn x s.since s.listens (blind s.place)) n) a.clock_is
    ∙ (ap (λ x. pulls t 0 b (stood z.atn z.clock x s.listens (blind s.place)) n) a.since_is
    ∙ (ap (λ x. pulls t 0 b (stood z.atn z.clock z.since x (blind s.place)) n) a.listens_is
    ∙ (ap (λ x. pulls t 0 b (stood z.atn z.clock z.since z.listens x) n) a.place_is
    ∙ sym (blind-pulls t 0 b z.atn z.clock z.since z.listens z.place n))))))

-- where a moment leads
blind-leads : (w : ℕ) (p : Place) (c : Bool) (e : Edge) → blind (leads w p c e) ≡ blind (leads w (blind p) c e)
blind-leads w Between c e = refl
blind-leads w (Sent z) c e = refl
blind-leads w (Opening look None eoi) c e = by e.levels.clock
  where
    by : (k : Bool) → blind (if k then Opening look (freed None e) (eoi || (e.levels.atn && is_answered w None e))
        else Between)
        ≡ blind (if k then Opening look (freed None e) (false || (e.levels.atn && is_answered w None e)) else Between)
    by true = refl
    by false = refl
blind-leads w (Opening look (Some f) eoi) c e = by e.levels.clock
  where
    by : (k : Bool) → blind (if k then Opening look (Some f) (eoi || (e.levels.atn && is_answered w (Some f) e))
        else Bits eoi 0 0)
        ≡ blind (if k then Opening look (Some f) (false || (e.levels.atn && is_answered w (Some f) e))
        else Bits false 0 0)
    by true = refl
    by false = refl
blind-leads w (Bits eoi n v) c e = by (rises c e && nat_lt n 8) (falls c e && n == 8)
  where
    by : (j k : Bool) → blind (if j then Bits eoi (n + 1) (shifted v e.levels.line)
        else (if k then Sent e.time else Bits eoi n v))
        ≡ blind (if j then Bits false (n + 1) (shifted v e.levels.line)
        else (if k then Sent e.time else Bits false n v))
    by true k = refl
    by false true = refl
    by false false = refl

alike-leads : (w : ℕ) (p q : Place) (c : Bool) (e : Edge) → blind p ≡ blind q
    → blind (leads w p c e) ≡ blind (leads w q c e)
alike-leads w p q c e h = blind-leads w p c e ∙ (ap (λ x. blind (leads w x c e)) h ∙ sym (blind-leads w q c e))

-- whether a device listens after one frame more, if there is one
abbrev listens_after : ℕ → Bool → Option Frame → Bool
listens_after d b None = b
listens_after d b (Some f) = if is_unlisten f then false else (b || is_listen d f)

listens-more : ListeningAfterOneMore → (d : ℕ) (fs : List Frame) (o : Option Frame)
    → is_listening d (fs ++ option_to_list o) ≡ listens_after d (is_listening d fs) o
listens-more law d fs None = ap (is_listening d) (append-nil fs)
listens-more law d fs (Some f) = law d fs f

-- the frame that a moment ends says the same of it
blind-ends : (d : ℕ) (b : Bool) (p : Place) (c : Bool) (e : Edge)
    → listens_after d b (ends p c e) ≡ listens_after d b (ends (blind p) c e)
blind-ends d b Between c e = refl
blind-ends d b (Sent z) c e = refl
blind-ends d b (Opening look free eoi) c e = refl
blind-ends d b (Bits eoi n v) c e = by (falls c e && n == 8)
  where
    by : (k : Bool) → listens_after d b (if k then Some (record { attention = not e.levels.atn; byte = v; eoi = eoi })
        else None)
        ≡ listens_after d b (if k then Some (record { attention = not e.levels.atn; byte = v; eoi = false }) else None)
    by true = refl
    by false = refl

alike-ends : (d : ℕ) (b : Bool) (p q : Place) (c : Bool) (e : Edge) → blind p ≡ blind q
    → listens_after d b (ends p c e) ≡ listens_after d b (ends q c e)
alike-ends d b p q c e h =
    blind-ends d b p c e ∙ (ap (λ x. listens_after d b (ends x c e)) h ∙ sym (blind-ends d b q c e))

-- the levels of histories
atn-of : (h : List Edge) → atn_of h ≡ (levels_after h).atn
atn-of [] = refl
atn-of (e ∷ h) = refl

clock-of : (h : List Edge) → clock_of h ≡ (levels_after h).clock
clock-of [] = refl
clock-of (e ∷ h) = refl

-- before a byte CLOCK is released, since a moment that is past
abbrev IsOpen : Place → Bool → ℕ → Type 0
IsOpen (Opening look free eoi) clock now = (clock ≡ true) × (look ≤ now)
IsOpen _ clock now = Unit {0}

open-leads : (w : ℕ) (p : Place) (c : Bool) (e : Edge) (now : ℕ) → IsOpen p c now → now ≤ e.time
    → IsOpen (leads w p c e) e.levels.clock e.time
open-leads w Between c e now o m = by c e.levels.clock
  where
    by : (x y : Bool) → IsOpen (if not x && y then Opening e.time None false else Between) y e.time
    by true y = tt
    by false true = (refl, omega arith)
    by false false = tt
open-leads w (Sent z) c e now o m = by c e.levels.clock
  where
    by : (x y : Bool) → IsOpen (if not x && y then Opening e.time None false else Sent z) y e.time
    by true y = tt
    by false true = (refl, omega arith)
    by false false = tt
open-leads w (Opening look free eoi) c e now (k, o) m = by e.levels.clock free
  where
    by : (y : Bool) (f : Option ℕ)
        → IsOpen (if y then Opening look (freed free e) (eoi || (e.levels.atn && is_answered w free e))
        else begun f eoi) y e.time
    by true f = (refl, omega (arith, o, m))
    by false None = tt
    by false (Some x) = tt
open-leads w (Bits eoi n v) c e now o m = by (rises c e && nat_lt n 8) (falls c e && n == 8)
  where
    by : (j k : Bool) → IsOpen (if j then Bits eoi (n + 1) (shifted v e.levels.line)
        else (if k then Sent e.time else Bits eoi n v)) e.levels.clock e.time
    by true k = tt
    by false true = tt
    by false false = tt

open-past : (p : Place) (c : Bool) (now : ℕ) → IsOpen p c now → IsPast p now
open-past Between c now o = tt
open-past (Sent z) c now o = tt
open-past (Opening look free eoi) c now (k, o) = o
open-past (Bits eoi n v) c now o = tt

-- a moment more changes nothing of what is done at a later one
up-again : (b : Bool) (m l x : ℕ) → m ≤ l → ((b || not (nat_lt m x)) || not (nat_lt l x)) ≡ (b || not (nat_lt l x))
up-again true m l x h = refl
up-again false m l x h = by (nat_lt m x) refl
  where
    by : (k : Bool) → nat_lt m x ≡ k → (not k || not (nat_lt l x)) ≡ not (nat_lt l x)
    by true e = refl
    by false e = let i : x ≤ m = ltb-false m x e in sym (ap not (le-ltb l x (omega arith)))

down-again : (b : Bool) (m l x : ℕ) → m ≤ l → ((b && nat_lt m x) && nat_lt l x) ≡ (b && nat_lt l x)
down-again false m l x h = refl
down-again true m l x h = by (nat_lt m x) refl
  where
    by : (k : Bool) → nat_lt m x ≡ k → (k && nat_lt l x) ≡ nat_lt l x
    by true e = refl
    by false e = let i : x ≤ m = ltb-false m x e in sym (le-ltb l x (omega arith))

near-again : (t : Timing) (b : Bool) (s : Standing) (p : Place) (m l : ℕ) → m ≤ l
    → ((look : ℕ) (eoi : Bool) → p ≡ Opening look None eoi → max (look + t.hold) 0 ≤ l)
    → pulls_at t 0 (pulls_at t 0 b s p m) s p l ≡ pulls_at t 0 b s p l
near-again t b s Between m l h o = by s.atn s.since
  where
    by : (a : Bool) (since : Option ℕ)
        → (if a then not s.clock else calls t (if a then not s.clock else calls t b since m) since l)
        ≡ (if a then not s.clock else calls t b since l)
    by true since = refl
    by false None = refl
    by false (Some r) = up-again b m l (r + t.attention) h
near-again t b s (Sent pull) m l h o = up-again b m l (pull + t.accept) h
near-again t b s (Opening look None eoi) m l h o =
    let e : nat_lt l (max (look + t.hold) 0) ≡ false = le-ltb l (max (look + t.hold) 0) (o look eoi refl) in
    and-false ((((b || m == look) && nat_lt m (max (look + t.hold) 0)) || l == look))
    (nat_lt l (max (look + t.hold) 0)) e
    ∙ sym (and-false (b || l == look) (nat_lt l (max (look + t.hold) 0)) e)
near-again t b s (Opening look (Some free) eoi) m l h o = refl
near-again t b s (Bits eoi n v) m l h o = refl

acts-again : (t : Timing) (b : Bool) (s : Standing) (m l : ℕ) → m ≤ l
    → ((look : ℕ) (eoi : Bool) → is_away s ≡ false → s.place ≡ Opening look None eoi → max (look + t.hold) 0 ≤ l)
    → pulls t 0 (pulls t 0 b s m) s l ≡ pulls t 0 b s l
acts-again t b s m l h o = by (is_away s) refl
  where
    left : (since : Option ℕ) → leaves t (leaves t b since m) since l ≡ leaves t b since l
    left None = refl
    left (Some r) = down-again b m l (r + t.leave) h

    by : (v : Bool) → is_away s ≡ v
        → (if v then leaves t (if v then leaves t b s.since m else pulls_at t 0 b s s.place m) s.since l
        else pulls_at t 0 (if v then leaves t b s.since m else pulls_at t 0 b s s.place m) s s.place l)
        ≡ (if v then leaves t b s.since l else pulls_at t 0 b s s.place l)
    by true k = left s.since
    by false k = near-again t b s s.place m l h (λ look eoi e. o look eoi k e)

-- a wake before a byte
record HoldsUntil (t : Timing) (d : Bool) (s : Standing) (look n : ℕ) : Type 0 where
  held : d ≡ true
  until : is_away s ≡ false → max (look + t.hold) 0 ≡ n

wake-open : (t : Timing) (d : Bool) (s : Standing) (m n look : ℕ) (eoi : Bool) → wake t 0 d s m ≡ Some n
    → s.place ≡ Opening look None eoi → HoldsUntil t d s look n
wake-open t d s m n look eoi k q =
    let j : (if is_away s then after_where d s.since t.leave else wake_at t 0 d s (Opening look None eoi) m) ≡ Some n =
    ap (λ (p : Place). if is_away s then after_where d s.since t.leave else wake_at t 0 d s p m) (sym q) ∙ k in
    by d (is_away s) refl j
  where
    by : (x v : Bool) → is_away s ≡ v
        → (if v then after_where x s.since t.leave else where_true x (max (look + t.hold) 0)) ≡ Some n
        → HoldsUntil t x s look n
    by true true e i = record { held = refl; until = λ f. absurd (let a : true ≡ false = sym e ∙ f in cc) }
    by true false e i = record { held = refl; until = λ f. (let a : Some (max (look + t.hold) 0) ≡ Some n = i in cc) }
    by false true e i = absurd (let a : None ≡ Some n = i in cc)
    by false false e i = absurd (let a : None ≡ Some n = i in cc)

-- a moment at which the lines stay
still-leads : (w : ℕ) (p : Place) (c line atn : Bool) (m n : ℕ) → IsOpen p c m
    → ((look : ℕ) (eoi : Bool) → p ≡ Opening look None eoi → line ≡ false)
    → blind (leads w p c (record { time = n; levels = record { atn = atn; clock = c; line = line } })) ≡ blind p
still-leads w Between true line atn m n o f = refl
still-leads w Between false line atn m n o f = refl
still-leads w (Sent z) true line atn m n o f = refl
still-leads w (Sent z) false line atn m n o f = refl
still-leads w (Opening look None eoi) true line atn m n o f = by line (f look eoi refl)
  where
    by : (x : Bool) → x ≡ false → Opening look (if x then Some n else None) false ≡ Opening look None false
    by false e = refl
    by true e = absurd (let a : true ≡ false = e in cc)
still-leads w (Opening look (Some z) eoi) true line atn m n o f = refl
still-leads w (Opening look free eoi) false line atn m n (k, o) f = absurd (let a : false ≡ true = k in cc)
still-leads w (Bits eoi j v) true line atn m n o f = refl
still-leads w (Bits eoi j v) false line atn m n o f = refl

still-ends : (p : Place) (c line atn : Bool) (n : ℕ)
    → ends p c (record { time = n; levels = record { atn = atn; clock = c; line = line } }) ≡ None
still-ends Between c line atn n = refl
still-ends (Sent z) c line atn n = refl
still-ends (Opening look free eoi) c line atn n = refl
still-ends (Bits eoi j v) true line atn n = refl
still-ends (Bits eoi j v) false line atn n = refl

-- moments and changes have something at the same time
abbrev Together : List Edge → List Edge → Type 0
Together [] [] = Unit {0}
Together (x ∷ xs) (y ∷ ys) = Unit {0}
Together _ _ = ⊥

-- what holds of all moments and of the changes among them
record Like (p : Party) (g h : List Edge) : Type 0 where
  both : Together g h
  alike : Alike (standing p.timing.wait p.device g) (standing p.timing.wait p.device h)
  open_is : IsOpen (place_after p.timing.wait g) (clock_of g) (time_after g)
  does : (now : ℕ) → time_after g ≤ now → IsBefore now (wake_after p g) → pulling p h now ≡ does_after p g

like-none : (p : Party) → Like p [] []
like-none p = record {
  both = tt;
  alike = record { atn_is = refl; clock_is = refl; since_is = refl; listens_is = refl; place_is = refl };
  open_is = tt;
  does = λ now i b. refl;
}

open-next : (p : Party) (g : List Edge) (e : Edge) → IsOpen (place_after p.timing.wait g) (clock_of g) (time_after g)
    → time_after g ≤ e.time → IsOpen (place_after p.timing.wait (e ∷ g)) e.levels.clock e.time
open-next p g e o m =
    by (same e.levels.atn (atn_of g)) (leads p.timing.wait (place_after p.timing.wait g) (clock_of g) e)
    (open-leads p.timing.wait (place_after p.timing.wait g) (clock_of g) e (time_after g) o m)
  where
    by : (k : Bool) (q : Place) → IsOpen q e.levels.clock e.time
        → IsOpen (if k then q else Between) e.levels.clock e.time
    by true q i = i
    by false q i = tt

-- a change more
alike-next : ListeningAfterOneMore → (w d : ℕ) (g h : List Edge) (e : Edge) → Alike (standing w d g) (standing w d h)
    → Alike (standing w d (e ∷ g)) (standing w d (e ∷ h))
alike-next law w d g h e s = record {
  atn_is = refl;
  clock_is = refl;
  since_is =
      ap (λ x. if same e.levels.atn x then since_of g else Some e.time) s.atn_is
      ∙ ap (λ o. if same e.levels.atn (atn_of h) then o else Some e.time) s.since_is;
  listens_is =
      listens-more law d (said w g) (frame_at w g e)
      ∙ (ap (λ b. listens_after d b (frame_at w g e)) s.listens_is
      ∙ (ap (λ x. listens_after d (is_listening d (said w h)) (if same e.levels.atn x
      then ends (place_after w g) (clock_of g) e else None)) s.atn_is
      ∙ (ap (λ x. listens_after d (is_listening d (said w h)) (if same e.levels.atn (atn_of h)
      then ends (place_after w g) x e else None)) s.clock_is
      ∙ (heard (same e.levels.atn (atn_of h)) (is_listening d (said w h)) (ends (place_after w g) (clock_of h) e)
      (ends (place_after w h) (clock_of h) e)
      (alike-ends d (is_listening d (said w h)) (place_after w g) (place_after w h) (clock_of h) e s.place_is)
      ∙ sym (listens-more law d (said w h) (frame_at w h e))))));
  place_is =
      ap (λ x. blind (if same e.levels.atn x then leads w (place_after w g) (clock_of g) e else Between)) s.atn_is
      ∙ (ap (λ x. blind (if same e.levels.atn (atn_of h) then leads w (place_after w g) x e else Between)) s.clock_is
      ∙ leaded (same e.levels.atn (atn_of h)) (leads w (place_after w g) (clock_of h) e)
      (leads w (place_after w h) (clock_of h) e)
      (alike-leads w (place_after w g) (place_after w h) (clock_of h) e s.place_is));
}
  where
    heard : (k b : Bool) (x y : Option Frame) → listens_after d b x ≡ listens_after d b y
        → listens_after d b (if k then x else None) ≡ listens_after d b (if k then y else None)
    heard true b x y i = i
    heard false b x y i = refl

    leaded : (k : Bool) (x y : Place) → blind x ≡ blind y
        → blind (if k then x else Between) ≡ blind (if k then y else Between)
    leaded true x y i = i
    leaded false x y i = refl

like-change : ListeningAfterOneMore → (p : Party) (g h : List Edge) (e : Edge) → IsTiming p.timing → Like p g h
    → time_after g ≤ e.time → IsBefore e.time (wake_after p g) → Like p (e ∷ g) (e ∷ h)
like-change law p g h e t l m b =
    let s : Standing = standing p.timing.wait p.device (e ∷ g) in
    let z : Standing = standing p.timing.wait p.device (e ∷ h) in
    let a : Alike s z = alike-next law p.timing.wait p.device g h e l.alike in
    let o : IsOpen (place_after p.timing.wait (e ∷ g)) e.levels.clock e.time = open-next p g e l.open_is m in
    let w = wakes-act p.timing 0 (does_after p g) s e.time t
    (open-past (place_after p.timing.wait (e ∷ g)) e.levels.clock e.time o) in
    record {
      both = tt;
      alike = a;
      open_is = o;
      does = λ now i c.
          sym (alike-pulls p.timing (pulls p.timing 0 (pulling p h e.time) z e.time) s z now a)
          ∙ (ap (λ x. pulls p.timing 0 x s now) (sym (alike-pulls p.timing (pulling p h e.time) s z e.time a))
          ∙ (ap (λ x. pulls p.timing 0 (pulls p.timing 0 x s e.time) s now) (l.does e.time m b) ∙ w.stays now i c));
    }

-- a call at a wake
like-wake : (p : Party) (g h : List Edge) (n : ℕ) → IsTiming p.timing → Like p g h → wake_after p g ≡ Some n
    → (does_after p g ≡ true → (levels_after g).line ≡ false)
    → Like p (record { time = n; levels = levels_after g } ∷ g) h
like-wake p [] h n t l k f = absurd (let a : None ≡ Some n = k in cc)
like-wake p (x ∷ g) [] n t l k f = absurd l.both
like-wake p (x ∷ g) (e ∷ h) n t l k f =
    let y : Edge = record { time = n; levels = x.levels } in
    let s : Standing = standing p.timing.wait p.device (x ∷ g) in
    let z : Standing = standing p.timing.wait p.device (e ∷ h) in
    let u : Standing = standing p.timing.wait p.device (y ∷ (x ∷ g)) in
    let lt : x.time < n = subst (λ o. IfSome o (λ i. x.time < i)) k (wake-later p.timing 0 (does_after p g) s x.time) in
    let stay : same x.levels.atn x.levels.atn ≡ true = same-self x.levels.atn in
    let still : (look : ℕ) (eoi : Bool) → place_after p.timing.wait (x ∷ g) ≡ Opening look None eoi
    → x.levels.line ≡ false =
    λ look eoi i. f (let v = wake-open p.timing (does_after p (x ∷ g)) s x.time n look eoi k i in v.held) in
    let a : Alike u s = record {
      atn_is = refl;
      clock_is = refl;
      since_is = chosen (same x.levels.atn x.levels.atn) (since_of (x ∷ g)) (Some n) stay;
      listens_is =
          ap (λ o. is_listening p.device (said p.timing.wait (x ∷ g) ++ option_to_list o))
          (chosen (same x.levels.atn x.levels.atn) (ends (place_after p.timing.wait (x ∷ g)) x.levels.clock y) None stay
          ∙ still-ends (place_after p.timing.wait (x ∷ g)) x.levels.clock x.levels.line x.levels.atn n)
          ∙ ap (is_listening p.device) (append-nil (said p.timing.wait (x ∷ g)));
      place_is =
          ap blind (chosen (same x.levels.atn x.levels.atn)
          (leads p.timing.wait (place_after p.timing.wait (x ∷ g)) x.levels.clock y) Between stay)
          ∙ still-leads p.timing.wait (place_after p.timing.wait (x ∷ g)) x.levels.clock x.levels.line x.levels.atn
          x.time n l.open_is still;
    } in
    let o : IsOpen (place_after p.timing.wait (y ∷ (x ∷ g))) x.levels.clock n =
    open-next p (x ∷ g) y l.open_is (omega (arith, lt)) in
    let w = wakes-act p.timing 0 (does_after p (x ∷ g)) u n t
    (open-past (place_after p.timing.wait (y ∷ (x ∷ g))) x.levels.clock n o) in
    let over : (now : ℕ) → n ≤ now → (look : ℕ) (eoi : Bool) → is_away s ≡ false
    → place_after p.timing.wait (x ∷ g) ≡ Opening look None eoi → max (look + p.timing.hold) 0 ≤ now =
    λ now i look eoi j v. (let c = wake-open p.timing (does_after p (x ∷ g)) s x.time n look eoi k v in
    let m : max (look + p.timing.hold) 0 ≡ n = c.until j in omega (arith, i, m)) in
    let b : Bool = pulls p.timing 0 (pulling p h e.time) z e.time in
    let j1 : pulls p.timing 0 b s x.time ≡ does_after p (x ∷ g) =
    alike-pulls p.timing b s z x.time l.alike
    ∙ l.does x.time (omega arith) (subst (λ v. IsBefore x.time v) (sym k) lt) in
    let j2 : pulls p.timing 0 (does_after p (x ∷ g)) s n ≡ does_after p (y ∷ (x ∷ g)) =
    sym (alike-pulls p.timing (does_after p (x ∷ g)) u s n a) in
    record {
      both = tt;
      alike = alike-both u s z a l.alike;
      open_is = o;
      does = λ now i c.
          sym (alike-pulls p.timing b s z now l.alike)
          ∙ (sym (acts-again p.timing b s x.time now (omega (arith, i, lt)) (over now i))
          ∙ (ap (λ v. pulls p.timing 0 v s now) j1
          ∙ (sym (acts-again p.timing (does_after p (x ∷ g)) s n now i (over now i))
          ∙ (ap (λ v. pulls p.timing 0 v s now) j2
          ∙ (sym (alike-pulls p.timing (does_after p (y ∷ (x ∷ g))) u s now a)
          ∙ w.stays now i c)))));
    }
  where
    alike-both : (u s z : Standing) → Alike u s → Alike s z → Alike u z
    alike-both u s z a b = record {
      atn_is = a.atn_is ∙ b.atn_is;
      clock_is = a.clock_is ∙ b.clock_is;
      since_is = a.since_is ∙ b.since_is;
      listens_is = a.listens_is ∙ b.listens_is;
      place_is = a.place_is ∙ b.place_is;
    }

-- all that a device is shown
like-all : ListeningAfterOneMore → (p : Party) (ms : List Moment) → IsTiming p.timing → AreInTime p ms
    → Like p (moments_shown ms) (changes_shown ms)
like-all law p [] t w = like-none p
like-all law p (Change e ∷ ms) t (m, b, w) =
    like-change law p (moments_shown ms) (changes_shown ms) e t (like-all law p ms t w) m b
like-all law p (Wake n ∷ ms) t (k, f, w) =
    like-wake p (moments_shown ms) (changes_shown ms) n t (like-all law p ms t w) k f

pub wakes-suffice : ListeningAfterOneMore → WakesSuffice
wakes-suffice law p ms t w now i b = (like-all law p ms t w).does now i b

-- What a device keeps after one moment more, what it then does, and when it wants to be called.
use Rattle.std.proofs.Common.{◌≡◌, ℕ, ◌+◌, ◌<◌, ◌==◌, nat_lt, max, Bool, true, false, not, ◌&&◌, ◌||◌, List, ◌∷◌, ◌++◌}
use Rattle.std.proofs.Common.{Option, Some, None, IfSome, if◌then◌else◌, refl, sym, ap, subst, ◌∙◌, append-nil}
use Rattle.std.proofs.Common.{ltb-true}
use Rattle.std.specs.Option.{option_to_list}
use Rattle.pr_wire.specs.declared.Edge.{Edge}
use Rattle.pr_wire.specs.Table.{same}
use Rattle.pr_receiver.specs.Heard.{is_listening}
use Rattle.pr_receiver.specs.Kept.{kept_of}
use Rattle.pr_receiver.specs.declared.listener.Listener.{Listener}
use Rattle.pr_device.specs.declared.event.Event.{Event}
use Rattle.pr_device.specs.declared.place.Place.{Place}
use Rattle.pr_device.specs.declared.place.Place.TheVariants.{Between, Sent, Opening, Bits}
use Rattle.pr_device.specs.declared.state.State.{State}
use Rattle.pr_device.specs.declared.state.Step.{Step}
use Rattle.pr_device.specs.declared.timing.Timing.{Timing}
use Rattle.pr_device.specs.Data.{Standing, standing, pulls, pulls_at, calls, leaves, is_away, wake, wake_at, where_true}
use Rattle.pr_device.specs.Data.{after_where}
use Rattle.pr_device.specs.Following.{atn_of, clock_of, since_of, place_after, said, frame_at, ends, leads}
use Rattle.pr_device.specs.Seen.{HasSeen, event_at}
use Rattle.pr_device.specs.Sound.{Acts, Hears, standing_of, ended_by, followed, event_if}
use Rattle.pr_device.specs.Spoken.{is_soon_after, is_spoken_to}

-- a listener of this number
abbrev pub kept_in : ℕ → Listener → Listener
kept_in device l = record { device = device; listens = l.listens; called = l.called }

-- where there is no byte, nothing is heard
pub hears-nothing : (s : State) → Hears s None None s
hears-nothing s = record {
  event_is = λ before h. refl;
  kept = λ before h. h ∙ ap (kept_of s.listener.device) (sym (append-nil before));
  device = refl;
  same = refl;
}

-- the byte that a moment ends
frame-is : (h : List Edge) (s : State) (e : Edge) → HasSeen h s → ended_by s e ≡ frame_at s.timing.wait h e
frame-is h s e k =
    ap (λ x. if same e.levels.atn x then ends s.place s.clock e else None) k.atn
    ∙ (ap (λ p. if same e.levels.atn (atn_of h) then ends p s.clock e else None) k.place
    ∙ ap (λ x. if same e.levels.atn (atn_of h) then ends (place_after s.timing.wait h) x e else None) k.clock)

-- what it says
pub event-is : (h : List Edge) (s : State) (e : Edge) (v : Option Event) (new : State) → HasSeen h s
    → Hears (followed s e) (ended_by s e) v new → v ≡ event_at s.timing.wait s.listener.device h e
event-is h s e v new k w =
    w.event_is (said s.timing.wait h) k.listener
    ∙ ap (λ o. event_if s.listener.device (said s.timing.wait h) o) (frame-is h s e k)

-- what is kept
pub seen-next : (h : List Edge) (s : State) (e : Edge) (v : Option Event) (new : State) → HasSeen h s
    → Hears (followed s e) (ended_by s e) v new → HasSeen (e ∷ h) new
seen-next h s e v new k w =
    let atn : new.atn ≡ e.levels.atn = ap (λ (t : State). t.atn) w.same in
    let clock : new.clock ≡ e.levels.clock = ap (λ (t : State). t.clock) w.same in
    let since : new.since ≡ (followed s e).since = ap (λ (t : State). t.since) w.same in
    let place : new.place ≡ (followed s e).place = ap (λ (t : State). t.place) w.same in
    let timing : new.timing ≡ s.timing = ap (λ (t : State). t.timing) w.same in
    record {
      atn = atn;
      clock = clock;
      since =
          since
          ∙ (ap (λ x. if same e.levels.atn x then s.since else Some e.time) k.atn
          ∙ ap (λ o. if same e.levels.atn (atn_of h) then o else Some e.time) k.since);
      place =
          place
          ∙ (ap (λ x. if same e.levels.atn x then leads s.timing.wait s.place s.clock e else Between) k.atn
          ∙ (ap (λ p. if same e.levels.atn (atn_of h) then leads s.timing.wait p s.clock e else Between) k.place
          ∙ (ap (λ x. if same e.levels.atn (atn_of h) then leads s.timing.wait (place_after s.timing.wait h) x e
          else Between) k.clock
          ∙ ap (λ (t : Timing). place_after t.wait (e ∷ h)) (sym timing))));
      listener =
          w.kept (said s.timing.wait h) k.listener
          ∙ (ap (λ o. kept_of s.listener.device (said s.timing.wait h ++ option_to_list o)) (frame-is h s e k)
          ∙ (ap (λ d. kept_of d (said s.timing.wait (e ∷ h))) (sym w.device)
          ∙ ap (λ (t : Timing). kept_of new.listener.device (said t.wait (e ∷ h))) (sym timing)));
    }

-- how things stand after a history
abbrev pub stood : Bool → Bool → Option ℕ → Bool → Place → Standing
stood atn clock since listens place =
    record { atn = atn; clock = clock; since = since; listens = listens; place = place }

pub standing-is : (h : List Edge) (s : State) → HasSeen h s → standing_of s ≡ standing s.timing.wait s.listener.device h
standing-is h s k =
    let listens : Bool = is_listening s.listener.device (said s.timing.wait h) in
    let l : s.listener.listens ≡ listens = ap (λ (l : Listener). l.listens) k.listener in
    ap (λ x. stood x s.clock s.since s.listener.listens s.place) k.atn
    ∙ (ap (λ x. stood (atn_of h) x s.since s.listener.listens s.place) k.clock
    ∙ (ap (λ o. stood (atn_of h) (clock_of h) o s.listener.listens s.place) k.since
    ∙ (ap (λ x. stood (atn_of h) (clock_of h) (since_of h) x s.place) l
    ∙ ap (λ p. stood (atn_of h) (clock_of h) (since_of h) listens p) k.place)))

-- both of two tests hold
pub left-true : (a b : Bool) → (a && b) ≡ true → a ≡ true
left-true true b h = refl
left-true false b h = absurd (let k : false ≡ true = h in cc)

pub right-true : (a b : Bool) → (a && b) ≡ true → b ≡ true
right-true true b h = h
right-true false b h = absurd (let k : false ≡ true = h in cc)

-- one of two tests does not hold, and so on
or-right : (a b : Bool) → not (a || not b) ≡ true → b ≡ true
or-right true b h = absurd (let k : false ≡ true = h in cc)
or-right false true h = refl
or-right false false h = absurd (let k : false ≡ true = h in cc)

-- a device pulls DATA only where somebody speaks to it
pub pulls-spoken : (t : Timing) (until : ℕ) (before : Bool) (s : Standing) (now : ℕ) → pulls t until before s now ≡ true
    → is_spoken_to t s now ≡ true
pulls-spoken t until before s now h = by s.atn s.listens s.since h
  where
    rest : Bool
    rest = pulls_at t until before s s.place now

    soon : (since : Option ℕ) → leaves t before since now ≡ true → is_soon_after since t.leave now ≡ true
    soon None k = k
    soon (Some r) k = right-true before (nat_lt now (r + t.leave)) k

    by : (atn listens : Bool) (since : Option ℕ) → (if atn && not listens then leaves t before since now else rest)
        ≡ true
        → (not atn || (listens || is_soon_after since t.leave now)) ≡ true
    by false listens since k = refl
    by true true since k = refl
    by true false since k = soon since k

-- a moment that is given only where it is later
where-later : (b : Bool) (m now : ℕ) → (b ≡ true → now < m) → IfSome (where_true b m) (λ k. now < k)
where-later true m now h = h refl
where-later false m now h = tt

after-later : (b : Bool) (o : Option ℕ) (d now : ℕ) → ((m : ℕ) → o ≡ Some m → b ≡ true → now < m + d)
    → IfSome (after_where b o d) (λ k. now < k)
after-later true (Some m) d now h = h m refl refl
after-later true None d now h = tt
after-later false o d now h = tt

if-later : (b : Bool) (x y : Option ℕ) (now : ℕ) → (b ≡ true → IfSome x (λ k. now < k))
    → (b ≡ false → IfSome y (λ k. now < k)) → IfSome (if b then x else y) (λ k. now < k)
if-later true x y now h k = h refl
if-later false x y now h k = k refl

-- the next moment, where somebody speaks to the device
wake_at-later : (t : Timing) (until : ℕ) (before : Bool) (s : Standing) (p : Place) (now : ℕ)
    → IfSome (wake_at t until (pulls_at t until before s p now) s p now) (λ k. now < k)
wake_at-later t until before s Between now =
    after-later (not s.atn && not (if s.atn then not s.clock else calls t before s.since now)) s.since t.attention now
    (λ m e h. by s.atn m e h)
  where
    by : (atn : Bool) (m : ℕ) → s.since ≡ Some m
        → (not atn && not (if atn then not s.clock else calls t before s.since now)) ≡ true → now < m + t.attention
    by true m e h = absurd (let k : false ≡ true = h in cc)
    by false m e h =
        let k : not (calls t before (Some m) now) ≡ true = ap (λ o. not (calls t before o now)) (sym e) ∙ h in
        ltb-true now (m + t.attention) (or-right before (nat_lt now (m + t.attention)) k)
wake_at-later t until before s (Sent pull) now =
    where-later (not (before || not (nat_lt now (pull + t.accept)))) (pull + t.accept) now
    (λ h. ltb-true now (pull + t.accept) (or-right before (nat_lt now (pull + t.accept)) h))
wake_at-later t until before s (Opening look None eoi) now =
    where-later ((before || now == look) && nat_lt now (max (look + t.hold) until)) (max (look + t.hold) until) now
    (λ h. ltb-true now (max (look + t.hold) until)
    (right-true (before || now == look) (nat_lt now (max (look + t.hold) until)) h))
wake_at-later t until before s (Opening look (Some free) eoi) now =
    if-later (nat_lt now (free + t.wait)) (where_true s.atn (free + t.wait))
    (where_true (s.atn && nat_lt now (free + t.wait + t.answer)) (free + t.wait + t.answer)) now
    (λ b. where-later s.atn (free + t.wait) now (λ h. ltb-true now (free + t.wait) b))
    (λ b. where-later (s.atn && nat_lt now (free + t.wait + t.answer)) (free + t.wait + t.answer) now
    (λ h. ltb-true now (free + t.wait + t.answer) (right-true s.atn (nat_lt now (free + t.wait + t.answer)) h)))
wake_at-later t until before s (Bits eoi count byte) now = tt

-- each wake is later
pub wake-later : (t : Timing) (until : ℕ) (before : Bool) (s : Standing) (now : ℕ)
    → IfSome (wake t until (pulls t until before s now) s now) (λ k. now < k)
wake-later t until before s now = by (is_away s)
  where
    away : (since : Option ℕ) → IfSome (after_where (leaves t before since now) since t.leave) (λ k. now < k)
    away None = tt
    away (Some r) =
        after-later (before && nat_lt now (r + t.leave)) (Some r) t.leave now
        (λ m e h. let k : r ≡ m =
        cc in rw (← k) (ltb-true now (r + t.leave) (right-true before (nat_lt now (r + t.leave)) h)))

    by : (b : Bool)
        → IfSome (if b then after_where (if b then leaves t before s.since now
        else pulls_at t until before s s.place now) s.since t.leave
        else wake_at t until (if b then leaves t before s.since now
        else pulls_at t until before s s.place now) s s.place now) (λ k. now < k)
    by true = away s.since
    by false = wake_at-later t until before s s.place now

-- what a device does to DATA is nothing that it has seen
seen-pulling : (h : List Edge) (s : State) (b : Bool) → HasSeen h s → HasSeen h (record s { pulls = b })
seen-pulling h s b k = record { atn = k.atn; clock = k.clock; since = k.since; place = k.place; listener = k.listener }

-- what stays over a moment
middle-timing : (s : State) (e : Edge) (v : Step) (new : State) (a : Acts s e v new) → a.middle.timing ≡ s.timing
middle-timing s e v new a = ap (λ (t : State). t.timing) a.hears.same

middle-until : (s : State) (e : Edge) (v : Step) (new : State) (a : Acts s e v new) → a.middle.until ≡ s.until
middle-until s e v new a = ap (λ (t : State). t.until) a.hears.same

middle-pulls : (s : State) (e : Edge) (v : Step) (new : State) (a : Acts s e v new) → a.middle.pulls ≡ s.pulls
middle-pulls s e v new a = ap (λ (t : State). t.pulls) a.hears.same

pub acts-timing : (s : State) (e : Edge) (v : Step) (new : State) → Acts s e v new → new.timing ≡ s.timing
acts-timing s e v new a = ap (λ (t : State). t.timing) a.new_is ∙ middle-timing s e v new a

pub acts-until : (s : State) (e : Edge) (v : Step) (new : State) → Acts s e v new → new.until ≡ s.until
acts-until s e v new a = ap (λ (t : State). t.until) a.new_is ∙ middle-until s e v new a

pub acts-device : (s : State) (e : Edge) (v : Step) (new : State) → Acts s e v new
    → new.listener.device ≡ s.listener.device
acts-device s e v new a = ap (λ (t : State). t.listener.device) a.new_is ∙ a.hears.device

pub acts-pulls : (s : State) (e : Edge) (v : Step) (new : State) → Acts s e v new → new.pulls ≡ v.pulls_data
acts-pulls s e v new a = ap (λ (t : State). t.pulls) a.new_is

-- what a device has seen, and hears
pub acts-seen : (h : List Edge) (s : State) (e : Edge) (v : Step) (new : State) → Acts s e v new → HasSeen h s
    → HasSeen (e ∷ h) new
acts-seen h s e v new a k =
    subst (λ t. HasSeen (e ∷ h) t) (sym a.new_is)
    (seen-pulling (e ∷ h) a.middle v.pulls_data (seen-next h s e v.event a.middle k a.hears))

pub acts-event : (h : List Edge) (s : State) (e : Edge) (v : Step) (new : State) → Acts s e v new → HasSeen h s
    → v.event ≡ event_at s.timing.wait s.listener.device h e
acts-event h s e v new a k = event-is h s e v.event a.middle k a.hears

-- how things stand
middle-standing : (h : List Edge) (s : State) (e : Edge) (v : Step) (new : State) (a : Acts s e v new) → HasSeen h s
    → standing_of a.middle ≡ standing s.timing.wait s.listener.device (e ∷ h)
middle-standing h s e v new a k =
    standing-is (e ∷ h) a.middle (seen-next h s e v.event a.middle k a.hears)
    ∙ (ap (λ (t : Timing). standing t.wait a.middle.listener.device (e ∷ h)) (middle-timing s e v new a)
    ∙ ap (λ d. standing s.timing.wait d (e ∷ h)) a.hears.device)

-- what it does to DATA
pub acts-data : (h : List Edge) (s : State) (e : Edge) (v : Step) (new : State) → Acts s e v new → HasSeen h s
    → v.pulls_data ≡ pulls s.timing s.until s.pulls (standing s.timing.wait s.listener.device (e ∷ h)) e.time
acts-data h s e v new a k =
    a.pulls_is
    ∙ (ap (λ t. pulls t a.middle.until a.middle.pulls (standing_of a.middle) e.time) (middle-timing s e v new a)
    ∙ (ap (λ u. pulls s.timing u a.middle.pulls (standing_of a.middle) e.time) (middle-until s e v new a)
    ∙ (ap (λ b. pulls s.timing s.until b (standing_of a.middle) e.time) (middle-pulls s e v new a)
    ∙ ap (λ g. pulls s.timing s.until s.pulls g e.time) (middle-standing h s e v new a k))))

-- when it wants to be called again
pub acts-wake : (h : List Edge) (s : State) (e : Edge) (v : Step) (new : State) → Acts s e v new → HasSeen h s
    → v.wake ≡ wake s.timing s.until v.pulls_data (standing s.timing.wait s.listener.device (e ∷ h)) e.time
acts-wake h s e v new a k =
    a.wake_is
    ∙ (ap (λ t. wake t a.middle.until v.pulls_data (standing_of a.middle) e.time) (middle-timing s e v new a)
    ∙ (ap (λ u. wake s.timing u v.pulls_data (standing_of a.middle) e.time) (middle-until s e v new a)
    ∙ ap (λ g. wake s.timing s.until v.pulls_data g e.time) (middle-standing h s e v new a k)))

pub acts-later : (s : State) (e : Edge) (v : Step) (new : State) → Acts s e v new → IfSome v.wake (λ k. e.time < k)
acts-later s e v new a =
    let m : State = a.middle in
    subst (λ o. IfSome o (λ k. e.time < k))
    (sym (a.wake_is ∙ ap (λ b. wake m.timing m.until b (standing_of m) e.time) a.pulls_is))
    (wake-later m.timing m.until m.pulls (standing_of m) e.time)

-- somebody speaks to it where it pulls DATA
pub acts-spoken : (h : List Edge) (s : State) (e : Edge) (v : Step) (new : State) → Acts s e v new → HasSeen h s
    → v.pulls_data ≡ true → is_spoken_to s.timing (standing s.timing.wait s.listener.device (e ∷ h)) e.time ≡ true
acts-spoken h s e v new a k p =
    pulls-spoken s.timing s.until s.pulls (standing s.timing.wait s.listener.device (e ∷ h)) e.time
    (sym (acts-data h s e v new a k) ∙ p)

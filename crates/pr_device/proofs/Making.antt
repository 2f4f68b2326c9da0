-- A talker's frame is made by the talker and the devices that hear it.
use Rattle.std.proofs.Common.{◌≡◌, ℕ, suc, ◌+◌, ◌<◌, ◌≤◌, ◌==◌, nat_lt, max, Bool, true, false, not, ◌&&◌, ◌||◌, List}
use Rattle.std.proofs.Common.{[], ◌∷◌, ◌++◌, length, map, Option, Some, None, refl, sym, ap, subst, ◌∙◌, arith, lt-ltb}
use Rattle.std.proofs.Common.{le-ltb, ne_eqb, drop}
use Rattle.pr_wire.specs.declared.Edge.{Edge}
use Rattle.pr_wire.specs.declared.Frame.{Frame}
use Rattle.pr_wire.specs.Levels.{edge_at}
use Rattle.pr_wire.specs.declared.delay.Kind.TheVariants.{Ne, S, V}
use Rattle.pr_wire.specs.Delays.{delay_at}
use Rattle.pr_wire.specs.Laws.{DelaysLieWithinBounds}
use Rattle.pr_wire.specs.Pieces.{BitTimes, FrameTimes, bit_edges, last_pull}
use Rattle.pr_receiver.specs.Heard.{is_listening}
use Rattle.pr_receiver.specs.Laws.{ListeningAfterOneMore}
use Rattle.pr_bus.specs.Timed.{ListenerTiming, greatest, least, frame_times, bit_times, bits_of}
use Rattle.pr_device.specs.declared.place.Place.{Place}
use Rattle.pr_device.specs.declared.place.Place.TheVariants.{Between, Sent, Opening, Bits}
use Rattle.pr_device.specs.declared.timing.Timing.{Timing}
use Rattle.pr_device.specs.Data.{Standing, standing, pulls, pulls_at, leaves, is_away}
use Rattle.pr_device.specs.Following.{atn_of, clock_of, place_after, said, leads, ends, shifted}
use Rattle.pr_device.specs.Course.{Party, Each, Move, IsMade, AreMade, next_moment, after_moves, released, set, pulling}
use Rattle.pr_device.specs.Course.{heeding, hearer, IsBetweenBytes, ExpectsByte, frame_moves, sent_moves}
use Rattle.pr_device.specs.CourseLaws.{FramesAreMade}
use Rattle.pr_device.proofs.Tests.{or-right, or-false, and-false}
use Rattle.pr_device.proofs.Delays.{near, not-true}
use Rattle.pr_device.proofs.Pairs.{is_in, is-in, not-lt, or-zero}
use Rattle.pr_device.proofs.Walking.{Stands, goes-quietly, goes-to, framed, chosen, refused}
use Rattle.pr_device.proofs.Sharing.{any_by, heeds, each-map, each-both, each-heeds, one-heeds, any-last, any-first}
use Rattle.pr_device.proofs.Sharing.{any-answers, none-answers, IsParty, first_wait, last_end, spans}

-- edges that are made, and what holds after them
abbrev pub Made : List Party → List Edge → List Move → ℕ → (List Edge → Type 0) → Type 0
Made ps h ms end R = AreMade ps h ms end × R (after_moves h ms)

pub one-more : (ps : List Party) (h : List Edge) (m : Move) (ms : List Move) (end : ℕ) (R : List Edge → Type 0)
    → IsMade ps h m (next_moment ms end) → Made ps (m.edge ∷ h) ms end R → Made ps h (m ∷ ms) end R
one-more ps h m ms end R a (b, r) = ((a, b), r)

pub not-false : (b : Bool) → not b ≡ false → b ≡ true
not-false true h = refl
not-false false h = absurd (let k : true ≡ false = h in cc)

pub and-true : (b : Bool) → b ≡ (b && true)
and-true true = refl
and-true false = refl

-- the rule of a device that heeds, and of one that does not
does-rule : (t : Timing) (s : Standing) (q : Place) (before b v : Bool) (n : ℕ) → not (is_away s) ≡ v → s.place ≡ q
    → before ≡ (v && b) → pulls t 0 before s n ≡ (v && pulls_at t 0 b s q n)
does-rule t s q before b true n k e d =
    near t 0 before s n q (not-true (is_away s) k) e ∙ ap (λ y. pulls_at t 0 y s q n) d
does-rule t s q before b false n k e d =
    chosen (is_away s) (leaves t before s.since n) (pulls_at t 0 before s s.place n) (not-false (is_away s) k)
    ∙ (ap (λ y. leaves t y s.since n) d ∙ none s.since)
  where
    none : (o : Option ℕ) → leaves t false o n ≡ false
    none None = refl
    none (Some r) = refl

-- the same, where it has acted before at a moment
pub does-twice : (t : Timing) (s : Standing) (q : Place) (before b v : Bool) (m n : ℕ) → not (is_away s) ≡ v
    → s.place ≡ q → before ≡ (v && b)
    → pulls t 0 (pulls t 0 before s m) s n ≡ (v && pulls_at t 0 (pulls_at t 0 b s q m) s q n)
does-twice t s q before b v m n k e d =
    does-rule t s q (pulls t 0 before s m) (pulls_at t 0 b s q m) v n k e (does-rule t s q before b v m k e d)

pub or-same : (a b : Bool) → ((a || a) || b) ≡ (a || b)
or-same true b = refl
or-same false b = refl

pub not-yet : (m d : ℕ) → 0 < d → not (nat_lt m (m + d)) ≡ false
not-yet m d h = ap not (lt-ltb m (m + d) (omega arith))

-- how a device is after a history, if it heeds as it did after another one: where it is, and what it does at a moment
pub record At (g h : List Edge) (x c : Bool) (place : Place) (f : Party → ℕ → Bool) (p : Party) : Type 0 where
  pub atn_is : atn_of h ≡ x
  pub clock_is : clock_of h ≡ c
  pub place_is : place_after p.timing.wait h ≡ place
  pub heeds_is : heeds h p ≡ heeds g p
  pub timing : IsParty p
  pub does : (n : ℕ) → pulling p h n ≡ (heeds g p && f p n)

-- it heeds as before, where nothing more is said
pub same-heeds : (p : Party) (h k : List Edge) (x : Bool) → atn_of h ≡ x → atn_of k ≡ x
    → said p.timing.wait k ≡ said p.timing.wait h → heeds k p ≡ heeds h p
same-heeds p h k x a b s =
    ap (λ y. not (y && not (is_listening p.device (said p.timing.wait k)))) (b ∙ sym a)
    ∙ ap (λ l. not (atn_of h && not (is_listening p.device l))) s

-- a frame changes nothing for it while it is spoken to
framed-heeds : ListeningAfterOneMore → (d : ℕ) (x : Bool) (fs : List Frame) (v : ℕ) (eoi : Bool)
    → not (x && not (is_listening d (fs ++ framed (not x) v eoi ∷ []))) ≡ not (x && not (is_listening d fs))
framed-heeds law d false fs v eoi = refl
framed-heeds law d true fs v eoi = ap (λ y. not (not y)) (law d fs (framed false v eoi) ∙ or-false (is_listening d fs))

more-heeds : ListeningAfterOneMore → (p : Party) (h k : List Edge) (x : Bool) (v : ℕ) (eoi : Bool) → atn_of h ≡ x
    → atn_of k ≡ x → said p.timing.wait k ≡ said p.timing.wait h ++ framed (not x) v eoi ∷ [] → heeds k p ≡ heeds h p
more-heeds law p h k x v eoi a b s =
    ap (λ y. not (y && not (is_listening p.device (said p.timing.wait k)))) b
    ∙ (ap (λ l. not (x && not (is_listening p.device l))) s
    ∙ (framed-heeds law p.device x (said p.timing.wait h) v eoi
    ∙ ap (λ y. not (y && not (is_listening p.device (said p.timing.wait h)))) (sym a)))

-- one edge more
step-at : (g h : List Edge) (x c d : Bool) (place next : Place) (f k : Party → ℕ → Bool) (e : Edge) (p : Party)
    → At g h x c place f p
    → e.levels.atn ≡ x → e.levels.clock ≡ d → leads p.timing.wait place c e ≡ next → ends place c e ≡ None
    → ((s : Standing) (n : ℕ) → s.atn ≡ x
    → pulls_at p.timing 0 (pulls_at p.timing 0 (f p e.time) s next e.time) s next n ≡ k p n) → At g (e ∷ h) x d next k p
step-at g h x c d place next f k e p s a l m o w =
    let z : Stands p.timing.wait h x c place (said p.timing.wait h) =
    record { atn_is = s.atn_is; clock_is = s.clock_is; place_is = s.place_is; said_is = refl } in
    let t = goes-quietly p.timing.wait h x c d place next (said p.timing.wait h) e z a l m o in
    let v : heeds (e ∷ h) p ≡ heeds g p = same-heeds p h (e ∷ h) x s.atn_is t.atn_is t.said_is ∙ s.heeds_is in
    record {
      atn_is = t.atn_is;
      clock_is = t.clock_is;
      place_is = t.place_is;
      heeds_is = v;
      timing = s.timing;
      does = λ n.
          does-twice p.timing (standing p.timing.wait p.device (e ∷ h)) next (pulling p h e.time) (f p e.time)
          (heeds g p) e.time n v t.place_is (s.does e.time)
          ∙ ap (λ y. heeds g p && y) (w (standing p.timing.wait p.device (e ∷ h)) n t.atn_is);
    }

each-step : (g h : List Edge) (x c d : Bool) (place next : Place) (f k : Party → ℕ → Bool) (e : Edge) (ps : List Party)
    → Each (At g h x c place f) ps
    → e.levels.atn ≡ x → e.levels.clock ≡ d → ((w : ℕ) → leads w place c e ≡ next) → ends place c e ≡ None
    → ((p : Party) (s : Standing) (n : ℕ) → s.atn ≡ x
    → pulls_at p.timing 0 (pulls_at p.timing 0 (f p e.time) s next e.time) s next n ≡ k p n)
    → Each (At g (e ∷ h) x d next k) ps
each-step g h x c d place next f k e ps s a l m o w =
    each-map (At g h x c place f) (At g (e ∷ h) x d next k) ps
    (λ p z. step-at g h x c d place next f k e p z a l (m p.timing.wait) o (w p)) s

-- an edge is made, by what devices do before and after it
made-at : (g h : List Edge) (ps hs : List Party) (m : Move) (next : ℕ) (u v : Bool) (f k : Party → ℕ → Bool)
    → heeding g ps ≡ hs → Each (λ (p : Party). pulling p h m.edge.time ≡ (heeds g p && f p m.edge.time)) ps
    → ((n : ℕ) → Each (λ (p : Party). pulling p (m.edge ∷ h) n ≡ (heeds g p && k p n)) ps)
    → any_by (λ (p : Party). f p m.edge.time) hs ≡ u → m.edge.levels.line ≡ (m.level && not u)
    → ((n : ℕ) → m.edge.time ≤ n → n < next → any_by (λ (p : Party). k p n) hs ≡ v)
    → m.edge.levels.line ≡ (m.level && not v) → IsMade ps h m next
made-at g h ps hs m next u v f k e a b c l d o = record {
  comes =
      l
      ∙ ap (λ y. m.level && not y)
      (sym (one-heeds g h m.edge.time (λ (p : Party). f p m.edge.time) ps a
      ∙ (ap (any_by (λ (p : Party). f p m.edge.time)) e ∙ c)));
  stays = λ n i j.
      o
      ∙ ap (λ y. m.level && not y)
      (sym (one-heeds g (m.edge ∷ h) n (λ (p : Party). k p n) ps (b n)
      ∙ (ap (any_by (λ (p : Party). k p n)) e ∙ d n i j)));
}

-- what each does at a moment
each-does : (g h : List Edge) (x c : Bool) (place : Place) (f : Party → ℕ → Bool) (ps : List Party) (n : ℕ)
    → Each (At g h x c place f) ps → Each (λ (p : Party). pulling p h n ≡ (heeds g p && f p n)) ps
each-does g h x c place f ps n s =
    each-map (At g h x c place f) (λ (p : Party). pulling p h n ≡ (heeds g p && f p n)) ps (λ p z. z.does n) s

-- the same, from where the devices are before and after
made-by : (g h : List Edge) (x c d : Bool) (place next : Place) (f k : Party → ℕ
    → Bool) (ps hs : List Party) (m : Move) (to : ℕ) (u v : Bool) → heeding g ps ≡ hs
    → Each (At g h x c place f) ps → Each (At g (m.edge ∷ h) x d next k) ps
    → any_by (λ (p : Party). f p m.edge.time) hs ≡ u → m.edge.levels.line ≡ (m.level && not u)
    → ((n : ℕ) → m.edge.time ≤ n → n < to → any_by (λ (p : Party). k p n) hs ≡ v)
    → m.edge.levels.line ≡ (m.level && not v) → IsMade ps h m to
made-by g h x c d place next f k ps hs m to u v e s t a b w l =
    made-at g h ps hs m to u v f k e (each-does g h x c place f ps m.edge.time s)
    (λ n. each-does g (m.edge ∷ h) x d next k ps n t) a b w l

-- what devices do in a frame: while they hold DATA, answer, hear the bits, and acknowledge
abbrev pub holds : ℕ → Party → ℕ → Bool
holds look p n = nat_lt n (look + p.timing.hold)

abbrev pub answers : Bool → ℕ → Party → ℕ → Bool
answers x free p n = x && is_in n (free + p.timing.wait) (free + p.timing.wait + p.timing.answer)

abbrev pub nothing : Party → ℕ → Bool
nothing p n = false

abbrev pub accepts : ℕ → Party → ℕ → Bool
accepts pull p n = not (nat_lt n (pull + p.timing.accept))

abbrev pub has_accepted : ℕ → ℕ → Party → ℕ → Bool
has_accepted ack pull p n = not (nat_lt ack (pull + p.timing.accept)) || not (nat_lt n (pull + p.timing.accept))

-- nobody does anything
none-does : (n : ℕ) (ps : List Party) → any_by (λ (p : Party). nothing p n) ps ≡ false
none-does n [] = refl
none-does n (p ∷ ps) = none-does n ps

-- what one does, one does who does more
pub any-more : (f k : Party → Bool) (ps : List Party) → any_by f ps ≡ true
    → any_by (λ (p : Party). f p || k p) ps ≡ true
any-more f k [] h = h
any-more f k (p ∷ ps) h = by (f p) (any-more f k ps) h
  where
    by : (a : Bool) → (any_by f ps ≡ true → any_by (λ (q : Party). f q || k q) ps ≡ true) → (a || any_by f ps) ≡ true
        → ((a || k p) || any_by (λ (q : Party). f q || k q) ps) ≡ true
    by true w e = refl
    by false w e = or-right (k p) (any_by (λ (q : Party). f q || k q) ps) (w e)

-- how long the first of some devices waits before it acknowledges
abbrev pub first_accept : Bool → List Party → ℕ
first_accept eoi hs = least (map (λ (h : ListenerTiming). h.accept) (map (hearer eoi) hs))

abbrev pub last_hold : Bool → List Party → ℕ
last_hold eoi hs = greatest (map (λ (h : ListenerTiming). h.hold) (map (hearer eoi) hs))

-- the acknowledgement
made-ack : (g h : List Edge) (x eoi : Bool) (pull : ℕ) (ps : List Party) (q : Party) (qs : List Party) (end : ℕ)
    (R : List Edge → Type 0) → heeding g ps ≡ q ∷ qs
    → Each (At g h x false (Sent pull) (accepts pull)) ps
    → (let ack : ℕ = pull + first_accept eoi (q ∷ qs) in
    Each (At g (edge_at ack x false false ∷ h) x false (Sent pull) (has_accepted ack pull)) ps
    → R (edge_at ack x false false ∷ h))
    → Made ps h (released (edge_at (pull + first_accept eoi (q ∷ qs)) x false false) ∷ []) end R
made-ack g h x eoi pull ps q qs end R e s r =
    let ack : ℕ = pull + first_accept eoi (q ∷ qs) in
    let a : Edge = edge_at ack x false false in
    let t : Each (At g (a ∷ h) x false (Sent pull) (has_accepted ack pull)) ps =
    each-step g h x false false (Sent pull) (Sent pull) (accepts pull) (has_accepted ack pull) a ps s refl refl
    (λ w. refl) refl (λ p z n k. or-same (not (nat_lt ack (pull + p.timing.accept)))
    (not (nat_lt n (pull + p.timing.accept)))) in
    let i : any_by (λ (p : Party). accepts pull p ack) (q ∷ qs) ≡ true =
    any-first (λ (l : ListenerTiming). l.accept) (hearer eoi) ack pull q qs
    ∙ not-lt ack (pull + first_accept eoi (q ∷ qs)) (omega arith) in
    one-more ps h (released a) [] end R
    (made-by g h x false false (Sent pull) (Sent pull) (accepts pull) (has_accepted ack pull) ps (q ∷ qs)
    (released a) end true true e s t i refl
    (λ n u v. any-more (λ (p : Party). accepts pull p ack) (λ (p : Party). accepts pull p n) (q ∷ qs) i) refl)
    (tt, r t)

-- the last pull of CLOCK
step-last : ListeningAfterOneMore → (g h : List Edge) (x eoi : Bool) (v pull : ℕ) (p : Party)
    → At g h x true (Bits eoi 8 v) nothing p → At g (edge_at pull x false true ∷ h) x false (Sent pull) (accepts pull) p
step-last law g h x eoi v pull p s =
    let e : Edge = edge_at pull x false true in
    let z : Stands p.timing.wait h x true (Bits eoi 8 v) (said p.timing.wait h) =
    record { atn_is = s.atn_is; clock_is = s.clock_is; place_is = s.place_is; said_is = refl } in
    let t = goes-to p.timing.wait h x true false (Bits eoi 8 v) (Sent pull) (said p.timing.wait h)
    (Some (framed (not x) v eoi)) e z refl refl refl refl in
    let y : heeds (e ∷ h) p ≡ heeds g p = more-heeds law p h (e ∷ h) x v eoi s.atn_is t.atn_is t.said_is ∙ s.heeds_is in
    record {
      atn_is = t.atn_is;
      clock_is = t.clock_is;
      place_is = t.place_is;
      heeds_is = y;
      timing = s.timing;
      does = λ n.
          does-twice p.timing (standing p.timing.wait p.device (e ∷ h)) (Sent pull) (pulling p h pull) false
          (heeds g p) pull n y t.place_is (s.does pull)
          ∙ ap (λ v. heeds g p && (v || not (nat_lt n (pull + p.timing.accept)))) (not-yet pull p.timing.accept (let i =
          s.timing in let j : 1 ≤ p.timing.accept = i.accept.from in omega (arith, j)));
    }

-- the bits from CLOCK's release for one of them on
made-bits : ListeningAfterOneMore
    → (g h : List Edge) (x eoi : Bool) (n v : ℕ) (ps hs : List Party) (b : BitTimes) (bs : List BitTimes)
    (tail : List Move) (end : ℕ) (R : List Edge → Type 0)
    → heeding g ps ≡ hs → length bs + n ≡ 7 → Each (At g h x false (Bits eoi n v) nothing) ps
    → ((m : ℕ) → m < next_moment tail end → any_by (λ (p : Party). accepts (last_pull b.down bs) p m) hs ≡ false)
    → ((k : List Edge) → Each (At g k x false (Sent (last_pull b.down bs)) (accepts (last_pull b.down bs))) ps
    → Made ps k tail end R)
    → Made ps h (set (edge_at b.up x true b.level) ∷ (map set (bit_edges x b.down bs) ++ tail)) end R
made-bits law g h x eoi n v ps hs b [] tail end R e l s w r =
    let u : Edge = edge_at b.up x true b.level in
    let d : Edge = edge_at b.down x false true in
    let m : n < 8 = omega arith in
    let y : n + 1 ≡ 8 = omega arith in
    let t : Each (At g (u ∷ h) x true (Bits eoi 8 (shifted v b.level)) nothing) ps =
    subst (λ i. Each (At g (u ∷ h) x true (Bits eoi i (shifted v b.level)) nothing) ps) y
    (each-step g h x false true (Bits eoi n v) (Bits eoi (n + 1) (shifted v b.level)) nothing nothing u ps s refl refl
    (λ w. chosen (nat_lt n 8) (Bits eoi (n + 1) (shifted v b.level)) (Bits eoi n v) (lt-ltb n 8 m)) refl
    (λ p z i k. refl)) in
    let a : Each (At g (d ∷ (u ∷ h)) x false (Sent b.down) (accepts b.down)) ps =
    each-map (At g (u ∷ h) x true (Bits eoi 8 (shifted v b.level)) nothing)
    (At g (d ∷ (u ∷ h)) x false (Sent b.down) (accepts b.down)) ps
    (λ p z. step-last law g (u ∷ h) x eoi (shifted v b.level) b.down p z) t in
    one-more ps h (set u) (set d ∷ tail) end R
    (made-by g h x false true (Bits eoi n v) (Bits eoi 8 (shifted v b.level)) nothing nothing ps hs
    (set u) b.down false false e s t
    (none-does b.up hs) (and-true b.level) (λ i j k. none-does i hs) (and-true b.level))
    (one-more ps (u ∷ h) (set d) tail end R
    (made-by g (u ∷ h) x true false (Bits eoi 8 (shifted v b.level)) (Sent b.down) nothing (accepts b.down) ps hs
    (set d) (next_moment tail end) false false e t a
    (none-does b.down hs) refl (λ i j k. w i k) refl)
    (r (d ∷ (u ∷ h)) a))
made-bits law g h x eoi n v ps hs b (c ∷ cs) tail end R e l s w r =
    let u : Edge = edge_at b.up x true b.level in
    let d : Edge = edge_at b.down x false c.level in
    let m : n < 8 = omega arith in
    let o : (n + 1 == 8) ≡ false = ne_eqb (n + 1) 8 (omega arith) in
    let q : Place = Bits eoi (n + 1) (shifted v b.level) in
    let t : Each (At g (u ∷ h) x true (Bits eoi (n + 1) (shifted v b.level)) nothing) ps =
    each-step g h x false true (Bits eoi n v) (Bits eoi (n + 1) (shifted v b.level)) nothing nothing u ps s refl refl
    (λ w. chosen (nat_lt n 8) (Bits eoi (n + 1) (shifted v b.level)) (Bits eoi n v) (lt-ltb n 8 m)) refl
    (λ p z i k. refl) in
    let a : Each (At g (d ∷ (u ∷ h)) x false (Bits eoi (n + 1) (shifted v b.level)) nothing) ps =
    each-step g (u ∷ h) x true false (Bits eoi (n + 1) (shifted v b.level))
    (Bits eoi (n + 1) (shifted v b.level)) nothing nothing d ps t refl refl
    (λ w. refused (n + 1 == 8) (Sent b.down) (Bits eoi (n + 1) (shifted v b.level)) o)
    (refused (n + 1 == 8) (Some (framed (not x) (shifted v b.level) eoi)) None o) (λ p z i k. refl) in
    one-more ps h (set u) (set d ∷ (set (edge_at c.up x true c.level) ∷ (map set (bit_edges x c.down cs) ++ tail))) end
    R
    (made-by g h x false true (Bits eoi n v) (Bits eoi (n + 1) (shifted v b.level)) nothing nothing ps hs
    (set u) b.down false false e s t
    (none-does b.up hs) (and-true b.level) (λ i j k. none-does i hs) (and-true b.level))
    (one-more ps (u ∷ h) (set d) (set (edge_at c.up x true c.level) ∷ (map set (bit_edges x c.down cs) ++ tail)) end R
    (made-by g (u ∷ h) x true false (Bits eoi (n + 1) (shifted v b.level))
    (Bits eoi (n + 1) (shifted v b.level)) nothing nothing ps hs (set d) c.up false false e t a
    (none-does b.down hs) (and-true c.level) (λ i j k. none-does i hs) (and-true c.level))
    (made-bits law g (d ∷ (u ∷ h)) x eoi (n + 1) (shifted v b.level) ps hs c cs tail end R e (omega arith) a w r))

-- a moment before, and one after, an interval
is-before : (n p q : ℕ) → n < p → is_in n p q ≡ false
is-before n p q h = ap (λ v. not v && nat_lt n q) (lt-ltb n p h)

is-after : (n p q : ℕ) → q ≤ n → is_in n p q ≡ false
is-after n p q h = ap (λ v. not (nat_lt n p) && v) (le-ltb n q h) ∙ and-false (not (nat_lt n p)) false refl

-- CLOCK's pull for the first bit
made-pull : ListeningAfterOneMore
    → (g h : List Edge) (x eoi : Bool) (look free pull : ℕ) (ps hs : List Party) (b : BitTimes) (bs : List BitTimes)
    (tail : List Move) (end : ℕ) (R : List Edge → Type 0)
    → heeding g ps ≡ hs → length bs ≡ 7 → any_by (λ (p : Party). answers x free p pull) hs ≡ false
    → Each (At g h x true (Opening look (Some free) eoi) (answers x free)) ps
    → ((m : ℕ) → m < next_moment tail end → any_by (λ (p : Party). accepts (last_pull b.down bs) p m) hs ≡ false)
    → ((k : List Edge) → Each (At g k x false (Sent (last_pull b.down bs)) (accepts (last_pull b.down bs))) ps
    → Made ps k tail end R)
    → Made ps h (set (edge_at pull x false b.level)
    ∷ (set (edge_at b.up x true b.level) ∷ (map set (bit_edges x b.down bs) ++ tail))) end R
made-pull law g h x eoi look free pull ps hs b bs tail end R e l z s w r =
    let d : Edge = edge_at pull x false b.level in
    let a : Each (At g (d ∷ h) x false (Bits eoi 0 0) nothing) ps =
    each-step g h x true false (Opening look (Some free) eoi) (Bits eoi 0 0) (answers x free) nothing d ps s refl refl
    (λ w. refl) refl (λ p y i k. refl) in
    one-more ps h (set d) (set (edge_at b.up x true b.level) ∷ (map set (bit_edges x b.down bs) ++ tail)) end R
    (made-by g h x true false (Opening look (Some free) eoi) (Bits eoi 0 0) (answers x free) nothing ps hs
    (set d) b.up false false e s a
    z (and-true b.level) (λ i j k. none-does i hs) (and-true b.level))
    (made-bits law g (d ∷ h) x eoi 0 0 ps hs b bs tail end R e (omega arith) a w r)

-- the bits and the acknowledgement
made-rest : ListeningAfterOneMore
    → (g h : List Edge) (x sent eoi : Bool) (look free pull : ℕ) (ps : List Party) (q : Party) (qs : List Party)
    (bits : List BitTimes) (end : ℕ) (R : List Edge → Type 0)
    → heeding g ps ≡ q ∷ qs → length bits ≡ 8 → any_by (λ (p : Party). answers x free p pull) (q ∷ qs) ≡ false
    → Each (At g h x true (Opening look (Some free) sent) (answers x free)) ps
    → ((k : List Edge) → Each (At g k x false (Sent (last_pull pull bits))
    (has_accepted (last_pull pull bits + first_accept eoi (q ∷ qs)) (last_pull pull bits))) ps → R k)
    → Made ps h (map set (bit_edges x pull bits)
    ++ released (edge_at (last_pull pull bits + first_accept eoi (q ∷ qs)) x false false) ∷ []) end R
made-rest law g h x sent eoi look free pull ps q qs [] end R e l z s r = absurd (omega arith)
made-rest law g h x sent eoi look free pull ps q qs (b ∷ bs) end R e l z s r =
    let c : ℕ = last_pull b.down bs in
    let ack : ℕ = c + first_accept eoi (q ∷ qs) in
    made-pull law g h x sent look free pull ps (q ∷ qs) b bs (released (edge_at ack x false false) ∷ []) end R e
    (omega arith) z s
    (λ m k. any-first (λ (l : ListenerTiming). l.accept) (hearer eoi) m c q qs
    ∙ ap not (lt-ltb m (c + first_accept eoi (q ∷ qs)) k))
    (λ k a. made-ack g k x eoi c ps q qs end R e a (λ t. r (edge_at ack x false false ∷ k) t))

-- DATA's release before a byte
made-free : (g h : List Edge) (x eoi : Bool) (look : ℕ) (ps : List Party) (q : Party) (qs : List Party) (ms : List Move)
    (end : ℕ) (R : List Edge → Type 0)
    → heeding g ps ≡ q ∷ qs → Each (At g h x true (Opening look None false) (holds look)) ps
    → ((n : ℕ) → n < next_moment ms end → any_by (λ (p : Party). answers x (look + last_hold eoi (q ∷ qs)) p n) (q ∷ qs)
    ≡ false)
    → (let free : ℕ = look + last_hold eoi (q ∷ qs) in
    Each (At g (edge_at free x true true ∷ h) x true (Opening look (Some free) false) (answers x free)) ps
    → Made ps (edge_at free x true true ∷ h) ms end R)
    → Made ps h (released (edge_at (look + last_hold eoi (q ∷ qs)) x true true) ∷ ms) end R
made-free g h x eoi look ps q qs ms end R e s m r =
    let free : ℕ = look + last_hold eoi (q ∷ qs) in
    let d : Edge = edge_at free x true true in
    let a : Each (At g (d ∷ h) x true (Opening look (Some free) false) (answers x free)) ps =
    each-step g h x true true (Opening look None false) (Opening look (Some free) false) (holds look)
    (answers x free) d ps s refl refl
    (λ w. ap (λ y. Opening look (Some free) y) (and-false x false refl)) refl
    (λ p y n k. ap (λ v. v && is_in n (free + p.timing.wait) (free + p.timing.wait + p.timing.answer)) k) in
    one-more ps h (released d) ms end R
    (made-by g h x true true (Opening look None false) (Opening look (Some free) false) (holds look) (answers x free) ps
    (q ∷ qs) (released d) (next_moment ms end) false false e s a
    (any-last (λ (l : ListenerTiming). l.hold) (hearer eoi) free look q qs
    ∙ le-ltb free (look + last_hold eoi (q ∷ qs)) (omega arith)) refl
    (λ n u v. m n v) refl)
    (r a)

-- CLOCK's release before a byte
look-leads : (wait : ℕ) (p : Place) (e : Edge) → IsBetweenBytes p → e.levels.clock ≡ true
    → leads wait p false e ≡ Opening e.time None false
look-leads wait Between e i k = chosen e.levels.clock (Opening e.time None false) Between k
look-leads wait (Sent z) e i k = chosen e.levels.clock (Opening e.time None false) (Sent z) k
look-leads wait (Opening l f eoi) e i k = absurd i
look-leads wait (Bits eoi n v) e i k = absurd i

look-ends : (p : Place) (e : Edge) → IsBetweenBytes p → ends p false e ≡ None
look-ends Between e i = refl
look-ends (Sent z) e i = refl
look-ends (Opening l f eoi) e i = absurd i
look-ends (Bits eoi n v) e i = absurd i

held : (look d n : ℕ) → 0 < d → ((nat_lt look (max (look + d) 0) || n == look) && nat_lt n (max (look + d) 0))
    ≡ nat_lt n (look + d)
held look d n h =
    ap (λ k. (nat_lt look k || n == look) && nat_lt n k) (or-zero (look + d))
    ∙ ap (λ v. (v || n == look) && nat_lt n (look + d)) (lt-ltb look (look + d) (omega arith))

step-look : (h : List Edge) (x : Bool) (look : ℕ) (p : Party) → ExpectsByte x h look p × IsParty p
    → At h (edge_at look x true false ∷ h) x true (Opening look None false) (holds look) p
step-look h x look p (s, i) =
    let e : Edge = edge_at look x true false in
    let place : Place = place_after p.timing.wait h in
    let z : Stands p.timing.wait h x false (place_after p.timing.wait h) (said p.timing.wait h) =
    record { atn_is = s.atn_is; clock_is = s.clock_is; place_is = refl; said_is = refl } in
    let t =
    goes-quietly p.timing.wait h x false true (place_after p.timing.wait h) (Opening look None false)
    (said p.timing.wait h) e z refl refl
    (look-leads p.timing.wait (place_after p.timing.wait h) e s.between refl)
    (look-ends (place_after p.timing.wait h) e s.between) in
    let y : heeds (e ∷ h) p ≡ heeds h p = same-heeds p h (e ∷ h) x s.atn_is t.atn_is t.said_is in
    record {
      atn_is = t.atn_is;
      clock_is = t.clock_is;
      place_is = t.place_is;
      heeds_is = y;
      timing = i;
      does = λ n.
          does-twice p.timing (standing p.timing.wait p.device (e ∷ h)) (Opening look None false)
          (pulling p h look) true (heeds h p) look n y t.place_is
          (s.pulls_is ∙ and-true (heeds h p))
          ∙ ap (λ v. heeds h p && v) (held look p.timing.hold n (let j : 1 ≤ p.timing.hold =
          i.hold.from in omega (arith, j)));
    }

pub made-look : (h : List Edge) (x eoi : Bool) (look : ℕ) (ps : List Party) (q : Party) (qs : List Party)
    (ms : List Move) (end : ℕ) (R : List Edge → Type 0)
    → heeding h ps ≡ q ∷ qs → Each IsParty ps → Each (ExpectsByte x h look) ps
    → next_moment ms end ≤ look + last_hold eoi (q ∷ qs)
    → (Each (At h (edge_at look x true false ∷ h) x true (Opening look None false) (holds look)) ps
    → Made ps (edge_at look x true false ∷ h) ms end R) → Made ps h (released (edge_at look x true false) ∷ ms) end R
made-look h x eoi look ps q qs ms end R e i s m r =
    let d : Edge = edge_at look x true false in
    let a : Each (At h (d ∷ h) x true (Opening look None false) (holds look)) ps =
    each-map (λ (p : Party). ExpectsByte x h look p × IsParty p)
    (At h (d ∷ h) x true (Opening look None false) (holds look)) ps
    (step-look h x look) (each-both (ExpectsByte x h look) IsParty ps s i) in
    one-more ps h (released d) ms end R
    (made-at h h ps (q ∷ qs) (released d) (next_moment ms end) true true (λ p n. true) (holds look) e
    (each-map (ExpectsByte x h look) (λ (p : Party). pulling p h look ≡ (heeds h p && true)) ps (λ p z. z.pulls_is
    ∙ and-true (heeds h p)) s)
    (λ n. each-does h (d ∷ h) x true (Opening look None false) (holds look) ps n a)
    refl refl
    (λ n u v. any-last (λ (l : ListenerTiming). l.hold) (hearer eoi) n look q qs
    ∙ lt-ltb n (look + last_hold eoi (q ∷ qs)) (omega arith)) refl)
    (r a)

-- the answer to end-or-identify
made-pulse : (g h : List Edge) (look free : ℕ) (ps : List Party) (q : Party) (qs : List Party) (ms : List Move)
    (end : ℕ) (R : List Edge → Type 0)
    → heeding g ps ≡ q ∷ qs → Each IsParty (q ∷ qs)
    → Each (At g h true true (Opening look (Some free) false) (answers true free)) ps
    → (let up : Edge = edge_at (free + last_end (q ∷ qs)) true true true in let down : Edge =
    edge_at (free + first_wait (q ∷ qs)) true true false in
    Each (At g (up ∷ (down ∷ h)) true true (Opening look (Some free) true) (answers true free)) ps
    → Made ps (up ∷ (down ∷ h)) ms end R)
    → Made ps h (released (edge_at (free + first_wait (q ∷ qs)) true true false)
    ∷ (released (edge_at (free + last_end (q ∷ qs)) true true true) ∷ ms)) end R
made-pulse g h look free ps q qs ms end R e i s r =
    let k = spans q qs i in
    let k1 : 200 ≤ first_wait (q ∷ qs) = k.from in
    let k2 : first_wait (q ∷ qs) ≤ 250 = k.to in
    let k3 : 280 ≤ last_end (q ∷ qs) = k.end in
    let from : ℕ = free + first_wait (q ∷ qs) in
    let to : ℕ = free + last_end (q ∷ qs) in
    let down : Edge = edge_at from true true false in
    let up : Edge = edge_at to true true true in
    let a : Each (At g (down ∷ h) true true (Opening look (Some free) true) (answers true free)) ps =
    each-step g h true true true (Opening look (Some free) false) (Opening look (Some free) true) (answers true free)
    (answers true free) down ps s refl refl (λ w. refl) refl
    (λ p y n o. ap (λ v. v && is_in n (free + p.timing.wait) (free + p.timing.wait + p.timing.answer)) o) in
    let b : Each (At g (up ∷ (down ∷ h)) true true (Opening look (Some free) true) (answers true free)) ps =
    each-step g (down ∷ h) true true true (Opening look (Some free) true) (Opening look (Some free) true)
    (answers true free) (answers true free) up ps a refl refl (λ w. refl) refl
    (λ p y n o. ap (λ v. v && is_in n (free + p.timing.wait) (free + p.timing.wait + p.timing.answer)) o) in
    one-more ps h (released down) (released up ∷ ms) end R
    (made-by g h true true true (Opening look (Some free) false) (Opening look (Some free) true) (answers true free)
    (answers true free) ps (q ∷ qs) (released down) to true true e s a
    (any-answers from free q qs i ∙ is-in from from to (omega arith) (omega arith)) refl
    (λ n u v. any-answers n free q qs i ∙ is-in n from to u v) refl)
    (one-more ps (down ∷ h) (released up) ms end R
    (made-by g (down ∷ h) true true true (Opening look (Some free) true) (Opening look (Some free) true)
    (answers true free) (answers true free) ps (q ∷ qs) (released up) (next_moment ms end) false false e a b
    (any-answers to free q qs i ∙ is-after to from to (omega arith)) refl
    (λ n u v. any-answers n free q qs i ∙ is-after n from to u) refl)
    (r b))

-- a talker's frame has eight bits
bits-length : (c : ℕ) (numbers : List ℕ) (bs : List Bool) → length (bit_times c numbers bs) ≡ length bs
bits-length c numbers [] = refl
bits-length c numbers (b ∷ bs) =
    ap suc (bits-length (c + delay_at S numbers 0 + delay_at V numbers 1) (drop 2 numbers) bs)

-- they begin with CLOCK's pull
first-bit : (x : Bool) (c : ℕ) (bits : List BitTimes) (tail : List Move) (end : ℕ)
    → next_moment (map set (bit_edges x c bits) ++ tail) end ≡ c
first-bit x c [] tail end = refl
first-bit x c (b ∷ bs) tail end = refl

-- where the devices are after a frame
abbrev pub IsOver : List Edge → Bool → FrameTimes → List Party → List Edge → Type 0
IsOver g x f ps k = Each (At g k x false (Sent (last_pull f.pull f.bits))
    (has_accepted f.ack (last_pull f.pull f.bits))) ps

-- a talker's frame
pub frame-made : ListeningAfterOneMore → DelaysLieWithinBounds
    → (x eoi : Bool) (h : List Edge) (ps : List Party) (look byte : ℕ) (numbers : List ℕ) (q : Party) (qs : List Party)
    → (eoi ≡ true → x ≡ true) → heeding h ps ≡ q ∷ qs → Each IsParty ps → Each (ExpectsByte x h look) ps → (end : ℕ)
    → (let f : FrameTimes = frame_times look eoi byte numbers (map (hearer eoi) (q ∷ qs)) in
    Made ps h (released (edge_at look x true false) ∷ frame_moves x f) end (IsOver h x f ps))
frame-made law bounds false true h ps look byte numbers q qs u e i s end = absurd (let k : false ≡ true = u refl in cc)
frame-made law bounds x false h ps look byte numbers q qs u e i s end =
    let f : FrameTimes = frame_times look false byte numbers (map (hearer false) (q ∷ qs)) in
    let l : Edge = edge_at look x true false in
    let d : Edge = edge_at f.free x true true in
    let rest : List Move = map set (bit_edges x f.pull f.bits) ++ released (edge_at f.ack x false false) ∷ [] in
    let m : next_moment rest end ≡ f.pull =
    first-bit x f.pull f.bits (released (edge_at f.ack x false false) ∷ []) end in
    let ne = bounds Ne numbers 0 in
    let n : f.pull ≤ f.free + 199 = omega (arith, ne.to) in
    let j : Each IsParty (q ∷ qs) = subst (λ hs. Each IsParty hs) e (each-heeds IsParty h ps i) in
    made-look h x false look ps q qs (released d ∷ rest) end (IsOver h x f ps) e i s (omega arith) (λ a.
    made-free h (l ∷ h) x false look ps q qs rest end (IsOver h x f ps) e a
    (λ k v. none-answers x k f.free (q ∷ qs) j (omega (arith, m, n, v))) (λ b.
    made-rest law h (d ∷ (l ∷ h)) x false false look f.free f.pull ps q qs f.bits end (IsOver h x f ps) e
    (bits-length f.pull (drop 1 numbers) (bits_of 8 byte))
    (none-answers x f.pull f.free (q ∷ qs) j (omega (arith, n))) b (λ k o. o)))
frame-made law bounds true true h ps look byte numbers q qs u e i s end =
    let f : FrameTimes = frame_times look true byte numbers (map (hearer true) (q ∷ qs)) in
    let l : Edge = edge_at look true true false in
    let d : Edge = edge_at f.free true true true in
    let from : ℕ = f.free + first_wait (q ∷ qs) in
    let to : ℕ = f.free + last_end (q ∷ qs) in
    let rest : List Move = map set (bit_edges true f.pull f.bits) ++ released (edge_at f.ack true false false) ∷ [] in
    let j : Each IsParty (q ∷ qs) = subst (λ hs. Each IsParty hs) e (each-heeds IsParty h ps i) in
    made-look h true true look ps q qs
    (released d ∷ (released (edge_at from true true false) ∷ (released (edge_at to true true true) ∷ rest))) end
    (IsOver h true f ps) e i s (omega arith) (λ a.
    made-free h (l ∷ h) true true look ps q qs (released (edge_at from true true false)
    ∷ (released (edge_at to true true true) ∷ rest)) end (IsOver h true f ps) e a (λ k v. any-answers k f.free q qs j
    ∙ is-before k from to v) (λ b.
    made-pulse h (d ∷ (l ∷ h)) look f.free ps q qs rest end (IsOver h true f ps) e j b (λ c.
    made-rest law h (edge_at to true true true ∷ (edge_at from true true false ∷ (d ∷ (l ∷ h)))) true true true look
    f.free f.pull ps q qs f.bits end (IsOver h true f ps) e
    (bits-length f.pull (drop 1 numbers) (bits_of 8 byte))
    (any-answers f.pull f.free q qs j ∙ is-after f.pull from to (omega arith)) c (λ k o. o))))

-- it has acknowledged, and expects the next byte
expects-again : (g k : List Edge) (x : Bool) (pull ack now : ℕ) (p : Party)
    → At g k x false (Sent pull) (has_accepted ack pull) p → pull + 80 ≤ now → ExpectsByte x k now p
expects-again g k x pull ack now p s h =
    let a : p.timing.accept ≤ 80 = (let t = s.timing in t.accept.to) in
    record {
      atn_is = s.atn_is;
      clock_is = s.clock_is;
      between = subst (λ (q : Place). IsBetweenBytes q) (sym s.place_is) tt;
      pulls_is =
          s.does now
          ∙ (ap (λ y. heeds g p && y)
          (or-right (not (nat_lt ack (pull + p.timing.accept))) (not (nat_lt now (pull + p.timing.accept)))
          (not-lt now (pull + p.timing.accept) (omega arith)))
          ∙ (sym (and-true (heeds g p)) ∙ sym s.heeds_is));
    }

-- what the law says of a frame, by what its hearers wait
abbrev pub FramedBy : Bool → Bool → List Edge → List Party → ℕ → ℕ → List ℕ → List ListenerTiming → Type 0
FramedBy x eoi h ps look byte numbers hs =
    let f : FrameTimes = frame_times look eoi byte numbers hs in
    let ms : List Move = sent_moves x look f in
    ((end : ℕ) → AreMade ps h ms end) × ((now : ℕ) → f.ack + 100 ≤ now → Each (ExpectsByte x (after_moves h ms) now) ps)

abbrev pub Framed : Bool → Bool → List Edge → List Party → ℕ → ℕ → List ℕ → List Party → Type 0
Framed x eoi h ps look byte numbers hs = FramedBy x eoi h ps look byte numbers (map (hearer eoi) hs)

pub framed-for : ListeningAfterOneMore → DelaysLieWithinBounds
    → (x eoi : Bool) (h : List Edge) (ps : List Party) (look byte : ℕ) (numbers : List ℕ) (q : Party) (qs : List Party)
    → (eoi ≡ true → x ≡ true) → heeding h ps ≡ q ∷ qs → Each IsParty ps → Each (ExpectsByte x h look) ps
    → Framed x eoi h ps look byte numbers (q ∷ qs)
framed-for law bounds x eoi h ps look byte numbers q qs u e i s =
    let f : FrameTimes = frame_times look eoi byte numbers (map (hearer eoi) (q ∷ qs)) in
    let ms : List Move = sent_moves x look f in
    let pull : ℕ = last_pull f.pull f.bits in (
      λ end. (frame-made law bounds x eoi h ps look byte numbers q qs u e i s end).0,
      λ now k. each-map (At h (after_moves h ms) x false (Sent pull) (has_accepted f.ack pull))
          (ExpectsByte x (after_moves h ms) now) ps
          (λ p t. expects-again h (after_moves h ms) x pull f.ack now p t (omega arith))
          (frame-made law bounds x eoi h ps look byte numbers q qs u e i s 0).1,
    )

-- a talker's frame, as the law says it
pub frames-made : ListeningAfterOneMore → DelaysLieWithinBounds → FramesAreMade
frames-made law bounds x eoi h ps look byte numbers q qs u e i s =
    let r : Framed x eoi h ps look byte numbers (heeding h ps) =
    subst (λ (hs : List Party). Framed x eoi h ps look byte numbers hs) (sym e)
    (framed-for law bounds x eoi h ps look byte numbers q qs u e i s) in
    record { made = r.0; after = r.1 }

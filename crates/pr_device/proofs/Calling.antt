-- An attention is made by the talker and the devices that it calls.
use Rattle.std.proofs.Common.{◌≡◌, ℕ, ◌+◌, ◌<◌, ◌≤◌, ◌==◌, nat_lt, max, Bool, true, false, not, ◌&&◌, ◌||◌, List, []}
use Rattle.std.proofs.Common.{◌∷◌, ◌++◌, map, Option, Some, None, if◌then◌else◌, refl, sym, ap, subst, ◌∙◌, arith}
use Rattle.std.proofs.Common.{lt-ltb, le-ltb, eqb-true, drop}
use Rattle.pr_wire.specs.declared.Edge.{Edge}
use Rattle.pr_wire.specs.Levels.{edge_at}
use Rattle.pr_wire.specs.declared.delay.Kind.TheVariants.{Aw}
use Rattle.pr_wire.specs.Delays.{delay_at}
use Rattle.pr_wire.specs.Pieces.{FrameTimes, SecondFrame, last_ack}
use Rattle.pr_wire.specs.Table.{same}
use Rattle.pr_wire.specs.Laws.{DelaysLieWithinBounds}
use Rattle.pr_receiver.specs.Heard.{is_listening}
use Rattle.pr_receiver.specs.Laws.{ListeningAfterOneMore}
use Rattle.pr_bus.specs.Timed.{greatest, least, frame_times}
use Rattle.pr_device.specs.declared.place.Place.{Place}
use Rattle.pr_device.specs.declared.place.Place.TheVariants.{Between, Opening}
use Rattle.pr_device.specs.declared.timing.Timing.{Timing}
use Rattle.pr_device.specs.Data.{Standing, standing, pulls, pulls_at, calls, leaves, is_away}
use Rattle.pr_device.specs.Following.{atn_of, clock_of, since_of, place_after, said}
use Rattle.pr_device.specs.Course.{Party, Each, Move, IsMade, AreMade, next_moment, after_moves, released, pulling}
use Rattle.pr_device.specs.Course.{one_pulls, heeding, hearer, IsBetweenBytes, ExpectsByte, sent_moves, answer_moves}
use Rattle.pr_device.specs.Course.{second_moves, second_for, HasLeft}
use Rattle.pr_device.specs.CourseLaws.{Call, CallsAreMade, first_frame, next_frame, answer_of, released_at}
use Rattle.pr_device.proofs.Tests.{or-right, or-false}
use Rattle.pr_device.proofs.Delays.{near, not-true}
use Rattle.pr_device.proofs.Pairs.{not-lt, last-releases, first-pulls}
use Rattle.pr_device.proofs.Walking.{Stands, goes-quietly, turns, chosen, refused}
use Rattle.pr_device.proofs.Sharing.{any_by, heeds, each-map, each-both, one-is, any-heeds, IsParty}
use Rattle.pr_device.proofs.Making.{Framed, framed-for, any-more, not-false, and-true, same-heeds, or-same, not-yet}

-- before a call: ATN is released, and DATA has what a device does to it at that moment, by whether it is heeding
pub record IsCallable (holds : Party → Bool) (history : List Edge) (now : ℕ) (p : Party) : Type 0 where
  pub atn_is : atn_of history ≡ true
  pub pulls_is : pulling p history now ≡ holds p

-- nobody speaks to a device, and it does nothing
pub record IsIdle (history : List Edge) (p : Party) : Type 0 where
  pub atn_is : atn_of history ≡ true
  pub away_is : is_away (standing p.timing.wait p.device history) ≡ true
  pub does : (now : ℕ) → pulling p history now ≡ false

-- moves after moves
pub after-append : (h : List Edge) (xs ys : List Move) → after_moves h (xs ++ ys) ≡ after_moves (after_moves h xs) ys
after-append h [] ys = refl
after-append h (x ∷ xs) ys = after-append (x.edge ∷ h) xs ys

next-append : (xs ys : List Move) (end : ℕ) → next_moment xs (next_moment ys end) ≡ next_moment (xs ++ ys) end
next-append [] ys end = refl
next-append (x ∷ xs) ys end = refl

pub made-append : (ps : List Party) (h : List Edge) (xs ys : List Move) (end : ℕ) → AreMade ps h xs (next_moment ys end)
    → AreMade ps (after_moves h xs) ys end → AreMade ps h (xs ++ ys) end
made-append ps h [] ys end u w = w
made-append ps h (x ∷ xs) ys end (a, u) w =
    (subst (λ n. IsMade ps h x n) (next-append xs ys end) a, made-append ps (x.edge ∷ h) xs ys end u w)

-- one of some devices by a test that each keeps
some-does : (f : Party → Bool) (q : Party) (qs : List Party) → Each (λ (p : Party). f p ≡ true) (q ∷ qs)
    → any_by f (q ∷ qs) ≡ true
some-does f q qs (a, w) = ap (λ v. v || any_by f qs) a

-- nobody keeps a test that none keeps
pub each-false : (f : Party → Bool) (ps : List Party) → any_by f ps ≡ false → Each (λ (p : Party). f p ≡ false) ps
each-false f [] e = tt
each-false f (p ∷ ps) e = by (f p) refl e (λ k. each-false f ps k)
  where
    by : (b : Bool) → f p ≡ b → (b || any_by f ps) ≡ false
        → (any_by f ps ≡ false → Each (λ (q : Party). f q ≡ false) ps)
        → (f p ≡ false) × Each (λ (q : Party). f q ≡ false) ps
    by false k i w = (k, w i)
    by true k i w = absurd (let j : true ≡ false = i in cc)

-- all heed
heeding-all : (h : List Edge) (ps : List Party) → Each (λ (p : Party). heeds h p ≡ true) ps → heeding h ps ≡ ps
heeding-all h [] w = refl
heeding-all h (p ∷ ps) (a, w) =
    refused (is_away (standing p.timing.wait p.device h)) (heeding h ps) (p ∷ heeding h ps)
    (not-true (is_away (standing p.timing.wait p.device h)) a)
    ∙ ap (λ l. p ∷ l) (heeding-all h ps w)

-- a device that is called: what it did before, and what it does after its delay
pub record Called (a : ℕ) (b : Party → Bool) (k : List Edge) (p : Party) : Type 0 where
  pub atn_is : atn_of k ≡ false
  pub clock_is : clock_of k ≡ false
  pub place_is : place_after p.timing.wait k ≡ Between
  pub since_is : since_of k ≡ Some a
  pub timing : IsParty p
  pub does : (n : ℕ) → pulling p k n ≡ (b p || not (nat_lt n (a + p.timing.attention)))

-- the rule between two bytes, where ATN is pulled
calls-rule : (t : Timing) (s : Standing) (before : Bool) (a n : ℕ) → s.atn ≡ false → s.place ≡ Between
    → s.since ≡ Some a → pulls t 0 before s n ≡ (before || not (nat_lt n (a + t.attention)))
calls-rule t s before a n x q o =
    near t 0 before s n Between (ap (λ y. y && not s.listens) x) q
    ∙ (ap (λ y. if y then not s.clock else calls t before s.since n) x ∙ ap (λ y. calls t before y n) o)

-- the same, where it has acted before at a moment
calls-twice : (t : Timing) (s : Standing) (before : Bool) (a m n : ℕ) → s.atn ≡ false → s.place ≡ Between
    → s.since ≡ Some a
    → pulls t 0 (pulls t 0 before s m) s n
    ≡ ((before || not (nat_lt m (a + t.attention))) || not (nat_lt n (a + t.attention)))
calls-twice t s before a m n x q o =
    calls-rule t s (pulls t 0 before s m) a n x q o
    ∙ ap (λ y. y || not (nat_lt n (a + t.attention))) (calls-rule t s before a m x q o)

or-none : (a b c : Bool) → b ≡ false → ((a || b) || c) ≡ (a || c)
or-none true b c h = refl
or-none false b c h = ap (λ y. y || c) h

or-again : (a b c : Bool) → (((a || b) || b) || c) ≡ ((a || b) || c)
or-again true b c = refl
or-again false b c = or-same b c

-- ATN's pull
step-call : (h : List Edge) (a : ℕ) (line : Bool) (b : Party → Bool) (p : Party) → IsCallable b h a p × IsParty p
    → Called a b (edge_at a false false line ∷ h) p
step-call h a line b p (s, i) =
    let e : Edge = edge_at a false false line in
    let t = turns p.timing.wait h false false (said p.timing.wait h) e
    (record { atn_is = s.atn_is; said_is = refl }) refl refl in
    let o : since_of (e ∷ h) ≡ Some a =
    refused (same false (atn_of h)) (since_of h) (Some a) (ap (λ y. same false y) s.atn_is) in
    record {
      atn_is = refl;
      clock_is = refl;
      place_is = t.place_is;
      since_is = o;
      timing = i;
      does = λ n.
          calls-twice p.timing (standing p.timing.wait p.device (e ∷ h)) (pulling p h a) a a n refl t.place_is o
          ∙ (or-none (pulling p h a) (not (nat_lt a (a + p.timing.attention))) (not (nat_lt n (a + p.timing.attention)))
          (not-yet a p.timing.attention (let j : 1 ≤ p.timing.attention = i.attention.from in omega (arith, j)))
          ∙ ap (λ y. y || not (nat_lt n (a + p.timing.attention))) s.pulls_is);
    }

-- another edge of DATA while ATN and CLOCK are pulled
step-answer : (k : List Edge) (a d : ℕ) (line : Bool) (b : Party → Bool) (p : Party) → Called a b k p
    → Called a (λ (q : Party). b q || not (nat_lt d (a + q.timing.attention))) (edge_at d false false line ∷ k) p
step-answer k a d line b p s =
    let e : Edge = edge_at d false false line in
    let z : Stands p.timing.wait k false false Between (said p.timing.wait k) =
    record { atn_is = s.atn_is; clock_is = s.clock_is; place_is = s.place_is; said_is = refl } in
    let t = goes-quietly p.timing.wait k false false false Between Between
    (said p.timing.wait k) e z refl refl refl refl in
    let o : since_of (e ∷ k) ≡ Some a =
    chosen (same false (atn_of k)) (since_of k) (Some d) (ap (λ y. same false y) s.atn_is) ∙ s.since_is in
    record {
      atn_is = refl;
      clock_is = refl;
      place_is = t.place_is;
      since_is = o;
      timing = s.timing;
      does = λ n.
          calls-twice p.timing (standing p.timing.wait p.device (e ∷ k)) (pulling p k d) a d n refl t.place_is o
          ∙ (ap (λ y. (y || not (nat_lt d (a + p.timing.attention))) || not (nat_lt n (a + p.timing.attention)))
          (s.does d)
          ∙ or-again (b p) (not (nat_lt d (a + p.timing.attention))) (not (nat_lt n (a + p.timing.attention))));
    }

-- a device that was called expects the first command
called-expects : (k : List Edge) (a look : ℕ) (b : Party → Bool) (p : Party) → Called a b k p → a + 1000 ≤ look
    → ExpectsByte false k look p
called-expects k a look b p s h =
    let t : p.timing.attention ≤ 1000 = (let i = s.timing in i.attention.to) in
    record {
      atn_is = s.atn_is;
      clock_is = s.clock_is;
      between = subst (λ (q : Place). IsBetweenBytes q) (sym s.place_is) tt;
      pulls_is =
          s.does look
          ∙ (ap (λ y. b p || y) (not-lt look (a + p.timing.attention) (omega arith))
          ∙ (or-right (b p) true refl
          ∙ sym (ap (λ y. not (y && not (is_listening p.device (said p.timing.wait k)))) s.atn_is)));
    }

-- all devices heed a command
expects-heeds : (k : List Edge) (now : ℕ) (p : Party) → ExpectsByte false k now p → heeds k p ≡ true
expects-heeds k now p s = ap (λ y. not (y && not (is_listening p.device (said p.timing.wait k)))) s.atn_is

-- the least delay of answers to ATN
abbrev pub first_call : List Party → ℕ
first_call ps = least (map (λ (p : Party). p.timing.attention) ps)

any-calls : (n a : ℕ) (q : Party) (qs : List Party)
    → any_by (λ (p : Party). not (nat_lt n (a + p.timing.attention))) (q ∷ qs)
    ≡ not (nat_lt n (a + first_call (q ∷ qs)))
any-calls n a q [] = or-false (not (nat_lt n (a + q.timing.attention)))
any-calls n a q (r ∷ qs) =
    ap (λ v. not (nat_lt n (a + q.timing.attention)) || v) (any-calls n a r qs)
    ∙ first-pulls n a q.timing.attention (first_call (r ∷ qs))

-- an edge of DATA that the devices make, by what they do together before and after it
made-sum : (ps : List Party) (h : List Edge) (m : Move) (next : ℕ) (u v : Bool) (f k : Party → ℕ → Bool)
    → Each (λ (p : Party). pulling p h m.edge.time ≡ f p m.edge.time) ps
    → ((n : ℕ) → Each (λ (p : Party). pulling p (m.edge ∷ h) n ≡ k p n) ps)
    → any_by (λ (p : Party). f p m.edge.time) ps ≡ u → m.edge.levels.line ≡ (m.level && not u)
    → ((n : ℕ) → m.edge.time ≤ n → n < next → any_by (λ (p : Party). k p n) ps ≡ v)
    → m.edge.levels.line ≡ (m.level && not v) → IsMade ps h m next
made-sum ps h m next u v f k a b c l d o = record {
  comes = l ∙ ap (λ y. m.level && not y) (sym (one-is h m.edge.time (λ (p : Party). f p m.edge.time) ps a ∙ c));
  stays = λ n i j. o ∙ ap (λ y. m.level && not y)
      (sym (one-is (m.edge ∷ h) n (λ (p : Party). k p n) ps (b n) ∙ d n i j));
}

called-does : (a : ℕ) (b : Party → Bool) (k : List Edge) (ps : List Party) (n : ℕ) → Each (Called a b k) ps
    → Each (λ (p : Party). pulling p k n ≡ (b p || not (nat_lt n (a + p.timing.attention)))) ps
called-does a b k ps n s =
    each-map (Called a b k) (λ (p : Party). pulling p k n ≡ (b p || not (nat_lt n (a + p.timing.attention)))) ps
    (λ p z. z.does n) s

-- ATN's pull, where DATA is held
call-held : (h : List Edge) (a : ℕ) (b : Party → Bool) (ps : List Party) (next : ℕ) → Each (IsCallable b h a) ps
    → Each IsParty ps → any_by b ps ≡ true → IsMade ps h (released (edge_at a false false false)) next
call-held h a b ps next s i e =
    let k : Each (Called a b (edge_at a false false false ∷ h)) ps =
    each-map (λ (p : Party). IsCallable b h a p × IsParty p) (Called a b (edge_at a false false false ∷ h)) ps
    (step-call h a false b) (each-both (IsCallable b h a) IsParty ps s i) in
    made-sum ps h (released (edge_at a false false false)) next true true (λ p n. b p)
    (λ p n. b p || not (nat_lt n (a + p.timing.attention)))
    (each-map (IsCallable b h a) (λ (p : Party). pulling p h a ≡ b p) ps (λ p z. z.pulls_is) s)
    (λ n. called-does a b (edge_at a false false false ∷ h) ps n k) e refl
    (λ n u v. any-more b (λ (p : Party). not (nat_lt n (a + p.timing.attention))) ps e) refl

-- ATN's pull, where DATA is released
call-free : (h : List Edge) (a : ℕ) (q : Party) (qs : List Party) (next : ℕ)
    → Each (IsCallable (λ (p : Party). false) h a) (q ∷ qs) → Each IsParty (q ∷ qs)
    → next ≤ a + first_call (q ∷ qs) → IsMade (q ∷ qs) h (released (edge_at a false false true)) next
call-free h a q qs next s i m =
    let k : Each (Called a (λ (p : Party). false) (edge_at a false false true ∷ h)) (q ∷ qs) =
    each-map (λ (p : Party). IsCallable (λ (r : Party). false) h a p
    × IsParty p) (Called a (λ (p : Party). false) (edge_at a false false true ∷ h)) (q ∷ qs)
    (step-call h a true (λ (p : Party). false))
    (each-both (IsCallable (λ (p : Party). false) h a) IsParty (q ∷ qs) s i) in
    made-sum (q ∷ qs) h (released (edge_at a false false true)) next false false (λ p n. false)
    (λ p n. not (nat_lt n (a + p.timing.attention)))
    (each-map (IsCallable (λ (p : Party). false) h a) (λ (p : Party). pulling p h a ≡ false) (q ∷ qs)
    (λ p z. z.pulls_is) s)
    (λ n. called-does a (λ (p : Party). false) (edge_at a false false true ∷ h) (q ∷ qs) n k) (all-false (q ∷ qs)) refl
    (λ n u v. any-calls n a q qs ∙ ap not (lt-ltb n (a + first_call (q ∷ qs)) (omega arith))) refl
  where
    all-false : (ps : List Party) → any_by (λ (p : Party). false) ps ≡ false
    all-false [] = refl
    all-false (p ∷ ps) = all-false ps

-- DATA's pull in answer
answer-made : (k : List Edge) (a : ℕ) (q : Party) (qs : List Party) (next : ℕ)
    → Each (Called a (λ (p : Party). false) k) (q ∷ qs)
    → IsMade (q ∷ qs) k (released (edge_at (a + first_call (q ∷ qs)) false false false)) next
answer-made k a q qs next s =
    let d : ℕ = a + first_call (q ∷ qs) in
    let e : any_by (λ (p : Party). not (nat_lt d (a + p.timing.attention))) (q ∷ qs) ≡ true =
    any-calls d a q qs ∙ not-lt d (a + first_call (q ∷ qs)) (omega arith) in
    let t : Each (Called a (λ (p : Party). false || not (nat_lt d (a + p.timing.attention)))
    (edge_at d false false false ∷ k)) (q ∷ qs) =
    each-map (Called a (λ (p : Party). false) k)
    (Called a (λ (p : Party). false || not (nat_lt d (a + p.timing.attention))) (edge_at d false false false ∷ k))
    (q ∷ qs)
    (step-answer k a d false (λ (p : Party). false)) s in
    made-sum (q ∷ qs) k (released (edge_at d false false false)) next true true
    (λ p n. not (nat_lt n (a + p.timing.attention)))
    (λ p n. not (nat_lt d (a + p.timing.attention)) || not (nat_lt n (a + p.timing.attention)))
    (called-does a (λ (p : Party). false) k (q ∷ qs) d s)
    (λ n. called-does a (λ (p : Party). false || not (nat_lt d (a + p.timing.attention)))
    (edge_at d false false false ∷ k) (q ∷ qs) n t) e refl
    (λ n u v. any-more (λ (p : Party). not (nat_lt d (a + p.timing.attention)))
    (λ (p : Party). not (nat_lt n (a + p.timing.attention))) (q ∷ qs) e) refl

-- before the first command, where DATA is held
pub front-held : (h : List Edge) (a look : ℕ) (b : Party → Bool) (ps : List Party) → Each (IsCallable b h a) ps
    → Each IsParty ps → any_by b ps ≡ true → a + 1000 ≤ look
    → AreMade ps h (released (edge_at a false false false) ∷ answer_moves None look) look
    × Each (ExpectsByte false (after_moves h (released (edge_at a false false false) ∷ answer_moves None look)) look) ps
front-held h a look b ps s i e m = (
  (call-held h a b ps look s i e, tt),
  each-map (λ (p : Party). IsCallable b h a p × IsParty p) (ExpectsByte false (edge_at a false false false ∷ h) look) ps
      (λ p z. called-expects (edge_at a false false false ∷ h) a look b p (step-call h a false b p z) m)
      (each-both (IsCallable b h a) IsParty ps s i),
)

-- the same, where it is released
pub front-free : (h : List Edge) (a look : ℕ) (q : Party) (qs : List Party)
    → Each (IsCallable (λ (p : Party). false) h a) (q ∷ qs) → Each IsParty (q ∷ qs) → a + 1000 ≤ look
    → AreMade (q ∷ qs) h (released (edge_at a false false true) ∷ answer_moves (Some (a + first_call (q ∷ qs))) look)
    look
    × Each (ExpectsByte false
    (after_moves h (released (edge_at a false false true) ∷ answer_moves (Some (a + first_call (q ∷ qs))) look)) look)
    (q ∷ qs)
front-free h a look q qs s i m = by (a + first_call (q ∷ qs) == look) refl
  where
    called : Each (Called a (λ (p : Party). false) (edge_at a false false true ∷ h)) (q ∷ qs)
    called =
        each-map (λ (p : Party). IsCallable (λ (r : Party). false) h a p
        × IsParty p) (Called a (λ (p : Party). false) (edge_at a false false true ∷ h)) (q ∷ qs)
        (step-call h a true (λ (p : Party). false))
        (each-both (IsCallable (λ (p : Party). false) h a) IsParty (q ∷ qs) s i)

    by : (v : Bool) → (a + first_call (q ∷ qs) == look) ≡ v
        → AreMade (q ∷ qs) h (released (edge_at a false false true)
        ∷ (if v then [] else released (edge_at (a + first_call (q ∷ qs)) false false false) ∷ [])) look
        × Each (ExpectsByte false
        (after_moves h (released (edge_at a false false true)
        ∷ (if v then [] else released (edge_at (a + first_call (q ∷ qs)) false false false) ∷ []))) look) (q ∷ qs)
    by true k = (
      (
        call-free h a q qs look s i (let j : a + first_call (q ∷ qs) ≡ look =
            eqb-true (a + first_call (q ∷ qs)) look k in omega (arith, j)),
        tt,
      ),
      each-map (Called a (λ (p : Party). false) (edge_at a false false true ∷ h))
          (ExpectsByte false (edge_at a false false true ∷ h) look) (q ∷ qs)
          (λ p z. called-expects (edge_at a false false true ∷ h) a look (λ (r : Party). false) p z m) called,
    )
    by false k = (
      (
        call-free h a q qs (a + first_call (q ∷ qs)) s i (omega arith),
        (answer-made (edge_at a false false true ∷ h) a q qs look called, tt),
      ),
      each-map (Called a (λ (p : Party). false) (edge_at a false false true ∷ h))
          (ExpectsByte false (edge_at (a + first_call (q ∷ qs)) false false false
          ∷ (edge_at a false false true ∷ h)) look) (q ∷ qs)
          (λ p z. called-expects (edge_at (a + first_call (q ∷ qs)) false false false
          ∷ (edge_at a false false true ∷ h)) a look
          (λ (r : Party). false || not (nat_lt (a + first_call (q ∷ qs)) (a + r.timing.attention))) p
          (step-answer (edge_at a false false true ∷ h) a (a + first_call (q ∷ qs)) false (λ (r : Party). false) p z) m)
          called,
    )

-- a command
command-made : ListeningAfterOneMore → DelaysLieWithinBounds
    → (k : List Edge) (q : Party) (qs : List Party) (look byte : ℕ) (numbers : List ℕ)
    → Each IsParty (q ∷ qs) → Each (ExpectsByte false k look) (q ∷ qs)
    → Framed false false k (q ∷ qs) look byte numbers (q ∷ qs)
command-made law bounds k q qs look byte numbers i s =
    framed-for law bounds false false k (q ∷ qs) look byte numbers q qs (λ e. absurd (let j : false ≡ true = e in cc))
    (heeding-all k (q ∷ qs) (each-map (ExpectsByte false k look) (λ (p : Party). heeds k p ≡ true) (q ∷ qs)
    (expects-heeds k look) s)) i s

-- the last acknowledgement, and all commands
abbrev pub commands : FrameTimes → Option SecondFrame → ℕ → List Move
commands first second look = sent_moves false look first ++ second_moves second

-- a second command
second-made : ListeningAfterOneMore → DelaysLieWithinBounds
    → (k : List Edge) (q : Party) (qs : List Party) (ack r : ℕ) (second : Option ℕ) (numbers : List ℕ)
    → Each IsParty (q ∷ qs) → ((now : ℕ) → ack + 100 ≤ now → Each (ExpectsByte false k now) (q ∷ qs))
    → last_ack ack (second_for ack second numbers (q ∷ qs)) + 100 ≤ r
    → ((end : ℕ) → AreMade (q ∷ qs) k (second_moves (second_for ack second numbers (q ∷ qs))) end)
    × Each (ExpectsByte false (after_moves k (second_moves (second_for ack second numbers (q ∷ qs)))) r) (q ∷ qs)
second-made law bounds k q qs ack r None numbers i s m = (λ end. tt, s r m)
second-made law bounds k q qs ack r (Some byte) numbers i s m =
    let aw = bounds Aw numbers 0 in
    let look : ℕ = ack + delay_at Aw numbers 0 in
    let w = command-made law bounds k q qs look byte (drop 1 numbers) i (s look (omega (arith, aw.from))) in
    (w.0, w.1 r m)

-- all before the end of an attention
pub attention-made : ListeningAfterOneMore → DelaysLieWithinBounds
    → (h : List Edge) (q : Party) (qs : List Party) (front : List Move) (look byte r : ℕ) (second : Option ℕ)
    (numbers more : List ℕ) (tail : List Move) (end : ℕ)
    → Each IsParty (q ∷ qs) → AreMade (q ∷ qs) h front look
    → Each (ExpectsByte false (after_moves h front) look) (q ∷ qs)
    → (let first : FrameTimes = frame_times look false byte numbers (map (hearer false) (q ∷ qs)) in
    let next : Option SecondFrame = second_for first.ack second more (q ∷ qs) in
    let k : List Edge = after_moves (after_moves (after_moves h front) (sent_moves false look first))
    (second_moves next) in
    last_ack first.ack next + 100 ≤ r → (Each (ExpectsByte false k r) (q ∷ qs) → AreMade (q ∷ qs) k tail end)
    → AreMade (q ∷ qs) h (front ++ (sent_moves false look first ++ (second_moves next ++ tail))) end)
attention-made law bounds h q qs front look byte r second numbers more tail end i u s m w =
    let first : FrameTimes = frame_times look false byte numbers (map (hearer false) (q ∷ qs)) in
    let next : Option SecondFrame = second_for first.ack second more (q ∷ qs) in
    let one = command-made law bounds (after_moves h front) q qs look byte numbers i s in
    let two = second-made law bounds (after_moves (after_moves h front) (sent_moves false look first)) q qs first.ack r
    second more i one.1 m in
    made-append (q ∷ qs) h front (sent_moves false look first ++ (second_moves next ++ tail)) end u
    (made-append (q ∷ qs) (after_moves h front) (sent_moves false look first) (second_moves next ++ tail) end
    (one.0 (next_moment (second_moves next ++ tail) end))
    (made-append (q ∷ qs) (after_moves (after_moves h front) (sent_moves false look first)) (second_moves next) tail end
    (two.0 (next_moment tail end)) (w two.1)))

-- the rule after ATN's release
left-rule : (t : Timing) (s : Standing) (before : Bool) (r n : ℕ) → s.atn ≡ true → s.clock ≡ false → s.place ≡ Between
    → s.since ≡ Some r → before ≡ true → pulls t 0 before s n ≡ (not (is_away s) || nat_lt n (r + t.leave))
left-rule t s before r n x c q o b = by (is_away s) refl
  where
    by : (v : Bool) → is_away s ≡ v → pulls t 0 before s n ≡ (not v || nat_lt n (r + t.leave))
    by true k =
        chosen (is_away s) (leaves t before s.since n) (pulls_at t 0 before s s.place n) k
        ∙ (ap (λ y. leaves t before y n) o ∙ ap (λ y. y && nat_lt n (r + t.leave)) b)
    by false k =
        near t 0 before s n Between k q ∙ (ap (λ y. if y then not s.clock else calls t before s.since n) x ∙ ap not c)

-- the same, where it has acted at ATN's release
left-twice : (t : Timing) (s : Standing) (before : Bool) (r n : ℕ) → s.atn ≡ true → s.clock ≡ false → s.place ≡ Between
    → s.since ≡ Some r → before ≡ true → 0 < t.leave
    → pulls t 0 (pulls t 0 before s r) s n ≡ (not (is_away s) || nat_lt n (r + t.leave))
left-twice t s before r n x c q o b h =
    left-rule t s (pulls t 0 before s r) r n x c q o
    (left-rule t s before r r x c q o b
    ∙ (ap (λ y. not (is_away s) || y) (lt-ltb r (r + t.leave) (omega arith)) ∙ or-right (not (is_away s)) true refl))

-- ATN's release
step-left : (k : List Edge) (r : ℕ) (p : Party) → ExpectsByte false k r p × IsParty p
    → HasLeft (edge_at r true false false ∷ k) r p
step-left k r p (s, i) =
    let e : Edge = edge_at r true false false in
    let t = turns p.timing.wait k true false (said p.timing.wait k) e
    (record { atn_is = s.atn_is; said_is = refl }) refl refl in
    let o : since_of (e ∷ k) ≡ Some r =
    refused (same true (atn_of k)) (since_of k) (Some r) (ap (λ y. same true y) s.atn_is) in
    record {
      atn_is = refl;
      clock_is = refl;
      place_is = t.place_is;
      does = λ n. left-twice p.timing (standing p.timing.wait p.device (e ∷ k))
          (pulling p k r) r n refl refl t.place_is o (s.pulls_is ∙ expects-heeds k r p s)
          (let j : 1 ≤ p.timing.leave = i.leave.from in omega (arith, j));
    }

left-all : (k : List Edge) (r : ℕ) (ps : List Party) → Each IsParty ps → Each (ExpectsByte false k r) ps
    → Each (HasLeft (edge_at r true false false ∷ k) r) ps
left-all k r ps i s =
    each-map (λ (p : Party). ExpectsByte false k r p × IsParty p) (HasLeft (edge_at r true false false ∷ k) r) ps
    (step-left k r)
    (each-both (ExpectsByte false k r) IsParty ps s i)

-- what devices do together after it
abbrev pub last_leave : List Party → ℕ
last_leave ps = greatest (map (λ (p : Party). p.timing.leave) ps)

any-leaves : (n r : ℕ) (q : Party) (qs : List Party) → any_by (λ (p : Party). nat_lt n (r + p.timing.leave)) (q ∷ qs)
    ≡ nat_lt n (r + last_leave (q ∷ qs))
any-leaves n r q [] = or-false (nat_lt n (r + q.timing.leave))
    ∙ ap (λ k. nat_lt n (r + k)) (let e : q.timing.leave ≡ max q.timing.leave 0 = omega arith in e)
any-leaves n r q (p ∷ qs) =
    ap (λ v. nat_lt n (r + q.timing.leave) || v) (any-leaves n r p qs)
    ∙ last-releases n r q.timing.leave (last_leave (p ∷ qs))

left-does : (k : List Edge) (r : ℕ) (ps : List Party) (n : ℕ) → Each (HasLeft k r) ps
    → Each (λ (p : Party). pulling p k n ≡ (heeds k p || nat_lt n (r + p.timing.leave))) ps
left-does k r ps n s =
    each-map (HasLeft k r) (λ (p : Party). pulling p k n ≡ (heeds k p || nat_lt n (r + p.timing.leave))) ps
    (λ p z. z.does n) s

-- ATN's release, after which somebody listens
left-held : (k : List Edge) (r : ℕ) (q : Party) (qs : List Party) (next : ℕ) → Each IsParty (q ∷ qs)
    → Each (ExpectsByte false k r) (q ∷ qs)
    → any_by (heeds (edge_at r true false false ∷ k)) (q ∷ qs) ≡ true
    → IsMade (q ∷ qs) k (released (edge_at r true false false)) next
left-held k r q qs next i s e =
    let t = left-all k r (q ∷ qs) i s in
    made-sum (q ∷ qs) k (released (edge_at r true false false)) next true true (λ p n. true)
    (λ p n. heeds (edge_at r true false false ∷ k) p || nat_lt n (r + p.timing.leave))
    (each-map (ExpectsByte false k r) (λ (p : Party). pulling p k r ≡ true) (q ∷ qs) (λ p z. z.pulls_is
    ∙ expects-heeds k r p z) s)
    (λ n. left-does (edge_at r true false false ∷ k) r (q ∷ qs) n t) refl refl
    (λ n u v. any-more (heeds (edge_at r true false false ∷ k)) (λ (p : Party). nat_lt n (r + p.timing.leave))
    (q ∷ qs) e) refl

-- where nobody listens, it is as long as the last one leaves
none-heeds : (h : List Edge) (g : Party → Bool) (ps : List Party) → Each (λ (p : Party). heeds h p ≡ false) ps
    → any_by (λ (p : Party). heeds h p || g p) ps ≡ any_by g ps
none-heeds h g [] w = refl
none-heeds h g (p ∷ ps) (a, w) = ap (λ v. (v || g p) || any_by (λ (q : Party). heeds h q || g q) ps) a
    ∙ ap (λ v. g p || v) (none-heeds h g ps w)

left-due : (k : List Edge) (r : ℕ) (q : Party) (qs : List Party) (next : ℕ) → Each IsParty (q ∷ qs)
    → Each (ExpectsByte false k r) (q ∷ qs)
    → any_by (heeds (edge_at r true false false ∷ k)) (q ∷ qs) ≡ false → next ≤ r + last_leave (q ∷ qs)
    → IsMade (q ∷ qs) k (released (edge_at r true false false)) next
left-due k r q qs next i s e m =
    let t = left-all k r (q ∷ qs) i s in
    let w = each-false (heeds (edge_at r true false false ∷ k)) (q ∷ qs) e in
    made-sum (q ∷ qs) k (released (edge_at r true false false)) next true true (λ p n. true)
    (λ p n. heeds (edge_at r true false false ∷ k) p || nat_lt n (r + p.timing.leave))
    (each-map (ExpectsByte false k r) (λ (p : Party). pulling p k r ≡ true) (q ∷ qs) (λ p z. z.pulls_is
    ∙ expects-heeds k r p z) s)
    (λ n. left-does (edge_at r true false false ∷ k) r (q ∷ qs) n t) refl refl
    (λ n u v. none-heeds (edge_at r true false false ∷ k) (λ (p : Party). nat_lt n (r + p.timing.leave)) (q ∷ qs) w
    ∙ (any-leaves n r q qs ∙ lt-ltb n (r + last_leave (q ∷ qs)) (omega arith))) refl

-- the rule of a device to which nobody speaks
idle-rule : (t : Timing) (s : Standing) (before : Bool) (n : ℕ) → is_away s ≡ true → before ≡ false
    → pulls t 0 before s n ≡ false
idle-rule t s before n a b =
    chosen (is_away s) (leaves t before s.since n) (pulls_at t 0 before s s.place n) a
    ∙ (ap (λ y. leaves t y s.since n) b ∙ none s.since)
  where
    none : (o : Option ℕ) → leaves t false o n ≡ false
    none None = refl
    none (Some r) = refl

-- an edge at which nobody speaks to a device
pub step-idle : (h : List Edge) (e : Edge) (p : Party) → e.levels.atn ≡ true
    → is_away (standing p.timing.wait p.device (e ∷ h)) ≡ true → pulling p h e.time ≡ false → IsIdle (e ∷ h) p
step-idle h e p x a b = record {
  atn_is = x;
  away_is = a;
  does = λ n.
      idle-rule p.timing (standing p.timing.wait p.device (e ∷ h))
      (pulls p.timing 0 (pulling p h e.time) (standing p.timing.wait p.device (e ∷ h)) e.time) n a
      (idle-rule p.timing (standing p.timing.wait p.device (e ∷ h)) (pulling p h e.time) e.time a b);
}

-- an edge at which DATA is released, and nobody does anything
pub idle-made : (h : List Edge) (t : ℕ) (clock : Bool) (ps : List Party) (next : ℕ)
    → Each (λ (p : Party). pulling p h t ≡ false) ps → Each (IsIdle (edge_at t true clock true ∷ h)) ps
    → IsMade ps h (released (edge_at t true clock true)) next
idle-made h t clock ps next a b =
    made-sum ps h (released (edge_at t true clock true)) next false false (λ p n. false) (λ p n. false) a
    (λ n. each-map (IsIdle (edge_at t true clock true ∷ h)) (λ (p : Party). pulling p (edge_at t true clock true ∷ h) n
    ≡ false) ps (λ p z. z.does n) b)
    (all-false ps) refl (λ n u v. all-false ps) refl
  where
    all-false : (ps : List Party) → any_by (λ (p : Party). false) ps ≡ false
    all-false [] = refl
    all-false (p ∷ ps) = all-false ps

-- DATA's release after ATN's, where nobody listens
due-idle : (k : List Edge) (r d : ℕ) (p : Party) → HasLeft k r p
    → (heeds k p ≡ false) × (nat_lt d (r + p.timing.leave) ≡ false)
    → (pulling p k d ≡ false) × IsIdle (edge_at d true false true ∷ k) p
due-idle k r d p s (a, b) =
    let e : Edge = edge_at d true false true in
    let z : Stands p.timing.wait k true false Between (said p.timing.wait k) =
    record { atn_is = s.atn_is; clock_is = s.clock_is; place_is = s.place_is; said_is = refl } in
    let t = goes-quietly p.timing.wait k true false false Between Between
    (said p.timing.wait k) e z refl refl refl refl in
    let h : heeds (e ∷ k) p ≡ heeds k p = same-heeds p k (e ∷ k) true s.atn_is t.atn_is t.said_is in
    let v : pulling p k d ≡ false = s.does d ∙ (ap (λ y. y || nat_lt d (r + p.timing.leave)) a ∙ b) in
    (v, step-idle k e p refl (not-false (is_away (standing p.timing.wait p.device (e ∷ k))) (h ∙ a)) v)

-- CLOCK's release then
pub closed-idle : (k : List Edge) (c : ℕ) (p : Party) → IsIdle k p → clock_of k ≡ false
    → place_after p.timing.wait k ≡ Between → IsIdle (edge_at c true true true ∷ k) p
closed-idle k c p s y q =
    let e : Edge = edge_at c true true true in
    let z : Stands p.timing.wait k true false Between (said p.timing.wait k) =
    record { atn_is = s.atn_is; clock_is = y; place_is = q; said_is = refl } in
    let t = goes-quietly p.timing.wait k true false true Between (Opening c None false)
    (said p.timing.wait k) e z refl refl refl refl in
    let h : heeds (e ∷ k) p ≡ heeds k p = same-heeds p k (e ∷ k) true s.atn_is t.atn_is t.said_is in
    step-idle k e p refl (not-false (is_away (standing p.timing.wait p.device (e ∷ k))) (h ∙ ap not s.away_is))
    (s.does c)

-- after DATA's release the lines are as they were
due-between : (k : List Edge) (r d : ℕ) (p : Party) → HasLeft k r p
    → place_after p.timing.wait (edge_at d true false true ∷ k) ≡ Between
due-between k r d p s =
    let e : Edge = edge_at d true false true in
    let z : Stands p.timing.wait k true false Between (said p.timing.wait k) =
    record { atn_is = s.atn_is; clock_is = s.clock_is; place_is = s.place_is; said_is = refl } in
    let t = goes-quietly p.timing.wait k true false false Between Between
    (said p.timing.wait k) e z refl refl refl refl in
    t.place_is

-- after ATN's release, where nobody listens: DATA's release
pub due-all : (k : List Edge) (r : ℕ) (q : Party) (qs : List Party) → Each (HasLeft k r) (q ∷ qs)
    → any_by (heeds k) (q ∷ qs) ≡ false
    → (let d : ℕ = r + last_leave (q ∷ qs) in
    Each (λ (p : Party). (pulling p k d ≡ false) × IsIdle (edge_at d true false true ∷ k) p) (q ∷ qs))
due-all k r q qs s e =
    let d : ℕ = r + last_leave (q ∷ qs) in
    let u = each-false (heeds k) (q ∷ qs) e in
    let v = each-false (λ (p : Party). nat_lt d (r + p.timing.leave)) (q ∷ qs) (any-leaves d r q qs
    ∙ le-ltb d (r + last_leave (q ∷ qs)) (omega arith)) in
    each-map (λ (p : Party). HasLeft k r p × ((heeds k p ≡ false) × (nat_lt d (r + p.timing.leave) ≡ false)))
    (λ (p : Party). (pulling p k d ≡ false) × IsIdle (edge_at d true false true ∷ k) p) (q ∷ qs)
    (λ p z. due-idle k r d p z.0 z.1)
    (each-both (HasLeft k r) (λ (p : Party). (heeds k p ≡ false) × (nat_lt d (r + p.timing.leave) ≡ false)) (q ∷ qs) s
    (each-both (λ (p : Party). heeds k p ≡ false) (λ (p : Party). nat_lt d (r + p.timing.leave) ≡ false) (q ∷ qs) u v))

-- DATA's release after ATN's, and CLOCK's
pub due-closed : (g : List Edge) (r clock : ℕ) (q : Party) (qs : List Party) (end : ℕ) → Each (HasLeft g r) (q ∷ qs)
    → any_by (heeds g) (q ∷ qs) ≡ false
    → AreMade (q ∷ qs) g (released (edge_at (r + last_leave (q ∷ qs)) true false true)
    ∷ (released (edge_at clock true true true) ∷ [])) end
    × Each (IsIdle (edge_at clock true true true ∷ (edge_at (r + last_leave (q ∷ qs)) true false true ∷ g))) (q ∷ qs)
due-closed g r clock q qs end t e =
    let d : ℕ = r + last_leave (q ∷ qs) in
    let f : List Edge = edge_at d true false true ∷ g in
    let w = due-all g r q qs t e in
    let a : Each (λ (p : Party). pulling p g d ≡ false) (q ∷ qs) =
    each-map (λ (p : Party). (pulling p g d ≡ false) × IsIdle f p) (λ (p : Party). pulling p g d ≡ false) (q ∷ qs)
    (λ p z. z.0) w in
    let b : Each (IsIdle f) (q ∷ qs) =
    each-map (λ (p : Party). (pulling p g d ≡ false) × IsIdle f p) (IsIdle f) (q ∷ qs) (λ p z. z.1) w in
    let c : Each (IsIdle (edge_at clock true true true ∷ f)) (q ∷ qs) =
    each-map (λ (p : Party). HasLeft g r p × IsIdle f p) (IsIdle (edge_at clock true true true ∷ f)) (q ∷ qs)
    (λ p z. closed-idle f clock p z.1 refl (due-between g r d p z.0))
    (each-both (HasLeft g r) (IsIdle f) (q ∷ qs) t b) in (
      (
        idle-made g d false (q ∷ qs) clock a b,
        (
          idle-made f clock true (q ∷ qs) end
              (each-map (IsIdle f) (λ (p : Party). pulling p f clock ≡ false) (q ∷ qs) (λ p z. z.does clock) b) c,
          tt,
        ),
      ),
      c,
    )

-- they say nothing
pub said-closed : (g : List Edge) (r d c : ℕ) (p : Party) → HasLeft g r p
    → said p.timing.wait (edge_at c true true true ∷ (edge_at d true false true ∷ g)) ≡ said p.timing.wait g
said-closed g r d c p s =
    let e : Edge = edge_at d true false true in
    let f : Edge = edge_at c true true true in
    let z : Stands p.timing.wait g true false Between (said p.timing.wait g) =
    record { atn_is = s.atn_is; clock_is = s.clock_is; place_is = s.place_is; said_is = refl } in
    let t = goes-quietly p.timing.wait g true false false Between Between
    (said p.timing.wait g) e z refl refl refl refl in
    let u = goes-quietly p.timing.wait (e ∷ g) true false true Between (Opening c None false)
    (said p.timing.wait g) f t refl refl refl refl in
    u.said_is

-- the releases of all lines
pub end-closed : (k : List Edge) (r clock : ℕ) (q : Party) (qs : List Party) (end : ℕ) → Each IsParty (q ∷ qs)
    → Each (ExpectsByte false k r) (q ∷ qs) → any_by (heeds (edge_at r true false false ∷ k)) (q ∷ qs) ≡ false
    → AreMade (q ∷ qs) k (released (edge_at r true false false)
    ∷ (released (edge_at (r + last_leave (q ∷ qs)) true false true) ∷ (released (edge_at clock true true true) ∷ [])))
    end
end-closed k r clock q qs end i s e = (
  left-due k r q qs (r + last_leave (q ∷ qs)) i s e (omega arith),
  (due-closed (edge_at r true false false ∷ k) r clock q qs end (left-all k r (q ∷ qs) i s) e).0,
)

-- somebody or nobody heeds
pub heeds-some : (h : List Edge) (ps : List Party) (z : Party) (zs : List Party) → heeding h ps ≡ z ∷ zs
    → any_by (heeds h) ps ≡ true
heeds-some h ps z zs e = sym (any-and ps) ∙ (any-heeds h (λ (p : Party). true) ps ∙ ap (any_by (λ (p : Party). true)) e)
  where
    any-and : (ps : List Party) → any_by (λ (p : Party). heeds h p && true) ps ≡ any_by (heeds h) ps
    any-and [] = refl
    any-and (p ∷ ps) = ap (λ v. v || any_by (λ (q : Party). heeds h q && true) ps) (sym (and-true (heeds h p)))
        ∙ ap (λ v. heeds h p || v) (any-and ps)

pub heeds-none : (h : List Edge) (ps : List Party) → heeding h ps ≡ [] → any_by (heeds h) ps ≡ false
heeds-none h ps e = sym (any-and ps) ∙ (any-heeds h (λ (p : Party). true) ps ∙ ap (any_by (λ (p : Party). true)) e)
  where
    any-and : (ps : List Party) → any_by (λ (p : Party). heeds h p && true) ps ≡ any_by (heeds h) ps
    any-and [] = refl
    any-and (p ∷ ps) = ap (λ v. v || any_by (λ (q : Party). heeds h q && true) ps) (sym (and-true (heeds h p)))
        ∙ ap (λ v. heeds h p || v) (any-and ps)

-- the first part of an attention
abbrev Front : Call → List Edge → List Party → Type 0
Front c h ps =
    let front : List Move = released (edge_at c.atn false false (not c.held)) ∷ answer_moves (answer_of c ps) c.look in
    AreMade ps h front c.look × Each (ExpectsByte false (after_moves h front) c.look) ps

callable : (h : List Edge) (a : ℕ) (ps : List Party) → atn_of h ≡ true
    → Each (IsCallable (λ (p : Party). pulling p h a) h a) ps
callable h a [] x = tt
callable h a (p ∷ ps) x = (record { atn_is = x; pulls_is = refl }, callable h a ps x)

pulled-by : (h : List Edge) (a : ℕ) (ps : List Party) → one_pulls ps h a ≡ any_by (λ (p : Party). pulling p h a) ps
pulled-by h a [] = refl
pulled-by h a (p ∷ ps) = ap (λ v. pulling p h a || v) (pulled-by h a ps)

front-of : (c : Call) (h : List Edge) (q : Party) (qs : List Party) (held : Bool) → c.held ≡ held
    → Each IsParty (q ∷ qs) → atn_of h ≡ true → one_pulls (q ∷ qs) h c.atn ≡ held → c.atn + 1000 ≤ c.look
    → (let front : List Move =
    released (edge_at c.atn false false (not held)) ∷ answer_moves (if held then None
    else Some (c.atn + first_call (q ∷ qs))) c.look in
    AreMade (q ∷ qs) h front c.look × Each (ExpectsByte false (after_moves h front) c.look) (q ∷ qs))
front-of c h q qs true e i x p m =
    front-held h c.atn c.look (λ (p : Party). pulling p h c.atn) (q ∷ qs) (callable h c.atn (q ∷ qs) x) i
    (sym (pulled-by h c.atn (q ∷ qs)) ∙ p) m
front-of c h q qs false e i x p m =
    let w : Each (λ (r : Party). pulling r h c.atn ≡ false) (q ∷ qs) =
    each-false (λ (r : Party). pulling r h c.atn) (q ∷ qs) (sym (pulled-by h c.atn (q ∷ qs)) ∙ p) in
    front-free h c.atn c.look q qs
    (each-map (λ (r : Party). pulling r h c.atn ≡ false) (IsCallable (λ (r : Party). false) h c.atn) (q ∷ qs)
    (λ r z. record { atn_is = x; pulls_is = z }) w) i m

-- an attention, as the law says it
pub calls-made : ListeningAfterOneMore → DelaysLieWithinBounds → CallsAreMade
calls-made law bounds c h q qs i x p m n =
    let held : Bool = c.held in
    let front : List Move =
    released (edge_at c.atn false false (not c.held)) ∷ answer_moves (answer_of c (q ∷ qs)) c.look in
    let f = front-of c h q qs c.held refl i x p m in
    let first : FrameTimes = first_frame c (q ∷ qs) in
    let next : Option SecondFrame = next_frame c (q ∷ qs) in
    let k : List Edge = after_moves (after_moves (after_moves h front) (sent_moves false c.look first))
    (second_moves next) in
    let r : ℕ = c.release in
    let whole : (tail : List Move) (end : ℕ) → (Each (ExpectsByte false k r) (q ∷ qs) → AreMade (q ∷ qs) k tail end)
    → AreMade (q ∷ qs) h (front ++ (sent_moves false c.look first ++ (second_moves next ++ tail))) end =
    λ tail end w. attention-made law bounds h q qs front c.look c.byte r c.second c.numbers c.more tail end i f.0 f.1 n
    w in
    let one = command-made law bounds (after_moves h front) q qs c.look c.byte c.numbers i f.1 in
    let two = second-made law bounds (after_moves (after_moves h front) (sent_moves false c.look first)) q qs first.ack
    r c.second c.more i one.1 n in
    let at : released_at c h (q ∷ qs) ≡ edge_at r true false false ∷ k =
    after-append h front (sent_moves false c.look first
    ++ (second_moves next ++ released (edge_at r true false false) ∷ []))
    ∙ (after-append (after_moves h front) (sent_moves false c.look first)
    (second_moves next ++ released (edge_at r true false false) ∷ [])
    ∙ after-append (after_moves (after_moves h front) (sent_moves false c.look first)) (second_moves next)
    (released (edge_at r true false false) ∷ [])) in
    record {
      kept = λ z zs end e.
          whole (released (edge_at r true false false) ∷ []) end
          (λ s. (
            left-held k r q qs end i s
                (heeds-some (edge_at r true false false ∷ k) (q ∷ qs) z zs
                (subst (λ g. heeding g (q ∷ qs) ≡ z ∷ zs) at e)),
            tt,
          ));
      due = λ end e v.
          whole (released (edge_at r true false false) ∷ []) end
          (λ s. (
            left-due k r q qs end i s
                (heeds-none (edge_at r true false false ∷ k) (q ∷ qs) (subst (λ g. heeding g (q ∷ qs) ≡ []) at e)) v,
            tt,
          ));
      closed = λ clock end e v.
          whole (released (edge_at r true false false)
          ∷ (released (edge_at (r + last_leave (q ∷ qs)) true false true)
          ∷ (released (edge_at clock true true true) ∷ []))) end
          (λ s. end-closed k r clock q qs end i s
          (heeds-none (edge_at r true false false ∷ k) (q ∷ qs) (subst (λ g. heeding g (q ∷ qs) ≡ []) at e)));
      left = subst (λ g. Each (HasLeft g r) (q ∷ qs)) (sym at) (left-all k r (q ∷ qs) i two.1);
    }

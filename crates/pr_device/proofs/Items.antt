-- The items of the timed trace are made by the talker and the devices.
use Rattle.std.proofs.Common.{◌≡◌, ℕ, ◌+◌, ◌≤◌, ◌==◌, eqb, cond, Bool, true, false, not, ◌&&◌, ◌||◌, List, [], ◌∷◌}
use Rattle.std.proofs.Common.{◌++◌, map, drop, Option, Some, None, if◌then◌else◌, refl, sym, ap, subst, ◌∙◌, arith}
use Rattle.std.proofs.Common.{le-ltb, eqb-true, inl, inr}
use Rattle.pr_serial.specs.declared.Item.{Item}
use Rattle.pr_serial.specs.declared.Item.TheVariants as item
use Rattle.pr_serial.specs.Answers.{is_listener}
use Rattle.pr_serial.specs.Laws as serial
use Rattle.pr_wire.specs.declared.Edge.{Edge}
use Rattle.pr_wire.specs.declared.delay.Kind.TheVariants.{Bb, Aw, Ne, R, Cr, At, H, Ye, Ei, F, Dr}
use Rattle.pr_wire.specs.Levels.{edge_at}
use Rattle.pr_wire.specs.Delays.{delay_at}
use Rattle.pr_wire.specs.Laws.{DelaysLieWithinBounds}
use Rattle.pr_wire.specs.Pieces.{FrameTimes, SecondFrame, Ending, last_ack, last_pull, call_edge, ending_edges}
use Rattle.pr_wire.specs.Pieces.Piece.{Attention as Attended}
use Rattle.pr_receiver.specs.Heard.{is_listening}
use Rattle.pr_receiver.specs.Laws.{ListeningAfterOneMore}
use Rattle.pr_bus.specs.Laws.{IsItem}
use Rattle.pr_bus.specs.Timed.{Lines, Free, Pulled, Due, ListenerTiming, TimedPrinter, TimedBus, Done, greatest, least}
use Rattle.pr_bus.specs.Timed.{frame_times, bit_times, bits_of, command_hearers, data_hearers, listening, done}
use Rattle.pr_bus.specs.Timed.{heard_byte, dropped_byte, answer_at, second_frame, printer_takes, commands_take}
use Rattle.pr_bus.specs.Timed.{due_edges, between}
use Rattle.pr_device.specs.declared.place.Place.{Place}
use Rattle.pr_device.specs.Data.{standing, is_away}
use Rattle.pr_device.specs.Following.{atn_of, said}
use Rattle.pr_device.specs.Course.{Party, Each, Move, AreMade, after_moves, released, pulling, one_pulls, heeding}
use Rattle.pr_device.specs.Course.{hearer, IsBetweenBytes, ExpectsByte, sent_moves, answer_moves, second_moves}
use Rattle.pr_device.specs.Course.{attention_moves, second_for, HasLeft}
use Rattle.pr_device.specs.CourseLaws.{Call, CallIsMade, first_frame, next_frame, answer_of, due_of, call_moves}
use Rattle.pr_device.specs.CourseLaws.{released_at}
use Rattle.pr_device.specs.Paired.{Both, MakeByte, StandsFor, piece_moves, item_moves, IsInTime}
use Rattle.pr_device.proofs.Tests.{or-false}
use Rattle.pr_device.proofs.Sharing.{any_by, heeds, each-map, each-both, any-none, IsParty}
use Rattle.pr_device.proofs.Walking.{chosen}
use Rattle.pr_device.proofs.Making.{FramedBy, framed-for}
use Rattle.pr_device.proofs.Calling.{IsIdle, after-append, made-append, each-false, last_leave, calls-made, due-all}
use Rattle.pr_device.proofs.Calling.{due-closed, said-closed, idle-made}

-- what holds of devices and printers, from what else does
pub both-map : (P Q : Party → TimedPrinter → Type 0) (ps : List Party) (qs : List TimedPrinter)
    → ((p : Party) (q : TimedPrinter) → P p q → Q p q) → Both P ps qs → Both Q ps qs
both-map P Q [] [] f w = tt
both-map P Q (p ∷ ps) (q ∷ qs) f (a, w) = (f p q a, both-map P Q ps qs f w)
both-map P Q [] (q ∷ qs) f w = absurd w
both-map P Q (p ∷ ps) [] f w = absurd w

-- a condition of the devices too
both-each : (P : Party → TimedPrinter → Type 0) (Q : Party → Type 0) (ps : List Party) (qs : List TimedPrinter)
    → Both P ps qs → Each Q ps → Both (λ (p : Party) (q : TimedPrinter). P p q × Q p) ps qs
both-each P Q [] [] w u = tt
both-each P Q (p ∷ ps) (q ∷ qs) (a, w) (b, u) = ((a, b), both-each P Q ps qs w u)
both-each P Q [] (q ∷ qs) w u = absurd w
both-each P Q (p ∷ ps) [] w u = absurd w

-- equal numbers
both-lists : (A : TimedPrinter → ℕ) (B : Party → ℕ) (ps : List Party) (qs : List TimedPrinter)
    → Both (λ (p : Party) (q : TimedPrinter). A q ≡ B p) ps qs → map A qs ≡ map B ps
both-lists A B [] [] w = refl
both-lists A B (p ∷ ps) (q ∷ qs) (a, w) = ap (λ x. x ∷ map A qs) a ∙ ap (λ l. B p ∷ l) (both-lists A B ps qs w)
both-lists A B [] (q ∷ qs) w = absurd w
both-lists A B (p ∷ ps) [] w = absurd w

both-mapped : (G : ListenerTiming → ℕ) (A : TimedPrinter → ListenerTiming) (B : Party
    → ListenerTiming) (ps : List Party) (qs : List TimedPrinter)
    → Both (λ (p : Party) (q : TimedPrinter). G (A q) ≡ G (B p)) ps qs → map G (map A qs) ≡ map G (map B ps)
both-mapped G A B [] [] w = refl
both-mapped G A B (p ∷ ps) (q ∷ qs) (a, w) =
    ap (λ x. x ∷ map G (map A qs)) a ∙ ap (λ l. G (B p) ∷ l) (both-mapped G A B ps qs w)
both-mapped G A B [] (q ∷ qs) w = absurd w
both-mapped G A B (p ∷ ps) [] w = absurd w

-- what a listener waits, in short
abbrev timed : ℕ → ℕ → ℕ → ℕ → ListenerTiming
timed hold wait answer accept = record { hold = hold; wait = wait; answer = answer; accept = accept }

-- a frame without end-or-identify rests on when devices hold and accept
abbrev plain_frame : ℕ → ℕ → List ℕ → List ℕ → List ℕ → FrameTimes
plain_frame look byte numbers holds accepts =
    let free = look + greatest holds in
    let pull = free + delay_at Ne numbers 0 in
    let bits = bit_times pull (drop 1 numbers) (bits_of 8 byte) in
    record { free = free; pulse = None; pull = pull; bits = bits; ack = last_pull pull bits + least accepts }

frame-same : (look byte : ℕ) (numbers : List ℕ) (hs gs : List ListenerTiming)
    → map (λ (h : ListenerTiming). h.hold) hs ≡ map (λ (h : ListenerTiming). h.hold) gs
    → map (λ (h : ListenerTiming). h.accept) hs ≡ map (λ (h : ListenerTiming). h.accept) gs
    → frame_times look false byte numbers hs ≡ frame_times look false byte numbers gs
frame-same look byte numbers hs gs u v =
    ap (λ l. plain_frame look byte numbers l (map (λ (h : ListenerTiming). h.accept) hs)) u
    ∙ ap (λ l. plain_frame look byte numbers (map (λ (h : ListenerTiming). h.hold) gs) l) v

-- a command, of whose hearers each has its numbers from an index on
abbrev hearer_at : ℕ → TimedPrinter → ListenerTiming
hearer_at i q = timed (delay_at H q.numbers i) 0 0 (delay_at F q.numbers (i + 1))

command-same : (i : ℕ) (before : List Item) (x : Item) (look byte : ℕ) (numbers : List ℕ) (ps : List Party)
    (qs : List TimedPrinter)
    → ((p : Party) (q : TimedPrinter) → StandsFor before x p q → (delay_at H q.numbers i ≡ p.timing.hold)
    × (delay_at F q.numbers (i + 1) ≡ p.timing.accept))
    → Both (StandsFor before x) ps qs
    → frame_times look false byte numbers (command_hearers i qs)
    ≡ frame_times look false byte numbers (map (hearer false) ps)
command-same i before x look byte numbers ps qs f w =
    frame-same look byte numbers (command_hearers i qs) (map (hearer false) ps)
    (both-mapped (λ (h : ListenerTiming). h.hold) (hearer_at i) (hearer false) ps qs
    (both-map (StandsFor before x) (λ (p : Party) (q : TimedPrinter). delay_at H q.numbers i ≡ p.timing.hold) ps qs
    (λ p q m. (f p q m).0) w))
    (both-mapped (λ (h : ListenerTiming). h.accept) (hearer_at i) (hearer false) ps qs
    (both-map (StandsFor before x) (λ (p : Party) (q : TimedPrinter). delay_at F q.numbers (i + 1)
    ≡ p.timing.accept) ps qs (λ p q m. (f p q m).1) w))

-- the first one
first-same : (before : List Item) (byte look : ℕ) (second : Option ℕ) (numbers : List ℕ) (ps : List Party)
    (qs : List TimedPrinter)
    → Both (StandsFor before (item.Attention byte second)) ps qs
    → frame_times look false byte numbers (command_hearers 1 qs)
    ≡ frame_times look false byte numbers (map (hearer false) ps)
first-same before byte look second numbers ps qs w =
    command-same 1 before (item.Attention byte second) look byte numbers ps qs (λ p q m. (let k =
    m.1 in (k.hold, k.accept))) w

-- and the second
second-same : (before : List Item) (byte ack : ℕ) (second : Option ℕ) (numbers : List ℕ) (ps : List Party)
    (qs : List TimedPrinter)
    → Both (StandsFor before (item.Attention byte second)) ps qs
    → second_frame ack second numbers qs ≡ second_for ack second numbers ps
second-same before byte ack None numbers ps qs w = refl
second-same before byte ack (Some c) numbers ps qs w =
    let look : ℕ = ack + delay_at Aw numbers 0 in
    ap (λ (f : FrameTimes). Some (record { look = look; sent = f }))
    (command-same 3 before (item.Attention byte (Some c)) look c (drop 1 numbers) ps qs (λ p q m. (let k =
    m.1 in k.second_is)) w)

-- the answers to ATN
calls-same : (before : List Item) (byte : ℕ) (second : Option ℕ) (ps : List Party) (qs : List TimedPrinter)
    → Both (StandsFor before (item.Attention byte second)) ps qs
    → map (λ (q : TimedPrinter). delay_at At q.numbers 0) qs ≡ map (λ (p : Party). p.timing.attention) ps
calls-same before byte second ps qs w =
    both-lists (λ (q : TimedPrinter). delay_at At q.numbers 0) (λ (p : Party). p.timing.attention) ps qs
    (both-map (StandsFor before (item.Attention byte second)) (λ (p : Party) (q : TimedPrinter). delay_at At q.numbers 0
    ≡ p.timing.attention) ps qs (λ p q m. (let k = m.1 in k.attention)) w)

-- when devices leave, where none listens
leaves-same : (before : List Item) (byte : ℕ) (second : Option ℕ) (ps : List Party) (qs : List TimedPrinter)
    → Both (StandsFor before (item.Attention byte second)) ps qs
    → Each (λ (p : Party). is_listener p.device (before ++ item.Attention byte second ∷ []) ≡ false) ps
    → map (λ (q : TimedPrinter). delay_at Dr q.numbers (printer_takes second)) qs
    ≡ map (λ (p : Party). p.timing.leave) ps
leaves-same before byte second ps qs w u =
    both-lists (λ (q : TimedPrinter). delay_at Dr q.numbers (printer_takes second))
    (λ (p : Party). p.timing.leave) ps qs
    (both-map (λ (p : Party) (q : TimedPrinter). StandsFor before (item.Attention byte second) p q
    × (is_listener p.device (before ++ item.Attention byte second ∷ []) ≡ false))
    (λ (p : Party) (q : TimedPrinter). delay_at Dr q.numbers (printer_takes second) ≡ p.timing.leave) ps qs
    (λ p q m. (let k = m.0 in let j = k.1 in j.leave m.1))
    (both-each (StandsFor before (item.Attention byte second))
    (λ (p : Party). is_listener p.device (before ++ item.Attention byte second ∷ []) ≡ false) ps qs w u))

-- who listens, as a history says it and as the items do
abbrev pub Ties : List Edge → List Item → Party → Type 0
Ties h before p = is_listening p.device (said p.timing.wait h) ≡ is_listener p.device before

abbrev pub listens_by : List Item → Party → Bool
listens_by before p = is_listener p.device before

pub tied-heeds : (h : List Edge) (before : List Item) (p : Party) → atn_of h ≡ true → Ties h before p
    → heeds h p ≡ is_listener p.device before
tied-heeds h before p a t =
    ap (λ y. not (y && not (is_listening p.device (said p.timing.wait h)))) a
    ∙ (by (is_listening p.device (said p.timing.wait h)) ∙ t)
  where
    by : (b : Bool) → not (not b) ≡ b
    by true = refl
    by false = refl

any-same : (f k : Party → Bool) (ps : List Party) → Each (λ (p : Party). f p ≡ k p) ps → any_by f ps ≡ any_by k ps
any-same f k [] w = refl
any-same f k (p ∷ ps) (a, w) = ap (λ v. v || any_by f ps) a ∙ ap (λ v. k p || v) (any-same f k ps w)

-- devices that heed, and their number
heeding-none : (h : List Edge) (ps : List Party) → any_by (heeds h) ps ≡ false → heeding h ps ≡ []
heeding-none h [] e = refl
heeding-none h (p ∷ ps) e = by (is_away (standing p.timing.wait p.device h)) e (λ k. heeding-none h ps k)
  where
    by : (a : Bool) → (not a || any_by (heeds h) ps) ≡ false → (any_by (heeds h) ps ≡ false → heeding h ps ≡ [])
        → (if a then heeding h ps else p ∷ heeding h ps) ≡ []
    by true i w = w i
    by false i w = absurd (let j : true ≡ false = i in cc)

pub record OneHeeds (h : List Edge) (ps : List Party) : Type 0 where
  pub first : Party
  pub others : List Party
  pub is : heeding h ps ≡ first ∷ others

heeding-some : (h : List Edge) (ps : List Party) → any_by (heeds h) ps ≡ true → OneHeeds h ps
heeding-some h [] e = absurd (let j : false ≡ true = e in cc)
heeding-some h (p ∷ ps) e = by (is_away (standing p.timing.wait p.device h)) refl e (λ k. heeding-some h ps k)
  where
    by : (a : Bool) → is_away (standing p.timing.wait p.device h) ≡ a → (not a || any_by (heeds h) ps) ≡ true
        → (any_by (heeds h) ps ≡ true → OneHeeds h ps) → OneHeeds h (p ∷ ps)
    by true k i w =
        let o = w i in
        record {
          first = o.first;
          others = o.others;
          is = ap (λ a. if a then heeding h ps else p ∷ heeding h ps) k
              ∙ o.is;
        }
    by false k i w = record {
      first = p;
      others = heeding h ps;
      is = ap (λ a. if a then heeding h ps else p ∷ heeding h ps) k;
    }

-- the printers that listen, and the devices
abbrev SameDevice : Party → TimedPrinter → Type 0
SameDevice p q = q.device ≡ p.device

listening-none : (before : List Item) (ps : List Party) (qs : List TimedPrinter) → Both SameDevice ps qs
    → listening before qs ≡ [] → any_by (listens_by before) ps ≡ false
listening-none before [] [] w e = refl
listening-none before (p ∷ ps) (q ∷ qs) (a, w) e =
    by (is_listener q.device before) (ap (λ d. is_listener d before) a) e (λ k. listening-none before ps qs w k)
  where
    by : (b : Bool) → b ≡ is_listener p.device before → cond b (q ∷ []) [] ++ listening before qs ≡ []
        → (listening before qs ≡ [] → any_by (listens_by before) ps ≡ false)
        → (is_listener p.device before || any_by (listens_by before) ps) ≡ false
    by true k i u = absurd (let j : q ∷ listening before qs ≡ [] = i in cc)
    by false k i u = ap (λ v. v || any_by (listens_by before) ps) (sym k) ∙ u i
listening-none before [] (q ∷ qs) w e = absurd w
listening-none before (p ∷ ps) [] w e = absurd w

listening-some : (before : List Item) (ps : List Party) (qs : List TimedPrinter) (r : TimedPrinter)
    (rs : List TimedPrinter) → Both SameDevice ps qs → listening before qs ≡ r ∷ rs
    → any_by (listens_by before) ps ≡ true
listening-some before [] [] r rs w e = absurd (let j : [] ≡ r ∷ rs = e in cc)
listening-some before (p ∷ ps) (q ∷ qs) r rs (a, w) e =
    by (is_listener q.device before) (ap (λ d. is_listener d before) a) e (λ k. listening-some before ps qs r rs w k)
  where
    by : (b : Bool) → b ≡ is_listener p.device before → cond b (q ∷ []) [] ++ listening before qs ≡ r ∷ rs
        → (listening before qs ≡ r ∷ rs → any_by (listens_by before) ps ≡ true)
        → (is_listener p.device before || any_by (listens_by before) ps) ≡ true
    by true k i u = ap (λ v. v || any_by (listens_by before) ps) (sym k)
    by false k i u = ap (λ v. v || any_by (listens_by before) ps) (sym k) ∙ u i
listening-some before [] (q ∷ qs) r rs w e = absurd w
listening-some before (p ∷ ps) [] r rs w e = absurd w

-- what those wait that hear a byte
hearers-same : (before : List Item) (h : List Edge) (byte : ℕ) (eoi : Bool) (ps : List Party) (qs : List TimedPrinter)
    → Both (StandsFor before (item.Sent byte eoi)) ps qs
    → Each (λ (p : Party). heeds h p ≡ is_listener p.device before) ps
    → data_hearers eoi (listening before qs) ≡ map (hearer eoi) (heeding h ps)
hearers-same before h byte eoi [] [] w u = refl
hearers-same before h byte eoi (p ∷ ps) (q ∷ qs) ((a, m), w) (b, u) =
    by (is_listener q.device before) (is_away (standing p.timing.wait p.device h)) (ap (λ d. is_listener d before) a) b
    (hearers-same before h byte eoi ps qs w u)
  where
    answers : (x : Bool) → (x ≡ true → delay_at Ei q.numbers 2 ≡ p.timing.answer)
        → cond x (delay_at Ei q.numbers 2) 0 ≡ cond x p.timing.answer 0
    answers true f = f refl
    answers false f = refl

    one : MakeByte eoi p q.numbers → (let l : ListenerTiming =
        record {
          hold = delay_at H q.numbers 0;
          wait = delay_at Ye q.numbers 1;
          answer = cond eoi (delay_at Ei q.numbers 2) 0;
          accept = delay_at F q.numbers (cond eoi 3 2);
        } in
        l ≡ hearer eoi p)
    one k =
        ap (λ (x : ℕ). timed x (delay_at Ye q.numbers 1) (cond eoi (delay_at Ei q.numbers 2) 0)
        (delay_at F q.numbers (cond eoi 3 2))) k.hold
        ∙ (ap (λ (x : ℕ). timed p.timing.hold x (cond eoi (delay_at Ei q.numbers 2) 0)
        (delay_at F q.numbers (cond eoi 3 2))) k.wait
        ∙ (ap (λ (x : ℕ). timed p.timing.hold p.timing.wait x (delay_at F q.numbers (cond eoi 3 2)))
        (answers eoi k.answer)
        ∙ ap (λ (x : ℕ). timed p.timing.hold p.timing.wait (cond eoi p.timing.answer 0) x) k.accept))

    by : (b x : Bool) → b ≡ is_listener p.device before → not x ≡ is_listener p.device before
        → data_hearers eoi (listening before qs) ≡ map (hearer eoi) (heeding h ps)
        → data_hearers eoi (cond b (q ∷ []) [] ++ listening before qs)
        ≡ map (hearer eoi) (if x then heeding h ps else p ∷ heeding h ps)
    by true true k i e = absurd (let j : true ≡ false = k ∙ sym i in cc)
    by true false k i e = ap (λ l. l ∷ data_hearers eoi (listening before qs)) (one (m (sym k)))
        ∙ ap (λ l. hearer eoi p ∷ l) e
    by false true k i e = e
    by false false k i e = absurd (let j : false ≡ true = k ∙ sym i in cc)
hearers-same before h byte eoi [] (q ∷ qs) w u = absurd w
hearers-same before h byte eoi (p ∷ ps) [] w u = absurd w

-- where the talker and the devices are between two items
abbrev pub Sits : List Item → ℕ → Lines → List Edge → List Party → Type 0
Sits before now Free h ps = Each (IsIdle h) ps
Sits before now Pulled h ps = (any_by (listens_by before) ps ≡ true)
    × ((m : ℕ) → now + 100 ≤ m → Each (ExpectsByte true h m) ps)
Sits before now (Due d) h ps = (any_by (listens_by before) ps ≡ false) × (d ≡ now + last_leave ps)
    × Each (HasLeft h now) ps

-- whether DATA is held then
abbrev is_held : Lines → Bool
is_held Pulled = true
is_held _ = false

-- DATA's release, if it is due
abbrev due_moves : Lines → List Move
due_moves l = map released (due_edges l)

-- the devices are ready for a call
record IsReady (l : Lines) (a : ℕ) (h : List Edge) (ps : List Party) : Type 0 where
  made : AreMade ps h (due_moves l) a
  atn_is : atn_of (after_moves h (due_moves l)) ≡ true
  held : one_pulls ps (after_moves h (due_moves l)) a ≡ is_held l

idle-pulls : (h : List Edge) (n : ℕ) (ps : List Party) → Each (IsIdle h) ps → one_pulls ps h n ≡ false
idle-pulls h n [] w = refl
idle-pulls h n (p ∷ ps) (a, w) = ap (λ v. v || one_pulls ps h n) (a.does n) ∙ idle-pulls h n ps w

expects-pulls : (h : List Edge) (n : ℕ) (ps : List Party) → Each (ExpectsByte true h n) ps
    → one_pulls ps h n ≡ any_by (heeds h) ps
expects-pulls h n [] w = refl
expects-pulls h n (p ∷ ps) (a, w) =
    ap (λ v. v || one_pulls ps h n) a.pulls_is ∙ ap (λ v. heeds h p || v) (expects-pulls h n ps w)

-- who heeds is who listens
expects-ties : (h : List Edge) (n : ℕ) (before : List Item) (ps : List Party) → Each (ExpectsByte true h n) ps
    → Each (Ties h before) ps → Each (λ (p : Party). heeds h p ≡ is_listener p.device before) ps
expects-ties h n before ps s t =
    each-map (λ (p : Party). ExpectsByte true h n p × Ties h before p) (λ (p : Party). heeds h p
    ≡ is_listener p.device before) ps
    (λ p z. (let k = z.0 in tied-heeds h before p k.atn_is z.1))
    (each-both (ExpectsByte true h n) (Ties h before) ps s t)

left-ties : (h : List Edge) (r : ℕ) (before : List Item) (ps : List Party) → Each (HasLeft h r) ps
    → Each (Ties h before) ps → Each (λ (p : Party). heeds h p ≡ is_listener p.device before) ps
left-ties h r before ps s t =
    each-map (λ (p : Party). HasLeft h r p × Ties h before p) (λ (p : Party). heeds h p
    ≡ is_listener p.device before) ps
    (λ p z. (let k = z.0 in tied-heeds h before p k.atn_is z.1)) (each-both (HasLeft h r) (Ties h before) ps s t)

any-heeding : (h : List Edge) (before : List Item) (ps : List Party) (b : Bool)
    → Each (λ (p : Party). heeds h p ≡ is_listener p.device before) ps → any_by (listens_by before) ps ≡ b
    → any_by (heeds h) ps ≡ b
any-heeding h before ps b s e = any-same (heeds h) (listens_by before) ps s ∙ e

ready : (before : List Item) (now a : ℕ) (l : Lines) (h : List Edge) (q : Party) (qs : List Party)
    → Sits before now l h (q ∷ qs) → Each (Ties h before) (q ∷ qs) → now + 100 ≤ a → IsReady l a h (q ∷ qs)
ready before now a Free h q qs (s, ss) t m =
    record { made = tt; atn_is = s.atn_is; held = idle-pulls h a (q ∷ qs) (s, ss) }
ready before now a Pulled h q qs (y, s) t m =
    let w : Each (ExpectsByte true h a) (q ∷ qs) = s a m in
    let z : ExpectsByte true h a q = w.0 in
    record {
      made = tt;
      atn_is = z.atn_is;
      held = expects-pulls h a (q ∷ qs) w ∙ any-heeding h before (q ∷ qs) true (expects-ties h a before (q ∷ qs) w t) y;
    }
ready before now a (Due d) h q qs (y, e, s) t m =
    let n : any_by (heeds h) (q ∷ qs) ≡ false =
    any-heeding h before (q ∷ qs) false (left-ties h now before (q ∷ qs) s t) y in
    let due : ℕ = now + last_leave (q ∷ qs) in
    let w = due-all h now q qs s n in
    let b : Each (IsIdle (edge_at due true false true ∷ h)) (q ∷ qs) =
    each-map (λ (p : Party). (pulling p h due ≡ false) × IsIdle (edge_at due true false true ∷ h) p)
    (IsIdle (edge_at due true false true ∷ h)) (q ∷ qs) (λ p z. z.1) w in
    let f : Each (λ (p : Party). pulling p h due ≡ false) (q ∷ qs) =
    each-map (λ (p : Party). (pulling p h due ≡ false) × IsIdle (edge_at due true false true ∷ h) p)
    (λ (p : Party). pulling p h due ≡ false) (q ∷ qs) (λ p z. z.0) w in
    subst (λ k. IsReady (Due k) a h (q ∷ qs)) (sym e)
    (record {
      made = (idle-made h due false (q ∷ qs) a f b, tt);
      atn_is = refl;
      held = idle-pulls (edge_at due true false true ∷ h) a (q ∷ qs) b;
    })

-- an attention's moves, after DATA's release if it is due
abbrev called_moves : Lines → Call → List Party → Option ℕ → Option ℕ → List Move
called_moves l c ps line clock = due_moves l ++ call_moves c ps line clock

-- its end, where somebody listens
call-kept : (before : List Item) (l : Lines) (c : Call) (h : List Edge) (q : Party) (qs : List Party)
    → Each IsParty (q ∷ qs) → IsReady l c.atn h (q ∷ qs) → CallIsMade c (after_moves h (due_moves l)) (q ∷ qs)
    → any_by (listens_by before) (q ∷ qs) ≡ true
    → Each (Ties (after_moves h (called_moves l c (q ∷ qs) None None)) before) (q ∷ qs)
    → ((end : ℕ) → AreMade (q ∷ qs) h (called_moves l c (q ∷ qs) None None) end)
    × Sits before c.release Pulled (after_moves h (called_moves l c (q ∷ qs) None None)) (q ∷ qs)
call-kept before l c h q qs i y w e t =
    let g : List Edge = after_moves h (called_moves l c (q ∷ qs) None None) in
    let x : after_moves h (called_moves l c (q ∷ qs) None None) ≡ released_at c (after_moves h (due_moves l)) (q ∷ qs) =
    after-append h (due_moves l) (call_moves c (q ∷ qs) None None) in
    let s : Each (HasLeft g c.release) (q ∷ qs) = subst (λ k. Each (HasLeft k c.release) (q ∷ qs)) (sym x) w.left in
    let o = heeding-some g (q ∷ qs)
    (any-heeding g before (q ∷ qs) true (left-ties g c.release before (q ∷ qs) s t) e) in (
      λ end. made-append (q ∷ qs) h (due_moves l) (call_moves c (q ∷ qs) None None) end y.made
          (w.kept o.first o.others end (subst (λ k. heeding k (q ∷ qs) ≡ o.first ∷ o.others) x o.is)),
      (
        e,
        λ m k. each-map (λ (p : Party). HasLeft g c.release p × IsParty p) (ExpectsByte true g m) (q ∷ qs)
            (λ p z. left-expects g c.release m p z.0 z.1 k) (each-both (HasLeft g c.release) IsParty (q ∷ qs) s i),
      ),
    )
  where
    left-expects : (g : List Edge) (r m : ℕ) (p : Party) → HasLeft g r p → IsParty p → r + 100 ≤ m
        → ExpectsByte true g m p
    left-expects g r m p s i k =
        let v : p.timing.leave ≤ 60 = i.leave.to in
        record {
          atn_is = s.atn_is;
          clock_is = s.clock_is;
          between = subst (λ (z : Place). IsBetweenBytes z) (sym s.place_is) tt;
          pulls_is = s.does m ∙ (ap (λ y. heeds g p || y) (le-ltb m (r + p.timing.leave) (omega arith))
              ∙ or-false (heeds g p));
        }

-- its end, where nobody does
call-due : (before : List Item) (l : Lines) (c : Call) (h : List Edge) (q : Party) (qs : List Party)
    → IsReady l c.atn h (q ∷ qs) → CallIsMade c (after_moves h (due_moves l)) (q ∷ qs)
    → any_by (listens_by before) (q ∷ qs) ≡ false
    → Each (Ties (after_moves h (called_moves l c (q ∷ qs) None None)) before) (q ∷ qs)
    → ((end : ℕ) → end ≤ due_of c (q ∷ qs) → AreMade (q ∷ qs) h (called_moves l c (q ∷ qs) None None) end)
    × Sits before c.release (Due (due_of c (q ∷ qs))) (after_moves h (called_moves l c (q ∷ qs) None None)) (q ∷ qs)
call-due before l c h q qs y w e t =
    let g : List Edge = after_moves h (called_moves l c (q ∷ qs) None None) in
    let x : after_moves h (called_moves l c (q ∷ qs) None None) ≡ released_at c (after_moves h (due_moves l)) (q ∷ qs) =
    after-append h (due_moves l) (call_moves c (q ∷ qs) None None) in
    let s : Each (HasLeft g c.release) (q ∷ qs) = subst (λ k. Each (HasLeft k c.release) (q ∷ qs)) (sym x) w.left in
    let o = heeding-none g (q ∷ qs)
    (any-heeding g before (q ∷ qs) false (left-ties g c.release before (q ∷ qs) s t) e) in (
      λ end k. made-append (q ∷ qs) h (due_moves l) (call_moves c (q ∷ qs) None None) end y.made
          (w.due end (subst (λ k. heeding k (q ∷ qs) ≡ []) x o) k),
      (e, refl, s),
    )

-- its end after UNLISTEN
call-closed : (before : List Item) (l : Lines) (c : Call) (clock : ℕ) (h : List Edge) (q : Party) (qs : List Party)
    → IsReady l c.atn h (q ∷ qs) → CallIsMade c (after_moves h (due_moves l)) (q ∷ qs)
    → any_by (listens_by before) (q ∷ qs) ≡ false → due_of c (q ∷ qs) ≤ clock
    → Each (Ties (after_moves h (called_moves l c (q ∷ qs) (Some (due_of c (q ∷ qs))) (Some clock))) before) (q ∷ qs)
    → ((end : ℕ) → AreMade (q ∷ qs) h (called_moves l c (q ∷ qs) (Some (due_of c (q ∷ qs))) (Some clock)) end)
    × Sits before clock Free (after_moves h (called_moves l c (q ∷ qs) (Some (due_of c (q ∷ qs))) (Some clock)))
    (q ∷ qs)
call-closed before l c clock h q qs y w e m t =
    let d : ℕ = due_of c (q ∷ qs) in
    let g : List Edge = released_at c (after_moves h (due_moves l)) (q ∷ qs) in
    let x : after_moves h (called_moves l c (q ∷ qs) (Some d) (Some clock))
    ≡ edge_at clock true true true ∷ (edge_at d true false true ∷ g) =
    after-append h (due_moves l) (call_moves c (q ∷ qs) (Some d) (Some clock))
    ∙ closes c (after_moves h (due_moves l)) (q ∷ qs) d clock in
    let u : Each (λ (p : Party). heeds g p ≡ is_listener p.device before) (q ∷ qs) =
    each-map (λ (p : Party). HasLeft g c.release p
    × Ties (after_moves h (called_moves l c (q ∷ qs) (Some d) (Some clock))) before p) (λ (p : Party). heeds g p
    ≡ is_listener p.device before) (q ∷ qs)
    (λ p z. (let k = z.0 in tied-heeds g before p k.atn_is
    (ap (is_listening p.device) (sym (said-closed g c.release d clock p z.0))
    ∙ (ap (λ k. is_listening p.device (said p.timing.wait k)) (sym x) ∙ z.1))))
    (each-both (HasLeft g c.release) (Ties (after_moves h (called_moves l c (q ∷ qs) (Some d) (Some clock))) before)
    (q ∷ qs) w.left t) in
    let n : any_by (heeds g) (q ∷ qs) ≡ false = any-heeding g before (q ∷ qs) false u e in (
      λ end. made-append (q ∷ qs) h (due_moves l) (call_moves c (q ∷ qs) (Some d) (Some clock)) end y.made
          (w.closed clock end (heeding-none g (q ∷ qs) n) m),
      subst (λ k. Each (IsIdle k) (q ∷ qs)) (sym x) (due-closed g c.release clock q qs 0 w.left n).1,
    )
  where
    closes : (c : Call) (h : List Edge) (ps : List Party) (d clock : ℕ)
        → after_moves h (call_moves c ps (Some d) (Some clock))
        ≡ edge_at clock true true true ∷ (edge_at d true false true ∷ released_at c h ps)
    closes c h ps d clock =
        let front : List Move =
        released (edge_at c.atn false false (not c.held)) ∷ answer_moves (answer_of c ps) c.look in
        let first : List Move = sent_moves false c.look (first_frame c ps) in
        let next : List Move = second_moves (next_frame c ps) in
        let r : Edge = edge_at c.release true false false in
        let long : List Move =
        released r ∷ (released (edge_at d true false true) ∷ (released (edge_at clock true true true) ∷ [])) in
        let short : List Move = released r ∷ [] in
        after-append h front (first ++ (next ++ long))
        ∙ (after-append (after_moves h front) first (next ++ long)
        ∙ (after-append (after_moves (after_moves h front) first) next long
        ∙ ap (λ k. edge_at clock true true true ∷ (edge_at d true false true ∷ k))
        (sym (after-append h front (first ++ (next ++ short))
        ∙ (after-append (after_moves h front) first (next ++ short)
        ∙ after-append (after_moves (after_moves h front) first) next short)))))

-- what is to be shown of an item
abbrev pub Steps : TimedBus → Item → List Edge → List Party → Type 0
Steps w x h ps =
    Each (Ties (after_moves h (item_moves w x)) (w.before ++ x ∷ [])) ps
    → ((end : ℕ) → IsInTime (done w x).wires.lines end → AreMade ps h (item_moves w x) end)
    × Sits (w.before ++ x ∷ []) (done w x).wires.now (done w x).wires.lines (after_moves h (item_moves w x)) ps

-- the same of an attention, by its parts
abbrev Ends : List Item → List Party → List Edge → Bool → List TimedPrinter → ℕ → ℕ → ℕ → List Move → Type 0
Ends before ps h u ls r due closed ms =
    Each (Ties (after_moves h ms) before) ps
    → ((end : ℕ) → IsInTime (cond u Free (elim ls [ [] ↦ Due due | p ∷ qs ↦ Pulled ])) end → AreMade ps h ms end)
    × Sits before (cond u closed r) (cond u Free (elim ls [ [] ↦ Due due | p ∷ qs ↦ Pulled ])) (after_moves h ms) ps

attention-ends : (before : List Item) (l : Lines) (c : Call) (h : List Edge) (q : Party) (qs : List Party) (u : Bool)
    (ls : List TimedPrinter) (due closed : ℕ)
    → Each IsParty (q ∷ qs) → IsReady l c.atn h (q ∷ qs) → CallIsMade c (after_moves h (due_moves l)) (q ∷ qs)
    → (u ≡ true → any_by (listens_by before) (q ∷ qs) ≡ false) → (ls ≡ [] → any_by (listens_by before) (q ∷ qs) ≡ false)
    → ((r : TimedPrinter) (rs : List TimedPrinter) → ls ≡ r ∷ rs → any_by (listens_by before) (q ∷ qs) ≡ true)
    → (any_by (listens_by before) (q ∷ qs) ≡ false → due ≡ due_of c (q ∷ qs)) → due_of c (q ∷ qs) ≤ closed
    → Ends before (q ∷ qs) h u ls c.release due closed
    (called_moves l c (q ∷ qs) (cond u (Some due) None) (cond u (Some closed) None))
attention-ends before l c h q qs true ls due closed i y w a b f d m =
    let e = a refl in
    subst (λ k. Ends before (q ∷ qs) h true ls c.release k closed (called_moves l c (q ∷ qs) (Some k) (Some closed)))
    (sym (d e))
    (λ t. (let z = call-closed before l c closed h q qs y w e m t in (λ end v. z.0 end, z.1)))
attention-ends before l c h q qs false [] due closed i y w a b f d m =
    let e = b refl in
    subst (λ k. Ends before (q ∷ qs) h false [] c.release k closed (called_moves l c (q ∷ qs) None None)) (sym (d e))
    (λ t. call-due before l c h q qs y w e t)
attention-ends before l c h q qs false (r ∷ rs) due closed i y w a b f d m =
    λ t. (let z = call-kept before l c h q qs i y w (f r rs refl) t in (λ end v. z.0 end, z.1))

-- the last of some devices leaves within 60 microseconds
leaves-soon : (ps : List Party) → Each IsParty ps → last_leave ps ≤ 60
leaves-soon [] w = omega arith
leaves-soon (p ∷ ps) (i, w) = let a : p.timing.leave ≤ 60 = i.leave.to in let b : last_leave ps ≤ 60 =
    leaves-soon ps w in omega arith

-- a condition that all devices keep
pub each-all : (P : Party → Type 0) (ps : List Party) → ((p : Party) → P p) → Each P ps
each-all P [] f = tt
each-all P (p ∷ ps) f = (f p, each-all P ps f)

-- after UNLISTEN nobody listens
unlistens : serial.ListenerAfterOneMore → (before : List Item) (byte : ℕ) (second : Option ℕ) (ps : List Party)
    → IsItem (item.Attention byte second)
    → eqb (elim second [ None ↦ byte | Some b ↦ b ]) 63 ≡ true
    → any_by (listens_by (before ++ item.Attention byte second ∷ [])) ps ≡ false
unlistens law before byte None ps s k =
    any-none (listens_by (before ++ item.Attention byte None ∷ [])) ps
    (each-all (λ (p : Party). is_listener p.device (before ++ item.Attention byte None ∷ []) ≡ false) ps
    (λ p. law p.device before (item.Attention byte None)
    ∙ chosen (byte == 63) false (is_listener p.device before || byte == 32 + p.device) k))
unlistens law before byte (Some c) ps s k =
    let e : c ≡ 63 = eqb-true c 63 k in
    absurd (elim s.2 [ inl j ↦ (let i = j.0 in omega (arith, e, i)) | inr j ↦ (let i = j.0 in omega (arith, e, i)) ])

call-line : (l : Lines) (a : ℕ) → call_edge (between l) a ≡ edge_at a false false (not (is_held l))
call-line Free a = refl
call-line Pulled a = refl
call-line (Due d) a = refl

-- an attention
attention-item : ListeningAfterOneMore → serial.ListenerAfterOneMore → DelaysLieWithinBounds
    → (before : List Item) (now : ℕ) (l : Lines) (computer : List ℕ) (r : TimedPrinter) (rs : List TimedPrinter)
    (h : List Edge) (q : Party) (qs : List Party) (byte : ℕ) (second : Option ℕ) → IsItem (item.Attention byte second)
    → Each IsParty (q ∷ qs)
    → Both (StandsFor before (item.Attention byte second)) (q ∷ qs) (r ∷ rs) → Each (Ties h before) (q ∷ qs)
    → Sits before now l h (q ∷ qs)
    → Steps (record { before = before; now = now; lines = l; computer = computer; printers = r ∷ rs })
    (item.Attention byte second) h (q ∷ qs)
attention-item law serial_law bounds before now l computer r rs h q qs byte second s i w t v =
    let x : Item = item.Attention byte second in
    let bb = bounds Bb computer 0 in
    let aw = bounds Aw computer 1 in
    let a : ℕ = now + delay_at Bb computer 0 in
    let look : ℕ = a + delay_at Aw computer 1 in
    let first : FrameTimes = frame_times look false byte (drop 2 computer) (command_hearers 1 (r ∷ rs)) in
    let more : Option SecondFrame = second_frame first.ack second (drop 19 computer) (r ∷ rs) in
    let rest : List ℕ = drop (2 + commands_take second) computer in
    let rr = bounds R rest 0 in
    let cr = bounds Cr rest 1 in
    let re : ℕ = last_ack first.ack more + delay_at R rest 0 in
    let due : ℕ = re + greatest (map (λ (p : TimedPrinter). delay_at Dr p.numbers (printer_takes second)) (r ∷ rs)) in
    let closed : ℕ = re + delay_at Cr rest 1 in
    let u : Bool = eqb (elim second [ None ↦ byte | Some b ↦ b ]) 63 in
    let ls : List TimedPrinter = listening (before ++ item.Attention byte second ∷ []) (r ∷ rs) in
    let c : Call = record {
      atn = a;
      held = is_held l;
      look = look;
      byte = byte;
      second = second;
      numbers = drop 2 computer;
      more = drop 19 computer;
      release = re;
    } in
    let e1 : first ≡ first_frame c (q ∷ qs) =
    first-same before byte look second (drop 2 computer) (q ∷ qs) (r ∷ rs) w in
    let e2 : more ≡ next_frame c (q ∷ qs) =
    second-same before byte first.ack second (drop 19 computer) (q ∷ qs) (r ∷ rs) w
    ∙ ap (λ (f : FrameTimes). second_for f.ack second (drop 19 computer) (q ∷ qs)) e1 in
    let e3 : answer_at l a (r ∷ rs) ≡ answer_of c (q ∷ qs) =
    answers l a (q ∷ qs) (r ∷ rs) look byte second computer re (calls-same before byte second (q ∷ qs) (r ∷ rs) w) in
    let n : last_ack first.ack more ≡ last_ack (first_frame c (q ∷ qs)).ack (next_frame c (q ∷ qs)) =
    ap (λ (f : FrameTimes). last_ack f.ack more) e1
    ∙ ap (λ (m : Option SecondFrame). last_ack (first_frame c (q ∷ qs)).ack m) e2 in
    let y : IsReady l a h (q ∷ qs) = ready before now a l h q qs v t (omega (arith, bb.from)) in
    let made : CallIsMade c (after_moves h (due_moves l)) (q ∷ qs) =
    calls-made law bounds c (after_moves h (due_moves l)) q qs i y.atn_is y.held (omega (arith, aw.from))
    (omega (arith, n, rr.from)) in
    let same : Both SameDevice (q ∷ qs) (r ∷ rs) =
    both-map (StandsFor before (item.Attention byte second)) SameDevice (q ∷ qs) (r ∷ rs) (λ p z m. m.0) w in
    let end : Ending = record { atn = re; line = cond u (Some due) None; clock = cond u (Some closed) None } in
    let moves : due_moves l ++ piece_moves l (Some (Attended a (answer_at l a (r ∷ rs)) look first more end))
    ≡ called_moves l c (q ∷ qs) (cond u (Some due) None) (cond u (Some closed) None) =
    ap (λ (e : Edge). due_moves l
    ++ (released e ∷ (answer_moves (answer_at l a (r ∷ rs)) look
    ++ (sent_moves false look first ++ (second_moves more ++ map released (ending_edges end)))))) (call-line l a)
    ∙ (ap (λ (o : Option ℕ). due_moves l ++ attention_moves (not (is_held l)) a o look first more end) e3
    ∙ (ap (λ (f : FrameTimes). due_moves l ++ attention_moves (not (is_held l)) a
    (answer_of c (q ∷ qs)) look f more end) e1
    ∙ ap (λ (m : Option SecondFrame). due_moves l ++ attention_moves (not (is_held l)) a (answer_of c (q ∷ qs)) look
    (first_frame c (q ∷ qs)) m end) e2)) in
    let soon : last_leave (q ∷ qs) ≤ 60 = leaves-soon (q ∷ qs) i in
    subst (λ ms. Ends (before ++ item.Attention byte second ∷ []) (q ∷ qs) h u ls re due closed ms) (sym moves)
    (attention-ends (before ++ item.Attention byte second ∷ []) l c h q qs u ls due closed i y made
    (unlistens serial_law before byte second (q ∷ qs) s)
    (listening-none (before ++ item.Attention byte second ∷ []) (q ∷ qs) (r ∷ rs) same)
    (λ z zs e. listening-some (before ++ item.Attention byte second ∷ []) (q ∷ qs) (r ∷ rs) z zs same e)
    (λ e. ap (λ k. re + greatest k)
    (leaves-same before byte second (q ∷ qs) (r ∷ rs) w
    (each-false (listens_by (before ++ item.Attention byte second ∷ [])) (q ∷ qs) e)))
    (omega (arith, soon, cr.from)))
  where
    answers : (l : Lines) (a : ℕ) (ps : List Party) (prs : List TimedPrinter) (look byte : ℕ) (second : Option ℕ)
        (computer : List ℕ) (re : ℕ)
        → map (λ (p : TimedPrinter). delay_at At p.numbers 0) prs ≡ map (λ (p : Party). p.timing.attention) ps
        → answer_at l a prs ≡ (if is_held l then None
        else Some (a + least (map (λ (p : Party). p.timing.attention) ps)))
    answers Free a ps prs look byte second computer re e = ap (λ k. Some (a + least k)) e
    answers Pulled a ps prs look byte second computer re e = refl
    answers (Due d) a ps prs look byte second computer re e = ap (λ k. Some (a + least k)) e

-- what is to be shown of a byte, by who listens
abbrev ByteSteps : TimedBus → ℕ → Bool → List Edge → List Party → List TimedPrinter → Type 0
ByteSteps w byte eoi h ps ls =
    let d : Done = elim ls [ [] ↦ dropped_byte w (item.Sent byte eoi) | r ∷ rs ↦ heard_byte w byte eoi (r ∷ rs) ] in
    Each (Ties (after_moves h (due_moves w.lines ++ piece_moves w.lines d.piece)) (w.before ++ item.Sent byte eoi ∷ []))
    ps
    → ((end : ℕ) → IsInTime d.wires.lines end → AreMade ps h (due_moves w.lines ++ piece_moves w.lines d.piece) end)
    × Sits (w.before ++ item.Sent byte eoi ∷ []) d.wires.now d.wires.lines
    (after_moves h (due_moves w.lines ++ piece_moves w.lines d.piece)) ps

never : (b : Bool) → b ≡ true → b ≡ false → ⊥
never true h k = absurd (let j : true ≡ false = k in cc)
never false h k = absurd (let j : false ≡ true = h in cc)

-- a byte that nobody hears
byte-dropped : (before : List Item) (now : ℕ) (l : Lines) (computer : List ℕ) (rs : List TimedPrinter) (h : List Edge)
    (q : Party) (qs : List Party) (byte : ℕ) (eoi : Bool)
    → Each (Ties h before) (q ∷ qs) → Sits before now l h (q ∷ qs) → any_by (listens_by before) (q ∷ qs) ≡ false
    → ByteSteps (record { before = before; now = now; lines = l; computer = computer; printers = rs }) byte eoi h
    (q ∷ qs) []
byte-dropped before now Free computer rs h q qs byte eoi t v e = λ z. (λ end k. tt, v)
byte-dropped before now Pulled computer rs h q qs byte eoi t v e =
    absurd (never (any_by (listens_by before) (q ∷ qs)) v.0 e)
byte-dropped before now (Due d) computer rs h q qs byte eoi t (y, e, s) f =
    let look : ℕ = now + delay_at Bb computer 0 in
    let n : any_by (heeds h) (q ∷ qs) ≡ false =
    any-heeding h before (q ∷ qs) false (left-ties h now before (q ∷ qs) s t) f in
    subst (λ k. ByteSteps (record { before = before; now = now; lines = Due k; computer = computer; printers = rs })
    byte eoi h (q ∷ qs) []) (sym e)
    (λ z. (λ end k. (due-closed h now look q qs end s n).0, (due-closed h now look q qs 0 s n).1))

-- a byte that somebody hears
byte-heard : ListeningAfterOneMore → serial.ListenerAfterOneMore → DelaysLieWithinBounds
    → (before : List Item) (now : ℕ) (l : Lines) (computer : List ℕ) (prs : List TimedPrinter) (r : TimedPrinter)
    (rs : List TimedPrinter)
    (h : List Edge) (q : Party) (qs : List Party) (byte : ℕ) (eoi : Bool) → Each IsParty (q ∷ qs)
    → Both (StandsFor before (item.Sent byte eoi)) (q ∷ qs) prs
    → Each (Ties h before) (q ∷ qs) → Sits before now l h (q ∷ qs) → listening before prs ≡ r ∷ rs
    → any_by (listens_by before) (q ∷ qs) ≡ true
    → ByteSteps (record { before = before; now = now; lines = l; computer = computer; printers = prs }) byte eoi h
    (q ∷ qs) (r ∷ rs)
byte-heard law serial_law bounds before now Free computer prs r rs h q qs byte eoi i w t v k e =
    let u : Each (λ (p : Party). is_listener p.device before ≡ false) (q ∷ qs) =
    each-map (λ (p : Party). IsIdle h p × Ties h before p) (λ (p : Party). is_listener p.device before ≡ false) (q ∷ qs)
    (λ p z. (let s = z.0 in sym (tied-heeds h before p s.atn_is z.1) ∙ ap not s.away_is))
    (each-both (IsIdle h) (Ties h before) (q ∷ qs) v t) in
    absurd (never (any_by (listens_by before) (q ∷ qs)) e (any-none (listens_by before) (q ∷ qs) u))
byte-heard law serial_law bounds before now (Due d) computer prs r rs h q qs byte eoi i w t v k e =
    absurd (never (any_by (listens_by before) (q ∷ qs)) e v.0)
byte-heard law serial_law bounds before now Pulled computer prs r rs h q qs byte eoi i w t (y, s) k e =
    let bb = bounds Bb computer 0 in
    let look : ℕ = now + delay_at Bb computer 0 in
    let x : Each (ExpectsByte true h look) (q ∷ qs) = s look (omega (arith, bb.from)) in
    let u : Each (λ (p : Party). heeds h p ≡ is_listener p.device before) (q ∷ qs) =
    expects-ties h look before (q ∷ qs) x t in
    let o = heeding-some h (q ∷ qs) (any-heeding h before (q ∷ qs) true u e) in
    let m : data_hearers eoi (r ∷ rs) ≡ map (hearer eoi) (o.first ∷ o.others) =
    ap (data_hearers eoi) (sym k) ∙ (hearers-same before h byte eoi (q ∷ qs) prs w u ∙ ap (map (hearer eoi)) o.is) in
    let f = framed-for law bounds true eoi h (q ∷ qs) look byte (drop 1 computer) o.first o.others
    (λ z. refl) o.is i x in
    let a : any_by (listens_by (before ++ item.Sent byte eoi ∷ [])) (q ∷ qs) ≡ true =
    any-same (listens_by (before ++ item.Sent byte eoi ∷ [])) (listens_by before) (q ∷ qs)
    (each-all (λ (p : Party). is_listener p.device (before ++ item.Sent byte eoi ∷ []) ≡ is_listener p.device before)
    (q ∷ qs)
    (λ p. serial_law p.device before (item.Sent byte eoi) ∙ or-false (is_listener p.device before))) ∙ e in
    let b : FramedBy true eoi h (q ∷ qs) look byte (drop 1 computer) (data_hearers eoi (r ∷ rs)) =
    subst (λ (hs : List ListenerTiming). FramedBy true eoi h (q ∷ qs) look byte (drop 1 computer) hs) (sym m) f in
    λ z. (λ end c. b.0 end, (a, b.1))

-- a byte
byte-item : ListeningAfterOneMore → serial.ListenerAfterOneMore → DelaysLieWithinBounds
    → (before : List Item) (now : ℕ) (l : Lines) (computer : List ℕ) (prs : List TimedPrinter)
    (h : List Edge) (q : Party) (qs : List Party) (byte : ℕ) (eoi : Bool) → Each IsParty (q ∷ qs)
    → Both (StandsFor before (item.Sent byte eoi)) (q ∷ qs) prs
    → Each (Ties h before) (q ∷ qs) → Sits before now l h (q ∷ qs)
    → Steps (record { before = before; now = now; lines = l; computer = computer; printers = prs })
    (item.Sent byte eoi) h (q ∷ qs)
byte-item law serial_law bounds before now l computer prs h q qs byte eoi i w t v =
    by (listening before prs) refl (both-map (StandsFor before (item.Sent byte eoi)) SameDevice (q ∷ qs) prs
    (λ p z m. m.0) w)
  where
    by : (ls : List TimedPrinter) → listening before prs ≡ ls → Both SameDevice (q ∷ qs) prs
        → ByteSteps (record { before = before; now = now; lines = l; computer = computer; printers = prs }) byte eoi h
        (q ∷ qs) ls
    by [] k s = byte-dropped before now l computer prs h q qs byte eoi t v (listening-none before (q ∷ qs) prs s k)
    by (r ∷ rs) k s = byte-heard law serial_law bounds before now l computer prs r rs h q qs byte eoi i w t v k
        (listening-some before (q ∷ qs) prs r rs s k)

-- an item
pub item-made : ListeningAfterOneMore → serial.ListenerAfterOneMore → DelaysLieWithinBounds
    → (before : List Item) (now : ℕ) (l : Lines) (computer : List ℕ) (prs : List TimedPrinter)
    (h : List Edge) (q : Party) (qs : List Party) (x : Item) → IsItem x → Each IsParty (q ∷ qs)
    → Both (StandsFor before x) (q ∷ qs) prs → Each (Ties h before) (q ∷ qs) → Sits before now l h (q ∷ qs)
    → Steps (record { before = before; now = now; lines = l; computer = computer; printers = prs }) x h (q ∷ qs)
item-made law serial_law bounds before now l computer (r ∷ rs) h q qs (item.Attention byte second) s i w t v =
    attention-item law serial_law bounds before now l computer r rs h q qs byte second s i w t v
item-made law serial_law bounds before now l computer [] h q qs (item.Attention byte second) s i w t v = absurd w
item-made law serial_law bounds before now l computer prs h q qs (item.Sent byte eoi) s i w t v =
    byte-item law serial_law bounds before now l computer prs h q qs byte eoi i w t v

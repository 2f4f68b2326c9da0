-- An attention of the talker as that of the timed trace.
use Rattle.std.proofs.Common.{◌≡◌, ℕ, ◌+◌, Bool, true, false, cond, ◌||◌, ◌&&◌, ◌==◌, eqb, List, [], ◌∷◌, ◌++◌, map, drop, Option, Some, None, refl, sym, subst, ap, ◌∙◌, arith, append_assoc, inl, inr}
use Rattle.std.proofs.lemmas.List.{map-append}
use Rattle.std.proofs.lemmas.Bool.Decides.{eqb_tells}
use Rattle.pr_serial.specs.declared.Item.{Item}
use Rattle.pr_serial.specs.declared.Item.TheVariants.{Attention}
use Rattle.pr_serial.specs.Answers.{is_listener}
use Rattle.pr_serial.specs.Sendable.{MaySend}
use Rattle.pr_serial.specs.Laws.{ListenerAfterOneMore}
use Rattle.pr_wire.specs.declared.Edge.{Edge}
use Rattle.pr_wire.specs.declared.delay.Kind.TheVariants.{Bb, Aw, R, Cr, Dr}
use Rattle.pr_wire.specs.Levels.{edge_at}
use Rattle.pr_wire.specs.Delays.{delay_at}
use Rattle.pr_wire.specs.Choices.{left}
use Rattle.pr_wire.specs.Pieces.{FrameTimes, SecondFrame, Ending, frame_edges, call_edge, answer_edges, second_edges, ending_edges, last_ack}
use Rattle.pr_bus.specs.declared.printer.TimedPrinter.{TimedPrinter}
use Rattle.pr_bus.specs.declared.talker.Talker.{Talker}
use Rattle.pr_bus.specs.Timed as all
use Rattle.pr_bus.specs.Timed.{Lines, Free, Pulled, Due, TimedBus, Done, taking, listening, between, frame_times, command_hearers, done, answered, unanswered, answer_at, second_frame, commands_take, printer_takes, item_edges, due_edges, edges_done}
use Rattle.pr_bus.specs.Printers.{printer_list, heeding, after_freed, IsSamePrinter}
use Rattle.pr_bus.specs.Talking.{lines_of}
use Rattle.pr_bus.specs.Talk.{state_of, IsTuned, printers_of, command_frame, second_of, second_takes, second_taking, freed_at, due_at, closed_at, ending_of, end_of, rest_of, tuned_to}
use Rattle.pr_bus.proofs.FrameLemmas.{drop-twice}
use Rattle.pr_bus.proofs.PrinterLemmas.{commands-taking, releases-taking, taking-twice}
use Rattle.pr_bus.proofs.TalkLemmas.{one, tuned-listening, map-listening, heeding-is}

-- an attention is answered if a printer is present
pub done-answered : (before : List Item) (t : Talker) (first : ℕ) (second : Option ℕ) → (t.four.present || t.five.present) ≡ true
    → done (state_of before t) (Attention first second) ≡ answered (state_of before t) first second
done-answered before t first second h = by t.four.present t.five.present h
  where
    by : (u v : Bool) → (u || v) ≡ true
        → elim (cond u (one t.four) [] ++ cond v (one t.five) []) [ [] ↦ unanswered (state_of before t) (Attention first second) | p ∷ ps ↦ answered (state_of before t) first second ] ≡ answered (state_of before t) first second
    by true v h = refl
    by false true h = refl
    by false false h = absurd (let j : false ≡ true = h in cc)

-- the lines, by whether somebody listens
abbrev rests : Lines → Lines → List all.TimedPrinter → Lines
rests x y ls = elim ls [ [] ↦ x | p ∷ qs ↦ y ]

-- the numbers that printers have taken do not show who listens
lines-taking : (before : List Item) (n : ℕ) (ps : List all.TimedPrinter) (x y : Lines)
    → rests x y (listening before (map (taking n) ps)) ≡ rests x y (listening before ps)
lines-taking before n [] x y = refl
lines-taking before n (q ∷ qs) x y = by (is_listener q.device before) (lines-taking before n qs x y)
  where
    by : (v : Bool) → rests x y (listening before (map (taking n) qs)) ≡ rests x y (listening before qs)
        → rests x y (cond v (taking n q ∷ []) [] ++ listening before (map (taking n) qs)) ≡ rests x y (cond v (q ∷ []) [] ++ listening before qs)
    by true k = refl
    by false k = k

-- the lines after an attention, by whether one of the two printers listens
lines-heeding : (p q : TimedPrinter) (x y : Lines) → rests x y (heeding p ++ heeding q) ≡ cond ((p.present && p.listens) || (q.present && q.listens)) y x
lines-heeding p q x y =
    ap (λ (l : List all.TimedPrinter). rests x y (l ++ heeding q)) (heeding-is p)
    ∙ ap (λ (l : List all.TimedPrinter). rests x y (cond (p.present && p.listens) (one p) [] ++ l)) (heeding-is q)
    ∙ by (p.present && p.listens) (q.present && q.listens)
  where
    by : (u v : Bool) → rests x y (cond u (one p) [] ++ cond v (one q) []) ≡ cond (u || v) y x
    by true v = refl
    by false true = refl
    by false false = refl

-- the last command is UNLISTEN exactly if the first is
pub unlisten-is : (first : ℕ) (second : Option ℕ) → MaySend first second → eqb first 63 ≡ eqb (elim second [ None ↦ first | Some b ↦ b ]) 63
unlisten-is first None h = refl
unlisten-is first (Some s) h = apart first (λ e. let k = h.1 in omega (arith, e, k)) ∙ sym (apart s (λ e. elim h.2 [ inl k ↦ (let j = k.0 in omega (arith, e, j)) | inr k ↦ (let j = k.0 in omega (arith, e, j)) ]))
  where
    apart : (n : ℕ) → (n ≡ 63 → ⊥) → eqb n 63 ≡ false
    apart n f = elim (eqb_tells n 63) [ inl p ↦ absurd (f p.1) | inr p ↦ p.0 ]

-- the talker after the commands of an attention, before ATN is released
pub record IsCommanded (before : List Item) (t v : Talker) (first : ℕ) (second : Option ℕ) : Type 0 where
  pub tuned : IsTuned (before ++ Attention first second ∷ []) v
  pub printers : printers_of v ≡ map (taking (printer_takes second)) (printers_of t)
  pub computer : left v.computer ≡ drop (2 + commands_take second) (left t.computer)

-- the first frame of an attention
abbrev pub first_of : Talker → ℕ → FrameTimes
first_of t first =
    frame_times (t.time + delay_at Bb (left t.computer) 0 + delay_at Aw (left t.computer) 1) false first (drop 2 (left t.computer)) (command_hearers 1 (printers_of t))

-- an attention's last acknowledgement
abbrev pub last_of : Talker → ℕ → Option ℕ → ℕ
last_of t first second = last_ack (first_of t first).ack (second_frame (first_of t first).ack second (drop 19 (left t.computer)) (printers_of t))

-- DATA's release that is due after the commands
due-is : (before : List Item) (t v : Talker) (first : ℕ) (second : Option ℕ) (ack : ℕ) → IsCommanded before t v first second
    → due_at v ack ≡ ack + delay_at R (drop (2 + commands_take second) (left t.computer)) 0 + all.greatest (map (λ (p : all.TimedPrinter). delay_at Dr p.numbers (printer_takes second)) (printers_of t))
due-is before t v first second ack i =
    ap (λ l. ack + delay_at R l 0 + all.greatest (map (λ (p : all.TimedPrinter). delay_at Dr p.numbers 0) (printers_of v))) i.computer
    ∙ ap (λ (l : List all.TimedPrinter). ack + delay_at R (drop (2 + commands_take second) (left t.computer)) 0 + all.greatest (map (λ (p : all.TimedPrinter). delay_at Dr p.numbers 0) l)) i.printers
    ∙ ap (λ l. ack + delay_at R (drop (2 + commands_take second) (left t.computer)) 0 + all.greatest l) (releases-taking (printer_takes second) (printers_of t))

-- the talker after an attention is where the wires do, by what each of its parts is
state-is : (before : List Item) (t v u : Talker) (first : ℕ) (second : Option ℕ) (ack : ℕ)
    → u.time ≡ cond (eqb (elim second [ None ↦ first | Some b ↦ b ]) 63) (ack + delay_at R (drop (2 + commands_take second) (left t.computer)) 0 + delay_at Cr (drop (2 + commands_take second) (left t.computer)) 1) (ack + delay_at R (drop (2 + commands_take second) (left t.computer)) 0)
    → lines_of u.lines ≡ cond (eqb (elim second [ None ↦ first | Some b ↦ b ]) 63) Free (rests (Due (due_at v ack)) Pulled (listening (before ++ Attention first second ∷ []) (printers_of t)))
    → left u.computer ≡ drop (cond (eqb (elim second [ None ↦ first | Some b ↦ b ]) 63) 2 1) (drop (2 + commands_take second) (left t.computer))
    → printers_of u ≡ map (λ (q : all.TimedPrinter). cond (is_listener q.device (before ++ Attention first second ∷ [])) q (taking 1 q)) (map (taking (printer_takes second)) (printers_of t))
    → due_at v ack ≡ ack + delay_at R (drop (2 + commands_take second) (left t.computer)) 0 + all.greatest (map (λ (p : all.TimedPrinter). delay_at Dr p.numbers (printer_takes second)) (printers_of t))
    → ack ≡ last_of t first second
    → state_of (before ++ Attention first second ∷ []) u ≡ (answered (state_of before t) first second).wires
state-is before t v u first second ack kt kl kc kp kd ka =
    let unlisten : Bool = eqb (elim second [ None ↦ first | Some b ↦ b ]) 63 in
    let after : List Item = before ++ Attention first second ∷ [] in
    let ps : List all.TimedPrinter = map (λ (q : all.TimedPrinter). cond (is_listener q.device after) q (taking 1 q)) (map (taking (printer_takes second)) (printers_of t)) in
    let rest : List ℕ = drop (2 + commands_take second) (left t.computer) in
    let dr : ℕ = all.greatest (map (λ (p : all.TimedPrinter). delay_at Dr p.numbers (printer_takes second)) (printers_of t)) in
    ap {B = TimedBus} (λ (x : ℕ). record { before = after; now = x; lines = lines_of u.lines; computer = left u.computer; printers = printers_of u }) kt
    ∙ ap {B = TimedBus} (λ (x : Lines). record { before = after; now = cond unlisten (ack + delay_at R rest 0 + delay_at Cr rest 1) (ack + delay_at R rest 0); lines = x; computer = left u.computer; printers = printers_of u }) (kl ∙ ap (λ d. cond unlisten Free (rests (Due d) Pulled (listening after (printers_of t)))) kd)
    ∙ ap {B = TimedBus} (λ (x : List ℕ). record { before = after; now = cond unlisten (ack + delay_at R rest 0 + delay_at Cr rest 1) (ack + delay_at R rest 0); lines = cond unlisten Free (rests (Due (ack + delay_at R rest 0 + dr)) Pulled (listening after (printers_of t))); computer = x; printers = printers_of u }) kc
    ∙ ap {B = TimedBus} (λ (x : List all.TimedPrinter). record { before = after; now = cond unlisten (ack + delay_at R rest 0 + delay_at Cr rest 1) (ack + delay_at R rest 0); lines = cond unlisten Free (rests (Due (ack + delay_at R rest 0 + dr)) Pulled (listening after (printers_of t))); computer = drop (cond unlisten 2 1) rest; printers = x }) kp
    ∙ ap {B = TimedBus} (λ (x : ℕ). record { before = after; now = cond unlisten (x + delay_at R rest 0 + delay_at Cr rest 1) (x + delay_at R rest 0); lines = cond unlisten Free (rests (Due (x + delay_at R rest 0 + dr)) Pulled (listening after (printers_of t))); computer = drop (cond unlisten 2 1) rest; printers = ps }) ka

-- an attention leaves the talker where it leaves the wires
pub attention-state : (before : List Item) (t v u : Talker) (first : ℕ) (second : Option ℕ) (ack : ℕ) → MaySend first second → (t.four.present || t.five.present) ≡ true → IsCommanded before t v first second
    → ack ≡ last_of t first second
    → u.time ≡ end_of v ack (first == 63) → lines_of u.lines ≡ rest_of v ack (first == 63) → left u.computer ≡ drop (cond (first == 63) 2 1) (left v.computer)
    → printer_list u.four ≡ after_freed v.four → printer_list u.five ≡ after_freed v.five
    → state_of (before ++ Attention first second ∷ []) u ≡ (done (state_of before t) (Attention first second)).wires
attention-state before t v u first second ack m h i ka kt kl kc k4 k5 =
    let after : List Item = before ++ Attention first second ∷ [] in
    let unl = unlisten-is first second m in
    let lines : rest_of v ack (first == 63) ≡ cond (eqb (elim second [ None ↦ first | Some b ↦ b ]) 63) Free (rests (Due (due_at v ack)) Pulled (listening after (printers_of t))) =
    ap (λ b. cond b Free (cond ((v.four.present && v.four.listens) || (v.five.present && v.five.listens)) Pulled (Due (due_at v ack)))) unl
    ∙ ap (λ l. cond (eqb (elim second [ None ↦ first | Some b ↦ b ]) 63) Free l)
    (sym (lines-heeding v.four v.five (Due (due_at v ack)) Pulled)
    ∙ ap (λ (l : List all.TimedPrinter). rests (Due (due_at v ack)) Pulled l) (sym (tuned-listening after v i.tuned))
    ∙ ap (λ (l : List all.TimedPrinter). rests (Due (due_at v ack)) Pulled (listening after l)) i.printers
    ∙ lines-taking after (printer_takes second) (printers_of t) (Due (due_at v ack)) Pulled) in
    let ps : printers_of u ≡ map (λ (q : all.TimedPrinter). cond (is_listener q.device after) q (taking 1 q)) (map (taking (printer_takes second)) (printers_of t)) =
    ap (λ (xs : List all.TimedPrinter). xs ++ printer_list u.five) (k4 ∙ map-listening (λ x. x) (taking 1) after v.four 4 i.tuned.four_is i.tuned.four_listens)
    ∙ ap (λ (xs : List all.TimedPrinter). map (λ (q : all.TimedPrinter). cond (is_listener q.device after) q (taking 1 q)) (printer_list v.four) ++ xs) (k5 ∙ map-listening (λ x. x) (taking 1) after v.five 5 i.tuned.five_is i.tuned.five_listens)
    ∙ sym (map-append (λ (q : all.TimedPrinter). cond (is_listener q.device after) q (taking 1 q)) (printer_list v.four) (printer_list v.five))
    ∙ ap (λ (xs : List all.TimedPrinter). map (λ (q : all.TimedPrinter). cond (is_listener q.device after) q (taking 1 q)) xs) i.printers in
    let times : end_of v ack (first == 63) ≡ cond (eqb (elim second [ None ↦ first | Some b ↦ b ]) 63) (ack + delay_at R (drop (2 + commands_take second) (left t.computer)) 0 + delay_at Cr (drop (2 + commands_take second) (left t.computer)) 1) (ack + delay_at R (drop (2 + commands_take second) (left t.computer)) 0) =
    ap (λ b. cond b (closed_at v ack) (freed_at v ack)) unl
    ∙ ap (λ l. cond (eqb (elim second [ None ↦ first | Some b ↦ b ]) 63) (ack + delay_at R l 0 + delay_at Cr l 1) (ack + delay_at R l 0)) i.computer in
    let numbers : drop (cond (first == 63) 2 1) (left v.computer) ≡ drop (cond (eqb (elim second [ None ↦ first | Some b ↦ b ]) 63) 2 1) (drop (2 + commands_take second) (left t.computer)) =
    ap (λ b. drop (cond b 2 1) (left v.computer)) unl ∙ ap (λ l. drop (cond (eqb (elim second [ None ↦ first | Some b ↦ b ]) 63) 2 1) l) i.computer in
    state-is before t v u first second ack (kt ∙ times) (kl ∙ lines) (kc ∙ numbers) ps (due-is before t v first second ack i) ka
    ∙ (ap (λ (d : Done). d.wires) (sym (done-answered before t first second h)))

-- an attention's edges, grouped as the talker adds them and as the piece has them
chain : (due : List Edge) (call : Edge) (a f s e : List Edge) → ((((due ++ call ∷ []) ++ a) ++ f) ++ s) ++ e ≡ due ++ (call ∷ (((a ++ f) ++ s) ++ e))
chain due call a f s e = simp append_assoc

-- the edges that the talker makes of an attention are those of the item
pub attention-edges : (before : List Item) (t v : Talker) (first : ℕ) (second : Option ℕ) (time ack : ℕ) (f : FrameTimes) (m : Option SecondFrame) (due call answer frame more new : List Edge)
    → MaySend first second → (t.four.present || t.five.present) ≡ true → IsCommanded before t v first second
    → ack ≡ last_of t first second
    → time ≡ t.time + delay_at Bb (left t.computer) 0
    → f ≡ first_of t first → m ≡ second_frame (first_of t first).ack second (drop 19 (left t.computer)) (printers_of t)
    → due ≡ due_edges (lines_of t.lines)
    → call ≡ due ++ call_edge (between (lines_of t.lines)) time ∷ []
    → answer ≡ call ++ answer_edges (answer_at (lines_of t.lines) time (printers_of t)) (time + delay_at Aw (left t.computer) 1)
    → frame ≡ answer ++ frame_edges false f
    → more ≡ frame ++ second_edges m
    → new ≡ more ++ ending_edges (ending_of v ack (first == 63))
    → new ≡ item_edges (state_of before t) (Attention first second)
attention-edges before t v first second time ack f m due call answer frame more new ms h i ka kt kf km e1 e2 e3 e4 e5 e6 =
    let unl = unlisten-is first second ms in
    let ending : ending_of v ack (first == 63) ≡ record {
      atn = ack + delay_at R (drop (2 + commands_take second) (left t.computer)) 0;
      line = cond (eqb (elim second [ None ↦ first | Some b ↦ b ]) 63) (Some (ack + delay_at R (drop (2 + commands_take second) (left t.computer)) 0 + all.greatest (map (λ (p : all.TimedPrinter). delay_at Dr p.numbers (printer_takes second)) (printers_of t)))) None;
      clock = cond (eqb (elim second [ None ↦ first | Some b ↦ b ]) 63) (Some (ack + delay_at R (drop (2 + commands_take second) (left t.computer)) 0 + delay_at Cr (drop (2 + commands_take second) (left t.computer)) 1)) None;
    } =
    ap (λ b. ending_of v ack b) unl
    ∙ ap (λ l. record {
      atn = ack + delay_at R l 0;
      line = cond (eqb (elim second [ None ↦ first | Some b ↦ b ]) 63) (Some (due_at v ack)) None;
      clock = cond (eqb (elim second [ None ↦ first | Some b ↦ b ]) 63) (Some (ack + delay_at R l 0 + delay_at Cr l 1)) None;
    }) i.computer
    ∙ ap (λ d. record {
      atn = ack + delay_at R (drop (2 + commands_take second) (left t.computer)) 0;
      line = cond (eqb (elim second [ None ↦ first | Some b ↦ b ]) 63) (Some d) None;
      clock = cond (eqb (elim second [ None ↦ first | Some b ↦ b ]) 63) (Some (ack + delay_at R (drop (2 + commands_take second) (left t.computer)) 0 + delay_at Cr (drop (2 + commands_take second) (left t.computer)) 1)) None;
    }) (due-is before t v first second ack i) in
    e6 ∙ ap (λ (x : Ending). more ++ ending_edges x) ending
    ∙ rw (e5, e4, e3, e2, e1, kf, km, ka, kt)
    (chain (due_edges (lines_of t.lines)) _ _ _ _ _
    ∙ ap (λ (d : Done). due_edges (lines_of t.lines) ++ edges_done (lines_of t.lines) d.piece) (sym (done-answered before t first second h)))

-- a printer that stays the same twice stays the same
pub same-then : {p q r : TimedPrinter} → IsSamePrinter p q → IsSamePrinter q r → IsSamePrinter p r
same-then a b = record { device = b.device ∙ a.device; present = b.present ∙ a.present; numbers = b.numbers ∙ a.numbers }

-- the edges of a second command, as the talker adds them
pub second-edges-of : (t : Talker) (ack aw byte : ℕ) (second : Option ℕ) (rest : List ℕ) (old push new : List Edge) → second ≡ Some byte → aw ≡ delay_at Aw (left t.computer) 0 → rest ≡ drop 1 (left t.computer)
    → push ≡ old ++ edge_at (ack + aw) false true false ∷ [] → new ≡ push ++ frame_edges false (frame_times (ack + aw) false byte rest (command_hearers 0 (printers_of t)))
    → new ≡ old ++ second_edges (second_of t ack second)
second-edges-of t ack aw byte second rest old push new e ea er e1 e2 = rw (e2, e1, e, ea, er) (append_assoc old _ _)

-- the acknowledgement of a second command
pub second-ack-of : (t : Talker) (ack aw byte last : ℕ) (second : Option ℕ) (rest : List ℕ) → second ≡ Some byte → aw ≡ delay_at Aw (left t.computer) 0 → rest ≡ drop 1 (left t.computer)
    → last ≡ (frame_times (ack + aw) false byte rest (command_hearers 0 (printers_of t))).ack
    → last ≡ last_ack ack (second_of t ack second)
second-ack-of t ack aw byte last second rest e ea er h = rw (h, e, ea, er) refl

-- the first command's frame, by the numbers before the attention
pub first-is : (t a : Talker) (first look : ℕ) → look ≡ t.time + delay_at Bb (left t.computer) 0 + delay_at Aw (left t.computer) 1 → left a.computer ≡ drop 2 (left t.computer) → printers_of a ≡ map (taking 1) (printers_of t)
    → command_frame a look first ≡ first_of t first
first-is t a first look k c p =
    ap (λ (x : ℕ). frame_times x false first (left a.computer) (command_hearers 0 (printers_of a))) k
    ∙ ap (λ (x : List ℕ). frame_times (t.time + delay_at Bb (left t.computer) 0 + delay_at Aw (left t.computer) 1) false first x (command_hearers 0 (printers_of a))) c
    ∙ ap (λ (x : List all.TimedPrinter). frame_times (t.time + delay_at Bb (left t.computer) 0 + delay_at Aw (left t.computer) 1) false first (drop 2 (left t.computer)) (command_hearers 0 x)) p
    ∙ ap (λ x. frame_times (t.time + delay_at Bb (left t.computer) 0 + delay_at Aw (left t.computer) 1) false first (drop 2 (left t.computer)) x) (commands-taking 0 1 (printers_of t))

-- the second command, by the numbers before the attention
pub second-is : (t k : Talker) (ack : ℕ) (second : Option ℕ) → left k.computer ≡ drop 19 (left t.computer) → printers_of k ≡ map (taking 3) (printers_of t)
    → second_of k ack second ≡ second_frame ack second (drop 19 (left t.computer)) (printers_of t)
second-is t k ack None c p = refl
second-is t k ack (Some b) c p =
    ap (λ (x : List ℕ). Some (record { look = ack + delay_at Aw x 0; sent = frame_times (ack + delay_at Aw x 0) false b (drop 1 x) (command_hearers 0 (printers_of k)) })) c
    ∙ ap (λ (x : List all.TimedPrinter). Some (record { look = ack + delay_at Aw (drop 19 (left t.computer)) 0; sent = frame_times (ack + delay_at Aw (drop 19 (left t.computer)) 0) false b (drop 1 (drop 19 (left t.computer))) (command_hearers 0 x) })) p
    ∙ ap (λ x. Some (record { look = ack + delay_at Aw (drop 19 (left t.computer)) 0; sent = frame_times (ack + delay_at Aw (drop 19 (left t.computer)) 0) false b (drop 1 (drop 19 (left t.computer))) x })) (commands-taking 0 3 (printers_of t))

-- the last acknowledgement, as the talker has it
pub final-is : (k : ℕ) (f : FrameTimes) (m : Option SecondFrame) → k ≡ f.ack → last_ack k m ≡ last_ack f.ack m
final-is k f m h = ap (λ n. last_ack n m) h

-- how many numbers of the computer an attention has taken before ATN's release
seconds : (second : Option ℕ) (numbers : List ℕ) → drop (second_takes second) (drop 19 numbers) ≡ drop (2 + commands_take second) numbers
seconds None numbers = refl
seconds (Some b) numbers = drop-twice 19 18 numbers

-- how many numbers of a printer an attention has taken before ATN's release
seconds-taking : (second : Option ℕ) (ps : List all.TimedPrinter) → second_taking second (map (taking 3) ps) ≡ map (taking (printer_takes second)) ps
seconds-taking None ps = refl
seconds-taking (Some b) ps = taking-twice 3 2 ps

-- a second command takes the same numbers of each printer
second-taking-append : (second : Option ℕ) (xs ys : List all.TimedPrinter) → second_taking second xs ++ second_taking second ys ≡ second_taking second (xs ++ ys)
second-taking-append None xs ys = refl
second-taking-append (Some b) xs ys = sym (map-append (taking 2) xs ys)

-- after an attention the talker knows who listens
pub tuned-attention : ListenerAfterOneMore → (before : List Item) (t s : Talker) (first : ℕ) (second : Option ℕ) → IsTuned before t → IsSamePrinter t.four s.four → IsSamePrinter t.five s.five → s.four.listens ≡ t.four.listens → s.five.listens ≡ t.five.listens
    → IsTuned (before ++ Attention first second ∷ []) (record s { four = tuned_to first s.four; five = tuned_to first s.five })
tuned-attention law before t s first second i f g lf lg = record {
  four_is = f.device ∙ i.four_is;
  five_is = g.device ∙ i.five_is;
  four_listens = ap (λ v. cond (first == 63) false (v || first == 32 + s.four.device)) (lf ∙ i.four_listens) ∙ ap (λ d. cond (first == 63) false (is_listener 4 before || first == 32 + d)) (f.device ∙ i.four_is) ∙ sym (law 4 before (Attention first second));
  five_listens = ap (λ v. cond (first == 63) false (v || first == 32 + s.five.device)) (lg ∙ i.five_listens) ∙ ap (λ d. cond (first == 63) false (is_listener 5 before || first == 32 + d)) (g.device ∙ i.five_is) ∙ sym (law 5 before (Attention first second));
}

-- one step of both printers
pub both : (f : all.TimedPrinter → all.TimedPrinter) (t u : Talker) → printer_list u.four ≡ map f (printer_list t.four) → printer_list u.five ≡ map f (printer_list t.five) → printers_of u ≡ map f (printers_of t)
both f t u p q = ap (λ (xs : List all.TimedPrinter). xs ++ printer_list u.five) p ∙ ap (λ (xs : List all.TimedPrinter). map f (printer_list t.four) ++ xs) q ∙ sym (map-append f (printer_list t.four) (printer_list t.five))

-- the talker after the commands of an attention
pub commanded : ListenerAfterOneMore → (before : List Item) (t k s v : Talker) (first : ℕ) (second : Option ℕ) → IsTuned before t → IsSamePrinter t.four s.four → IsSamePrinter t.five s.five → s.four.listens ≡ t.four.listens → s.five.listens ≡ t.five.listens
    → left k.computer ≡ drop 19 (left t.computer) → printers_of k ≡ map (taking 3) (printers_of t)
    → left s.computer ≡ drop (second_takes second) (left k.computer) → printer_list s.four ≡ second_taking second (printer_list k.four) → printer_list s.five ≡ second_taking second (printer_list k.five)
    → v ≡ record s { four = tuned_to first s.four; five = tuned_to first s.five }
    → IsCommanded before t v first second
commanded law before t k s v first second i f g lf lg kc kp sc s4 s5 e = subst (λ (x : Talker). IsCommanded before t x first second) (sym e) (record {
  tuned = tuned-attention law before t s first second i f g lf lg;
  printers =
      ap (λ (xs : List all.TimedPrinter). xs ++ printer_list s.five) s4 ∙ ap (λ (xs : List all.TimedPrinter). second_taking second (printer_list k.four) ++ xs) s5
      ∙ second-taking-append second (printer_list k.four) (printer_list k.five) ∙ ap (λ (xs : List all.TimedPrinter). second_taking second xs) kp ∙ seconds-taking second (printers_of t);
  computer = sc ∙ ap (λ l. drop (second_takes second) l) kc ∙ seconds second (left t.computer);
})

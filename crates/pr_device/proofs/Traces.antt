-- The timed trace of items is made by the talker and the devices.
use Rattle.std.proofs.Common.{◌≡◌, ℕ, ◌+◌, ◌≤◌, ◌==◌, cond, Bool, true, false, ◌||◌, List, [], ◌∷◌, ◌++◌, map, Option}
use Rattle.std.proofs.Common.{Some, None, if◌then◌else◌, refl, sym, ap, subst, ◌∙◌, append_assoc, append-nil, arith}
use Rattle.std.proofs.Common.{ne_eqb}
use Rattle.std.proofs.Common.{inl, inr}
use Rattle.std.specs.Prelude.{reverse}
use Rattle.pr_serial.specs.declared.Present.{Present}
use Rattle.pr_serial.specs.declared.Item.{Item}
use Rattle.pr_serial.specs.declared.Item.TheVariants as item
use Rattle.pr_serial.specs.Answers.{is_listener, is_answered}
use Rattle.pr_serial.specs.Laws as serial
use Rattle.pr_serial.specs.Bus.{DelayNumbers}
use Rattle.pr_wire.specs.declared.Edge.{Edge}
use Rattle.pr_wire.specs.declared.Frame.{Frame}
use Rattle.pr_wire.specs.Levels.{edge_at, start}
use Rattle.pr_wire.specs.Laws.{DelaysLieWithinBounds}
use Rattle.pr_wire.specs.Pieces.{FrameTimes, SecondFrame, Ending, Piece, call_edge, answer_edges, frame_edges}
use Rattle.pr_wire.specs.Pieces.{second_edges, ending_edges, pulse_edges, bit_edges}
use Rattle.pr_wire.specs.Pieces.Piece.{Unanswered, Attention as Attended, DataByte, Dropped}
use Rattle.pr_receiver.specs.Heard.{is_listening}
use Rattle.pr_receiver.specs.Laws.{ListeningAfterOneMore}
use Rattle.pr_bus.specs.Laws.{IsItem, AreItems, TimedTracesSpell}
use Rattle.pr_bus.specs.Answers.{item_frames, frames_after, answered_frames}
use Rattle.pr_bus.specs.Timed.{Lines, Free, Pulled, Due, TimedPrinter, TimedBus, Done, done, due_edges, edges_done}
use Rattle.pr_bus.specs.Timed.{item_edges, timed_edges, timed_trace, between, listening, wires, dropped_byte}
use Rattle.pr_bus.specs.Timed.{heard_byte}
use Rattle.pr_bus.specs.WiresState.{wires_after}
use Rattle.pr_device.specs.Following.{said}
use Rattle.pr_device.specs.Course.{Party, Each, Move, AreMade, next_moment, after_moves, released, set, sent_moves}
use Rattle.pr_device.specs.Course.{frame_moves, answer_moves, second_moves, pulling}
use Rattle.pr_device.specs.Paired.{StandFor, piece_moves, item_moves, timed_moves, IsInTime}
use Rattle.pr_device.specs.PairLaws.{TimedTracesAreMade}
use Rattle.pr_device.proofs.Sharing.{each-map, IsParty}
use Rattle.pr_device.proofs.Walking.{onto}
use Rattle.pr_device.proofs.Talking.{reverse-onto, traces-say}
use Rattle.pr_device.proofs.Making.{not-false}
use Rattle.pr_device.proofs.Calling.{IsIdle, after-append, made-append, idle-made, step-idle}
use Rattle.pr_device.proofs.Items.{Ties, Sits, item-made, tied-heeds, each-all}

-- the edge of a move
abbrev edge_in : Move → Edge
edge_in m = m.edge

edges-append : (xs ys : List Move) → map edge_in (xs ++ ys) ≡ map edge_in xs ++ map edge_in ys
edges-append [] ys = refl
edges-append (x ∷ xs) ys = ap (λ l. x.edge ∷ l) (edges-append xs ys)

edges-released : (es : List Edge) → map edge_in (map released es) ≡ es
edges-released [] = refl
edges-released (e ∷ es) = ap (λ l. e ∷ l) (edges-released es)

edges-set : (es : List Edge) → map edge_in (map set es) ≡ es
edges-set [] = refl
edges-set (e ∷ es) = ap (λ l. e ∷ l) (edges-set es)

-- the edges of a frame
edges-frame : (x : Bool) (f : FrameTimes) → map edge_in (frame_moves x f) ≡ frame_edges x f
edges-frame x f =
    ap (λ l. edge_at f.free x true true ∷ l)
    (edges-append (map released (pulse_edges f.pulse) ++ map set (bit_edges x f.pull f.bits))
    (released (edge_at f.ack x false false) ∷ [])
    ∙ ap (λ l. l ++ edge_at f.ack x false false ∷ [])
    (edges-append (map released (pulse_edges f.pulse)) (map set (bit_edges x f.pull f.bits))
    ∙ (ap (λ l. l ++ map edge_in (map set (bit_edges x f.pull f.bits))) (edges-released (pulse_edges f.pulse))
    ∙ ap (λ l. pulse_edges f.pulse ++ l) (edges-set (bit_edges x f.pull f.bits)))))

edges-second : (m : Option SecondFrame) → map edge_in (second_moves m) ≡ second_edges m
edges-second None = refl
edges-second (Some m) = ap (λ l. edge_at m.look false true false ∷ l) (edges-frame false m.sent)

-- of an attention, after the call
edges-attention : (answer : Option ℕ) (look : ℕ) (first : FrameTimes) (second : Option SecondFrame) (end : Ending)
    → map edge_in (answer_moves answer look
    ++ (sent_moves false look first ++ (second_moves second ++ map released (ending_edges end))))
    ≡ ((answer_edges answer look ++ frame_edges false first) ++ second_edges second) ++ ending_edges end
edges-attention answer look first second end =
    edges-append (answer_moves answer look) (sent_moves false look first
    ++ (second_moves second ++ map released (ending_edges end)))
    ∙ (ap (λ l. map edge_in (answer_moves answer look) ++ l)
    (edges-append (sent_moves false look first) (second_moves second ++ map released (ending_edges end))
    ∙ (ap (λ l. (edge_at look false true false ∷ l)
    ++ map edge_in (second_moves second ++ map released (ending_edges end))) (edges-frame false first)
    ∙ ap (λ l. (edge_at look false true false ∷ frame_edges false first) ++ l)
    (edges-append (second_moves second) (map released (ending_edges end))
    ∙ (ap (λ l. l ++ map edge_in (map released (ending_edges end))) (edges-second second)
    ∙ ap (λ l. second_edges second ++ l) (edges-released (ending_edges end))))))
    ∙ by answer)
  where
    grouped : (a : List Edge)
        → a ++ ((edge_at look false true false ∷ frame_edges false first) ++ (second_edges second ++ ending_edges end))
        ≡ (((a ++ edge_at look false true false ∷ []) ++ frame_edges false first) ++ second_edges second)
        ++ ending_edges end
    grouped a =
        sym (append_assoc ((a ++ edge_at look false true false ∷ []) ++ frame_edges false first) (second_edges second)
        (ending_edges end)
        ∙ (append_assoc (a ++ edge_at look false true false ∷ []) (frame_edges false first)
        (second_edges second ++ ending_edges end)
        ∙ append_assoc a (edge_at look false true false ∷ [])
        (frame_edges false first ++ (second_edges second ++ ending_edges end))))

    chose : (b : Bool) (d : ℕ) → map edge_in (if b then [] else released (edge_at d false false false) ∷ [])
        ≡ (if b then [] else edge_at d false false false ∷ [])
    chose true d = refl
    chose false d = refl

    by : (answer : Option ℕ) → map edge_in (answer_moves answer look)
        ++ ((edge_at look false true false ∷ frame_edges false first) ++ (second_edges second ++ ending_edges end))
        ≡ ((answer_edges answer look ++ frame_edges false first) ++ second_edges second) ++ ending_edges end
    by None = grouped []
    by (Some d) =
        ap (λ l. l ++ ((edge_at look false true false ∷ frame_edges false first)
        ++ (second_edges second ++ ending_edges end))) (chose (d == look) d)
        ∙ grouped (if d == look then [] else edge_at d false false false ∷ [])

-- of a piece
edges-piece : (l : Lines) (o : Option Piece) → map edge_in (piece_moves l o) ≡ edges_done l o
edges-piece l None = refl
edges-piece l (Some (Unanswered a release)) = refl
edges-piece l (Some (Attended a answer look first second end)) =
    ap (λ k. call_edge (between l) a ∷ k) (edges-attention answer look first second end)
edges-piece l (Some (DataByte look sent)) = ap (λ k. edge_at look true true false ∷ k) (edges-frame true sent)
edges-piece l (Some (Dropped look)) = refl

-- the moves' edges are those of the timed trace
edges-timed : (w : TimedBus) (xs : List Item) → map edge_in (timed_moves w xs) ≡ timed_edges w xs
edges-timed w [] = refl
edges-timed w (x ∷ xs) =
    edges-append (item_moves w x) (timed_moves (done w x).wires xs)
    ∙ (ap (λ l. l ++ map edge_in (timed_moves (done w x).wires xs))
    (edges-append (map released (due_edges w.lines)) (piece_moves w.lines (done w x).piece)
    ∙ (ap (λ l. l ++ map edge_in (piece_moves w.lines (done w x).piece)) (edges-released (due_edges w.lines))
    ∙ ap (λ l. due_edges w.lines ++ l) (edges-piece w.lines (done w x).piece)))
    ∙ ap (λ l. item_edges w x ++ l) (edges-timed (done w x).wires xs))

-- one item more
timed-next : (w : TimedBus) (ys : List Item) (x : Item)
    → timed_moves w (ys ++ x ∷ []) ≡ timed_moves w ys ++ item_moves (wires_after w ys) x
timed-next w [] x = append-nil (item_moves w x)
timed-next w (y ∷ ys) x =
    ap (λ l. item_moves w y ++ l) (timed-next (done w y).wires ys x)
    ∙ sym (append_assoc (item_moves w y) (timed_moves (done w y).wires ys)
    (item_moves (wires_after (done w y).wires ys) x))

wires-next : (w : TimedBus) (ys : List Item) (x : Item)
    → wires_after w (ys ++ x ∷ []) ≡ (done (wires_after w ys) x).wires
wires-next w [] x = refl
wires-next w (y ∷ ys) x = wires-next (done w y).wires ys x

pub before-next : (before : List Item) (now : ℕ) (l : Lines) (computer : List ℕ) (ps : List TimedPrinter) (x : Item)
    → (let d = done (record { before = before; now = now; lines = l; computer = computer; printers = ps }) x in
    d.wires.before ≡ before ++ x ∷ [])
before-next before now l computer [] (item.Attention byte second) = refl
before-next before now l computer (p ∷ ps) (item.Attention byte second) = refl
before-next before now l computer ps (item.Sent byte eoi) = by (listening before ps)
  where
    by : (ls : List TimedPrinter)
        → (let w : TimedBus = record { before = before; now = now; lines = l; computer = computer; printers = ps } in
        let d : Done = elim ls [ [] ↦ dropped_byte w (item.Sent byte eoi) | q ∷ qs ↦ heard_byte w byte eoi (q ∷ qs) ] in
        d.wires.before ≡ before ++ item.Sent byte eoi ∷ [])
    by [] = refl
    by (q ∷ qs) = refl

items-next : (ys : List Item) (x : Item) → AreItems ys → IsItem x → AreItems (ys ++ x ∷ [])
items-next [] x w i = (i, tt)
items-next (y ∷ ys) x (a, w) i = (a, items-next ys x w i)

-- a history in the order of moves
after-onto : (h : List Edge) (ms : List Move) → after_moves h ms ≡ onto (map edge_in ms) h
after-onto h [] = refl
after-onto h (m ∷ ms) = after-onto (m.edge ∷ h) ms

-- who listens to frames is who listens to items
frame-steps : ListeningAfterOneMore → serial.ListenerAfterOneMore → (present : Present) (d : ℕ)
    → (present.four || present.five) ≡ true → d ≤ 30 → (fs : List Frame) (before : List Item) (x : Item) → IsItem x
    → is_listening d fs ≡ is_listener d before
    → is_listening d (fs ++ cond (is_answered present before x) (item_frames x) []) ≡ is_listener d (before ++ x ∷ [])
frame-steps law slaw present d a m fs before (item.Attention byte None) i e =
    ap (λ v. is_listening d (fs ++ cond v (record { attention = true; byte = byte; eoi = false } ∷ []) [])) a
    ∙ (law d fs (record { attention = true; byte = byte; eoi = false })
    ∙ (ap (λ v. if byte == 63 then false else (v || byte == 32 + d)) e
    ∙ sym (slaw d before (item.Attention byte None))))
frame-steps law slaw present d a m fs before (item.Attention byte (Some c)) (i, j, k) e =
    let f : Frame = record { attention = true; byte = byte; eoi = false } in
    let g : Frame = record { attention = true; byte = c; eoi = false } in
    let n : 96 ≤ c = elim k [ inl z ↦ (let y = z.0 in omega (arith, y)) | inr z ↦ (let y = z.0 in omega (arith, y)) ] in
    let u : (c == 63) ≡ false = ne_eqb c 63 (λ z. absurd (omega (arith, z, n))) in
    let v : (c == 32 + d) ≡ false = ne_eqb c (32 + d) (λ z. absurd (omega (arith, z, n, m))) in
    ap (λ y. is_listening d (fs ++ cond y (f ∷ (g ∷ [])) [])) a
    ∙ (ap (is_listening d) (sym (append_assoc fs (f ∷ []) (g ∷ [])))
    ∙ (law d (fs ++ f ∷ []) g
    ∙ (ap (λ y. if y then false else (is_listening d (fs ++ f ∷ []) || c == 32 + d)) u
    ∙ (ap (λ y. is_listening d (fs ++ f ∷ []) || y) v
    ∙ (or-none (is_listening d (fs ++ f ∷ []))
    ∙ (law d fs f
    ∙ (ap (λ y. if byte == 63 then false else (y || byte == 32 + d)) e
    ∙ sym (slaw d before (item.Attention byte (Some c))))))))))
  where
    or-none : (b : Bool) → (b || false) ≡ b
    or-none true = refl
    or-none false = refl
frame-steps law slaw present d a m fs before (item.Sent byte eoi) i e =
    by (is_answered present before (item.Sent byte eoi))
    ∙ sym (slaw d before (item.Sent byte eoi) ∙ or-none (is_listener d before))
  where
    or-none : (b : Bool) → (b || false) ≡ b
    or-none true = refl
    or-none false = refl

    by : (b : Bool) → is_listening d (fs ++ cond b (record { attention = false; byte = byte; eoi = eoi } ∷ []) [])
        ≡ is_listener d before
    by true = law d fs (record { attention = false; byte = byte; eoi = eoi }) ∙ (or-none (is_listening d fs) ∙ e)
    by false = ap (is_listening d) (append-nil fs) ∙ e

frames-listen : ListeningAfterOneMore → serial.ListenerAfterOneMore → (present : Present) (d : ℕ)
    → (present.four || present.five) ≡ true → d ≤ 30 → (fs : List Frame) (before xs : List Item) → AreItems xs
    → is_listening d fs ≡ is_listener d before → is_listening d (fs ++ frames_after present before xs)
    ≡ is_listener d (before ++ xs)
frames-listen law slaw present d a m fs before [] i e =
    ap (is_listening d) (append-nil fs) ∙ (e ∙ ap (is_listener d) (sym (append-nil before)))
frames-listen law slaw present d a m fs before (x ∷ xs) (i, is) e =
    let f : List Frame = cond (is_answered present before x) (item_frames x) [] in
    ap (is_listening d) (sym (append_assoc fs f (frames_after present (before ++ x ∷ []) xs)))
    ∙ (frames-listen law slaw present d a m (fs ++ f) (before ++ x ∷ []) xs is
    (frame-steps law slaw present d a m fs before x i e)
    ∙ ap (is_listener d) (append_assoc before (x ∷ []) xs))

-- a history of the timed trace says who listens
trace-ties : ListeningAfterOneMore → serial.ListenerAfterOneMore → TimedTracesSpell
    → (present : Present) (delays : DelayNumbers) → (present.four || present.five) ≡ true
    → (ys : List Item) → AreItems ys → (p : Party) → p.device ≤ 30
    → Ties (after_moves (start ∷ []) (timed_moves (wires present delays.computer delays.four delays.five) ys)) ys p
trace-ties law slaw spells present delays a ys i p m =
    let w : TimedBus = wires present delays.computer delays.four delays.five in
    let edges : List Edge = timed_trace present delays.computer delays.four delays.five ys in
    let e : after_moves (start ∷ []) (timed_moves w ys) ≡ reverse edges =
    after-onto (start ∷ []) (timed_moves w ys)
    ∙ (ap (λ l. onto l (start ∷ [])) (edges-timed w ys) ∙ sym (reverse-onto (start ∷ timed_edges w ys))) in
    ap (λ g. is_listening p.device (said p.timing.wait g)) e
    ∙ (ap (is_listening p.device)
    (traces-say p.timing.wait edges (answered_frames present ys)
    (spells present delays.computer delays.four delays.five ys i))
    ∙ frames-listen law slaw present p.device a m [] [] ys i refl)

-- DATA's release that is due is the first of more moves
in-time : (before : List Item) (now : ℕ) (l : Lines) (computer : List ℕ) (ps : List TimedPrinter) (xs : List Item)
    (end : ℕ)
    → (let w : TimedBus = record { before = before; now = now; lines = l; computer = computer; printers = ps } in
    IsInTime (wires_after w xs).lines end → IsInTime l (next_moment (timed_moves w xs) end))
in-time before now Free computer ps xs end k = tt
in-time before now Pulled computer ps xs end k = tt
in-time before now (Due d) computer ps [] end k = k
in-time before now (Due d) computer ps (x ∷ xs) end k = omega arith

-- the items after others
items-made : ListeningAfterOneMore → serial.ListenerAfterOneMore → DelaysLieWithinBounds → TimedTracesSpell
    → (present : Present) (delays : DelayNumbers) → (present.four || present.five) ≡ true
    → (q : Party) (qs : List Party) → Each IsParty (q ∷ qs) → Each (λ (p : Party). p.device ≤ 30) (q ∷ qs)
    → (ys xs : List Item) (w : TimedBus) (h : List Edge) (end : ℕ) → AreItems ys → AreItems xs
    → w ≡ wires_after (wires present delays.computer delays.four delays.five) ys → w.before ≡ ys
    → h ≡ after_moves (start ∷ []) (timed_moves (wires present delays.computer delays.four delays.five) ys)
    → Sits w.before w.now w.lines h (q ∷ qs) → StandFor (q ∷ qs) w xs → IsInTime (wires_after w xs).lines end
    → AreMade (q ∷ qs) h (timed_moves w xs) end
items-made law slaw bounds spells present delays a q qs i m ys [] w h end ai bi ew eb eh s f k = tt
items-made law slaw bounds spells present delays a q qs i m ys (x ∷ xs) w h end ai (bx, bi) ew eb eh s (fx, f) k =
    let w0 : TimedBus = wires present delays.computer delays.four delays.five in
    let here : Each (Ties h w.before) (q ∷ qs) =
    each-map (λ (p : Party). p.device ≤ 30) (Ties h w.before) (q ∷ qs)
    (λ p z. ap (λ g. is_listening p.device (said p.timing.wait g)) eh
    ∙ (trace-ties law slaw spells present delays a ys ai p z ∙ ap (is_listener p.device) (sym eb))) m in
    let next : List Item = ys ++ x ∷ [] in
    let an : AreItems (ys ++ x ∷ []) = items-next ys x ai bx in
    let eg : after_moves h (item_moves w x) ≡ after_moves (start ∷ []) (timed_moves w0 (ys ++ x ∷ [])) =
    sym (ap (after_moves (start ∷ [])) (timed-next w0 ys x)
    ∙ (after-append (start ∷ []) (timed_moves w0 ys) (item_moves (wires_after w0 ys) x)
    ∙ (ap (λ g. after_moves g (item_moves (wires_after w0 ys) x)) (sym eh)
    ∙ ap (λ v. after_moves h (item_moves v x)) (sym ew)))) in
    let there : Each (Ties (after_moves h (item_moves w x)) (w.before ++ x ∷ [])) (q ∷ qs) =
    each-map (λ (p : Party). p.device ≤ 30) (Ties (after_moves h (item_moves w x)) (w.before ++ x ∷ [])) (q ∷ qs)
    (λ p z. ap (λ g. is_listening p.device (said p.timing.wait g)) eg
    ∙ (trace-ties law slaw spells present delays a (ys ++ x ∷ []) an p z
    ∙ ap (λ b. is_listener p.device (b ++ x ∷ [])) (sym eb))) m in
    let st = item-made law slaw bounds w.before w.now w.lines w.computer w.printers h q qs x bx i fx here s there in
    let v : TimedBus = (done w x).wires in
    let bn : v.before ≡ w.before ++ x ∷ [] = before-next w.before w.now w.lines w.computer w.printers x in
    made-append (q ∷ qs) h (item_moves w x) (timed_moves v xs) end
    (st.0 (next_moment (timed_moves v xs) end) (in-time v.before v.now v.lines v.computer v.printers xs end k))
    (items-made law slaw bounds spells present delays a q qs i m (ys ++ x ∷ []) xs v
    (after_moves h (item_moves w x)) end an bi
    (ap (λ (b : TimedBus). (done b x).wires) ew ∙ sym (wires-next w0 ys x)) (bn ∙ ap (λ b. b ++ x ∷ []) eb) eg
    (subst (λ b. Sits b v.now v.lines (after_moves h (item_moves w x)) (q ∷ qs)) (sym bn) st.1) f k)

-- all items, as the law says it
pub traces-made : ListeningAfterOneMore → serial.ListenerAfterOneMore → DelaysLieWithinBounds → TimedTracesSpell
    → TimedTracesAreMade
traces-made law slaw bounds spells present delays q qs items end ai a i m f k =
    let w : TimedBus = wires present delays.computer delays.four delays.five in
    let idle : Each (IsIdle (start ∷ [])) (q ∷ qs) =
    each-map (λ (p : Party). p.device ≤ 30) (IsIdle (start ∷ [])) (q ∷ qs)
    (λ p z. step-idle [] start p refl
    (not-false _ (tied-heeds (start ∷ []) [] p refl (trace-ties law slaw spells present delays a [] tt p z))) refl) m in
    record {
      edges = ap (λ l. start ∷ l) (edges-timed w items);
      made = (
        idle-made [] 0 true (q ∷ qs) (next_moment (timed_moves w items) end)
            (each-all (λ (p : Party). pulling p [] 0 ≡ false) (q ∷ qs) (λ p. refl)) idle,
        items-made law slaw bounds spells present delays a q qs i m [] items w
            (start ∷ []) end tt ai refl refl refl idle f k,
      );
    }

-- Each item makes no more edges than its share.
use Rattle.std.proofs.Common.{◌≡◌, ℕ, ◌+◌, ◌*◌, ◌≤◌, ◌==◌, Bool, true, false, cond, eqb, List, [], ◌∷◌, ◌++◌, map, drop, length, Option, Some, None, refl, sym, subst, ap, ◌∙◌, arith}
use Rattle.std.proofs.lemmas.List.{length-append}
use Rattle.pr_serial.specs.declared.Present.{Present}
use Rattle.pr_serial.specs.declared.Item.{Item}
use Rattle.pr_serial.specs.declared.Item.TheVariants.{Attention, Sent}
use Rattle.pr_wire.specs.declared.delay.Kind.TheVariants.{Bb, Aw, R, Cr, Dr}
use Rattle.pr_wire.specs.Delays.{delay_at}
use Rattle.pr_wire.specs.declared.Edge.{Edge}
use Rattle.pr_wire.specs.Levels.{edge_at}
use Rattle.pr_wire.specs.Pieces.{FrameTimes, SecondFrame, Ending, answer_edges, frame_edges, second_edges, ending_edges}
use Rattle.pr_wire.specs.Pieces.Piece.{Unanswered, Attention as Attended, DataByte}
use Rattle.pr_bus.specs.Timed.{Lines, Free, Pulled, Due, ListenerTiming, TimedPrinter, TimedBus, Done, greatest, bits_of, frame_times, command_hearers, data_hearers, done, answered, unanswered, heard_byte, dropped_byte, answer_at, dropped_piece, due_edges, edges_done, item_edges, timed_edges}
use Rattle.pr_bus.specs.WiresState.{wires_after}
use Rattle.pr_bus.specs.Laws.{IsItem, AreItems}
use Rattle.pr_bus.specs.Sums.{edge_share, edge_bound}
use Rattle.pr_bus.proofs.Intervals.{bits-length}
use Rattle.pr_bus.proofs.Bounds.{frame-count, bit-count}
use Rattle.pr_bus.proofs.TimedLawful.{IsSound, done-sound, one_listens, devices, listening-none, listening-some, pulled-is, second-not}

-- a frame has eight bits
eight-bits : (look : ℕ) (eoi : Bool) (byte : ℕ) (numbers : List ℕ) (hs : List ListenerTiming) → length (frame_times look eoi byte numbers hs).bits ≡ 8
eight-bits look eoi byte numbers hs = bits-length (frame_times look eoi byte numbers hs).pull (drop 1 numbers) (bits_of 8 byte)

-- a command's frame has 19 edges
command-count : (look byte : ℕ) (numbers : List ℕ) (hs : List ListenerTiming) → length (frame_edges false (frame_times look false byte numbers hs)) ≤ 19
command-count look byte numbers hs =
    let f = frame_times look false byte numbers hs in
    simp length-append (omega (arith, bit-count false f.pull f.bits, eight-bits look false byte numbers hs))

-- a byte that nobody hears makes one edge at most, and one may be due
dropped-count : (l : Lines) (look : ℕ) → length (due_edges l ++ edges_done l (dropped_piece l look)) ≤ 2
dropped-count Free look = omega arith
dropped-count Pulled look = omega arith
dropped-count (Due d) look = omega arith

-- DATA's pull and the look
answer-count : (o : Option ℕ) (look : ℕ) → length (answer_edges o look) ≤ 2
answer-count None look = omega arith
-- DATA's pull and the look
answer-count (Some d) look =
    elim (d == look) as (λ v. length (cond v [] (edge_at d false false false ∷ []) ++ edge_at look false true false ∷ []) ≤ 2) [ true ↦ omega arith | false ↦ omega arith ]

-- the length of an attention's edges by its parts
parts-count : (c : Edge) (x y z v : List Edge) → length (c ∷ x ++ y ++ z ++ v) ≡ 1 + length x + length y + length z + length v
parts-count c x y z v = omega (arith, length-append (x ++ y ++ z) v, length-append (x ++ y) z, length-append x y)

-- what is due before an attention, ATN's pull, DATA's pull and the look
attended-count : (l : Lines) (a : ℕ) (ps : List TimedPrinter) (look : ℕ) (f : FrameTimes) (m : Option SecondFrame) (e : Ending)
    → length (due_edges l ++ edges_done l (Some (Attended a (answer_at l a ps) look f m e))) ≤ 4 + length (frame_edges false f) + length (second_edges m) + length (ending_edges e)
attended-count Free a ps look f m e =
    omega (arith, answer-count (answer_at Free a ps) look, parts-count (edge_at a false false true) (answer_edges (answer_at Free a ps) look) (frame_edges false f) (second_edges m) (ending_edges e))
attended-count Pulled a ps look f m e =
    omega (arith, answer-count None look, parts-count (edge_at a false false false) (answer_edges None look) (frame_edges false f) (second_edges m) (ending_edges e))
-- the edges of an attention, with the one that is due before it
attended-count (Due d) a ps look f m e =
    omega (arith, answer-count (answer_at (Due d) a ps) look, parts-count (edge_at a false false true) (answer_edges (answer_at (Due d) a ps) look) (frame_edges false f) (second_edges m) (ending_edges e))

-- the releases at an attention's end
abbrev ending_at : Bool → ℕ → ℕ → ℕ → Ending
ending_at u r due closed = record { atn = r; line = cond u (Some due) None; clock = cond u (Some closed) None }

-- the edges of an attention's end
ending-count : (u : Bool) (r due closed : ℕ) → length (ending_edges (ending_at u r due closed)) ≤ cond u 3 1
ending-count true r due closed = omega arith
ending-count false r due closed = omega arith

-- an attention that nobody answers makes two edges
unanswered-count : (l : Lines) (a look : ℕ) → length (due_edges l ++ edges_done l (Some (Unanswered a look))) ≤ 3
unanswered-count Free a look = omega arith
unanswered-count Pulled a look = omega arith
unanswered-count (Due d) a look = omega arith

-- the same, whatever the last command
three : (u : Bool) → cond u 3 1 ≤ 3
three true = omega arith
three false = omega arith

-- the edges of a byte that somebody hears
heard-count : (l : Lines) (look : ℕ) (f : FrameTimes) → l ≡ Pulled → length f.bits ≡ 8 → length (due_edges l ++ edges_done l (Some (DataByte look f))) ≤ 22
heard-count l look f e h = subst (λ (m : Lines). length (due_edges m ++ edges_done m (Some (DataByte look f))) ≤ 22) (sym e) (omega (arith, frame-count true f h))

-- the edges of an attention with one command, and with two of which the second is not UNLISTEN
attended-edges : (w : TimedBus) (byte : ℕ) (second : Option ℕ) → IsItem (Attention byte second) → length (due_edges w.lines ++ edges_done w.lines (answered w byte second).piece) ≤ 44
attended-edges w byte None h =
    let look : ℕ = w.now + delay_at Bb w.computer 0 + delay_at Aw w.computer 1 in
    let hs = command_hearers 1 w.printers in
    let f : FrameTimes = frame_times look false byte (drop 2 w.computer) hs in
    let r : ℕ = f.ack + delay_at R (drop 19 w.computer) 0 in
    let due : ℕ = r + greatest (map (λ (p : TimedPrinter). delay_at Dr p.numbers 3) w.printers) in
    let closed : ℕ = r + delay_at Cr (drop 19 w.computer) 1 in
    let c = ending-count (eqb byte 63) r due closed in
    omega (arith, attended-count w.lines (w.now + delay_at Bb w.computer 0) w.printers look f None (ending_at (eqb byte 63) r due closed), command-count look byte (drop 2 w.computer) hs, c, three (eqb byte 63))
attended-edges w byte (Some s) h =
    let look : ℕ = w.now + delay_at Bb w.computer 0 + delay_at Aw w.computer 1 in
    let hs = command_hearers 1 w.printers in
    let f : FrameTimes = frame_times look false byte (drop 2 w.computer) hs in
    let look2 : ℕ = f.ack + delay_at Aw (drop 19 w.computer) 0 in
    let hs2 = command_hearers 3 w.printers in
    let g : FrameTimes = frame_times look2 false s (drop 1 (drop 19 w.computer)) hs2 in
    let r : ℕ = g.ack + delay_at R (drop 37 w.computer) 0 in
    let due : ℕ = r + greatest (map (λ (p : TimedPrinter). delay_at Dr p.numbers 5) w.printers) in
    let closed : ℕ = r + delay_at Cr (drop 37 w.computer) 1 in
    let c = ending-count (eqb s 63) r due closed in
    let m : SecondFrame = record { look = look2; sent = g } in
    let one : cond (eqb s 63) 3 1 ≡ 1 = ap {B = ℕ} (λ u. cond u 3 1) (second-not byte s h) in
    omega (arith, attended-count w.lines (w.now + delay_at Bb w.computer 0) w.printers look f (Some m) (ending_at (eqb s 63) r due closed), command-count look byte (drop 2 w.computer) hs, command-count look2 s (drop 1 (drop 19 w.computer)) hs2, c, one)

-- each item makes no more edges than its share
pub item-count : (present : Present) (w : TimedBus) (x : Item) → IsItem x → IsSound present w → length (item_edges w x) ≤ edge_share x
item-count present w (Sent b eoi) h s = by (one_listens w.before (devices w.printers)) refl
  where
    by : (v : Bool) → one_listens w.before (devices w.printers) ≡ v → length (item_edges w (Sent b eoi)) ≤ 22
    by true e = let n = listening-some w.before w.printers e in
        subst (λ (ls : List TimedPrinter). length (due_edges w.lines ++ edges_done w.lines (elim ls as (λ l. Done) [ [] ↦ dropped_byte w (Sent b eoi) | p ∷ ps ↦ heard_byte w b eoi (p ∷ ps) ]).piece) ≤ 22) (sym n.is)
        (heard-count w.lines (w.now + delay_at Bb w.computer 0) (frame_times (w.now + delay_at Bb w.computer 0) eoi b (drop 1 w.computer) (data_hearers eoi (n.first ∷ n.others))) (pulled-is w.lines (s.tied ∙ ap (λ ds. one_listens w.before ds) (sym s.present_are) ∙ e)) (eight-bits (w.now + delay_at Bb w.computer 0) eoi b (drop 1 w.computer) (data_hearers eoi (n.first ∷ n.others))))
    by false e = let n = listening-none w.before w.printers e in
        subst (λ (ls : List TimedPrinter). length (due_edges w.lines ++ edges_done w.lines (elim ls as (λ l. Done) [ [] ↦ dropped_byte w (Sent b eoi) | p ∷ ps ↦ heard_byte w b eoi (p ∷ ps) ]).piece) ≤ 22) (sym n)
        (omega (arith, dropped-count w.lines (w.now + delay_at Bb w.computer 0)))
item-count present w (Attention byte second) h s = by w.printers
  where
    by : (ps : List TimedPrinter) → length (due_edges w.lines ++ edges_done w.lines (elim ps as (λ l. Done) [ [] ↦ unanswered w (Attention byte second) | p ∷ qs ↦ answered w byte second ]).piece) ≤ 44
    by [] = omega (arith, unanswered-count w.lines (w.now + delay_at Bb w.computer 0) (w.now + delay_at Bb w.computer 0 + delay_at Aw w.computer 1))
    by (p ∷ ps) = attended-edges w byte second h

-- the edges of items are no more than their bound
pub edges-count : (present : Present) (w : TimedBus) (xs : List Item) → AreItems xs → IsSound present w → length (timed_edges w xs) ≤ edge_bound xs
edges-count present w [] h s = omega arith
edges-count present w (x ∷ xs) h s = omega (arith, length-append (item_edges w x) (timed_edges (done w x).wires xs), item-count present w x h.0 s, edges-count present (done w x).wires xs h.1 (done-sound present w x h.0 s))

-- the wires are sound after items
pub after-sound : (present : Present) (w : TimedBus) (xs : List Item) → AreItems xs → IsSound present w → IsSound present (wires_after w xs)
after-sound present w [] h s = s
after-sound present w (x ∷ xs) h s = after-sound present (done w x).wires xs h.1 (done-sound present w x h.0 s)

-- at most 44 edges an item
pub edge-bound-small : (xs : List Item) → edge_bound xs ≤ 44 * length xs
edge-bound-small [] = omega arith
edge-bound-small (Sent b eoi ∷ xs) = omega (arith, edge-bound-small xs)
edge-bound-small (Attention f s ∷ xs) = omega (arith, edge-bound-small xs)

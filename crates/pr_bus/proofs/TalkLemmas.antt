-- The talker's steps as those of the timed trace.
use Rattle.std.proofs.Common.{◌≡◌, ℕ, ◌+◌, Bool, true, false, cond, ◌||◌, ◌&&◌, List, [], ◌∷◌, ◌++◌, map, drop, Option, refl, sym, subst, ap, ◌∙◌, append_assoc, append-nil}
use Rattle.std.proofs.lemmas.List.{map-append}
use Rattle.std.proofs.Math.Bool.{or-false}
use Rattle.pr_serial.specs.declared.Item.{Item}
use Rattle.pr_serial.specs.declared.Item.TheVariants.{Sent}
use Rattle.pr_serial.specs.Answers.{is_listener}
use Rattle.pr_serial.specs.Laws.{ListenerAfterOneMore}
use Rattle.pr_wire.specs.declared.Edge.{Edge}
use Rattle.pr_wire.specs.declared.delay.Kind.TheVariants.{Bb, Dr}
use Rattle.pr_wire.specs.Levels.{edge_at}
use Rattle.pr_wire.specs.Delays.{delay_at}
use Rattle.pr_wire.specs.Choices.{left}
use Rattle.pr_wire.specs.Pieces.{frame_edges}
use Rattle.pr_bus.specs.declared.lines.Lines.TheVariants as kept
use Rattle.pr_bus.specs.declared.printer.TimedPrinter.{TimedPrinter}
use Rattle.pr_bus.specs.declared.talker.Talker.{Talker}
use Rattle.pr_bus.specs.Timed as all
use Rattle.pr_bus.specs.Timed.{Pulled, Due, TimedBus, Done, taking, listening, frame_times, data_hearers, done, heard_byte, dropped_byte, item_edges, due_edges, edges_done, dropped_piece}
use Rattle.pr_bus.specs.Printers.{printer_list, heeding, after_byte}
use Rattle.pr_bus.specs.Talk.{state_of, IsTuned, IsSameTalker, IsSameTuned, printers_of, rest_of, due_at}
use Rattle.pr_bus.specs.Talking.{lines_of, option_list}

-- a printer, with its numbers that are left
abbrev pub lone : TimedPrinter → all.TimedPrinter
lone p = record { device = p.device; numbers = left p.choices }

-- the same as a list
abbrev pub one : TimedPrinter → List all.TimedPrinter
one p = lone p ∷ []

-- who listens of two lists of printers
pub listening-append : (before : List Item) (xs ys : List all.TimedPrinter) → listening before (xs ++ ys) ≡ listening before xs ++ listening before ys
listening-append before [] ys = refl
listening-append before (x ∷ xs) ys =
    ap (λ l. cond (is_listener x.device before) (x ∷ []) [] ++ l) (listening-append before xs ys)
    ∙ sym (append_assoc (cond (is_listener x.device before) (x ∷ []) []) (listening before xs) (listening before ys))

-- whether a printer listens
pub listening-one : (before : List Item) (p : TimedPrinter) (d : ℕ) → p.device ≡ d → p.listens ≡ is_listener d before → listening before (printer_list p) ≡ heeding p
listening-one before p d e l = by p.present
  where
    same : is_listener p.device before ≡ p.listens
    same = ap (λ n. is_listener n before) e ∙ sym l

    by : (v : Bool) → listening before (cond v (one p) []) ≡ cond p.listens (cond v (one p) []) []
    by true = ap (λ v. cond v (one p) [] ++ []) same ∙ append-nil (cond p.listens (one p) [])
    by false = elim p.listens as (λ v. [] ≡ cond v (listening before []) []) [ true ↦ refl | false ↦ refl ]

-- who listens, as the talker knows it
pub tuned-listening : (before : List Item) (t : Talker) → IsTuned before t → listening before (printers_of t) ≡ heeding t.four ++ heeding t.five
tuned-listening before t i =
    listening-append before (printer_list t.four) (printer_list t.five)
    ∙ ap (λ l. l ++ listening before (printer_list t.five)) (listening-one before t.four 4 i.four_is i.four_listens)
    ∙ ap (λ l. heeding t.four ++ l) (listening-one before t.five 5 i.five_is i.five_listens)

-- a list that is not empty
abbrev IsSome : List all.TimedPrinter → Type 0
IsSome [] = ⊥
IsSome (p ∷ ps) = Unit {0}

-- a printer hears bytes if it is present and listens
pub heeding-is : (p : TimedPrinter) → heeding p ≡ cond (p.present && p.listens) (one p) []
heeding-is p = by p.present p.listens
  where
    by : (t l : Bool) → cond l (cond t (one p) []) [] ≡ cond (t && l) (one p) []
    by true true = refl
    by true false = refl
    by false true = refl
    by false false = refl

-- one of the two printers listens
heeding-some : (p q : TimedPrinter) → ((p.present && p.listens) || (q.present && q.listens)) ≡ true → IsSome (heeding p ++ heeding q)
heeding-some p q h = subst IsSome (sym (ap (λ l. l ++ heeding q) (heeding-is p) ∙ ap (λ l. cond (p.present && p.listens) (one p) [] ++ l) (heeding-is q))) (by (p.present && p.listens) (q.present && q.listens) h)
  where
    by : (u v : Bool) → (u || v) ≡ true → IsSome (cond u (one p) [] ++ cond v (one q) [])
    by true v h = tt
    by false true h = tt
    by false false h = let j : false ≡ true = h in cc

-- neither of the two printers listens
heeding-none : (p q : TimedPrinter) → ((p.present && p.listens) || (q.present && q.listens)) ≡ false → heeding p ++ heeding q ≡ []
heeding-none p q h = ap (λ l. l ++ heeding q) (heeding-is p) ∙ ap (λ l. cond (p.present && p.listens) (one p) [] ++ l) (heeding-is q) ∙ by (p.present && p.listens) (q.present && q.listens) h
  where
    by : (u v : Bool) → (u || v) ≡ false → cond u (one p) [] ++ cond v (one q) [] ≡ []
    by true v h = absurd (let j : true ≡ false = h in cc)
    by false true h = absurd (let j : true ≡ false = h in cc)
    by false false h = refl

-- a byte that is heard, by who listens
done-some : (w : TimedBus) (b : ℕ) (eoi : Bool) (ls : List all.TimedPrinter) → listening w.before w.printers ≡ ls → IsSome ls → done w (Sent b eoi) ≡ heard_byte w b eoi ls
done-some w b eoi [] e s = absurd s
done-some w b eoi (p ∷ ps) e s = ap (λ l. elim l [ [] ↦ dropped_byte w (Sent b eoi) | q ∷ qs ↦ heard_byte w b eoi (q ∷ qs) ]) e

-- a byte that the talker sends to those that listen is heard
pub done-heard : (before : List Item) (t : Talker) (b : ℕ) (eoi : Bool) → IsTuned before t → ((t.four.present && t.four.listens) || (t.five.present && t.five.listens)) ≡ true
    → done (state_of before t) (Sent b eoi) ≡ heard_byte (state_of before t) b eoi (heeding t.four ++ heeding t.five)
done-heard before t b eoi i h = done-some (state_of before t) b eoi (heeding t.four ++ heeding t.five) (tuned-listening before t i) (heeding-some t.four t.five h)

-- a byte that the talker sends where nobody listens is dropped
pub done-dropped : (before : List Item) (t : Talker) (b : ℕ) (eoi : Bool) → IsTuned before t → ((t.four.present && t.four.listens) || (t.five.present && t.five.listens)) ≡ false
    → done (state_of before t) (Sent b eoi) ≡ dropped_byte (state_of before t) (Sent b eoi)
done-dropped before t b eoi i h = ap (λ l. elim l [ [] ↦ dropped_byte (state_of before t) (Sent b eoi) | q ∷ qs ↦ heard_byte (state_of before t) b eoi (q ∷ qs) ]) (tuned-listening before t i ∙ heeding-none t.four t.five h)

-- who listens decides which numbers are taken
pub map-listening : (f g : all.TimedPrinter → all.TimedPrinter) (before : List Item) (p : TimedPrinter) (d : ℕ) → p.device ≡ d → p.listens ≡ is_listener d before
    → map (λ (q : all.TimedPrinter). cond p.listens (f q) (g q)) (printer_list p) ≡ map (λ (q : all.TimedPrinter). cond (is_listener q.device before) (f q) (g q)) (printer_list p)
map-listening f g before p d e l = by p.present
  where
    same : p.listens ≡ is_listener p.device before
    same = l ∙ ap (λ n. is_listener n before) (sym e)

    by : (v : Bool) → map (λ (q : all.TimedPrinter). cond p.listens (f q) (g q)) (cond v (one p) []) ≡ map (λ (q : all.TimedPrinter). cond (is_listener q.device before) (f q) (g q)) (cond v (one p) [])
    by true = ap (λ v. cond v (f (lone p)) (g (lone p)) ∷ []) same
    by false = refl

-- a byte that is heard leaves the talker where it leaves the wires
pub heard-state : (before : List Item) (t u : Talker) (b : ℕ) (eoi : Bool) (look : ℕ) (rest : List ℕ) → IsTuned before t
    → look ≡ t.time + delay_at Bb (left t.computer) 0 → rest ≡ drop 1 (left t.computer)
    → u.time ≡ (frame_times look eoi b rest (data_hearers eoi (heeding t.four ++ heeding t.five))).ack → u.lines ≡ kept.Pulled → left u.computer ≡ drop 18 (left t.computer)
    → printer_list u.four ≡ after_byte eoi t.four → printer_list u.five ≡ after_byte eoi t.five
    → state_of (before ++ Sent b eoi ∷ []) u ≡ (heard_byte (state_of before t) b eoi (heeding t.four ++ heeding t.five)).wires
heard-state before t u b eoi look rest i k r n l c p q =
    let ps : printers_of u ≡ map (λ (x : all.TimedPrinter). cond (is_listener x.device before) (taking (cond eoi 4 3) x) x) (printers_of t) =
    ap (λ (xs : List all.TimedPrinter). xs ++ printer_list u.five) (p ∙ map-listening (taking (cond eoi 4 3)) (λ x. x) before t.four 4 i.four_is i.four_listens)
    ∙ ap (λ (xs : List all.TimedPrinter). map (λ (x : all.TimedPrinter). cond (is_listener x.device before) (taking (cond eoi 4 3) x) x) (printer_list t.four) ++ xs) (q ∙ map-listening (taking (cond eoi 4 3)) (λ x. x) before t.five 5 i.five_is i.five_listens)
    ∙ sym (map-append (λ (x : all.TimedPrinter). cond (is_listener x.device before) (taking (cond eoi 4 3) x) x) (printer_list t.four) (printer_list t.five)) in
    rw (ps, n, l, c, r, k) refl

-- the edges that the talker makes of a byte that is heard are those of the item
pub heard-edges : (before : List Item) (t : Talker) (b : ℕ) (eoi : Bool) (look : ℕ) (rest : List ℕ) (due new : List Edge) → IsTuned before t → ((t.four.present && t.four.listens) || (t.five.present && t.five.listens)) ≡ true
    → look ≡ t.time + delay_at Bb (left t.computer) 0 → rest ≡ drop 1 (left t.computer)
    → due ≡ due_edges (lines_of t.lines)
    → new ≡ due ++ (edge_at look true true false ∷ frame_edges true (frame_times look eoi b rest (data_hearers eoi (heeding t.four ++ heeding t.five))))
    → new ≡ item_edges (state_of before t) (Sent b eoi)
heard-edges before t b eoi look rest due new i h k r d n =
    rw (n, d, k, r) (ap (λ (x : Done). due_edges (lines_of t.lines) ++ edges_done (lines_of t.lines) x.piece) (sym (done-heard before t b eoi i h)))

-- after a byte the same printers listen
pub tuned-sent : ListenerAfterOneMore → (before : List Item) (t u : Talker) (b : ℕ) (eoi : Bool) → IsTuned before t → IsSameTalker t u → IsSameTuned t u → IsTuned (before ++ Sent b eoi ∷ []) u
tuned-sent law before t u b eoi i s l = record {
  four_is = s.four.device ∙ i.four_is;
  five_is = s.five.device ∙ i.five_is;
  four_listens = l.four ∙ i.four_listens ∙ sym (law 4 before (Sent b eoi) ∙ or-false (is_listener 4 before));
  five_listens = l.five ∙ i.five_listens ∙ sym (law 5 before (Sent b eoi) ∙ or-false (is_listener 5 before));
}

-- neither of two
and-split : (u v : Bool) → (u || v) ≡ false → (u ≡ false) × (v ≡ false)
and-split true v h = absurd (let j : true ≡ false = h in cc)
and-split false v h = (refl, h)

-- the releases of DATA where nobody listens
pub releases : (p q : TimedPrinter) (x y : Option ℕ) → ((p.present && p.listens) || (q.present && q.listens)) ≡ false
    → ((p.present && p.listens) ≡ false → option_list x ≡ map (λ (r : all.TimedPrinter). delay_at Dr r.numbers 0) (printer_list p))
    → ((q.present && q.listens) ≡ false → option_list y ≡ map (λ (r : all.TimedPrinter). delay_at Dr r.numbers 0) (printer_list q))
    → option_list x ++ option_list y ≡ map (λ (r : all.TimedPrinter). delay_at Dr r.numbers 0) (printer_list p ++ printer_list q)
releases p q x y h f g =
    let k = and-split (p.present && p.listens) (q.present && q.listens) h in
    ap (λ l. l ++ option_list y) (f k.0) ∙ ap (λ l. map (λ (r : all.TimedPrinter). delay_at Dr r.numbers 0) (printer_list p) ++ l) (g k.1)
    ∙ sym (map-append (λ (r : all.TimedPrinter). delay_at Dr r.numbers 0) (printer_list p) (printer_list q))

-- DATA stays pulled after an attention where somebody listens
pub rest-heard : (t : Talker) (ack : ℕ) (u : Bool) → u ≡ false → ((t.four.present && t.four.listens) || (t.five.present && t.five.listens)) ≡ true → Pulled ≡ rest_of t ack u
rest-heard t ack u e h = rw (e, h) refl

-- DATA's release is due after an attention where nobody listens
pub rest-due : (t : Talker) (ack due : ℕ) (u : Bool) → u ≡ false → ((t.four.present && t.four.listens) || (t.five.present && t.five.listens)) ≡ false → due ≡ due_at t ack → Due due ≡ rest_of t ack u
rest-due t ack due u e h d = rw (e, h, d) refl

-- the edges that the talker makes of a byte that nobody hears are those of the item
pub dropped-edges : (before : List Item) (t : Talker) (b : ℕ) (eoi : Bool) (look : ℕ) (due : List Edge) → IsTuned before t → ((t.four.present && t.four.listens) || (t.five.present && t.five.listens)) ≡ false
    → look ≡ t.time + delay_at Bb (left t.computer) 0 → due ≡ due_edges (lines_of t.lines)
    → due ++ edges_done (lines_of t.lines) (dropped_piece (lines_of t.lines) look) ≡ item_edges (state_of before t) (Sent b eoi)
dropped-edges before t b eoi look due i h k d =
    rw (d, k) (ap (λ (x : Done). due_edges (lines_of t.lines) ++ edges_done (lines_of t.lines) x.piece) (sym (done-dropped before t b eoi i h)))

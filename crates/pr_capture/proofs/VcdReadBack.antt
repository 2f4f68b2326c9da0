-- What is written of edges is read back: the edges that its samples make.
use Rattle.std.proofs.Common.{◌≡◌, ℕ, ◌+◌, ◌-◌, ◌<◌, ◌==◌, Bool, true, false, List, [], ◌∷◌, ◌++◌, refl, ap, sym, ◌∙◌, arith, append_assoc, append-nil, None, Some}
use Rattle.std.specs.Prelude.{map}
use Rattle.std.proofs.lemmas.Grind.{common_steps}
use Rattle.pr_wire.specs.declared.Levels.{Levels}
use Rattle.pr_wire.specs.declared.Edge.{Edge}
use Rattle.pr_wire.specs.Levels.{edge_at}
use Rattle.pr_wire.specs.Table.{differ}
use Rattle.pr_capture.specs.declared.signals.Signals.{Signals}
use Rattle.pr_capture.specs.Recording.{alike, CaptureContents}
use Rattle.pr_capture.specs.Samples.{begin_at, changes_after, counted_from, edges_of, last_at_each}
use Rattle.pr_capture.specs.VcdReading.{nothing_seen, vcd_contents}
use Rattle.pr_capture.specs.Vcd.{edge_changes, head, last_edge, vcd_changes, vcd_end, vcd_of}
use Rattle.pr_capture.specs.VcdReadingLaws.{IsAsWritten, RunsOn}
use Rattle.pr_capture.proofs.VcdReadLines.{last_of, last_sample, reads-append, reads-behind, reads-first, samples_at, samples_behind, seen_at, told_here, vcd-begins, where_differ, Reads}

-- a moment is not a later one
pub not-same : (t u : ℕ) → t < u → (t == u) ≡ false
not-same t u h = grind (arith, common_steps)

same-time : (t : ℕ) → (t == t) ≡ true
same-time t = grind (arith, common_steps)

-- of two samples at one moment the later counts
drop-first : (t : ℕ) (k l : Levels) (more : List Edge)
    → last_at_each ((record { time = t; levels = k }) ∷ (record { time = t; levels = l }) ∷ more) ≡ last_at_each ((record { time = t; levels = l }) ∷ more)
drop-first t k l more = rw (same-time t) refl

atn-dropped : (t : ℕ) (x y c l : Bool) (more : List Edge)
    → last_at_each (edge_at t x c l ∷ (where_differ x y (edge_at t y c l) ++ more)) ≡ last_at_each (edge_at t y c l ∷ more)
atn-dropped t true true c l more = refl
atn-dropped t false false c l more = refl
atn-dropped t true false c l more = drop-first t _ _ more
atn-dropped t false true c l more = drop-first t _ _ more

clock-dropped : (t : ℕ) (a x y l : Bool) (more : List Edge)
    → last_at_each (edge_at t a x l ∷ (where_differ x y (edge_at t a y l) ++ more)) ≡ last_at_each (edge_at t a y l ∷ more)
clock-dropped t a true true l more = refl
clock-dropped t a false false l more = refl
clock-dropped t a true false l more = drop-first t _ _ more
clock-dropped t a false true l more = drop-first t _ _ more

line-dropped : (t : ℕ) (a c x y : Bool) (more : List Edge)
    → last_at_each (edge_at t a c x ∷ (where_differ x y (edge_at t a c y) ++ more)) ≡ last_at_each (edge_at t a c y ∷ more)
line-dropped t a c true true more = refl
line-dropped t a c false false more = refl
line-dropped t a c true false more = drop-first t _ _ more
line-dropped t a c false true more = drop-first t _ _ more

-- of an edge's samples the last counts
last-counts : (t : ℕ) (k l : Levels) (more : List Edge)
    → last_at_each (samples_at t k l ++ more) ≡ last_at_each ((record { time = t; levels = l }) ∷ more)
last-counts t k l more =
    let p : List Edge = where_differ k.atn l.atn (edge_at t l.atn k.clock k.line) in
    let q : List Edge = where_differ k.clock l.clock (edge_at t l.atn l.clock k.line) in
    let r : List Edge = where_differ k.line l.line (edge_at t l.atn l.clock l.line) in
    ap (λ (v : List Edge). last_at_each (edge_at t k.atn k.clock k.line ∷ v)) (append_assoc (p ++ q) r more ∙ append_assoc p q (r ++ more))
    ∙ (atn-dropped t k.atn l.atn k.clock k.line (q ++ (r ++ more))
    ∙ (clock-dropped t l.atn k.clock l.clock k.line (r ++ more) ∙ line-dropped t l.atn l.clock k.line l.line more))

-- what follows an edge is later
begins-later : (b : Edge) (es : List Edge) → RunsOn (Some b) es → begin_at b.time (samples_behind b es) ≡ false
begins-later b [] h = not-same b.time (b.time + 1000) (omega arith)
begins-later b (e ∷ es) h = not-same b.time e.time h.0

stays : (b : Edge) (es : List Edge) → RunsOn (Some b) es → last_at_each (b ∷ samples_behind b es) ≡ b ∷ last_at_each (samples_behind b es)
stays b es h = rw (begins-later b es h) refl

-- the last levels are said again
said-again : (l : Levels) → differ l l ≡ false
said-again l = step l.atn l.clock l.line
  where
    step : (a c d : Bool) → differ (record { atn = a; clock = c; line = d }) (record { atn = a; clock = c; line = d }) ≡ false
    step true true true = refl
    step true true false = refl
    step true false true = refl
    step true false false = refl
    step false true true = refl
    step false true false = refl
    step false false true = refl
    step false false false = refl

edges-behind : (b : Edge) (es : List Edge) → RunsOn (Some b) es → changes_after (Some b.levels) (last_at_each (samples_behind b es)) ≡ es
edges-behind b [] h = rw (said-again b.levels) refl
edges-behind b (e ∷ es) h =
    ap (changes_after (Some b.levels)) (last-counts e.time b.levels e.levels (samples_behind e es) ∙ stays e es h.3)
    ∙ rw h.1 (ap (λ (v : List Edge). e ∷ v) (edges-behind e es h.3))

pub from-zero : (ss : List Edge) → map (counted_from 0) ss ≡ ss
from-zero [] = refl
from-zero (e ∷ es) =
    let t : e.time - 0 ≡ e.time = omega arith in
    ap (λ (v : ℕ). (record { time = v; levels = e.levels }) ∷ map (counted_from 0) es) t ∙ ap (λ (v : List Edge). e ∷ v) (from-zero es)

-- the samples of all edges
abbrev samples_of : List Edge → List Edge
samples_of [] = []
samples_of (e ∷ es) = (e ∷ []) ++ samples_behind e es

all-told : (s : Signals) → IsAsWritten s → (es : List Edge) → RunsOn None es → vcd_contents s (vcd_of es) ≡ record { samples = samples_of es; fault = None }
unfolding vcd_of
all-told s h [] k = ap (vcd_contents s) (append_assoc head [] []) ∙ vcd-begins s h []
all-told s h (e ∷ es) k =
    let i : s.probes ≡ alike false = h.straight in
    let rest : List ℕ = vcd_changes (Some e) es ++ vcd_end (last_edge (Some e) es) in
    let whole : List ℕ = edge_changes None e ++ rest in
    let reads : Reads s whole nothing_seen (seen_at (last_sample (last_of e es))) (samples_of (e ∷ es)) =
    reads-append s (edge_changes None e) rest nothing_seen (seen_at e) (seen_at (last_sample (last_of e es))) (e ∷ []) (samples_behind e es)
    (reads-first s i e k.0) (reads-behind s i e es k.0 k.1) in
    let told = reads 8 [] in
    ap (vcd_contents s)
    (append_assoc head (vcd_changes None (e ∷ es)) (vcd_end (last_edge None (e ∷ es)))
    ∙ ap (λ v. head ++ v) (append_assoc (edge_changes None e) (vcd_changes (Some e) es) (vcd_end (last_edge (Some e) es))))
    ∙ (vcd-begins s h whole
    ∙ (ap (told_here s 8 nothing_seen) (sym (append-nil whole))
    ∙ (told.1 ∙ ap (λ v. record { samples = v; fault = None }) (append-nil (samples_of (e ∷ es))))))

pub read-sound : (s : Signals) (es : List Edge) → IsAsWritten s → RunsOn None es → (vcd_contents s (vcd_of es)).fault ≡ None
read-sound s es h k = ap (λ (t : CaptureContents). t.fault) (all-told s h es k)

pub read-edges : (s : Signals) (es : List Edge) → IsAsWritten s → RunsOn None es → edges_of 0 (vcd_contents s (vcd_of es)).samples ≡ es
unfolding edges_of
read-edges s es h k = ap (λ (t : CaptureContents). edges_of 0 t.samples) (all-told s h es k) ∙ again es k
  where
    again : (es : List Edge) → RunsOn None es → edges_of 0 (samples_of es) ≡ es
    again [] k = refl
    again (e ∷ es) k =
        ap (λ v. changes_after None (last_at_each v)) (from-zero (e ∷ samples_behind e es))
        ∙ (ap (changes_after None) (stays e es k.1) ∙ ap (λ (v : List Edge). e ∷ v) (edges-behind e es k.1))

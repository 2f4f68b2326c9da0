-- A trace that is written step by step.
use Rattle.std.proofs.Common.{◌≡◌, ℕ, suc, ◌+◌, ◌<◌, get_or, drop, drop-cons, add-one, length, Option, Some, None, Result, Ok, Err, IfOk, IsErrAnd, List, [], ◌∷◌, ◌++◌, sym, ap, ◌∙◌, subst, append_assoc, append-nil, refl}
use Rattle.std.proofs.lemmas.Grind.{flat_map-append}
use Rattle.std.proofs.KnownBytes.{Appends-nil, Appends-trans}
use Rattle.std.specs.Io.KnownBytes.{Appends}
use Rattle.pr_wire.specs.declared.Edge.{Edge}
use Rattle.pr_wire.specs.TraceText.{edge_text, trace_text}
use Rattle.pr_capture.specs.Vcd.{vcd_of}
use Rattle.pr_capture.specs.VcdLaws.{VcdAddsUp}
use Rattle.pr_capture.specs.declared.format.OutputFormat.{OutputFormat}
use Rattle.pr_capture.specs.declared.format.OutputFormat.TheVariants as format
use Rattle.pr_serial.specs.Items.{items_of}
use Rattle.pr_channels.specs.declared.faults.Stop.{Stop}
use Rattle.pr_basic.specs.declared.statement.Statement.{Statement}
use Rattle.pr_system.specs.RunningState.{RunningState, stepped_by, trace_before, trace_so_far}
use Rattle.pr_system.specs.StepByStep.{unless_stopped, stepped_through}
use Rattle.pr_system.specs.Laws.{StepsAddToTheTrace, StepsOnlyAddEdges}
use Rattle.pr_jobs.specs.Bus.{trace_in}
use Rattle.pr_jobs.specs.Traced.{edges_in, end_in, format_of, head_in, last_in, last_of, text_so_far, GivesText, HasWritten, LeavesFront}
use Rattle.pr_input.specs.PartlyWritten.{AppendsFront}
use Rattle.pr_jobs.specs.declared.trace_writer.TraceWriter.{TraceWriter}
use Rattle.pr_jobs.specs.declared.fault.CliFault.{CliFault}
use Rattle.pr_jobs.specs.declared.fault.CliFault.TheVariants.{Script, Trace, Wave, Capture, Picture, TooLarge, NoMemory, ReadFailed, WriteFailed}

-- a text, and then more
pub appends_more : (a b c : Option (List ℕ)) (xs ys zs : List ℕ) → zs ≡ xs ++ ys → Appends a b xs → Appends b c ys → Appends a c zs
appends_more a b c xs ys zs is h k = let P : List ℕ → Type 0 = λ t. Appends a c t in subst P (sym is) (Appends-trans a b c xs ys h k)

-- a text, and then a beginning of more
pub front_more : (a b c : Option (List ℕ)) (xs ys zs : List ℕ) → zs ≡ xs ++ ys → Appends a b xs → AppendsFront b c ys → AppendsFront a c zs
front_more a b c xs ys zs is h k = (xs ++ k.0, k.1, is ∙ ap (λ t. xs ++ t) k.2 ∙ sym (append_assoc xs k.0 k.1), Appends-trans a b c xs k.0 h k.3)

-- a beginning of a text is one of that text and more
pub front_longer : (a b : Option (List ℕ)) (xs ys zs : List ℕ) → zs ≡ xs ++ ys → AppendsFront a b xs → AppendsFront a b zs
front_longer a b xs ys zs is h = (h.0, h.1 ++ ys, is ∙ ap (λ t. t ++ ys) h.2 ∙ append_assoc h.0 h.1 ys, h.3)

-- a whole text is a beginning of itself
pub whole_front : (a b : Option (List ℕ)) (text : List ℕ) → Appends a b text → AppendsFront a b text
whole_front a b text h = (text, [], sym (append-nil text), h)

-- nothing written is a beginning of every text
pub none_front : (a : Option (List ℕ)) (text : List ℕ) → AppendsFront a a text
none_front a text = ([], text, refl, Appends-nil a)

-- lack of memory, after a beginning of the text
pub memory_front : {Y : Type 0} (r : Result Y CliFault) (text : List ℕ) (a b : Option (List ℕ)) → IsErrAnd r (λ f. f ≡ NoMemory) → AppendsFront a b text → GivesText text a b r
memory_front (Ok y) text a b e h = absurd e
memory_front (Err f) text a b e h = rw e h

-- a fault of a part, after a beginning of the text
moved : (f : CliFault) (xs ys : List ℕ) (a b c : Option (List ℕ)) → LeavesFront xs b c f → (AppendsFront b c xs → AppendsFront a c ys) → LeavesFront ys a c f
moved (Script x) xs ys a b c h k = absurd h
moved (Trace x) xs ys a b c h k = absurd h
moved (Wave x) xs ys a b c h k = absurd h
moved (Capture x) xs ys a b c h k = absurd h
moved (Picture x) xs ys a b c h k = absurd h
moved TooLarge xs ys a b c h k = absurd h
moved NoMemory xs ys a b c h k = k h
moved ReadFailed xs ys a b c h k = absurd h
moved WriteFailed xs ys a b c h k = k h

-- the same fault, as a `?` hands it on
pub fault_front : {Y : Type 0} (f : CliFault) (r : Result Y CliFault) (xs ys : List ℕ) (a b c : Option (List ℕ)) → IsErrAnd r (λ g. g ≡ f) → LeavesFront xs b c f → (AppendsFront b c xs → AppendsFront a c ys) → GivesText ys a c r
fault_front f (Ok y) xs ys a b c e h k = absurd e
fault_front f (Err g) xs ys a b c e h k = rw e (moved f xs ys a b c h k)

-- a fault answers no ending
pub no_ending : {Y : Type 0} (r : Result Y CliFault) (Q : CliFault → Type 0) (P : Y → Type 0) → IsErrAnd r Q → IfOk r P
no_ending (Ok y) Q P e = absurd e
no_ending (Err f) Q P e = tt

-- edges and more edges in a format
edges_more : VcdAddsUp → (f : OutputFormat) (before : Option Edge) (xs ys : List Edge) → edges_in f before (xs ++ ys) ≡ edges_in f before xs ++ edges_in f (last_in f before xs) ys
edges_more law format.Text before xs ys = flat_map-append edge_text xs ys
edges_more law format.Vcd before xs ys = law.changes before xs ys

last_more : VcdAddsUp → (f : OutputFormat) (before : Option Edge) (xs ys : List Edge) → last_in f before (xs ++ ys) ≡ last_in f (last_in f before xs) ys
last_more law format.Text before xs ys = refl
last_more law format.Vcd before xs ys = law.last before xs ys

-- the text of edges and more edges
pub so_far_more : VcdAddsUp → (f : OutputFormat) (xs ys zs : List Edge) → zs ≡ xs ++ ys → text_so_far f zs ≡ text_so_far f xs ++ edges_in f (last_in f None xs) ys
so_far_more law f xs ys zs is =
    ap (text_so_far f) is ∙ (ap (λ t. head_in f ++ t) (edges_more law f None xs ys) ∙ sym (append_assoc (head_in f) (edges_in f None xs) (edges_in f (last_in f None xs) ys)))

-- the whole text of a trace
pub whole_text : (f : OutputFormat) (edges : List Edge) → trace_in f edges ≡ text_so_far f edges ++ end_in f (last_in f None edges)
unfolding vcd_of
whole_text format.Text edges = sym (append-nil (trace_text edges))
whole_text format.Vcd edges = refl

-- a beginning of the text so far is one of the whole text of these edges and more
pub front_of_whole : VcdAddsUp → (f : OutputFormat) (xs ys zs : List Edge) (a b : Option (List ℕ)) → zs ≡ xs ++ ys → AppendsFront a b (text_so_far f xs) → AppendsFront a b (trace_in f zs)
front_of_whole law f xs ys zs a b is h =
    front_longer a b (text_so_far f zs) (end_in f (last_in f None zs)) (trace_in f zs) (whole_text f zs)
    (front_longer a b (text_so_far f xs) (edges_in f (last_in f None xs) ys) (text_so_far f zs) (so_far_more law f xs ys zs is) h)

-- a writer that has written nothing
pub written_none : (f : OutputFormat) (w : TraceWriter) → format_of w ≡ f → last_of w ≡ None → HasWritten f [] w
written_none f w a b = record { format_is = a; last_is = by f b }
  where
    by : (f : OutputFormat) → last_of w ≡ None → last_of w ≡ last_in f None []
    by format.Text b = b
    by format.Vcd b = b

-- what it writes after edges
pub next_edges : (f : OutputFormat) (w : TraceWriter) (xs ys : List Edge) → HasWritten f xs w → edges_in (format_of w) (last_of w) ys ≡ edges_in f (last_in f None xs) ys
next_edges f w xs ys h = rw (h.format_is, h.last_is) refl

-- the text of the edges before and of those that it writes next
pub added_edges : VcdAddsUp → (f : OutputFormat) (w : TraceWriter) (xs ys zs : List Edge) → zs ≡ xs ++ ys → HasWritten f xs w
    → text_so_far f zs ≡ text_so_far f xs ++ edges_in (format_of w) (last_of w) ys
added_edges law f w xs ys zs is h = so_far_more law f xs ys zs is ∙ ap (λ t. text_so_far f xs ++ t) (sym (next_edges f w xs ys h))

-- a writer that has written more edges
pub written_more : VcdAddsUp → (f : OutputFormat) (v w : TraceWriter) (xs ys zs : List Edge) → zs ≡ xs ++ ys → HasWritten f xs v → format_of w ≡ format_of v
    → last_of w ≡ last_in (format_of v) (last_of v) ys → HasWritten f zs w
written_more law f v w xs ys zs is h a b = record {
  format_is = a ∙ h.format_is;
  last_is = b ∙ (rw (h.format_is, h.last_is) (sym (last_more law f None xs ys) ∙ ap (last_in f None) (sym is)));
}

-- a step adds its edges
pub joined : StepsAddToTheTrace → (run new : RunningState) (statement : Statement) (edges : List Edge) → run.items ≡ items_of run.elements → new ≡ stepped_by run statement
    → trace_before new ++ edges ≡ trace_so_far new → trace_so_far (stepped_by run statement) ≡ trace_so_far run ++ edges
joined law run new statement edges sent is told =
    sym (ap (λ xs. xs ++ edges) (sym (ap trace_before is ∙ law run statement sent)) ∙ told ∙ ap trace_so_far is)

-- what comes in both cases
unless_same : (stop : Option (ℕ × Stop)) (run : RunningState) → unless_stopped stop run run ≡ run
unless_same None run = refl
unless_same (Some stop) run = refl

-- one step only adds edges
pub one_grows : StepsOnlyAddEdges → (run : RunningState) (statement : Statement) → run.items ≡ items_of run.elements → (more : List Edge) × (trace_so_far (stepped_by run statement) ≡ trace_so_far run ++ more)
one_grows law run statement sent =
    let next = stepped_by run statement in
    let grown = law run (statement ∷ []) sent in
    (grown.0, ap trace_so_far (sym (unless_same next.stop next)) ∙ grown.1)

-- the steps after the next one only add edges to what that leaves
rest_grows : StepsOnlyAddEdges → (next : RunningState) (stop : Option (ℕ × Stop)) (left : List Statement) → next.items ≡ items_of next.elements → (more : List Edge) × (trace_so_far (unless_stopped stop next (stepped_through next left)) ≡ trace_so_far next ++ more)
rest_grows law next None left sent = law next left sent
rest_grows law next (Some stop) left sent = ([], sym (append-nil (trace_so_far next)))

-- a beginning of the trace after the next step is one of the trace after all steps
pub front_of_all : VcdAddsUp → StepsOnlyAddEdges → (f : OutputFormat) (run all : RunningState) (statement : Statement) (left : List Statement) (a b : Option (List ℕ)) → stepped_through run (statement ∷ left) ≡ all
    → AppendsFront a b (text_so_far f (trace_so_far (stepped_by run statement))) → AppendsFront a b (text_so_far f (trace_so_far all))
front_of_all adds law f run all statement left a b is h =
    let next = stepped_by run statement in
    let grown = rest_grows law next next.stop left refl in
    front_longer a b (text_so_far f (trace_so_far next)) _ (text_so_far f (trace_so_far all))
    (so_far_more adds f (trace_so_far next) grown.0 (trace_so_far all) (ap trace_so_far (sym is) ∙ grown.1)) h

-- one element of what is left
pub cut_at : {A : Type 0} (xs : List A) (i : ℕ) (x : A) → i < length xs → x ≡ get_or xs i x → drop i xs ≡ x ∷ drop (i + 1) xs
cut_at xs i x within is = rw add-one (drop-cons xs i x within ∙ ap (λ y. y ∷ drop (suc i) xs) (sym is))

-- the first edges are the trace before any step
pub first_edges : (run : RunningState) (edges : List Edge) → trace_before run ≡ [] → trace_before run ++ edges ≡ trace_so_far run → trace_so_far run ≡ edges
first_edges run edges none told = sym told ∙ ap (λ xs. xs ++ edges) none

-- a beginning of what comes before the edges
pub head_front : (f : OutputFormat) (edges : List Edge) (a b : Option (List ℕ)) (text : List ℕ) → text ≡ head_in f → AppendsFront a b text → AppendsFront a b (trace_in f edges)
head_front f edges a b text is h =
    let rest = edges_in f None edges ++ end_in f (last_in f None edges) in
    front_longer a b text rest (trace_in f edges)
    (whole_text f edges ∙ (append_assoc (head_in f) (edges_in f None edges) (end_in f (last_in f None edges)) ∙ ap (λ t. t ++ rest) (sym is))) h

-- what comes before the edges, and the first of them
pub begun_text : (f : OutputFormat) (w : TraceWriter) (edges first : List Edge) (text : List ℕ) → first ≡ edges → text ≡ head_in f → format_of w ≡ f → last_of w ≡ None
    → text_so_far f first ≡ text ++ edges_in (format_of w) (last_of w) edges
begun_text f w edges first text same is a b = rw (same, is, a, b) refl

-- a writer and what is written when the first edges are: what comes before them, and their text
pub first_written : VcdAddsUp → (f : OutputFormat) (v w : TraceWriter) (edges first : List Edge) (head : List ℕ) (old mid now : Option (List ℕ)) → first ≡ edges → head ≡ head_in f → format_of v ≡ f → last_of v ≡ None
    → Appends old mid head → Appends mid now (edges_in (format_of v) (last_of v) edges) → format_of w ≡ format_of v → last_of w ≡ last_in (format_of v) (last_of v) edges
    → HasWritten f first w × Appends old now (text_so_far f first)
first_written law f v w edges first head old mid now same is a b h k c d = (
  written_more law f v w [] edges first same (written_none f v a b) c d,
  appends_more old mid now head (edges_in (format_of v) (last_of v) edges) (text_so_far f first) (begun_text f v edges first head same is a b) h k,
)

-- what follows all edges
pub ended_text : (f : OutputFormat) (w : TraceWriter) (edges : List Edge) (text : List ℕ) → HasWritten f edges w → text ≡ end_in (format_of w) (last_of w)
    → trace_in f edges ≡ text_so_far f edges ++ text
ended_text f w edges text h is = whole_text f edges ∙ ap (λ t. text_so_far f edges ++ t) (sym (is ∙ rw (h.format_is, h.last_is) refl))

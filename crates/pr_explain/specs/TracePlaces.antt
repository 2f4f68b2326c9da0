-- Trusted: the places that the explanations of traces and of recordings have: the line that cannot
-- be read, and the edge at which the trace is no longer lawful, or time goes back.
use Rattle.std.specs.Prelude.{◌≡◌, ◌↔◌, IsTrue, ℕ, ◌+◌, ◌-◌, ◌<◌, ◌≤◌, ◌^◌, nat_lt, Bool, true, false, if◌then◌else◌, List, [], ◌∷◌, ◌++◌, length, take, Option, Some, None}
use Rattle.std.specs.List.{list_all, list_any}
use Rattle.pr_wire.specs.declared.Edge.{Edge}
use Rattle.pr_wire.specs.declared.Levels.{Levels}
use Rattle.pr_wire.specs.declared.text.TraceFault.TheVariants as trace
use Rattle.pr_wire.specs.Table.{IsAllowed, differ, fault_of}
use Rattle.pr_capture.specs.declared.fault.CaptureFault.{CaptureFault}
use Rattle.pr_capture.specs.declared.fault.CaptureFault.TheVariants as capture
use Rattle.pr_capture.specs.declared.format.TraceInput.{TraceInput}
use Rattle.pr_jobs.specs.Report.{Says, edges_checked}
use Rattle.pr_jobs.specs.declared.fault.CliFault.{CliFault}
use Rattle.pr_jobs.specs.declared.fault.CliFault.TheVariants.{Trace, Capture}
use Rattle.pr_explain.specs.Rows.{all_lead_apart, has_moment, takes}
use Rattle.pr_explain.specs.declared.edges.EdgePlace.{EdgePlace}
use Rattle.pr_explain.specs.declared.rows.Miss.{Miss}
use Rattle.pr_explain.specs.declared.rows.Miss.TheVariants.{Early, Late}
use Rattle.pr_explain.specs.declared.rows.Row.{Row}
use Rattle.pr_explain.specs.declared.traces.ReadingPlace.{ReadingPlace}
use Rattle.pr_explain.specs.declared.traces.ReadingPlace.TheVariants as read
use Rattle.pr_explain.specs.declared.traces.TracePlace.{TracePlace}

-- Edges.

-- the rows of the edges that may follow others: an edge is allowed after them exactly if one of the rows takes it
abbrev pub AreRowsAfter : List (Option Row) → List Edge → Type 0
AreRowsAfter rows before =
    (e : Edge) → e.time < 2 ^ 64
    → IsTrue (list_any (λ row. takes row e) rows) ↔ IsAllowed (before ++ e ∷ [])

-- the row to these levels, if there is one
abbrev pub row_to : Levels → List (Option Row) → Option Row
row_to l [] = None
row_to l (None ∷ rows) = row_to l rows
row_to l (Some r ∷ rows) = if differ r.levels l then row_to l rows else Some r

-- by how much a moment is outside the interval of a row, if it is
abbrev pub missed_late : Option ℕ → (time : ℕ) → Option Miss
missed_late None time = None
missed_late (Some latest) time = if nat_lt latest time then Some (Late (time - latest)) else None

abbrev pub missed_by : Option Row → (time : ℕ) → Option Miss
missed_by None time = None
missed_by (Some r) time =
    if nat_lt time r.earliest then Some (Early (r.earliest - time)) else missed_late r.latest time

-- by how much the first edge after the allowed ones is outside the interval of the row to its levels
abbrev pub missed_first : List (Option Row) → List Edge → Option Miss
missed_first rows [] = None
missed_first rows (e ∷ es) = missed_by (row_to e.levels rows) e.time

-- where edges stop being lawful: the next edge is not allowed, or there is no next edge and none will come
abbrev pub StopAfter : (whole : Bool) → (before after : List Edge) → Type 0
StopAfter whole before [] = IsTrue whole
StopAfter whole before (e ∷ es) = IsAllowed (before ++ e ∷ []) → ⊥

-- where edges stop being lawful: how many are allowed, their first fault, the edges that may follow,
-- in rows that each have a moment and lead to other levels, and by how much the next misses these
pub record AreStopped (whole : Bool) (edges : List Edge) (p : EdgePlace) : Type 0 where
  pub before : List Edge
  pub after : List Edge
  pub cut : edges ≡ before ++ after
  pub allowed : IsAllowed before
  pub index : p.index ≡ length before
  pub stop : StopAfter whole before after
  pub fault : fault_of edges ≡ Some p.fault
  pub expected : AreRowsAfter p.expected before
  pub moments : list_all has_moment p.expected ≡ true
  pub levels : all_lead_apart p.expected ≡ true
  pub missed : p.missed ≡ missed_first p.expected after

-- edges stop being lawful here, or are lawful; if they are not whole, more edges may follow
abbrev pub StopsAt : (whole : Bool) → List Edge → Option EdgePlace → Type 0
StopsAt whole edges (Some p) = AreStopped whole edges p
StopsAt true edges None = fault_of edges ≡ None
StopsAt false edges None = IsAllowed edges

-- Lines.

-- the line of a recording's fault, from 1
abbrev pub capture_line : CaptureFault → Option ℕ
capture_line (capture.NoSignal n wire) = Some n
capture_line (capture.BadWord n) = Some n
capture_line (capture.NoEnd n) = Some n
capture_line (capture.NoDefinitions n) = Some n
capture_line (capture.TwoSignals n wire) = Some n
capture_line (capture.NoTimescale n) = Some n
capture_line (capture.BadTimescale n) = Some n
capture_line (capture.NoTime n) = Some n
capture_line (capture.BadTime n) = Some n
capture_line (capture.GoesBack n) = Some n
capture_line (capture.NoLevel n wire) = Some n
capture_line (capture.Unknown n) = Some n
capture_line (capture.Floating n) = Some n
capture_line (capture.BadLevel n) = Some n
capture_line capture.WideText = Some 1
capture_line capture.Archive = Some 1
capture_line capture.NoMemory = None

-- the line of a fault of an input, from 1
abbrev pub fault_line : CliFault → Option ℕ
fault_line (Trace (trace.BadLine n)) = Some n
fault_line (Capture fault) = capture_line fault
fault_line _ = None

-- Traces.

-- the place of an input's faults: the line of its own fault, if it has one, and where the edges
-- before that line, or all edges, stop being lawful
abbrev pub IsPlaceOf : List Edge → (own : Option CliFault) → TracePlace → Type 0
IsPlaceOf edges None p = (p.line ≡ None) × StopsAt true edges p.edge
IsPlaceOf edges (Some fault) p =
    (n : ℕ) × (p.line ≡ Some n) × (fault_line fault ≡ Some n) × StopsAt false edges p.edge

pub record IsTracePlace (input : TraceInput) (bytes : List ℕ) (p : TracePlace) : Type 0 where
  pub edges : List Edge
  pub own : Option CliFault
  pub says : Says input bytes edges own
  pub is_place : IsPlaceOf (edges_checked input.source edges) own p

-- the place of a lawful trace: none
abbrev pub nowhere : TracePlace
nowhere = record { line = None; edge = None }

-- Recordings.

-- edges after this moment, none of them earlier than the one before it
abbrev pub AreInOrderBehind : (last : ℕ) → List Edge → Type 0
AreInOrderBehind last [] = Unit {0}
AreInOrderBehind last (e ∷ es) = (last ≤ e.time) × AreInOrderBehind e.time es

abbrev pub AreInOrder : List Edge → Type 0
AreInOrder [] = Unit {0}
AreInOrder (e ∷ es) = AreInOrderBehind e.time es

-- the edge of this index is the first that is earlier than the one before it: the edges before it
-- are in order, and together with it they are not
abbrev pub GoesBackAt : List Edge → (index : ℕ) → Type 0
GoesBackAt edges index = AreInOrder (take index edges) × (AreInOrder (take (index + 1) edges) → ⊥)

-- the place of a recording's fault: the first edge with which time goes back, or else the line of
-- the recording's own fault, if it has one
abbrev pub IsPlaceRead : List Edge → (own : Option CliFault) → Option ReadingPlace → Type 0
IsPlaceRead edges own None = AreInOrder edges × (own ≡ None)
IsPlaceRead edges own (Some (read.Edge index)) = GoesBackAt edges index
IsPlaceRead edges own (Some (read.Line n)) =
    AreInOrder edges × (fault : CliFault) × (own ≡ Some fault) × (fault_line fault ≡ Some n)

pub record IsReadingPlace (input : TraceInput) (bytes : List ℕ) (p : Option ReadingPlace)
    : Type 0 where
  pub edges : List Edge
  pub own : Option CliFault
  pub says : Says input bytes edges own
  pub is_place : IsPlaceRead edges own p

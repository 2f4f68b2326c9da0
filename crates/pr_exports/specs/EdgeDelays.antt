-- Trusted: which delay of the profile each edge of a recording ends, and since when that delay counts. The table of lawful
-- traces says it, from a moment at which all lines are released to the first edge that the table refuses there.
use Rattle.std.specs.Prelude.{ℕ, Bool, not, ◌&&◌, if◌then◌else◌, List, [], ◌∷◌, ◌++◌, Option, Some, None, Result, Ok, Err}
use Rattle.pr_wire.specs.declared.Edge.{Edge}
use Rattle.pr_wire.specs.declared.Levels.{Levels}
use Rattle.pr_wire.specs.declared.bus_state.BusState.{BusState}
use Rattle.pr_wire.specs.declared.bus_state.BusState.TheVariants.{Idle, Call, Ready, Free, Pulse, After, Bit, High, Last, Ack, Freed}
use Rattle.pr_wire.specs.declared.bus_state.ByteRole.TheVariants.{First, Second, Data}
use Rattle.pr_wire.specs.declared.bus_state.EdgeError.{EdgeError}
use Rattle.pr_wire.specs.declared.bus_state.EdgeError.TheVariants.{Order, TooEarly, TooLate, Shape}
use Rattle.pr_wire.specs.declared.bus_state.Step.{Step}
use Rattle.pr_wire.specs.declared.delay.Kind.{Kind}
use Rattle.pr_wire.specs.declared.delay.Kind.TheVariants as kind
use Rattle.pr_wire.specs.Table.{verdict}
use Rattle.pr_exports.specs.declared.delays.Delay.{Delay}
use Rattle.pr_exports.specs.declared.delays.Place.{Place}

-- the kind of the delay that an edge to these levels ends where ATN was released after an attention
abbrev pub kind_freed : (unlistened : Bool) → Levels → Kind
kind_freed unlistened l = if l.atn && not l.clock then kind.Dr else (if unlistened then kind.Cr else kind.Bb)

-- the same at each place of the table; a rest may last for any time and has none
abbrev pub kind_at : BusState → Levels → Option Kind
kind_at (Idle i) l = None
kind_at (Call a pulled) l = Some (if l.clock then kind.Aw else kind.At)
kind_at (Ready r s) l = Some kind.H
kind_at (Free d s) l = Some (if l.clock then kind.Ye else kind.Ne)
kind_at (Pulse p d) l = Some kind.Ei
kind_at (After q) l = Some kind.Ry
kind_at (Bit c s eoi seen b) l = Some kind.S
kind_at (High u s eoi seen b) l = Some kind.V
kind_at (Last z s eoi seen) l = Some kind.F
kind_at (Ack k First byte) l = Some (if l.atn then kind.R else kind.Aw)
kind_at (Ack k Second byte) l = Some kind.R
kind_at (Ack k Data byte) l = Some kind.Bb
kind_at (Freed r unlistened released) l = Some (kind_freed unlistened l)

-- since when it counts
abbrev pub since_of : BusState → ℕ
since_of (Idle i) = i
since_of (Call a pulled) = a
since_of (Ready r s) = r
since_of (Free d s) = d
since_of (Pulse p d) = p
since_of (After q) = q
since_of (Bit c s eoi seen b) = c
since_of (High u s eoi seen b) = u
since_of (Last z s eoi seen) = z
since_of (Ack k s byte) = k
since_of (Freed r unlistened released) = r

-- the table begins at an edge after which all lines are released
abbrev pub resting : Edge → Option Place
resting e =
    if e.levels.atn && (e.levels.clock && e.levels.line) then Some (record { last = e; state = Idle e.time }) else None

-- an edge that the table takes, or that only comes too early or too late, ends its delay
abbrev pub delay_by : Result Step EdgeError → Delay → Option Delay
delay_by (Ok step) d = Some d
delay_by (Err TooEarly) d = Some d
delay_by (Err TooLate) d = Some d
delay_by (Err Order) d = None
delay_by (Err Shape) d = None

-- an edge that the table refuses ends what is known, unless the table can begin there
abbrev pub place_by : Result Step EdgeError → Edge → Option Place
place_by (Ok step) e = Some (record { last = e; state = step.place })
place_by (Err flaw) e = resting e

abbrev pub delay_at : Option Place → Edge → Option Delay
delay_at None e = None
delay_at (Some p) e =
    delay_by (verdict p.last p.state e) (record { kind = kind_at p.state e.levels; since = since_of p.state })

abbrev pub place_after : Option Place → Edge → Option Place
place_after None e = resting e
place_after (Some p) e = place_by (verdict p.last p.state e) e

-- a kind by its place among the bounds of the delays; 14 is a rest
abbrev pub kind_number : Option Kind → ℕ
kind_number (Some kind.Bb) = 0
kind_number (Some kind.Aw) = 1
kind_number (Some kind.Ne) = 2
kind_number (Some kind.Ry) = 3
kind_number (Some kind.S) = 4
kind_number (Some kind.V) = 5
kind_number (Some kind.R) = 6
kind_number (Some kind.Cr) = 7
kind_number (Some kind.At) = 8
kind_number (Some kind.H) = 9
kind_number (Some kind.Ye) = 10
kind_number (Some kind.Ei) = 11
kind_number (Some kind.F) = 12
kind_number (Some kind.Dr) = 13
kind_number None = 14

-- a delay as two numbers: its kind, and since when it counts; 15 and 0 where an edge ends none that is known
abbrev pub delay_numbers : Option Delay → List ℕ
delay_numbers None = 15 ∷ 0 ∷ []
delay_numbers (Some d) = kind_number d.kind ∷ d.since ∷ []

-- those of edges, from a place on
abbrev pub numbers_from : Option Place → List Edge → List ℕ
numbers_from place [] = []
numbers_from place (e ∷ es) = delay_numbers (delay_at place e) ++ numbers_from (place_after place e) es

-- those of the edges of a recording
abbrev pub edge_delays : List Edge → List ℕ
edge_delays edges = numbers_from None edges

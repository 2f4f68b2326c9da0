-- Linking words: how far a list of edges comes in the table, edge by edge, for crates above: with
-- these a receiver needs none of this crate's proofs. The laws on `allowed_traces` tie them to
-- lawful traces, frames and faults. No reader needs to believe them.
use Rattle.std.specs.Prelude.{◌≡◌, ℕ, ◌+◌, Bool, false, List, [], ◌∷◌, Option, Some, None, Result, Ok, Err, if◌then◌else◌}
use Rattle.pr_wire.specs.declared.Edge.{Edge}
use Rattle.pr_wire.specs.declared.Frame.{Frame}
use Rattle.pr_wire.specs.declared.WaveFault.{WaveFault}
use Rattle.pr_wire.specs.declared.WaveFault.TheVariants.{Start, Truncated}
use Rattle.pr_wire.specs.declared.bus_state.EdgeError.{EdgeError}
use Rattle.pr_wire.specs.declared.bus_state.Step.{Step}
use Rattle.pr_wire.specs.declared.bus_state.BusState.{BusState}
use Rattle.pr_wire.specs.declared.bus_state.BusState.TheVariants.{Idle}
use Rattle.pr_wire.specs.Pieces.{Between, Piece, AreLawful, edges_of, frames_of}
use Rattle.pr_wire.specs.Table.{verdict, fault_at, is_start, may_end}

-- how far a list of edges has come: its last edge, the place reached, the frames come by, the latest first, and its length
pub record Reached : Type 0 where
  pub last : Option Edge
  pub place : BusState
  pub before : List Frame
  pub count : ℕ

-- no edge has come
abbrev pub begin : Reached
begin = record { last = None; place = Idle 0; before = []; count = 0 }

-- what the first edge comes to
abbrev pub first_step : Edge → Result Step WaveFault
first_step e = if is_start e then Ok (record { place = Idle 0; frame = None }) else Err (Start 0)

-- a flaw, as the fault of the edge at an index
abbrev pub indexed : ℕ → Result Step EdgeError → Result Step WaveFault
indexed n (Ok s) = Ok s
indexed n (Err f) = Err (fault_at f n)

-- what an edge comes to after the last one, with its index
abbrev pub step_of : Option Edge → BusState → ℕ → Edge → Result Step WaveFault
step_of None p n e = first_step e
step_of (Some last) p n e = indexed n (verdict last p e)

-- the frame that an edge ends, before those before it
abbrev pub add : {A : Type 0} → Option A → List A → List A
add None xs = xs
add (Some x) xs = x ∷ xs

-- one step on
abbrev pub onto : Reached → Edge → Step → Reached
onto r e s = record { last = Some e; place = s.place; before = add s.frame r.before; count = r.count + 1 }

-- what comes next, where there was no fault
abbrev pub led : {A B : Type 0} → (A → Result B WaveFault) → Result A WaveFault → Result B WaveFault
led next (Ok a) = next a
led next (Err w) = Err w

-- one edge more
abbrev pub one_more : Reached → Edge → Result Reached WaveFault
one_more r e = led (λ s. Ok (onto r e s)) (step_of r.last r.place r.count e)

-- where edges lead, or the fault of the first of them that has one
abbrev pub reached : Reached → List Edge → Result Reached WaveFault
reached r [] = Ok r
reached r (e ∷ es) = led (λ s. reached (onto r e s) es) (step_of r.last r.place r.count e)

-- a trace may end after the last edge, in the place reached; none ends before its first edge
abbrev pub may_stop : Option Edge → BusState → Bool
may_stop None p = false
may_stop (Some last) p = may_end p

-- the fault of a list that ends after its last edge, in the place reached, and has this many edges
abbrev pub fault_at_stop : Option Edge → BusState → ℕ → Option WaveFault
fault_at_stop None p n = Some (Start 0)
fault_at_stop (Some last) p n = if may_end p then None else Some (Truncated n)

-- the fault of a list that has come there
abbrev pub fault_by : Result Reached WaveFault → Option WaveFault
fault_by (Err w) = Some w
fault_by (Ok r) = fault_at_stop r.last r.place r.count

-- the edges are whole lawful pieces after what is there, and spell the frames
pub record Onwards (b : Between) (es : List Edge) (fs : List Frame) : Type 0 where
  pub pieces : List Piece
  pub lawful : AreLawful b pieces
  pub edges : es ≡ edges_of b pieces
  pub frames : fs ≡ frames_of pieces

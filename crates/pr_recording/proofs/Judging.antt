-- The first fault of edges is never lack of memory.
use Rattle.std.proofs.Common.{◌≡◌, ℕ, ◌+◌, Bool, true, false, List, [], ◌∷◌, Some, None, Result, Ok, Err}
use Rattle.std.specs.Prelude.{if◌then◌else◌}
use Rattle.pr_wire.specs.declared.Edge.{Edge}
use Rattle.pr_wire.specs.declared.WaveFault.TheVariants as wave
use Rattle.pr_wire.specs.declared.bus_state.BusState.{BusState}
use Rattle.pr_wire.specs.declared.bus_state.BusState.TheVariants.{Idle}
use Rattle.pr_wire.specs.declared.bus_state.EdgeError.{EdgeError}
use Rattle.pr_wire.specs.declared.bus_state.EdgeError.TheVariants as flaw
use Rattle.pr_wire.specs.declared.bus_state.Step.{Step}
use Rattle.pr_wire.specs.Table.{fault_at, fault_from, fault_of, fault_or, is_start, may_end, verdict}

no_memory_at : (f : EdgeError) (n : ℕ) → fault_at f n ≡ wave.NoMemory → ⊥
no_memory_at flaw.Order n h = cc
no_memory_at flaw.TooEarly n h = cc
no_memory_at flaw.TooLate n h = cc
no_memory_at flaw.Shape n h = cc

no_memory_from : (n : ℕ) (last : Edge) (p : BusState) (es : List Edge) → fault_from n last p es ≡ Some wave.NoMemory → ⊥
no_memory_from n last p [] h = by (may_end p) h
  where
    by : (b : Bool) → (if b then None else Some (wave.Truncated n)) ≡ Some wave.NoMemory → ⊥
    by true h = cc
    by false h = cc
no_memory_from n last p (e ∷ es) h = by (λ p. no_memory_from (n + 1) e p es) (verdict last p e) h
  where
    by : ((p : BusState) → fault_from (n + 1) e p es ≡ Some wave.NoMemory → ⊥) → (v : Result Step EdgeError) → fault_or v n (λ step. fault_from (n + 1) e step.place es) ≡ Some wave.NoMemory → ⊥
    by rest (Err f) h = no_memory_at f n (cc)
    by rest (Ok step) h = rest step.place h

pub no_memory : (es : List Edge) → fault_of es ≡ Some wave.NoMemory → ⊥
no_memory [] h = cc
no_memory (e ∷ es) h = by (is_start e) h
  where
    by : (b : Bool) → (if b then fault_from 1 e (Idle 0) es else Some (wave.Start 0)) ≡ Some wave.NoMemory → ⊥
    by true h = no_memory_from 1 e (Idle 0) es h
    by false h = cc

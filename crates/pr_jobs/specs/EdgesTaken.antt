-- Linking words, for proofs: who takes the edges of an input, and what follows at its end. No reader needs to believe them.
use Rattle.std.specs.Prelude.{ℕ, List, ◌++◌, Option}
use Rattle.pr_wire.specs.declared.Edge.{Edge}
use Rattle.pr_capture.specs.declared.format.TraceInput.{TraceInput}
use Rattle.pr_jobs.specs.InputReads.{EndsHere}
use Rattle.pr_jobs.specs.Inputs.{HasReadEdges, edges_read}
use Rattle.pr_jobs.specs.declared.fault.CliFault.{CliFault}
use Rattle.pr_jobs.specs.declared.input_reader.InputReader.{InputReader}

-- Who takes edges: all that are known, or all before the last block.

pub record HasTakenAll (limit : ℕ) (start now : Option (List ℕ)) (input : TraceInput) (r : InputReader)
    (claim : List Edge → Type 0) : Type 0 where
  pub given : List Edge
  pub read : HasReadEdges limit start now input given r
  pub taken : claim (given ++ edges_read r)

pub record HasTakenBefore (limit : ℕ) (start now : Option (List ℕ)) (input : TraceInput) (r : InputReader)
    (claim : List Edge → Type 0) : Type 0 where
  pub given : List Edge
  pub read : HasReadEdges limit start now input given r
  pub taken : claim given

-- The end.

-- what an input says at its end, and what follows for whoever has taken the edges known before the last block
abbrev pub EndsReading : InputReader → (taken : List Edge → Type 0) → (follows : List Edge → Option CliFault → Type 0)
    → Type 0
EndsReading r taken follows =
    (limit : ℕ) (start now : Option (List ℕ)) (input : TraceInput) (given : List Edge)
    → HasReadEdges limit start now input given r → taken given → EndsHere limit start now input r follows

-- Linking words: the stacks of the reader of expressions, for the code's types. No reader needs to believe them.
use Rattle.std.specs.Prelude.{◌≡◌, ◌⊎◌, ℕ, List, [], reverse, Result, Err}
use Rattle.pr_interpreter.specs.declared.expressions.Placed.{Placed}
use Rattle.pr_interpreter.specs.declared.fault.ProgramFault.{ProgramFault}
use Rattle.pr_interpreter.specs.declared.fault.ProgramFault.TheVariants.{OutOfMemory}
use Rattle.pr_interpreter.specs.declared.reader.Reader.{Reader}
use Rattle.pr_interpreter.specs.declared.reader.Turn.{Turn as Turned}
use Rattle.pr_interpreter.specs.declared.reader.Turn.TheVariants.{Done as IsDone, Next as IsNext, Refused as IsRefused}
use Rattle.pr_interpreter.specs.Expressions.{Done, Next, Refused, Stacks, Turn}

-- the stacks of a reader
abbrev pub seen : Reader → Stacks
seen r = record { nodes = r.nodes.items; waiting = reverse r.waiting.items }

-- a turn that leaves stacks
abbrev pub turned : Turned → Stacks → Turn
turned (IsNext expected) s = Next s expected
turned IsDone s = Done s.nodes
turned IsRefused s = Refused

-- nothing waits, and so it is after
abbrev pub NothingWaits : Stacks → Stacks → Type 0
NothingWaits old new = (old.waiting ≡ []) × (new.waiting ≡ [])

-- memory ran out, or the fault is that of a definition
abbrev pub FaultsAs : ProgramFault → Result (List Placed × ℕ) ProgramFault → Type 0
FaultsAs fault wanted = (fault ≡ OutOfMemory) ⊎ (wanted ≡ Err fault)

-- Linking words, for proofs: what a part of the program answers is what its definition gives, unless memory ran out. No reader needs to
-- believe them.
use Rattle.std.specs.Prelude.{◌≢◌, List, ℕ, Result, Ok, Err}
use Rattle.pr_basic.specs.declared.fault.ScriptFault.TheVariants as fault
use Rattle.pr_basic.specs.declared.statement.Statement.{Statement}
use Rattle.pr_basic.specs.Grammar.{IsScript}
use Rattle.pr_basic.specs.Faults.{IsFirstFault}
use Rattle.pr_system.specs.declared.outcome.Outcome.{Outcome}
use Rattle.pr_system.specs.Headline.{IsOutcome}
use Rattle.pr_jobs.specs.declared.run.Start.{Start}
use Rattle.pr_jobs.specs.declared.fault.CliFault.{CliFault}
use Rattle.pr_jobs.specs.declared.fault.CliFault.TheVariants.{Script, Trace, Wave, Capture, Picture, TooLarge, NoMemory, ReadFailed, WriteFailed}

-- the outcome is that of the script's statements, or the fault is the script's first
abbrev pub GivesOutcome : Start → List ℕ → Result Outcome CliFault → Type 0
GivesOutcome start script (Ok outcome) = (statements : List Statement) × IsScript script statements
    × IsOutcome start.mode start.present statements outcome
GivesOutcome start script (Err (Script f)) = (f ≢ fault.NoMemory) × IsFirstFault script f
GivesOutcome start script (Err (Trace f)) = ⊥
GivesOutcome start script (Err (Wave f)) = ⊥
GivesOutcome start script (Err (Capture f)) = ⊥
GivesOutcome start script (Err (Picture f)) = ⊥
GivesOutcome start script (Err NoMemory) = Unit {0}
GivesOutcome start script (Err TooLarge) = ⊥
GivesOutcome start script (Err ReadFailed) = ⊥
GivesOutcome start script (Err WriteFailed) = ⊥

-- Linking words, for proofs: which edges of a run were taken for the bytes that a printer hears in it. No reader needs
-- to believe them.
use Rattle.std.specs.Prelude.{◌≡◌, ◌≢◌, ℕ, List, ◌++◌, None, Result, Ok, Err}
use Rattle.pr_wire.specs.declared.Edge.{Edge}
use Rattle.pr_decode.specs.declared.reading.Reading.{Reading}
use Rattle.pr_decode.specs.Taking.{HasReadings, last_time}
use Rattle.pr_basic.specs.declared.fault.ScriptFault.TheVariants as script
use Rattle.pr_basic.specs.declared.statement.Statement.{Statement}
use Rattle.pr_basic.specs.Grammar.{IsScript}
use Rattle.pr_basic.specs.Faults.{IsFirstFault}
use Rattle.pr_basic.specs.Runs.{run_of}
use Rattle.pr_system.specs.RunningState.{RunningState, trace_so_far}
use Rattle.pr_render.specs.declared.format.Device.{Device}
use Rattle.pr_jobs.specs.Runs.{run_end}
use Rattle.pr_jobs.specs.declared.run.Start.{Start}
use Rattle.pr_jobs.specs.declared.fault.CliFault.{CliFault}
use Rattle.pr_jobs.specs.declared.fault.CliFault.TheVariants.{Script, NoMemory}
use Rattle.pr_recording.specs.declared.run_bytes.HeardRun.{HeardRun}
use Rattle.pr_recording.specs.declared.run_log.RunLog.{RunLog}
use Rattle.pr_recording.specs.Decoded.{back_in}
use Rattle.pr_recording.specs.Logged.{AreHeard, HasHeard}
use Rattle.pr_recording.specs.Taped.{time_of}
use Rattle.pr_recording.specs.RunBytes.{heard_in_run}

-- these edges were taken
pub record HasFollowed (device : ℕ) (edges : List Edge) (l : RunLog) : Type 0 where
  pub given : List Reading
  pub read : HasReadings edges given l.head.decoder
  pub last : last_time l.head.decoder ≡ time_of edges
  pub heard : HasHeard device given l.log

-- with more edges, among which time does not go back
abbrev pub FollowsMore : List Edge → (old new : RunLog) → Type 0
FollowsMore more old new =
    (device : ℕ) (edges : List Edge) → back_in (edges ++ more) ≡ None → HasFollowed device edges old
    → HasFollowed device (edges ++ more) new

-- the edges of a run were taken, and then those of the run that went on
abbrev pub FollowsRun : (before after : RunningState) → (old new : RunLog) → Type 0
FollowsRun before after old new =
    (device : ℕ) → HasFollowed device (trace_so_far before) old → HasFollowed device (trace_so_far after) new

-- what a printer hears in the run of a script, and how the run ends; or the script's first fault
abbrev pub GivesRun : Start → Device → List ℕ → Result HeardRun CliFault → Type 0
GivesRun start device text (Ok run) =
    (statements : List Statement) × IsScript text statements
    × (run.end ≡ run_end (run_of start.mode start.present statements).stop)
    × AreHeard (heard_in_run start device statements) run.heard
GivesRun start device text (Err (Script fault)) = (fault ≢ script.NoMemory) × IsFirstFault text fault
GivesRun start device text (Err NoMemory) = Unit {0}
GivesRun start device text (Err _) = ⊥

-- Trusted: what `--as script` answers for the text of a script, and what it leaves in the writer.
use Rattle.std.specs.Prelude.{◌≡◌, ◌≢◌, ℕ, ◌<◌, ◌≤◌, List, length, Option, Result, Ok, Err}
use Rattle.std.specs.Io.KnownBytes.{Appends, Keeps}
use Rattle.pr_basic.specs.declared.statement.Statement.{Statement}
use Rattle.pr_basic.specs.declared.fault.ScriptFault.TheVariants as fault
use Rattle.pr_basic.specs.Faults.{IsFirstFault}
use Rattle.pr_basic.specs.Grammar.{IsScript}
use Rattle.pr_input.specs.PartlyWritten.{AppendsFront}
use Rattle.pr_jobs.specs.declared.fault.CliFault.{CliFault}
use Rattle.pr_jobs.specs.declared.fault.CliFault.TheVariants.{Script, TooLarge, NoMemory, ReadFailed, WriteFailed}
use Rattle.pr_jobs.specs.Pages.{script_limit}

-- a text that is a script, not too long
abbrev pub IsGoodScript : List ℕ → Type 0
IsGoodScript text = (length text ≤ script_limit) × ((statements : List Statement) × IsScript text statements)

-- the answer, by the text and by what the writer held before and after: the text itself, if it is a script
abbrev pub AnswersScript : List ℕ → Option (List ℕ) → Option (List ℕ) → Result (Unit {0}) CliFault → Type 0
AnswersScript text old new (Ok done) = IsGoodScript text × Appends old new text
AnswersScript text old new (Err (Script why)) = (length text ≤ script_limit) × IsFirstFault text why × Keeps old new
AnswersScript text old new (Err TooLarge) = (script_limit < length text) × Keeps old new
AnswersScript text old new (Err NoMemory) = Keeps old new
AnswersScript text old new (Err ReadFailed) = Keeps old new
AnswersScript text old new (Err WriteFailed) = IsGoodScript text × AppendsFront old new text
AnswersScript text old new (Err _) = ⊥

-- Linking word: the text is a script, or the fault is its first
abbrev pub GivesScript : List ℕ → Result (Unit {0}) CliFault → Type 0
GivesScript text (Ok done) = (statements : List Statement) × IsScript text statements
GivesScript text (Err (Script f)) = (f ≢ fault.NoMemory) × IsFirstFault text f
GivesScript text (Err NoMemory) = Unit {0}
GivesScript text (Err _) = ⊥

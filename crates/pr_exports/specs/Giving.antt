-- Trusted: what the caller's buffer holds after a call, for the text that was made.
use Rattle.std.specs.Prelude.{◌≡◌, ◌⊎◌, ℕ, ◌<◌, ◌≤◌, Bool, true, false, List, ◌++◌, length, drop, Option, Some, None, Result, Ok, Err}
use Rattle.pr_wire.specs.declared.Edge.{Edge}
use Rattle.pr_base.specs.Lines.{lines_of}
use Rattle.pr_basic.specs.Faults.{IsFirstFault}
use Rattle.pr_basic.specs.Grammar.{IsScript}
use Rattle.pr_basic.specs.declared.fault.ScriptFault.{ScriptFault}
use Rattle.pr_basic.specs.declared.statement.Statement.{Statement}
use Rattle.pr_jobs.specs.Report.{Says}
use Rattle.pr_jobs.specs.declared.fault.CliFault.{CliFault}
use Rattle.pr_jobs.specs.declared.fault.CliFault.TheVariants.{Script, Trace, Wave, Capture, NoMemory}
use Rattle.pr_capture.specs.declared.format.TraceInput.{TraceInput}
use Rattle.pr_recording.specs.Decoded.{back_in, readings_up_to, stop_at}
use Rattle.pr_report.specs.declared.detail.Detail.{Detail}
use Rattle.pr_report.specs.Contexts.{at_start}
use Rattle.pr_exports.specs.EdgeDelays.{edge_delays}
use Rattle.pr_report.specs.Intervals.{intervals}
use Rattle.pr_exports.specs.Lengths.{interval_numbers}
use Rattle.pr_exports.specs.Numbers.{AreLineNumbers, IsFaultRow, edge_numbers, reading_rows}
use Rattle.pr_exports.specs.declared.answer.TextGiven.{TextGiven}
use Rattle.pr_exports.specs.declared.answer.TextGiven.TheVariants.{Written, TooSmall, Refused}

-- what was made of an input: the text of the whole input, or the fault that prevents it
abbrev pub Made : Type 0
Made = Result (Unit {0}) CliFault

-- a fault of the input's content: there is a text up to it
abbrev pub is_of_input : CliFault → Bool
is_of_input (Trace fault) = true
is_of_input (Wave fault) = true
is_of_input (Capture fault) = true
is_of_input _ = false

-- an input that was read to its end, or to this fault
abbrev pub made_of : Option CliFault → Made
made_of None = Ok tt
made_of (Some fault) = Err fault

-- there is a text: it is whole, or ends at this fault of the input
abbrev pub HasText : Made → Option CliFault → Type 0
HasText made None = made ≡ Ok tt
HasText made (Some fault) = (made ≡ Err fault) × (is_of_input fault ≡ true)

-- there is a text, or none for this reason
abbrev pub FindsText : Made → Result (Option CliFault) CliFault → Type 0
FindsText made (Ok stop) = HasText made stop
FindsText made (Err fault) = (made ≡ Err fault) × (is_of_input fault ≡ false)

-- the text is at the front of the buffer, and the rest is as it was; or the buffer is too small; or there is no text
abbrev pub Gives : {X : Type 0} → Made → List X → (old new : List X) → TextGiven → Type 0
Gives made text old new (Written stop n) =
    HasText made stop × (n ≡ length text) × (n ≤ length old) × (new ≡ text ++ drop n old)
Gives made text old new (TooSmall n) =
    (stop : Option CliFault) × HasText made stop × (n ≡ length text) × (length old < n) × (new ≡ old)
Gives made text old new (Refused fault) = (made ≡ Err fault) × (is_of_input fault ≡ false) × (new ≡ old)

-- memory was refused, and the buffer is as it was
abbrev pub HasNoMemory : (old new : List ℕ) → TextGiven → Type 0
HasNoMemory old new told = (told ≡ Refused NoMemory) × (new ≡ old)

-- the buffer gets the edges of a recording, up to its fault if it has one
abbrev pub GivesEdges : TraceInput → List ℕ → (old new : List ℕ) → TextGiven → Type 0
GivesEdges input bytes old new told =
    ((edges : List Edge) × (own : Option CliFault) × Says input bytes edges own
    × Gives (made_of own) (edge_numbers edges) old new told)
    ⊎ HasNoMemory old new told

-- the buffer gets the delay that each edge of a recording ends, up to its fault if it has one
abbrev pub GivesDelays : TraceInput → List ℕ → (old new : List ℕ) → TextGiven → Type 0
GivesDelays input bytes old new told =
    ((edges : List Edge) × (own : Option CliFault) × Says input bytes edges own
    × Gives (made_of own) (edge_delays edges) old new told)
    ⊎ HasNoMemory old new told

-- the buffer gets a row for each reading of a recording, up to where it stops
abbrev pub GivesRows : TraceInput → Detail → List ℕ → (old new : List ℕ) → TextGiven → Type 0
GivesRows input detail bytes old new told =
    ((edges : List Edge) × (own : Option CliFault) × Says input bytes edges own
    × Gives (made_of (stop_at (back_in edges) own))
    (reading_rows detail at_start (readings_up_to (stop_at (back_in edges) own) edges)) old new told)
    ⊎ HasNoMemory old new told

-- the buffer gets what the lengths of each interval come to, over the readings up to where the recording stops
abbrev pub GivesIntervals : TraceInput → List ℕ → (old new : List ℕ) → TextGiven → Type 0
GivesIntervals input bytes old new told =
    ((edges : List Edge) × (own : Option CliFault) × Says input bytes edges own
    × Gives (made_of (stop_at (back_in edges) own))
    (interval_numbers intervals (readings_up_to (stop_at (back_in edges) own) edges)) old new told)
    ⊎ HasNoMemory old new told

-- the buffer gets the line of each statement of a script
abbrev pub GivesLines : (script : List ℕ) → (old new : List ℕ) → TextGiven → Type 0
GivesLines script old new told =
    ((statements : List Statement) × (numbers : List ℕ) × IsScript script statements
    × AreLineNumbers 1 (lines_of script) numbers × Gives (Ok tt) numbers old new told)
    ⊎ ((fault : ScriptFault) × IsFirstFault script fault × (told ≡ Refused (Script fault)) × (new ≡ old))
    ⊎ HasNoMemory old new told

-- the buffer gets the place of a script's first fault; nothing, where it has none
abbrev pub GivesFault : (script : List ℕ) → (old new : List ℕ) → TextGiven → Type 0
GivesFault script old new told =
    ((numbers : List ℕ) × IsFaultRow script numbers × Gives (Ok tt) numbers old new told)
    ⊎ HasNoMemory old new told

-- What is made in memory, and handed to the caller.
use Rattle.std.proofs.Common.{◌≡◌, ℕ, List, Option, Ok, subst, inl, inr}
use Rattle.pr_wire.specs.declared.Edge.{Edge}
use Rattle.pr_basic.specs.Faults.{IsFirstFault}
use Rattle.pr_basic.specs.Grammar.{IsScript}
use Rattle.pr_basic.specs.declared.fault.ScriptFault.{ScriptFault}
use Rattle.pr_basic.specs.declared.statement.Statement.{Statement}
use Rattle.pr_base.specs.Lines.{lines_of}
use Rattle.pr_jobs.specs.Report.{Says}
use Rattle.pr_jobs.specs.declared.fault.CliFault.{CliFault}
use Rattle.pr_jobs.specs.declared.fault.CliFault.TheVariants.{Script}
use Rattle.pr_capture.specs.declared.format.TraceInput.{TraceInput}
use Rattle.pr_recording.specs.Decoded.{readings_up_to}
use Rattle.pr_decode.specs.declared.reading.Reading.{Reading}
use Rattle.pr_report.specs.Intervals.{intervals}
use Rattle.pr_report.specs.declared.detail.Detail.{Detail}
use Rattle.pr_report.specs.Contexts.{at_start}
use Rattle.pr_exports.specs.EdgeDelays.{edge_delays}
use Rattle.pr_exports.specs.Giving.{Gives, GivesDelays, GivesEdges, GivesFault, GivesIntervals, GivesLines, GivesRows, made_of}
use Rattle.pr_exports.specs.Lengths.{interval_numbers}
use Rattle.pr_exports.specs.Numbers.{AreLineNumbers, IsFaultRow, edge_numbers, reading_rows}
use Rattle.pr_exports.specs.Rows.{EndsReadings}
use Rattle.pr_exports.specs.declared.answer.TextGiven.{TextGiven}
use Rattle.pr_exports.specs.declared.answer.TextGiven.TheVariants.{Refused}
use Rattle.pr_exports.specs.declared.rows.Ended.{Ended}

-- edges are handed over
pub gives-edges : (input : TraceInput) (bytes : List ℕ) (edges : List Edge) (own : Option CliFault) (numbers old new : List ℕ) (told : TextGiven)
    → Says input bytes edges own → numbers ≡ edge_numbers edges → Gives (made_of own) numbers old new told → GivesEdges input bytes old new told
gives-edges input bytes edges own numbers old new told says are g =
    let Q : List ℕ → Type 0 = λ l. Gives (made_of own) l old new told in
    inl (edges, own, says, subst Q are g)

-- so are the delays that edges end
pub gives-delays : (input : TraceInput) (bytes : List ℕ) (edges : List Edge) (own : Option CliFault) (numbers old new : List ℕ) (told : TextGiven)
    → Says input bytes edges own → numbers ≡ edge_delays edges → Gives (made_of own) numbers old new told → GivesDelays input bytes old new told
gives-delays input bytes edges own numbers old new told says are g =
    let Q : List ℕ → Type 0 = λ l. Gives (made_of own) l old new told in
    inl (edges, own, says, subst Q are g)

-- so are the rows of readings
pub gives-rows : (input : TraceInput) (detail : Detail) (bytes : List ℕ) (edges : List Edge) (own : Option CliFault) (ended : Ended) (rows old new : List ℕ) (told : TextGiven)
    → Says input bytes edges own → EndsReadings edges own ended → rows ≡ reading_rows detail at_start ended.readings.items → Gives (made_of ended.stop) rows old new told
    → GivesRows input detail bytes old new told
gives-rows input detail bytes edges own ended rows old new told says ends are g =
    let P : Option CliFault → Type 0 = λ s. Gives (made_of s) (reading_rows detail at_start (readings_up_to s edges)) old new told in
    let Q : List ℕ → Type 0 = λ l. Gives (made_of ended.stop) l old new told in
    let R : List Reading → Type 0 = λ l. Gives (made_of ended.stop) (reading_rows detail at_start l) old new told in
    inl (edges, own, says, subst P ends.stop (subst R ends.readings (subst Q are g)))

-- so is what the lengths of intervals come to
pub gives-intervals : (input : TraceInput) (bytes : List ℕ) (edges : List Edge) (own : Option CliFault) (ended : Ended) (numbers old new : List ℕ) (told : TextGiven)
    → Says input bytes edges own → EndsReadings edges own ended → numbers ≡ interval_numbers intervals ended.readings.items → Gives (made_of ended.stop) numbers old new told
    → GivesIntervals input bytes old new told
gives-intervals input bytes edges own ended numbers old new told says ends are g =
    let P : Option CliFault → Type 0 = λ s. Gives (made_of s) (interval_numbers intervals (readings_up_to s edges)) old new told in
    let Q : List ℕ → Type 0 = λ l. Gives (made_of ended.stop) l old new told in
    let R : List Reading → Type 0 = λ l. Gives (made_of ended.stop) (interval_numbers intervals l) old new told in
    inl (edges, own, says, subst P ends.stop (subst R ends.readings (subst Q are g)))

-- so are the lines of statements, or a script's fault
pub gives-lines : (script : List ℕ) (statements : List Statement) (numbers old new : List ℕ) (told : TextGiven)
    → IsScript script statements → AreLineNumbers 1 (lines_of script) numbers → Gives (Ok tt) numbers old new told → GivesLines script old new told
gives-lines script statements numbers old new told is are g = inl (statements, numbers, is, are, g)

pub gives-refusal : (script : List ℕ) (fault : ScriptFault) (old new : List ℕ) (told : TextGiven)
    → IsFirstFault script fault → told ≡ Refused (Script fault) → new ≡ old → GivesLines script old new told
gives-refusal script fault old new told is refused same = inr (inl (fault, is, refused, same))

-- and the place of a fault
pub gives-fault : (script numbers old new : List ℕ) (told : TextGiven) → IsFaultRow script numbers → Gives (Ok tt) numbers old new told → GivesFault script old new told
gives-fault script numbers old new told is g = inl (numbers, is, g)

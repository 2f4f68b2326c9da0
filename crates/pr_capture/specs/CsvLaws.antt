-- Laws: tables of separated values, written and read. `csv_is_read_back` proves them, and callers take them from there.
use Rattle.std.specs.Prelude.{◌≡◌, ℕ, zero, suc, ◌+◌, ◌/◌, ◌%◌, ◌<◌, ◌≤◌, ◌^◌, Bool, true, false, List, [], ◌∷◌, ◌++◌, codes, Option, None}
use Rattle.pr_wire.specs.declared.Edge.{Edge}
use Rattle.pr_capture.specs.declared.signals.Signals.{Signals}
use Rattle.pr_capture.specs.Csv.{csv_contents}
use Rattle.pr_capture.specs.Samples.{edges_of}
use Rattle.pr_capture.specs.VcdReadingLaws.{IsAsWritten, RunsOn}

-- a number, by this many decimal digits
abbrev pub digits_of : (count : ℕ) → ℕ → List ℕ
digits_of zero n = []
digits_of (suc count) n = digits_of count (n / 10) ++ (48 + n % 10) ∷ []

-- a level: 1 is released
abbrev pub level_byte : Bool → ℕ
level_byte true = 49
level_byte false = 48

-- what separates fields
pub data Separator : Type 0 where
  Comma : Separator
  Semicolon : Separator
  Tab : Separator

abbrev pub separator_byte : Separator → ℕ
separator_byte Comma = 44
separator_byte Semicolon = 59
separator_byte Tab = 9

-- the unit of times, and the name of their column
pub data TimeUnit : Type 0 where
  Seconds : TimeUnit
  Milliseconds : TimeUnit
  Microseconds : TimeUnit
  Nanoseconds : TimeUnit
  Picoseconds : TimeUnit

abbrev pub time_name : TimeUnit → List ℕ
time_name Seconds = codes "Time [s]"
time_name Milliseconds = codes "Time [ms]"
time_name Microseconds = codes "Time [us]"
time_name Nanoseconds = codes "Time [ns]"
time_name Picoseconds = codes "Time [ps]"

-- whole microseconds in a unit: with decimals, or with zeros after
abbrev pub time_field : TimeUnit → (micros : ℕ) → List ℕ
time_field Seconds t = digits_of 14 (t / 1000000) ++ 46 ∷ digits_of 6 (t % 1000000)
time_field Milliseconds t = digits_of 17 (t / 1000) ++ 46 ∷ digits_of 3 (t % 1000)
time_field Microseconds t = digits_of 20 t
time_field Nanoseconds t = digits_of 20 t ++ codes "000"
time_field Picoseconds t = digits_of 20 t ++ codes "000000"

-- the row of an edge: its time, and the levels of ATN, CLOCK and DATA
abbrev pub csv_row : (sep : ℕ) → TimeUnit → Edge → List ℕ
csv_row sep u e =
    time_field u e.time
    ++ sep ∷ level_byte e.levels.atn ∷ sep ∷ level_byte e.levels.clock ∷ sep ∷ level_byte e.levels.line ∷ []

abbrev pub csv_rows : (sep : ℕ) → TimeUnit → List Edge → List ℕ
csv_rows sep u [] = []
csv_rows sep u (e ∷ es) = csv_row sep u e ++ 10 ∷ csv_rows sep u es

-- edges as a table: the names of the columns, and a row an edge
abbrev pub csv_names : (sep : ℕ) → TimeUnit → List ℕ
csv_names sep u = time_name u ++ sep ∷ codes "ATN" ++ sep ∷ codes "CLOCK" ++ sep ∷ codes "DATA"

abbrev pub csv_of : Separator → TimeUnit → List Edge → List ℕ
csv_of p u es = csv_names (separator_byte p) u ++ 10 ∷ csv_rows (separator_byte p) u es

-- no sample comes before the one in front of it, and each time fits
abbrev pub InOrder : (before : ℕ) → List Edge → Type 0
InOrder before [] = Unit {0}
InOrder before (e ∷ es) = (before ≤ e.time) × (e.time < 2 ^ 64) × InOrder e.time es

-- a table that holds samples says these samples, and of edges, each later and with other levels, these edges, whatever its
-- separator and its unit, and whatever rate the caller gives
pub record CsvIsReadBack : Type 0 where
  pub samples : (p : Separator) (u : TimeUnit) (s : Signals) (rate : Option ℕ) (es : List Edge) → IsAsWritten s → InOrder 0 es
      → csv_contents s rate (csv_of p u es) ≡ record { samples = es; fault = None }
  pub edges : (p : Separator) (u : TimeUnit) (s : Signals) (rate : Option ℕ) (es : List Edge) → IsAsWritten s → RunsOn None es
      → csv_contents s rate (csv_of p u es) ≡ record { samples = es; fault = None }
  pub same : (es : List Edge) → RunsOn None es → edges_of 0 es ≡ es

-- Linking words: what a reader of comma separated values has taken. The clauses of `CsvReader` say all that a caller needs of
-- them. No reader needs to believe them.
use Rattle.std.specs.Prelude.{◌≡◌, ℕ, zero, suc, ◌+◌, ◌*◌, ◌/◌, ◌<◌, ◌≤◌, ◌==◌, ◌&&◌, ◌||◌, Bool, true, false, not, List, [], ◌∷◌, ◌++◌, drop, length, take, nat_lt, if◌then◌else◌, IfSome, Option, Some, None, Result, Ok, Err}
use Rattle.std.specs.List.{list_all, prefix_len}
use Rattle.pr_wire.specs.declared.Edge.{Edge}
use Rattle.pr_wire.specs.declared.Levels.{Levels}
use Rattle.pr_base.specs.Digits.{is_digit}
use Rattle.pr_base.specs.Lines.{lines_of}
use Rattle.pr_capture.specs.declared.csv.Columns.{Columns}
use Rattle.pr_capture.specs.declared.csv.Layout.{Layout}
use Rattle.pr_capture.specs.declared.csv.Moment.{Moment}
use Rattle.pr_capture.specs.declared.csv.Row.{Row}
use Rattle.pr_capture.specs.declared.csv.Scale.{Scale}
use Rattle.pr_capture.specs.declared.csv.Scale.TheVariants.{Counted, Numbered, Timed}
use Rattle.pr_capture.specs.declared.last_row.LastRow.{LastRow}
use Rattle.pr_capture.specs.declared.csv.RowPlace.{RowPlace}
use Rattle.pr_capture.specs.declared.csv.RowPlace.TheVariants.{First, Names, Rows}
use Rattle.pr_capture.specs.declared.csv.CsvReader.{CsvReader}
use Rattle.pr_capture.specs.declared.remarks.Remarks.{Remarks}
use Rattle.pr_capture.specs.declared.fault.CaptureFault.{CaptureFault}
use Rattle.pr_capture.specs.declared.signals.Probes.{Probes}
use Rattle.pr_capture.specs.declared.signals.Signals.{Signals}
use Rattle.pr_capture.specs.Csv.{csv_contents, field_at, fields_of, first_contents, is_inner, is_silent, line_contents, row_contents, row_of, sample_of}
use Rattle.pr_capture.specs.declared.times.Instant.{Instant}
use Rattle.pr_capture.specs.declared.times.PlainTime.{PlainTime}
use Rattle.pr_capture.specs.declared.numbers.Digits.{Digits}
use Rattle.pr_capture.specs.Numbers.{digits_in, number_from, onward}
use Rattle.pr_capture.specs.TableTimes.{instant_in, instant_of, micros_of, time_at_rate}
use Rattle.pr_capture.specs.Recording.{ended, refused, with_samples, without_front, CaptureContents}
use Rattle.pr_capture.specs.Samples.{listed}

-- how many bytes the first field has
abbrev pub field_len : (separator : ℕ) → (quoted : Bool) → (line : List ℕ) → ℕ
field_len sep quoted [] = 0
field_len sep quoted (b ∷ bs) = if b == sep && not quoted then 0 else 1 + field_len sep (if b == 34 then not quoted else quoted) bs

-- the fields of what follows a separator, if there was one
abbrev pub fields_left : (separator : ℕ) → Option (List ℕ) → List (List ℕ)
fields_left sep None = []
fields_left sep (Some l) = fields_of sep false l

-- what lines say from a place on
abbrev pub contents_from : Signals → RowPlace → (number : ℕ) → List (List ℕ) → CaptureContents
contents_from s (First given) number ls = first_contents s given number ls
contents_from s (Names r) number ls = line_contents s r number ls
contents_from s (Rows y m) number ls = row_contents y s.probes number m ls

-- a line before the names, or that of the names, leads to a place
abbrev pub NamesLeadTo : Signals → Remarks → (number : ℕ) → (line : List ℕ) → (new : RowPlace) → Type 0
NamesLeadTo s r number line new =
    (more : List (List ℕ)) → line_contents s r number (line ∷ more) ≡ contents_from s new (number + 1) more

-- or it has a fault
abbrev pub NamesAreRefused : Signals → Remarks → (number : ℕ) → (line : List ℕ) → CaptureFault → Type 0
NamesAreRefused s r number line f = (more : List (List ℕ)) → line_contents s r number (line ∷ more) ≡ refused f

-- no row can come before the line of the names
abbrev pub HasNoRows : RowPlace → Type 0
HasNoRows (First given) = Unit {0}
HasNoRows (Names r) = Unit {0}
HasNoRows (Rows y m) = ⊥

-- a line leads from one place to another and gives a sample, if it gives one, or it has a fault
abbrev pub ReadsLine :
    Signals → (number : ℕ) → (line : List ℕ) → (old : RowPlace) → Result (Option Edge) CaptureFault → (new : RowPlace)
    → Type 0
ReadsLine s number line old (Ok sample) new =
    (more : List (List ℕ)) → contents_from s old number (line ∷ more)
    ≡ with_samples (listed sample) (contents_from s new (number + 1) more)
ReadsLine s number line old (Err f) new = (more : List (List ℕ)) → contents_from s old number (line ∷ more) ≡ refused f

-- The last row, by which rows are read that go on as it does.

-- a byte of a plain time: a digit or a point
abbrev pub is_plain : ℕ → Bool
is_plain b = is_digit b || b == 46

-- how many bytes a point and the decimals after it have
abbrev pub decimals_len : List ℕ → ℕ
decimals_len [] = 0
decimals_len (b ∷ bs) = if b == 46 then 1 + prefix_len is_digit bs else 0

-- a plain time spells what its digits and its decimals say
pub record IsPlainTime (field whole decimals : List ℕ) : Type 0 where
  pub plain : list_all is_plain field ≡ true
  pub some : 0 < length field
  pub reads : (sep unit : ℕ) (i : Instant) → instant_of false (micros_of 6 unit whole decimals) ≡ Some i
      → instant_in sep unit (without_front field) ≡ Some i

-- a plain time is in front of a text and spells these microseconds
pub record IsTimeAhead (unit : ℕ) (text : List ℕ) (t : PlainTime) : Type 0 where
  pub whole : List ℕ
  pub decimals : List ℕ
  pub plain : IsPlainTime (take t.len text) whole decimals
  pub spells : micros_of 6 unit whole decimals ≡ Some t.micros

-- digits in front of a text after i others that spell n
abbrev pub digits_left : (n i : ℕ) → (text : List ℕ) → Option Digits
digits_left n i l = onward (number_from n (digits_in l)) (λ m. Some (record { len = i + prefix_len is_digit l; number = m }))

abbrev pub digits_ahead : (text : List ℕ) → Option Digits
digits_ahead l = digits_left 0 0 l

-- what a row has in front of the bytes that are compared: a plain time or number, or nothing in a table without them
abbrev pub IsFront : Scale → (front : List ℕ) → Type 0
IsFront (Timed unit) front = (list_all is_plain front ≡ true) × (0 < length front)
IsFront (Numbered step rate) front = (list_all is_plain front ≡ true) × (0 < length front)
IsFront (Counted rate) front = front ≡ []

-- the first field of rows that go on so is their time or number
abbrev pub PlainComesFirst : (separator times : ℕ) → (tail : List ℕ) → Type 0
PlainComesFirst sep times tail =
    (front : List ℕ) → list_all is_plain front ≡ true → field_at times (fields_of sep false (front ++ tail)) ≡ Some front

abbrev pub TimeComesFirst : Scale → (separator times : ℕ) → (tail : List ℕ) → Type 0
TimeComesFirst (Timed unit) sep times tail = PlainComesFirst sep times tail
TimeComesFirst (Numbered step rate) sep times tail = PlainComesFirst sep times tail
TimeComesFirst (Counted rate) sep times tail = Unit {0}

-- a row has these levels, after the same ones, whose bytes after its time are these, whatever its time is
pub record HasLevels (probes : Probes) (y : Layout) (tail : List ℕ) (levels : Levels) : Type 0 where
  pub inner : list_all is_inner tail ≡ true
  pub loud : (front : List ℕ) → IsFront y.scale front → is_silent (front ++ tail) ≡ false
  pub first : TimeComesFirst y.scale y.separator y.times tail
  pub reads : (number time : ℕ) (front : List ℕ) → IsFront y.scale front
      → sample_of y probes levels number (fields_of y.separator false (front ++ tail)) time
      ≡ Ok (record { time = time; levels = levels })

-- the levels of rows that go on as the last one are known, or none are
abbrev pub KnowsLevels : Probes → Layout → Moment → LastRow → Type 0
KnowsLevels probes y m l = IfSome l.levels (λ levels. (m.levels ≡ levels) × HasLevels probes y (drop l.from l.bytes.items) levels)

abbrev pub KnowsLast : Probes → RowPlace → LastRow → Type 0
KnowsLast probes (First given) l = Unit {0}
KnowsLast probes (Names r) l = Unit {0}
KnowsLast probes (Rows y m) l = KnowsLevels probes y m l

-- a line that has led to a place is a row with the levels of this sample, if there is one
abbrev pub IsRowOf : Probes → RowPlace → (line : List ℕ) → Option Edge → Type 0
IsRowOf probes p line None = Unit {0}
IsRowOf probes (First given) line (Some e) = Unit {0}
IsRowOf probes (Names r) line (Some e) = Unit {0}
IsRowOf probes (Rows y m) line (Some e) = (is_silent line ≡ false) × (m.levels ≡ e.levels) × ((number time : ℕ)
    → sample_of y probes e.levels number (fields_of y.separator false line) time ≡ Ok (record { time = time; levels = e.levels }))

-- levels do not depend on the first column
abbrev pub are_behind : Columns → Bool
are_behind c = not c.has_other_first && not (c.atn == 0) && not (c.clock == 0) && not (c.line == 0)

-- where the bytes of a row begin that have its levels, whatever its time is, which comes first
abbrev pub tail_behind : (times : ℕ) → Columns → (separator : ℕ) → (line : List ℕ) → Option ℕ
tail_behind times c sep line =
    if times == 0 && are_behind c && not (is_plain sep) && nat_lt (field_len sep false line) (length line)
    then Some (field_len sep false line) else None

abbrev pub tail_by : Scale → (times : ℕ) → Columns → (separator : ℕ) → (line : List ℕ) → Option ℕ
tail_by (Timed unit) times c sep line = tail_behind times c sep line
tail_by (Numbered step rate) times c sep line = tail_behind times c sep line
tail_by (Counted rate) times c sep line = Some 0

abbrev pub tail_at : Layout → (line : List ℕ) → Option ℕ
tail_at y line = tail_by y.scale y.times y.columns y.separator line

-- the row of a moment and levels
abbrev pub row_at : Moment → Levels → Row
row_at m levels = record { sample = record { time = m.before; levels = levels }; moment = record m { levels = levels } }

abbrev pub row_if : Result Moment CaptureFault → Levels → Option Row
row_if (Ok m) levels = Some (row_at m levels)
row_if (Err f) levels = None

-- how many bytes were taken, and the last sample that they have, if they have one
abbrev pub with_len : ℕ → Option Edge → Option (ℕ × Edge)
with_len n None = None
with_len n (Some e) = Some (n, e)

-- these bytes are a row and its end, which make this of a moment
pub record IsRepeat (probes : Probes) (y : Layout) (number : ℕ) (m : Moment) (bytes : List ℕ) (row : Row) : Type 0 where
  pub line : List ℕ
  pub ends : bytes ≡ line ++ 10 ∷ []
  pub inner : list_all is_inner line ≡ true
  pub loud : is_silent line ≡ false
  pub reads : row_of y probes number m (fields_of y.separator false line) ≡ Ok row

-- this many copies of these bytes, one after the other
abbrev pub copies : ℕ → List ℕ → List ℕ
copies zero bytes = []
copies (suc n) bytes = bytes ++ copies n bytes

-- the moment after one row more at a rate, and after this many
abbrev pub moment_beyond : (rate : ℕ) → Moment → Moment
moment_beyond rate m = record m { before = m.count * 1000000 / rate; count = m.count + 1 }

abbrev pub moment_after : (rate : ℕ) → Moment → (rows : ℕ) → Moment
moment_after rate m zero = m
moment_after rate m (suc n) = moment_after rate (moment_beyond rate m) n

-- each of these rows has a time, none before that of an earlier one
abbrev pub AreTimed : (rate : ℕ) → Moment → (rows : ℕ) → Type 0
AreTimed rate m zero = Unit {0}
AreTimed rate m (suc n) =
    (time_at_rate rate m.count ≡ Some (m.count * 1000000 / rate)) × (m.before ≤ m.count * 1000000 / rate) × AreTimed rate (moment_beyond rate m) n

-- these bytes are `count` such rows, all with the levels of `last`, which is the last of them
abbrev pub IsRun : Probes → Layout → (number : ℕ) → Moment → (bytes : List ℕ) → (count : ℕ) → (last : Row) → Type 0
IsRun probes y number m bytes zero last = ⊥
IsRun probes y number m bytes (suc zero) last = IsRepeat probes y number m bytes last
IsRun probes y number m bytes (suc (suc n)) last =
    (first : Row) × (front : List ℕ) × (rest : List ℕ) × (bytes ≡ front ++ rest) × IsRepeat probes y number m front first
    × (first.sample.levels ≡ last.sample.levels) × IsRun probes y (number + 1) first.moment rest (suc n) last

-- what is still to be given, samples and end, if the text goes on with these bytes
abbrev pub contents_left : CsvReader → (more : List ℕ) → CaptureContents
contents_left r more = contents_from r.signals r.place r.number (lines_of (r.line.items ++ more))

-- the reader has taken a text, with the rate that the caller gives, and has given these samples
pub record HasReadTable (s : Signals) (rate : Option ℕ) (text : List ℕ) (samples : List Edge) (r : CsvReader) : Type 0 where
  pub signals : r.signals ≡ s
  pub inner : list_all is_inner r.line.items ≡ true
  pub last : KnowsLast r.signals.probes r.place r.last
  pub told : (more : List ℕ) → csv_contents s rate (text ++ more) ≡ with_samples samples (contents_left r more)

-- the reader has taken these bytes too, after whatever it had taken
abbrev pub HoldsMore : (bytes : List ℕ) → (old new : CsvReader) → Type 0
HoldsMore bytes old new = (s : Signals) (rate : Option ℕ) (text : List ℕ) (samples : List Edge) → HasReadTable s rate text samples old
    → HasReadTable s rate (text ++ bytes) samples new

-- what a reader answers if a text ends here, of which these samples were given, and which ends with a whole line
abbrev pub AnswersEnd : CsvReader → (last : Option Edge) → Result (Option Edge) CaptureFault → Type 0
AnswersEnd r last (Ok sample) =
    (sample ≡ last) × ((s : Signals) (rate : Option ℕ) (text : List ℕ) (samples : List Edge) → HasReadTable s rate text samples r
    → csv_contents s rate text ≡ with_samples samples ended)
AnswersEnd r last (Err f) =
    (last ≡ None) × ((s : Signals) (rate : Option ℕ) (text : List ℕ) (samples : List Edge) → HasReadTable s rate text samples r
    → csv_contents s rate text ≡ with_samples samples (refused f))

-- how many lines have ended, with the one that has begun
abbrev pub line_number : CsvReader → ℕ
line_number r = r.number

-- whatever follows the text that a reader has taken, the samples that it has given come first
abbrev pub GivenSamplesComeFirst : Type 0
GivenSamplesComeFirst =
    (s : Signals) (rate : Option ℕ) (text more : List ℕ) (given : List Edge) (r : CsvReader) → HasReadTable s rate text given r
    → (later : List Edge) × ((csv_contents s rate (text ++ more)).samples ≡ given ++ later)

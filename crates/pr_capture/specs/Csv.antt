-- Trusted: what a table of separated values says of the bus: samples of its lines, up to the first fault if there is one.
-- Blank lines and remarks say nothing, but for a rate. Of the others the first has the columns' names, and each later one is a sample.
use Rattle.std.specs.Prelude.{ℕ, zero, suc, ◌+◌, ◌-◌, ◌==◌, ◌&&◌, ◌||◌, Bool, true, false, not, List, [], ◌∷◌, codes, length, take, drop, is_some, if◌then◌else◌, Option, Some, None, Result, Ok, Err}
use Rattle.std.specs.List.{list_all}
use Rattle.std.specs.Str.{bytes_eq}
use Rattle.pr_wire.specs.declared.Edge.{Edge}
use Rattle.pr_wire.specs.declared.Levels.{Levels}
use Rattle.pr_wire.specs.Levels.{edge_at}
use Rattle.pr_base.specs.Digits.{is_digit}
use Rattle.pr_base.specs.Lines.{lines_of, onto_first}
use Rattle.pr_capture.specs.declared.csv.Columns.{Columns}
use Rattle.pr_capture.specs.declared.csv.Scale.{Scale}
use Rattle.pr_capture.specs.declared.csv.Scale.TheVariants.{Counted, Numbered, Timed}
use Rattle.pr_capture.specs.declared.csv.Layout.{Layout}
use Rattle.pr_capture.specs.declared.csv.Moment.{Moment}
use Rattle.pr_capture.specs.declared.csv.Row.{Row}
use Rattle.pr_capture.specs.declared.remarks.Remarks.{Remarks}
use Rattle.pr_capture.specs.declared.times.Instant.{Instant}
use Rattle.pr_capture.specs.declared.fault.Wire.{Wire}
use Rattle.pr_capture.specs.declared.fault.Wire.TheVariants.{Atn, Clock, Data}
use Rattle.pr_capture.specs.declared.fault.CaptureFault.{CaptureFault}
use Rattle.pr_capture.specs.declared.fault.CaptureFault.TheVariants.{Archive, BadLevel, BadTime, NoLevel, NoSignal, NoTime, TwoSignals, WideText}
use Rattle.pr_capture.specs.declared.signals.Probes.{Probes}
use Rattle.pr_capture.specs.declared.signals.Signals.{Signals}
use Rattle.pr_capture.specs.declared.volts.Threshold.{Threshold}
use Rattle.pr_capture.specs.declared.volts.Volts.{Volts}
use Rattle.pr_capture.specs.Recording.{◌>>=◌, ended, first_some, inverts, is_framing, is_named, level_in, refused, second_name, shared, unless, with_samples, without_front, CaptureContents}
use Rattle.pr_capture.specs.Words.{is_space}
use Rattle.pr_capture.specs.Numbers.{behind_word, onward}
use Rattle.pr_capture.specs.TableTimes.{bare_unit, behind_plus_minus, count_in, from_start, has_numbers, instant_in, is_counting, is_timing, no_remarks, rate_known, remarked, sample_in, scale_of, start_of, time_at_rate, time_or, time_unit}
use Rattle.pr_capture.specs.Volts.{level_by, volts_in}

-- Lines and fields.

-- a byte does not end a line
abbrev pub is_inner : ℕ → Bool
is_inner b = not (b == 10)

-- without the white space in front
abbrev pub without_space : List ℕ → List ℕ
without_space [] = []
without_space (b ∷ bs) = if is_space b then without_space bs else b ∷ bs

-- nothing, or a remark
abbrev pub is_remark : (words : List ℕ) → Bool
is_remark [] = true
is_remark (b ∷ bs) = b == 59 || b == 35

-- a line says nothing of the bus: it is blank, or a remark, which begins with ; or #
abbrev pub is_silent : (line : List ℕ) → Bool
is_silent line = is_remark (without_space line)

-- what separates fields: a comma, a semicolon or a tab
abbrev pub is_separator : ℕ → Bool
is_separator b = b == 44 || b == 59 || b == 9

-- a line says which, as spreadsheets are told: sep=;
abbrev pub separator_behind : (rest : List ℕ) → Option ℕ
separator_behind (e ∷ b ∷ bs) = if e == 61 && is_separator b && list_all is_framing bs then Some b else None
separator_behind _ = None

abbrev pub separator_said : (line : List ℕ) → Option ℕ
separator_said line = onward (behind_word (codes "sep") line) separator_behind

-- or else the first in the line of the names shows it
abbrev pub separator_of : (line : List ℕ) → ℕ
separator_of [] = 44
separator_of (b ∷ bs) = if is_separator b then b else separator_of bs

abbrev pub separator_or : (said : Option ℕ) → (line : List ℕ) → ℕ
separator_or None line = separator_of line
separator_or (Some b) line = b

-- a line comes before that of the names: it says nothing of the bus, or it is sigrok-cli's first, or says what separates fields
abbrev pub is_in_front : (line : List ℕ) → Bool
is_in_front line = is_silent line || is_some (behind_word (codes "METAsamplerate") line) || is_some (separator_said line)

-- the fields of a line: separators part them, but for those between quotation marks
abbrev pub fields_of : (separator : ℕ) → (quoted : Bool) → (line : List ℕ) → List (List ℕ)
fields_of sep quoted [] = [] ∷ []
fields_of sep quoted (b ∷ bs) =
    if b == sep && not quoted then [] ∷ fields_of sep false bs
    else onto_first b (fields_of sep (if b == 34 then not quoted else quoted) bs)

-- the field at a place, from 0
abbrev pub field_at : (place : ℕ) → (fields : List (List ℕ)) → Option (List ℕ)
field_at place [] = None
field_at zero (f ∷ fs) = Some f
field_at (suc place) (f ∷ fs) = field_at place fs

-- The columns.

-- the place of the first field that is this name, the first of these fields having this place
abbrev pub column_of : (name : List ℕ) → (place : ℕ) → (fields : List (List ℕ)) → Option ℕ
column_of name place [] = None
column_of name place (f ∷ fs) = if is_named name f then Some place else column_of name (place + 1) fs

-- one of these fields is a number
abbrev pub has_numeral : (fields : List (List ℕ)) → Bool
has_numeral [] = false
has_numeral (f ∷ fs) = is_some (count_in (without_front f)) || has_numeral fs

-- the place of the field with this number, from 0
abbrev pub place_with : (number : Option ℕ) → (place : ℕ) → (fields : List (List ℕ)) → Option ℕ
place_with None place fields = None
place_with (Some n) place fields = if is_some (field_at n fields) then Some (place + n) else None

-- the place that a name means: that of the first field that is this name, or, where no field is a number, that with this number
abbrev pub place_meant : (name : List ℕ) → (place : ℕ) → (fields : List (List ℕ)) → Option ℕ
place_meant name place fields =
    first_some (column_of name place fields)
    (if has_numeral fields then None else place_with (count_in (without_front name)) place fields)

-- a column that a wire needs
abbrev pub column_or : (number : ℕ) → Wire → Option ℕ → Result ℕ CaptureFault
column_or number wire None = Err (NoSignal number wire)
column_or number wire (Some place) = Ok place

-- two of these fields are this name
abbrev pub is_twice : (name : List ℕ) → (fields : List (List ℕ)) → Bool
is_twice name [] = false
is_twice name (f ∷ fs) = if is_named name f then is_some (column_of name 0 fs) else is_twice name fs

-- the column that a wire needs, and that no other has the name of
abbrev pub column_in : (number : ℕ) → Wire → (name : List ℕ) → (place : ℕ) → (fields : List (List ℕ)) → Result ℕ CaptureFault
column_in number wire name place fs =
    if is_twice name fs then Err (TwoSignals number wire) else column_or number wire (place_meant name place fs)

-- CLOCK's name: its first, or else its second
abbrev pub clock_name : Signals → (fields : List (List ℕ)) → List ℕ
clock_name s fs = if is_some (column_of s.clock.now 0 fs) then s.clock.now else second_name s

-- the first column is none of these, where columns are counted from it: it has neither times nor numbers by its name
abbrev pub is_other : (place atn clock line : ℕ) → Bool
is_other place atn clock line = place == 0 && not (atn == 0) && not (clock == 0) && not (line == 0)

-- the columns of the three lines, each of its own
abbrev pub columns_in : Signals → (number place : ℕ) → (fields : List (List ℕ)) → Result Columns CaptureFault
columns_in s number place fs =
    column_in number Atn s.atn.now place fs >>= λ atn.
    column_in number Clock (clock_name s fs) place fs >>= λ clock.
    column_in number Data s.line.now place fs >>= λ line.
    unless (shared number (clock == atn) (line == atn || line == clock))
    (Ok (record { atn = atn; clock = clock; line = line; has_other_first = is_other place atn clock line; are_rated = false }))

-- the same where the rows' times come of a rate
abbrev pub rated : Columns → Columns
rated c = record c { are_rated = true }

-- Before the names.

-- what follows the first colon
abbrev pub behind_colon : List ℕ → Option (List ℕ)
behind_colon [] = None
behind_colon (b ∷ bs) = if b == 58 then Some bs else behind_colon bs

-- the names in sigrok's remark of its channels: ; Channels (3/8): ATN, CLK, DATA
abbrev pub channels_in : (line : List ℕ) → Option (List ℕ)
channels_in line = if is_some (behind_word (codes "channels") line) then behind_colon line else None

abbrev pub if_ok : {A : Type 0} → Result A CaptureFault → Option A
if_ok (Ok x) = Some x
if_ok (Err f) = None

-- the columns of the three lines, if the columns from a place on have these names
abbrev pub columns_called : Signals → (place : ℕ) → (names : List ℕ) → Option Columns
columns_called s place names = if_ok (columns_in s 0 place (fields_of 44 false names))

-- after a line that comes before that of the names
abbrev pub with_separator : Remarks → (said : Option ℕ) → Remarks
with_separator r None = r
with_separator r (Some b) = record r { separator = Some b }

abbrev pub with_channels : Signals → Remarks → (names : Option (List ℕ)) → Remarks
with_channels s r None = r
with_channels s r (Some names) = record r { alone = columns_called s 0 names; behind = columns_called s 1 names }

abbrev pub noted : Signals → Remarks → (line : List ℕ) → Remarks
noted s r line = with_channels s (with_separator (remarked r line) (separator_said line)) (channels_in line)

-- all of these columns are called by the unit that sigrok has for levels
abbrev pub are_logic : (fields : List (List ℕ)) → Bool
are_logic [] = true
are_logic (f ∷ fs) = is_named (codes "logic") f && are_logic fs

-- so their names are those of the remark, if there was one
abbrev pub columns_or : (said : Option Columns) → (logic : Bool) → Result Columns CaptureFault → Result Columns CaptureFault
columns_or None logic found = found
columns_or (Some c) false found = found
columns_or (Some c) true found = Ok c

abbrev pub columns_by : Signals → (said : Option Columns) → (number place : ℕ) → (fields : List (List ℕ)) → Result Columns CaptureFault
columns_by s said number place fs = columns_or said (are_logic fs) (columns_in s number place fs)

-- the rate has to be known where no column is of times
abbrev pub rate_or : (number : ℕ) → (rate : Option ℕ) → Result ℕ CaptureFault
rate_or number None = Err (NoTime number)
rate_or number (Some rate) = Ok rate

-- the rate counts where the first column is another than one of times or of numbers
abbrev pub rate_beside : Remarks → (first : Option (List ℕ)) → Option ℕ
rate_beside r None = rate_known r
rate_beside r (Some name) = if is_counting name then None else rate_known r

-- the column at a place is that of a line
abbrev pub is_line_at : Columns → (place : ℕ) → Bool
is_line_at c place = c.atn == place || c.clock == place || c.line == place

-- one of these columns, of which the first has this place, has times or numbers by its name, and is none of the three
abbrev pub has_times : Columns → (place : ℕ) → (fields : List (List ℕ)) → Bool
has_times c place [] = false
has_times c place (f ∷ fs) = (is_timing f && not (is_line_at c place)) || has_times c (place + 1) fs

-- the rate counts where no later column has times or numbers: they count only in the first one
abbrev pub rate_alone : (times : Bool) → (rate : Option ℕ) → Option ℕ
rate_alone true rate = None
rate_alone false rate = rate

-- the last of these fields, after another one
abbrev pub last_of : (field : List ℕ) → (fields : List (List ℕ)) → List ℕ
last_of field [] = field
last_of field (f ∷ fs) = last_of f fs

-- the last column has the times where it is called so and none of the three lines has it: all others say nothing but levels then
abbrev pub layout_at : Remarks → (separator times : ℕ) → Columns → (name : List ℕ) → (unit : Option ℕ) → Option Layout
layout_at r sep times c name None = None
layout_at r sep times c name (Some unit) =
    if is_line_at c times then None
    else Some (record { columns = record c { has_other_first = false }; separator = sep; scale = scale_of r unit (Some name); times = times })

abbrev pub layout_last : Remarks → (separator : ℕ) → Columns → (fields : List (List ℕ)) → Option Layout
layout_last r sep c fs = layout_at r sep (length fs - 1) c (last_of [] fs) (time_unit (bare_unit r) (last_of [] fs))

abbrev pub layout_or : Option Layout → Result Layout CaptureFault → Result Layout CaptureFault
layout_or None found = found
layout_or (Some y) found = Ok y

-- a table whose first column has no times: it has the numbers of samples, or the last one has the times, or a row is a sample
abbrev pub layout_beside : Signals → Remarks → (number separator : ℕ) → (numbers : Bool) → (fields : List (List ℕ)) → Result Layout CaptureFault
layout_beside s r number sep true fs =
    columns_by s r.behind number 1 (drop 1 fs) >>= λ c.
    rate_or number (rate_alone (has_times c 1 (drop 1 fs)) (rate_known r)) >>= λ rate. Ok (record { columns = rated c; separator = sep; scale = Numbered 1 rate; times = 0 })
layout_beside s r number sep false fs =
    columns_by s r.alone number 0 fs >>= λ c.
    layout_or (layout_last r sep c fs)
    (rate_or number (rate_alone (has_times c 1 (drop 1 fs)) (rate_beside r (field_at 0 fs))) >>= λ rate.
    Ok (record { columns = rated c; separator = sep; scale = Counted rate; times = 0 }))

-- or with times in its first column, by their unit
abbrev pub layout_by : Signals → Remarks → (number separator : ℕ) → (unit : Option ℕ) → (fields : List (List ℕ)) → Result Layout CaptureFault
layout_by s r number sep (Some unit) fs =
    columns_by s r.behind number 1 (drop 1 fs) >>= λ c.
    Ok (record { columns = c; separator = sep; scale = scale_of r unit (field_at 0 fs); times = 0 })
layout_by s r number sep None fs = layout_beside s r number sep (has_numbers r.bare (field_at 0 fs)) fs

-- the unit of the first column, if it is one of times
abbrev pub unit_in : (bare : Option ℕ) → (first : Option (List ℕ)) → Option ℕ
unit_in bare None = None
unit_in bare (Some name) = time_unit bare name

abbrev pub layout_in : Signals → Remarks → (number separator : ℕ) → (fields : List (List ℕ)) → Result Layout CaptureFault
layout_in s r number sep fs = layout_by s r number sep (unit_in (bare_unit r) (field_at 0 fs)) fs

-- a byte 13 with more after it, as where it ends each line: here it ends none, so all rows would be names
abbrev pub has_return : (line : List ℕ) → Bool
has_return [] = false
has_return (b ∷ bs) = if b == 13 then not (list_all is_framing bs) else has_return bs

-- the layout that a line names
abbrev pub layout_of : Signals → Remarks → (number : ℕ) → (line : List ℕ) → Result Layout CaptureFault
layout_of s r number line =
    if has_return line then Err (NoSignal number Atn)
    else layout_in s r number (separator_or r.separator line) (fields_of (separator_or r.separator line) false line)

-- Rows.

-- zeros after a point say nothing
abbrev pub without_zeros : List ℕ → List ℕ
without_zeros [] = []
without_zeros (b ∷ bs) = if b == 48 then without_zeros bs else b ∷ bs

abbrev pub behind_point : List ℕ → List ℕ
behind_point [] = []
behind_point (b ∷ bs) = if b == 46 then without_zeros bs else b ∷ bs

-- a level that a letter spells in a table: z is released, since nobody pulls the line
abbrev pub cell_level : (number : ℕ) → (inverted : Bool) → ℕ → Result Bool CaptureFault
cell_level number inverted b = if b == 122 || b == 90 then Ok true else level_in number inverted b

-- a level that a field spells: 0, 1.0
abbrev pub level_of : (number : ℕ) → (inverted : Bool) → List ℕ → Result Bool CaptureFault
level_of number inverted [] = Err (BadLevel number)
level_of number inverted (b ∷ bs) = if list_all is_framing (behind_point bs) then cell_level number inverted b else Err (BadLevel number)

-- the level of volts, in a line with this level before
abbrev pub volts_level : (number : ℕ) → (inverted before : Bool) → Threshold → Option Volts → Result Bool CaptureFault
volts_level number inverted before t None = Err (BadLevel number)
volts_level number inverted before t (Some v) = Ok (level_by inverted before t v)

-- a level that a cell has, as it is or in volts
abbrev pub level_at : (number separator : ℕ) → (inverted before : Bool) → Option Threshold → List ℕ → Result Bool CaptureFault
level_at number sep inverted before None f = level_of number inverted f
level_at number sep inverted before (Some t) f = volts_level number inverted before t (volts_in sep f)

-- the level in a wire's column
abbrev pub level_or : (number separator : ℕ) → Probes → Wire → (before : Bool) → (field : Option (List ℕ)) → Result Bool CaptureFault
level_or number sep probes wire before None = Err (NoLevel number wire)
level_or number sep probes wire before (Some f) =
    level_at number sep (inverts probes wire) before probes.threshold (without_front f)

-- a letter of a level, known or not: 0, L, 1, H, x or z
abbrev pub is_level_letter : ℕ → Bool
is_level_letter b = b == 48 || b == 76 || b == 108 || b == 49 || b == 72 || b == 104 || b == 120 || b == 88 || b == 122 || b == 90

-- a field is a level: 0, 1.0, x
abbrev pub is_level : List ℕ → Bool
is_level [] = false
is_level (b ∷ bs) = is_level_letter b && list_all is_framing (behind_point bs)

-- the first field is one
abbrev pub has_level : (first : Option (List ℕ)) → Bool
has_level None = false
has_level (Some f) = is_level (without_front f)

-- a field begins as a number does: with a digit, after a sign or not, and after a point, a comma or neither
abbrev pub begins_digit : List ℕ → Bool
begins_digit [] = false
begins_digit (b ∷ bs) = is_digit b

abbrev pub behind_mark : List ℕ → List ℕ
behind_mark [] = []
behind_mark (b ∷ bs) = if b == 46 || b == 44 then bs else b ∷ bs

abbrev pub begins_number : List ℕ → Bool
begins_number l = begins_digit (behind_mark (behind_plus_minus l))

-- and is no level: 2, 0.001, -5 V, 12:30:45
abbrev pub is_number : List ℕ → Bool
is_number l = begins_number l && not (is_level l)

-- one of these columns, of which the first has this place, has such a number, and is none of the three
abbrev pub has_number : Columns → (place : ℕ) → (fields : List (List ℕ)) → Bool
has_number c place [] = false
has_number c place (f ∷ fs) = (is_number (without_front f) && not (is_line_at c place)) || has_number c (place + 1) fs

-- a row has times or numbers that no name says: a first column that is none of the three has no level, or at a rate a later one has a number
abbrev pub is_foreign : Columns → (fields : List (List ℕ)) → Bool
is_foreign c fields = (c.has_other_first && not (has_level (field_at 0 fields))) || (c.are_rated && has_number c 1 (drop 1 fields))

-- the sample of the three columns, with its time, after these levels
abbrev pub sample_by : Layout → Probes → (before : Levels) → (number : ℕ) → (fields : List (List ℕ)) → (time : ℕ)
    → Result Edge CaptureFault
sample_by y probes before number fields t =
    level_or number y.separator probes Atn before.atn (field_at y.columns.atn fields) >>= λ atn.
    level_or number y.separator probes Clock before.clock (field_at y.columns.clock fields) >>= λ clock.
    level_or number y.separator probes Data before.line (field_at y.columns.line fields) >>= λ line.
    Ok (edge_at t atn clock line)

-- a row's sample, with its time, after these levels
abbrev pub sample_of : Layout → Probes → (before : Levels) → (number : ℕ) → (fields : List (List ℕ)) → (time : ℕ)
    → Result Edge CaptureFault
sample_of y probes before number fields t =
    if is_foreign y.columns fields then Err (NoTime number) else sample_by y probes before number fields t

-- the moment of the first row: no start is known, no time was given, no sample comes before it, and all lines are released
abbrev pub first_moment : Moment
first_moment = record { start = None; before = 0; count = 0; levels = record { atn = true; clock = true; line = true } }

-- the moment of a row with this time
abbrev pub moment_at : (number : ℕ) → Moment → Option Instant → Result Moment CaptureFault
moment_at number m None = Err (BadTime number)
moment_at number m (Some i) =
    from_start number (start_of m.start i) i >>= λ t.
    time_or number m.before (Some t) >>= λ u. Ok (record m { start = Some (start_of m.start i); before = u })

-- and of the next row at a rate
abbrev pub moment_next : (number : ℕ) → Moment → (time : Option ℕ) → Result Moment CaptureFault
moment_next number m t = time_or number m.before t >>= λ u. Ok (record m { before = u; count = m.count + 1 })

-- the time that a row's field of times spells
abbrev pub instant_of_row : (separator unit : ℕ) → (time : Option (List ℕ)) → Option Instant
instant_of_row sep unit None = None
instant_of_row sep unit (Some f) = instant_in sep unit (without_front f)

-- that of the sample whose number, multiplied by `step`, it spells
abbrev pub instant_of_number : (step rate : ℕ) → (time : Option (List ℕ)) → Option Instant
instant_of_number step rate None = None
instant_of_number step rate (Some f) = sample_in step rate (without_front f)

abbrev pub moment_of : Scale → (separator number : ℕ) → Moment → (time : Option (List ℕ)) → Result Moment CaptureFault
moment_of (Timed unit) sep number m time = moment_at number m (instant_of_row sep unit time)
moment_of (Numbered step rate) sep number m time = moment_at number m (instant_of_number step rate time)
moment_of (Counted rate) sep number m time = moment_next number m (time_at_rate rate m.count)

-- what a row says: its sample, and the moment from which the next row goes on
abbrev pub row_of : Layout → Probes → (number : ℕ) → Moment → (fields : List (List ℕ)) → Result Row CaptureFault
row_of y probes number m fields =
    moment_of y.scale y.separator number m (field_at y.times fields) >>= λ next.
    sample_of y probes m.levels number fields next.before >>= λ e.
    Ok (record { sample = e; moment = record next { levels = e.levels } })

-- a row's sample, and what is read after it
abbrev pub contents_after_row : Result Row CaptureFault → (Moment → CaptureContents) → CaptureContents
contents_after_row (Err f) rest = refused f
contents_after_row (Ok r) rest = with_samples (r.sample ∷ []) (rest r.moment)

-- rows, of which the first has this number, after this moment
abbrev pub row_contents : Layout → Probes → (number : ℕ) → Moment → List (List ℕ) → CaptureContents
row_contents y probes number m [] = ended
row_contents y probes number m (l ∷ ls) =
    if is_silent l then row_contents y probes (number + 1) m ls
    else contents_after_row (row_of y probes number m (fields_of y.separator false l)) (λ next. row_contents y probes (number + 1) next ls)

-- The whole.

-- what is read after the line of the names
abbrev pub named_contents : Result Layout CaptureFault → (Layout → CaptureContents) → CaptureContents
named_contents (Err f) rest = refused f
named_contents (Ok y) rest = rest y

-- lines, of which the first has this number, after these remarks; the first that says anything else names the columns
abbrev pub line_contents : Signals → Remarks → (number : ℕ) → List (List ℕ) → CaptureContents
line_contents s r number [] = refused (NoSignal number Atn)
line_contents s r number (l ∷ ls) =
    if is_in_front l then line_contents s (noted s r l) (number + 1) ls
    else named_contents (layout_of s r number l) (λ y. row_contents y s.probes (number + 1) first_moment ls)

-- The first line begins with a byte order mark, or not. Text of 16 bits a letter and zip archives are no tables.
abbrev pub is_wide : List ℕ → Bool
is_wide l = bytes_eq (take 2 l) (255 ∷ 254 ∷ []) || bytes_eq (take 2 l) (254 ∷ 255 ∷ [])

abbrev pub is_archive : List ℕ → Bool
is_archive l = bytes_eq (take 4 l) (80 ∷ 75 ∷ 3 ∷ 4 ∷ [])

abbrev pub without_mark : List ℕ → List ℕ
without_mark l = if bytes_eq (take 3 l) (239 ∷ 187 ∷ 191 ∷ []) then drop 3 l else l

-- the first line as it is read
abbrev pub opened : (line : List ℕ) → Result (List ℕ) CaptureFault
opened l = if is_wide l then Err WideText else (if is_archive l then Err Archive else Ok (without_mark l))

abbrev pub opened_contents : Result (List ℕ) CaptureFault → (List ℕ → CaptureContents) → CaptureContents
opened_contents (Err f) rest = refused f
opened_contents (Ok l) rest = rest l

abbrev pub first_contents : Signals → (given : Option ℕ) → (number : ℕ) → List (List ℕ) → CaptureContents
first_contents s given number [] = line_contents s (no_remarks given) number []
first_contents s given number (l ∷ ls) = opened_contents (opened l) (λ line. line_contents s (no_remarks given) number (line ∷ ls))

-- what a text says, with the rate that the caller gives
unfoldable pub csv_contents : Signals → (given : Option ℕ) → List ℕ → CaptureContents
csv_contents s given text = first_contents s given 1 (lines_of text)

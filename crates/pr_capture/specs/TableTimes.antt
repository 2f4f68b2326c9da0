-- Trusted: times in a table: their unit, by the name of their column; the rate of samples, by a remark; and what a field spells.
use Rattle.std.specs.Prelude.{ℕ, ◌+◌, ◌-◌, ◌*◌, ◌/◌, ◌%◌, ◌==◌, ◌&&◌, ◌||◌, Bool, true, false, not, List, [], ◌∷◌, codes, drop, is_some, length, nat_le, nat_lt, take, if◌then◌else◌, Option, Some, None, Result, Ok, Err}
use Rattle.std.specs.List.{list_all}
use Rattle.std.specs.Str.{bytes_eq}
use Rattle.pr_base.specs.Digits.{is_digit}
use Rattle.pr_capture.specs.declared.csv.Scale.{Scale}
use Rattle.pr_capture.specs.declared.csv.Scale.TheVariants.{Numbered, Timed}
use Rattle.pr_capture.specs.declared.fault.CaptureFault.{CaptureFault}
use Rattle.pr_capture.specs.declared.fault.CaptureFault.TheVariants.{BadTime, GoesBack}
use Rattle.pr_capture.specs.declared.remarks.Remarks.{Remarks}
use Rattle.pr_capture.specs.declared.times.Exponent.{Exponent}
use Rattle.pr_capture.specs.declared.times.Instant.{Instant}
use Rattle.pr_capture.specs.Recording.{first_some, is_framing}
use Rattle.pr_capture.specs.Numbers.{behind_decimals, behind_digits, are_some, behind_word, decimals_in, digits_in, is_letter, is_sign, number_from, number_in, number_of_first, onward, spells, with_zeros, without_signs}

-- The unit of times: how many decimals it is of a second, 0 for seconds and 12 for picoseconds.

-- a micro sign before s, in UTF-8 (of two kinds) and in Latin-1
abbrev pub is_micro : (name : List ℕ) → Bool
is_micro l = spells (194 ∷ 181 ∷ 115 ∷ []) l || spells (206 ∷ 188 ∷ 115 ∷ []) l || spells (181 ∷ 115 ∷ []) l

-- a unit has one of these names, as its sign and its words in full
abbrev pub is_unit : (short long more name : List ℕ) → Bool
is_unit short long more l = spells short l || spells long l || spells more l

-- or one of these, which cut words short
abbrev pub is_cut : (cut front name : List ℕ) → Bool
is_cut cut front l = spells cut l || spells front l

abbrev pub unit_of : (name : List ℕ) → Option ℕ
unit_of l =
    if is_unit (codes "s") (codes "second") (codes "seconds") l || spells (codes "sec") l then Some 0
    else (if is_unit (codes "ms") (codes "millisecond") (codes "milliseconds") l || is_cut (codes "msec") (codes "millis") l then Some 3
    else (if is_unit (codes "us") (codes "microsecond") (codes "microseconds") l || is_cut (codes "usec") (codes "micros") l || is_micro l then Some 6
    else (if is_unit (codes "ns") (codes "nanosecond") (codes "nanoseconds") l || is_cut (codes "nsec") (codes "nanos") l then Some 9
    else (if is_unit (codes "ps") (codes "picosecond") (codes "picoseconds") l || is_cut (codes "psec") (codes "picos") l then Some 12
    else None))))

-- the unit that is after a word for time; the unit of a bare word, where none does
abbrev pub unit_behind : (bare : Option ℕ) → (rest : Option (List ℕ)) → Option ℕ
unit_behind bare None = None
unit_behind bare (Some rest) = if list_all is_sign rest then bare else unit_of rest

-- a word ends here: no letter or digit follows
abbrev pub ends_there : (rest : Option (List ℕ)) → Bool
ends_there None = false
ends_there (Some []) = true
ends_there (Some (b ∷ bs)) = is_sign b

-- the same after a word that ends here
abbrev pub unit_apart : (bare : Option ℕ) → (rest : Option (List ℕ)) → Option ℕ
unit_apart bare rest = if ends_there rest then unit_behind bare rest else None

-- the unit that a column of times names: Time [s], Time (msec), t/ns, microseconds, micros; TMS is none. Other columns have none
abbrev pub time_unit : (bare : Option ℕ) → (name : List ℕ) → Option ℕ
time_unit bare l =
    first_some (unit_behind bare (behind_word (codes "timestamp") l))
    (first_some (unit_behind bare (behind_word (codes "time") l))
    (first_some (unit_apart bare (behind_word (codes "t") l))
    (unit_of l)))

-- a name begins with a word: Time (min), but not TIMEOUT
abbrev pub begins : (word name : List ℕ) → Bool
begins word l = ends_there (behind_word word l)

-- a name is by a word one of times or of numbers: Time (min), Delta [us], Elapsed, Sample No., Row, n
abbrev pub is_count_word : (name : List ℕ) → Bool
is_count_word l =
    begins (codes "t") l || begins (codes "time") l || begins (codes "timestamp") l || begins (codes "elapsed") l
    || begins (codes "delta") l || begins (codes "relative") l || begins (codes "sample") l || begins (codes "samples") l || begins (codes "row") l
    || begins (codes "index") l || begins (codes "number") l || begins (codes "count") l || begins (codes "tick") l
    || begins (codes "ticks") l || spells (codes "n") l || spells (codes "nr") l || spells (codes "no") l

-- a first column that is called so, or has no name, has times or numbers, never levels
abbrev pub is_counting : (name : List ℕ) → Bool
is_counting l = is_count_word l || list_all is_sign l

-- sigrok's own names for times: Time, or their unit in full
abbrev pub is_sigrok_word : (name : List ℕ) → Bool
is_sigrok_word l =
    spells (codes "time") l || spells (codes "seconds") l || spells (codes "milliseconds") l
    || spells (codes "microseconds") l || spells (codes "nanoseconds") l || spells (codes "picoseconds") l

abbrev pub is_sigrok_name : (first : Option (List ℕ)) → Bool
is_sigrok_name None = false
is_sigrok_name (Some name) = is_sigrok_word name

-- a column is called by a word for the number of a sample
abbrev pub is_sample_word : (name : List ℕ) → Bool
is_sample_word l =
    spells (codes "sample") l || spells (codes "samples") l || spells (codes "sampleindex") l || spells (codes "samplenumber") l || spells (codes "index") l

-- a column has times or numbers, wherever it stands: by the unit that it names, or by such a word: us, Time [s], Elapsed, Sample, Row
abbrev pub is_timing : (name : List ℕ) → Bool
is_timing l = is_some (time_unit (Some 0) l) || is_sample_word l || is_count_word l

-- Exponents.

-- a sign, if one is here, and what follows it
abbrev pub is_minus : List ℕ → Bool
is_minus [] = false
is_minus (b ∷ bs) = b == 45

abbrev pub behind_plus_minus : List ℕ → List ℕ
behind_plus_minus [] = []
behind_plus_minus (b ∷ bs) = if b == 45 || b == 43 then bs else b ∷ bs

-- up to 255 places
abbrev pub few_places : (negative : Bool) → Option ℕ → Option Exponent
few_places negative None = None
few_places true (Some n) = if nat_lt n 256 then Some (record { right = 0; left = n }) else None
few_places false (Some n) = if nat_lt n 256 then Some (record { right = n; left = 0 }) else None

abbrev pub places_in : (negative : Bool) → List ℕ → Option Exponent
places_in negative l =
    if not (length (digits_in l) == 0) && list_all is_framing (behind_digits l) then few_places negative (number_from 0 (digits_in l)) else None

-- after the digits of a number: e, a sign and digits, or nothing
abbrev pub exponent_in : List ℕ → Option Exponent
exponent_in [] = Some (record { right = 0; left = 0 })
exponent_in (b ∷ bs) =
    if b == 69 || b == 101 then places_in (is_minus bs) (behind_plus_minus bs)
    else (if list_all is_framing (b ∷ bs) then Some (record { right = 0; left = 0 }) else None)

-- Remarks: the rate of samples, in samples a second, and the unit of a bare word for time.

-- the unit of a rate, as the power of ten that it is; signs do not count, so S/s is Ss, and Sa/s is Sas
abbrev pub rate_unit : (name : List ℕ) → Option ℕ
rate_unit l =
    if list_all is_sign l || is_unit (codes "Hz") (codes "Ss") (codes "Sas") l || spells (codes "sps") l then Some 0
    else (if is_unit (codes "k") (codes "kHz") (codes "kSs") l || is_cut (codes "kSas") (codes "ksps") l then Some 3
    else (if is_unit (codes "M") (codes "MHz") (codes "MSs") l || is_cut (codes "MSas") (codes "Msps") l then Some 6
    else (if is_unit (codes "G") (codes "GHz") (codes "GSs") l || is_cut (codes "GSas") (codes "Gsps") l then Some 9
    else None)))

abbrev pub is_this : (unit : ℕ) → Option ℕ → Bool
is_this unit None = false
is_this unit (Some u) = u == unit

-- e and a number stand here, as in 4e6, and nothing after it or a unit that is no power itself, as in 4e6 Hz
abbrev pub behind_letter_e : (rest : List ℕ) → List ℕ
behind_letter_e [] = []
behind_letter_e (b ∷ bs) = bs

abbrev pub begins_power : (rest : List ℕ) → Bool
begins_power [] = false
begins_power (b ∷ bs) = b == 69 || b == 101

abbrev pub is_power : (rest : List ℕ) → Bool
is_power l = begins_power l && is_this 0 (rate_unit (behind_digits (behind_plus_minus (behind_letter_e l))))

-- the number after e, its sign among the places that it moves the point
abbrev pub power_in : (rest : List ℕ) → Option Exponent
power_in l = few_places (is_minus l) (number_in (behind_plus_minus l))

abbrev pub places_right : Option Exponent → Option ℕ
places_right None = None
places_right (Some e) = if e.left == 0 then Some e.right else None

-- the power of ten after a number: that of an exponent, or of a unit
abbrev pub rate_power : (rest : List ℕ) → Option ℕ
rate_power l = if is_power l then places_right (power_in (behind_letter_e l)) else rate_unit l

-- a rate is not 0
abbrev pub some_rate : Option ℕ → Option ℕ
some_rate None = None
some_rate (Some n) = if n == 0 then None else Some n

abbrev pub rate_by : (whole decimals : List ℕ) → (power : Option ℕ) → Option ℕ
rate_by whole ds None = None
rate_by whole ds (Some k) =
    if length whole == 0 then None else some_rate (onward (number_from 0 whole) (λ n. number_of_first n k ds))

-- 4 MHz, 1.5 kS/s, 4e6, 4000000
abbrev pub rate_in : (text : List ℕ) → Option ℕ
rate_in l = rate_by (digits_in l) (decimals_in (behind_digits l)) (rate_power (behind_decimals (behind_digits l)))

-- these decimals before this power of ten are whole samples a second
abbrev pub is_whole : (decimals : List ℕ) → (power : Option ℕ) → Bool
is_whole ds None = false
is_whole ds (Some k) = not (are_some (drop k ds))

-- what follows a point and decimals
abbrev pub behind_fraction : List ℕ → List ℕ
behind_fraction l = if length (decimals_in l) == 0 then l else behind_decimals l

-- what may stand in a unit of a rate: letters, spaces and /
abbrev pub is_in_unit : ℕ → Bool
is_in_unit b = is_letter b || b == 32 || b == 47

-- a small m before s is no mega: ms is a word for another unit
abbrev pub is_milli : (unit : List ℕ) → Bool
is_milli [] = false
is_milli (b ∷ bs) = b == 109 && is_some (behind_word (codes "s") bs)

-- a slash comes before the last s alone
abbrev pub has_slash : (unit : List ℕ) → Bool
has_slash [] = false
has_slash (b ∷ bs) = if b == 47 then not (spells (codes "s") bs) else has_slash bs

-- a unit of an option's value
abbrev pub is_plain_unit : (unit : List ℕ) → Bool
is_plain_unit l = list_all is_in_unit l && not (is_milli (without_signs l)) && not (has_slash l)

-- after the number of an option's value: a unit, or e, a number and a unit
abbrev pub is_plain_rate : (rest : List ℕ) → Bool
is_plain_rate l =
    if is_power l then is_plain_unit (behind_digits (behind_plus_minus (behind_letter_e l))) else is_plain_unit l

-- the same of the value of an option, which has digits, perhaps a point, and an exponent or a unit: 4M, 12.5M, 500k, 24 MHz, 4MS/s, 4e6, 4e6Hz
abbrev pub rate_given : (text : List ℕ) → Option ℕ
rate_given l =
    if is_plain_rate (behind_fraction (behind_digits l)) && is_whole (decimals_in (behind_digits l)) (rate_power (behind_fraction (behind_digits l)))
    then rate_in l else None

-- the unit that sigrok takes for times, by the rate of samples: the largest that is no longer than a sample
abbrev pub unit_by : (rate : Option ℕ) → Option ℕ
unit_by None = None
unit_by (Some n) =
    if n == 1 then Some 0
    else (if nat_le n 1000 then Some 3
    else (if nat_le n 1000000 then Some 6
    else (if nat_le n 1000000000 then Some 9
    else Some 12)))

-- before any remark, a bare word for time is of seconds. A rate that the caller gives counts before that of a remark
abbrev pub no_remarks : (given : Option ℕ) → Remarks
no_remarks given = record { given = given; rate = None; differs = false; bare = Some 0; separator = None; alone = None; behind = None }

-- and none is known by remarks that differ
abbrev pub rate_told : (differs : Bool) → (rate : Option ℕ) → Option ℕ
rate_told true rate = None
rate_told false rate = rate

abbrev pub rate_known : Remarks → Option ℕ
rate_known r = first_some r.given (rate_told r.differs r.rate)

-- the unit of a bare word for time: none where remarks differ, or a caller gives a rate and no remark does, since sigrok's
-- units go by the rate, and other tools' are seconds
abbrev pub bare_unit : Remarks → Option ℕ
bare_unit r = if r.differs || (is_some r.given && not (is_some r.rate)) then None else r.bare

-- what a remark has between its word and the rate: blanks, a colon, an equals sign
abbrev pub is_mark : ℕ → Bool
is_mark b = b == 32 || b == 9 || b == 58 || b == 61

abbrev pub behind_marks : List ℕ → List ℕ
behind_marks [] = []
behind_marks (b ∷ bs) = if is_mark b then behind_marks bs else b ∷ bs

-- a remark does not give the rate that is known
abbrev pub is_another : (known rate : Option ℕ) → Bool
is_another None rate = false
is_another (Some a) None = true
is_another (Some a) (Some b) = not (a == b)

-- after a rate: a remark of sigrok's, whatever signs it begins with, gives the unit of a bare word for time too
abbrev pub with_rate : Remarks → (line : List ℕ) → (text : Option (List ℕ)) → Remarks
with_rate r line None = r
with_rate r line (Some text) = record r {
  rate = rate_in (behind_marks text);
  differs = r.differs || is_another r.rate (rate_in (behind_marks text));
  bare = if bytes_eq (take 11 (without_signs line)) (codes "Samplerate:")
      then unit_by (rate_in (behind_marks text)) else r.bare;
}

-- the line that sigrok-cli puts in front of what it writes before it knows the rate, so that all its times are 0
abbrev pub with_meta : Remarks → (line : List ℕ) → (text : Option (List ℕ)) → Remarks
with_meta r line None = with_rate r line (behind_word (codes "samplerate") line)
with_meta r line (Some text) = record r {
  rate = rate_in (behind_marks text);
  differs = r.differs || is_another r.rate (rate_in (behind_marks text));
  bare = None;
}

-- after a remark
abbrev pub remarked : Remarks → (line : List ℕ) → Remarks
remarked r line = with_meta r line (behind_word (codes "METAsamplerate") line)

-- Columns of times: sigrok-cli adds up the time of one sample, in whole units, rounded down. So its times are numbers of units; where a
-- sample is no whole number of them, they are taken for what they are: numbers of samples, multiplied by that time.

-- the rate of sigrok's remark, if this is the unit that it has for it, and the first column has a name of sigrok's
abbrev pub own_rate : Remarks → (unit : ℕ) → (first : Option (List ℕ)) → (rate : Option ℕ) → Option ℕ
own_rate r unit first None = None
own_rate r unit first (Some n) =
    if is_sigrok_name first && is_this unit r.bare && is_this unit (unit_by (Some n)) then Some n else None

-- a second has this many units
abbrev pub scale_by : (unit rate : ℕ) → (second : Option ℕ) → Scale
scale_by unit rate None = Timed unit
scale_by unit rate (Some n) = if rate == 0 || n % rate == 0 then Numbered 1 n else Numbered (n / rate) rate

abbrev pub scale_at : (unit : ℕ) → (own : Option ℕ) → Scale
scale_at unit None = Timed unit
scale_at unit (Some rate) = scale_by unit rate (with_zeros unit 1)

-- what the first column has, whose name is of times in this unit
abbrev pub scale_of : Remarks → (unit : ℕ) → (first : Option (List ℕ)) → Scale
scale_of r unit first = scale_at unit (own_rate r unit first (rate_told r.differs r.rate))

-- it has numbers of samples; but none after the line that sigrok-cli puts in front, since all are 0 then
abbrev pub has_numbers : (bare : Option ℕ) → (first : Option (List ℕ)) → Bool
has_numbers None first = false
has_numbers (Some unit) None = false
has_numbers (Some unit) (Some name) = is_sample_word name

-- Times: whole microseconds before or after the moment 0, rounded to the earlier one.

-- the sign before decimals: a point, or a comma where another byte separates fields
abbrev pub is_decimal_sign : (separator : ℕ) → ℕ → Bool
is_decimal_sign sep b = b == 46 || (b == 44 && not (sep == 44))

-- the digits after it, if it is here, and what follows them
abbrev pub decimals_by : (separator : ℕ) → List ℕ → List ℕ
decimals_by sep [] = []
decimals_by sep (b ∷ bs) = if is_decimal_sign sep b then digits_in bs else []

abbrev pub behind_decimals_by : (separator : ℕ) → List ℕ → List ℕ
behind_decimals_by sep [] = []
behind_decimals_by sep (b ∷ bs) = if is_decimal_sign sep b then behind_digits bs else b ∷ bs

-- the whole microseconds of a number whose point moves to the right by this many places, and then to the left
abbrev pub micros_of : (right left : ℕ) → (whole decimals : List ℕ) → Option ℕ
micros_of right left whole ds =
    if nat_le left right then onward (number_from 0 whole) (λ n. number_of_first n (right - left) ds)
    else number_from 0 (take (length whole - (left - right)) whole)

-- after the point then are other digits than zeros
abbrev pub has_rest : (right left : ℕ) → (whole decimals : List ℕ) → Bool
has_rest right left whole ds =
    if nat_le left right then are_some (drop (right - left) ds)
    else are_some (drop (length whole - (left - right)) whole) || are_some ds

-- a time before 0 is rounded to the earlier microsecond too
abbrev pub earlier : (rest : Bool) → Option ℕ → Option ℕ
earlier rest None = None
earlier false (Some n) = Some n
earlier true (Some n) = if nat_lt (n + 1) 18446744073709551616 then Some (n + 1) else None

abbrev pub instant_of : (negative : Bool) → Option ℕ → Option Instant
instant_of negative None = None
instant_of negative (Some n) = Some (record { is_negative = negative; micros = n })

-- the time of a number whose point moves so
abbrev pub instant_at : (negative : Bool) → (right left : ℕ) → (whole decimals : List ℕ) → Option Instant
instant_at negative right left whole ds =
    instant_of negative (earlier (negative && has_rest right left whole ds) (micros_of right left whole ds))

abbrev pub instant_by : (unit : ℕ) → (negative : Bool) → (whole decimals : List ℕ) → Option Exponent → Option Instant
instant_by unit negative whole ds None = None
instant_by unit negative whole ds (Some e) =
    if length whole == 0 then None else instant_at negative (6 + e.right) (unit + e.left) whole ds

-- the same of a number without its sign
abbrev pub unsigned_in : (separator unit : ℕ) → (negative : Bool) → List ℕ → Option Instant
unsigned_in sep unit negative l =
    instant_by unit negative (digits_in l) (decimals_by sep (behind_digits l)) (exponent_in (behind_decimals_by sep (behind_digits l)))

-- A date and a time of day, as 2024-06-21T14:28:30.123456789+00:00: it is counted back from the end of the month's last day.
-- So times go on from day to day, and go back from month to month.

-- what follows digits and a sign
abbrev pub behind_sign_of : (sign : ℕ) → List ℕ → Option (List ℕ)
behind_sign_of sign [] = None
behind_sign_of sign (b ∷ bs) = if b == sign then Some bs else None

abbrev pub behind_part : (sign : ℕ) → List ℕ → Option (List ℕ)
behind_part sign l = behind_sign_of sign (behind_digits l)

-- a zone: Z, hours and minutes, or nothing
abbrev pub is_zone_sign : ℕ → Bool
is_zone_sign b = is_digit b || b == 90 || b == 43 || b == 45 || b == 58 || is_framing b

-- the microseconds from a moment of a month on to the end of its day 31
abbrev pub micros_left : (day hour minute second micros : ℕ) → Option ℕ
micros_left day hour minute second micros =
    if nat_le day 31 && nat_lt hour 24 && nat_lt minute 60 && nat_lt second 60 && nat_lt micros 1000000
    then Some ((((32 - day) * 24 - hour) * 60 - minute) * 60000000 - second * 1000000 - micros) else None

-- the moment of a month that these texts begin with: a day, an hour, a minute, a second and its decimals
abbrev pub left_at : (separator : ℕ) → (day hour minute second : List ℕ) → Option ℕ
left_at sep day hour minute second =
    onward (number_in day) (λ d. onward (number_in hour) (λ h. onward (number_in minute) (λ m. onward (number_in second) (λ s.
    onward (number_of_first 0 6 (decimals_by sep (behind_digits second))) (λ u. micros_left d h m s u)))))

-- the parts of a time of day, after those of the date
abbrev pub dated_in : (separator : ℕ) → List ℕ → Option Instant
dated_in sep l =
    onward (behind_part 45 l) (λ month. onward (behind_part 45 month) (λ day. onward (behind_part 84 day) (λ hour.
    onward (behind_part 58 hour) (λ minute. onward (behind_part 58 minute) (λ second.
    if list_all is_zone_sign (behind_decimals_by sep (behind_digits second)) then instant_of true (left_at sep day hour minute second) else None)))))

-- the time that a field spells: a date and a time of day, or a number of units
abbrev pub instant_or : (dated : Option Instant) → (separator unit : ℕ) → List ℕ → Option Instant
instant_or (Some i) sep unit l = Some i
instant_or None sep unit l = unsigned_in sep unit (is_minus l) (behind_plus_minus l)

abbrev pub instant_in : (separator unit : ℕ) → List ℕ → Option Instant
instant_in sep unit l = instant_or (dated_in sep l) sep unit l

-- From the start of a table on, which is its first time, where that lies before 0, and else 0.

-- how long before 0 the start is
abbrev pub start_of : (start : Option ℕ) → Instant → ℕ
start_of (Some s) i = s
start_of None i = if i.is_negative then i.micros else 0

abbrev pub from_start : (number start : ℕ) → Instant → Result ℕ CaptureFault
from_start number start i =
    if i.is_negative then (if nat_le i.micros start then Ok (start - i.micros) else Err (GoesBack number))
    else (if nat_lt (start + i.micros) 18446744073709551616 then Ok (start + i.micros) else Err (BadTime number))

-- a time, in whole microseconds not before that of an earlier row
abbrev pub time_or : (number before : ℕ) → Option ℕ → Result ℕ CaptureFault
time_or number before None = Err (BadTime number)
time_or number before (Some t) = if nat_lt t before then Err (GoesBack number) else Ok t

-- the time of the sample after this many others, where a second has this many
abbrev pub time_at_rate : (rate count : ℕ) → Option ℕ
time_at_rate rate count =
    if not (rate == 0) && nat_lt (count + 1) 18446744073709551616 && nat_lt (count * 1000000 / rate) 18446744073709551616 then Some (count * 1000000 / rate) else None

-- The number of a sample, multiplied by `step`: digits alone.

abbrev pub count_in : (text : List ℕ) → Option ℕ
count_in l = if list_all is_framing (behind_digits l) then number_in l else None

-- how often a number has this one, if it has it so often exactly
abbrev pub times_in : (step : ℕ) → ℕ → Option ℕ
times_in step n = if not (step == 0) && n % step == 0 then Some (n / step) else None

-- the time of the sample with this number
abbrev pub sample_in : (step rate : ℕ) → (text : List ℕ) → Option Instant
sample_in step rate l = instant_of false (onward (onward (count_in l) (times_in step)) (time_at_rate rate))

-- A table that holds samples is read back as these samples.
use Rattle.std.proofs.Common.{◌≡◌, ℕ, zero, suc, ◌+◌, ◌-◌, ◌*◌, ◌/◌, ◌%◌, ◌<◌, ◌≤◌, ◌==◌, Bool, true, false, List, [], ◌∷◌, ◌++◌, length, take, refl, ap, sym, subst, ◌∙◌, arith, append_assoc, append-nil, length-append, nat_lt, Option, Some, None, inl, inr, lit<}
use Rattle.std.proofs.Math.Seq.{take-append_seam}
use Rattle.std.specs.Prelude.{◌⊎◌, codes, if◌then◌else◌, is_some, nat_le, Result, Ok, Err}
use Rattle.std.specs.List.{list_all}
use Rattle.std.proofs.lemmas.Grind.{common_steps}
use Rattle.std.proofs.lemmas.List.{take_all}
use Rattle.std.proofs.lemmas.List.Folds.{list_all-append}
use Rattle.pr_wire.specs.declared.Edge.{Edge}
use Rattle.pr_wire.specs.declared.Levels.{Levels}
use Rattle.pr_wire.specs.Levels.{edge_at}
use Rattle.pr_base.specs.Digits.{is_digit}
use Rattle.pr_base.specs.Lines.{lines_of}
use Rattle.pr_capture.specs.declared.csv.Columns.{Columns}
use Rattle.pr_capture.specs.declared.csv.Layout.{Layout}
use Rattle.pr_capture.specs.declared.csv.Moment.{Moment}
use Rattle.pr_capture.specs.declared.csv.Scale.TheVariants.{Timed}
use Rattle.pr_capture.specs.declared.fault.CaptureFault.{CaptureFault}
use Rattle.pr_capture.specs.declared.fault.CaptureFault.TheVariants.{NoSignal}
use Rattle.pr_capture.specs.declared.fault.Wire.TheVariants.{Atn, Clock, Data}
use Rattle.pr_capture.specs.declared.signals.Signals.{Signals}
use Rattle.pr_capture.specs.Csv.{clock_name, column_in, column_of, csv_contents, fields_of, first_contents, first_moment, has_return, is_in_front, is_inner, is_silent, layout_by, layout_in, layout_of, moment_at, opened, row_contents, row_of, sample_of, separator_of}
use Rattle.pr_capture.specs.Numbers.{number_from, number_of_first, onward, with_zeros}
use Rattle.pr_capture.specs.TableTimes.{bare_unit, instant_in, micros_of, no_remarks, start_of, time_unit}
use Rattle.pr_capture.specs.CsvLaws.{InOrder, csv_names, csv_of, csv_row, csv_rows, digits_of, level_byte, separator_byte, time_field, time_name, Separator, TimeUnit}
use Rattle.pr_capture.specs.CsvLaws.Separator.{Comma, Semicolon, Tab}
use Rattle.pr_capture.specs.CsvLaws.TimeUnit.{Seconds, Milliseconds, Microseconds, Nanoseconds, Picoseconds}
use Rattle.pr_capture.specs.Recording.{◌>>=◌, alike, second_name, with_samples, without_front}
use Rattle.pr_capture.specs.Samples.{changes_after, edges_of, last_at_each}
use Rattle.pr_capture.specs.VcdReadingLaws.{IsAsWritten, RunsOn}
use Rattle.pr_capture.proofs.CsvReading.{inner-line}
use Rattle.pr_capture.proofs.CsvTimes.{behind_start, digit-first, digits-read, field-first, is_inside, tail-of-none, tail-of-point}
use Rattle.pr_capture.proofs.VcdReadBack.{from-zero, not-same}

-- Digits.

-- digits in two parts
number-append : (n : ℕ) (ds es : List ℕ) → number_from n (ds ++ es) ≡ onward (number_from n ds) (λ m. number_from m es)
number-append n [] es = refl
number-append n (d ∷ ds) es = step (nat_lt (10 * n + (d - 48)) 18446744073709551616) refl (number-append (10 * n + (d - 48)) ds es)
  where
    step : (t : Bool) → nat_lt (10 * n + (d - 48)) 18446744073709551616 ≡ t
        → number_from (10 * n + (d - 48)) (ds ++ es) ≡ onward (number_from (10 * n + (d - 48)) ds) (λ m. number_from m es)
        → number_from n ((d ∷ ds) ++ es) ≡ onward (number_from n (d ∷ ds)) (λ m. number_from m es)
    step true e next = rw e next
    step false e next = rw e refl

number-on : (n : ℕ) (ds es : List ℕ) (m : ℕ) → number_from n ds ≡ Some m → number_from n (ds ++ es) ≡ number_from m es
number-on n ds es m h = number-append n ds es ∙ ap (λ o. onward o (λ k. number_from k es)) h

-- a number with this many zeros after it
abbrev scaled : ℕ → ℕ → ℕ
scaled zero n = n
scaled (suc k) n = 10 * scaled k n

-- the digits of a number spell it
digits-spell : (k v n : ℕ) → n < scaled k 1 → scaled k v + n < 18446744073709551616 → number_from v (digits_of k n) ≡ Some (scaled k v + n)
digits-spell zero v n few fits = let none : n ≡ 0 = omega (arith, few) in ap (λ (m : ℕ). Some m) (omega (arith, none))
digits-spell (suc k) v n few fits =
    let m : ℕ = scaled k v + n / 10 in
    let less : n / 10 < scaled k 1 = omega (arith, few) in
    let below : m < 18446744073709551616 = omega (arith, fits) in
    let whole : 10 * m + (48 + n % 10 - 48) ≡ scaled (suc k) v + n = omega arith in
    let room : nat_lt (10 * m + (48 + n % 10 - 48)) 18446744073709551616 ≡ true = rw whole (grind (arith, common_steps)) in
    number-on v (digits_of k (n / 10)) ((48 + n % 10) ∷ []) m (digits-spell k v (n / 10) less below)
    ∙ rw room (ap (λ (j : ℕ). Some j) whole)

-- this many digits
digits-count : (k n : ℕ) → length (digits_of k n) ≡ k
digits-count zero n = refl
digits-count (suc k) n = length-append (digits_of k (n / 10)) ((48 + n % 10) ∷ []) ∙ (let c = digits-count k (n / 10) in omega (arith, c))

-- what is true of each digit is true of all
one-digit : (n : ℕ) → is_digit (48 + n % 10) ≡ true
one-digit n = let r : n % 10 < 10 = omega arith in grind (arith, common_steps)

all-digits : (p : ℕ → Bool) → ((b : ℕ) → is_digit b ≡ true → p b ≡ true) → (k n : ℕ) → list_all p (digits_of k n) ≡ true
all-digits p h zero n = refl
all-digits p h (suc k) n =
    list_all-append p (digits_of k (n / 10)) ((48 + n % 10) ∷ [])
    ∙ rw (all-digits p h k (n / 10), h (48 + n % 10) (one-digit n)) refl

-- Fields.

digit-plain : (p : Separator) (b : ℕ) → is_digit b ≡ true → is_inside (separator_byte p) b ≡ true
digit-plain Comma b h = grind (arith, common_steps)
digit-plain Semicolon b h = grind (arith, common_steps)
digit-plain Tab b h = grind (arith, common_steps)

point-plain : (p : Separator) → is_inside (separator_byte p) 46 ≡ true
point-plain Comma = refl
point-plain Semicolon = refl
point-plain Tab = refl

digit-inner : (b : ℕ) → is_digit b ≡ true → is_inner b ≡ true
digit-inner b h = grind (arith, common_steps)

-- Times.

is-digits : (k n : ℕ) → list_all is_digit (digits_of k n) ≡ true
is-digits k n = all-digits is_digit (λ b h. h) k n

-- this many decimals are taken whole
all-taken : (k w : ℕ) (ds : List ℕ) → length ds ≡ k → number_of_first w k ds ≡ onward (number_from w ds) (λ m. Some m)
all-taken k w ds h =
    let whole : take k ds ≡ ds = take_all k ds (omega (arith, h)) in
    let none : k - length ds ≡ 0 = omega (arith, h) in
    ap (λ v. onward (number_from w v) (λ m. with_zeros (k - length ds) m)) whole
    ∙ ap (λ i. onward (number_from w ds) (λ m. with_zeros i m)) none

some-digits : (k n : ℕ) → 0 < k → 0 < length (digits_of k n)
some-digits k n h = let c = digits-count k n in omega (arith, c, h)

-- seconds and milliseconds, with their decimals
seconds-read : (sep t : ℕ) → t < 18446744073709551616 → instant_in sep 0 (without_front (time_field Seconds t)) ≡ Some (behind_start t)
seconds-read sep t fits =
    let whole : List ℕ = digits_of 14 (t / 1000000) in
    let parts : List ℕ = digits_of 6 (t % 1000000) in
    let few : t / 1000000 < scaled 14 1 = omega (arith, fits) in
    let none-before : scaled 14 0 + t / 1000000 ≡ t / 1000000 = omega arith in
    let low : scaled 14 0 + t / 1000000 < 18446744073709551616 = omega (arith, fits) in
    let seconds : number_from 0 whole ≡ Some (t / 1000000) = digits-spell 14 0 (t / 1000000) few low ∙ ap (λ (v : ℕ). Some v) none-before in
    let back : scaled 6 (t / 1000000) + t % 1000000 ≡ t = omega arith in
    let rest : number_from (t / 1000000) parts ≡ Some t =
    digits-spell 6 (t / 1000000) (t % 1000000) (omega arith) (subst (λ v. v < 18446744073709551616) (sym back) fits) ∙ ap (λ (v : ℕ). Some v) back in
    let some : 0 < length whole = some-digits 14 (t / 1000000) (lit< tt) in
    let there : (length whole == 0) ≡ false = grind (arith, common_steps) in
    let micros : micros_of 6 0 whole parts ≡ Some t =
    ap (λ o. onward o (λ n. number_of_first n 6 parts)) seconds
    ∙ (all-taken 6 (t / 1000000) parts (digits-count 6 (t % 1000000)) ∙ ap (λ o. onward o (λ m. Some m)) rest) in
    digits-read sep 0 whole parts (46 ∷ parts) t (is-digits 14 (t / 1000000)) some (tail-of-point parts (is-digits 6 (t % 1000000))) (rw (there, micros) refl)

millis-read : (sep t : ℕ) → t < 18446744073709551616 → instant_in sep 3 (without_front (time_field Milliseconds t)) ≡ Some (behind_start t)
millis-read sep t fits =
    let whole : List ℕ = digits_of 17 (t / 1000) in
    let parts : List ℕ = digits_of 3 (t % 1000) in
    let few : t / 1000 < scaled 17 1 = omega (arith, fits) in
    let none-before : scaled 17 0 + t / 1000 ≡ t / 1000 = omega arith in
    let low : scaled 17 0 + t / 1000 < 18446744073709551616 = omega (arith, fits) in
    let seconds : number_from 0 whole ≡ Some (t / 1000) = digits-spell 17 0 (t / 1000) few low ∙ ap (λ (v : ℕ). Some v) none-before in
    let back : scaled 3 (t / 1000) + t % 1000 ≡ t = omega arith in
    let rest : number_from (t / 1000) parts ≡ Some t =
    digits-spell 3 (t / 1000) (t % 1000) (omega arith) (subst (λ v. v < 18446744073709551616) (sym back) fits) ∙ ap (λ (v : ℕ). Some v) back in
    let some : 0 < length whole = some-digits 17 (t / 1000) (lit< tt) in
    let there : (length whole == 0) ≡ false = grind (arith, common_steps) in
    let micros : micros_of 6 3 whole parts ≡ Some t =
    ap (λ o. onward o (λ n. number_of_first n 3 parts)) seconds
    ∙ (all-taken 3 (t / 1000) parts (digits-count 3 (t % 1000)) ∙ ap (λ o. onward o (λ m. Some m)) rest) in
    digits-read sep 3 whole parts (46 ∷ parts) t (is-digits 17 (t / 1000)) some (tail-of-point parts (is-digits 3 (t % 1000))) (rw (there, micros) refl)

-- whole microseconds
micros-spelled : (t : ℕ) → t < 18446744073709551616 → number_from 0 (digits_of 20 t) ≡ Some t
micros-spelled t fits =
    let few : t < scaled 20 1 = omega (arith, fits) in
    let none-before : scaled 20 0 + t ≡ t = omega arith in
    let low : scaled 20 0 + t < 18446744073709551616 = omega (arith, fits) in
    digits-spell 20 0 t few low ∙ ap (λ (v : ℕ). Some v) none-before

micros-read : (sep t : ℕ) → t < 18446744073709551616 → instant_in sep 6 (without_front (time_field Microseconds t)) ≡ Some (behind_start t)
micros-read sep t fits =
    let whole : List ℕ = digits_of 20 t in
    let some : 0 < length whole = some-digits 20 t (lit< tt) in
    let there : (length whole == 0) ≡ false = grind (arith, common_steps) in
    let micros : micros_of 6 6 whole [] ≡ Some t = ap (λ o. onward o (λ n. number_of_first n 0 [])) (micros-spelled t fits) in
    ap (λ v. instant_in sep 6 (without_front v)) (sym (append-nil whole))
    ∙ digits-read sep 6 whole [] [] t (is-digits 20 t) some tail-of-none (rw (there, micros) refl)

-- with zeros after
front-kept : (n : ℕ) (xs ys : List ℕ) → length ys ≡ n → take (length (xs ++ ys) - n) (xs ++ ys) ≡ xs
front-kept n xs ys h =
    let e : length (xs ++ ys) - n ≡ length xs = omega (arith, length-append xs ys, h) in
    ap (λ i. take i (xs ++ ys)) e ∙ take-append_seam xs ys

zeros-read : (sep unit n : ℕ) (zeros : List ℕ) (t : ℕ) → t < 18446744073709551616 → list_all is_digit zeros ≡ true → length zeros ≡ n
    → nat_le unit 6 ≡ false → unit + 0 ≡ unit → unit - 6 ≡ n
    → instant_in sep unit (without_front (digits_of 20 t ++ zeros)) ≡ Some (behind_start t)
zeros-read sep unit n zeros t fits digits count over same more =
    let whole : List ℕ = digits_of 20 t ++ zeros in
    let all : list_all is_digit whole ≡ true = list_all-append is_digit (digits_of 20 t) zeros ∙ rw (is-digits 20 t, digits) refl in
    let some : 0 < length whole =
    (let c = digits-count 20 t in let l = length-append (digits_of 20 t) zeros in omega (arith, c, l)) in
    let there : (length whole == 0) ≡ false = grind (arith, common_steps) in
    let kept : take (length whole - (unit - 6)) whole ≡ digits_of 20 t =
    ap (λ i. take (length whole - i) whole) more ∙ front-kept n (digits_of 20 t) zeros count in
    let spelled : number_from 0 (take (length whole - (unit - 6)) whole) ≡ Some t = ap (number_from 0) kept ∙ micros-spelled t fits in
    let micros : micros_of 6 unit whole [] ≡ Some t = rw (over, spelled) refl in
    ap (λ v. instant_in sep unit (without_front v)) (sym (append-nil whole))
    ∙ digits-read sep unit whole [] [] t all some tail-of-none (rw (there, same, micros) refl)

-- the unit's place among the decimals of a second
abbrev place_of_unit : TimeUnit → ℕ
place_of_unit Seconds = 0
place_of_unit Milliseconds = 3
place_of_unit Microseconds = 6
place_of_unit Nanoseconds = 9
place_of_unit Picoseconds = 12

-- the time is read
time-read : (sep : ℕ) (u : TimeUnit) (t : ℕ) → t < 18446744073709551616
    → instant_in sep (place_of_unit u) (without_front (time_field u t)) ≡ Some (behind_start t)
time-read sep Seconds t fits = seconds-read sep t fits
time-read sep Milliseconds t fits = millis-read sep t fits
time-read sep Microseconds t fits = micros-read sep t fits
time-read sep Nanoseconds t fits = zeros-read sep 9 3 (codes "000") t fits refl refl refl refl refl
time-read sep Picoseconds t fits = zeros-read sep 12 6 (codes "000000") t fits refl refl refl refl refl

-- digits in front of whatever follows
pub record HasFront (field : List ℕ) : Type 0 where
  pub count : ℕ
  pub number : ℕ
  pub tail : List ℕ
  pub some : 0 < count
  pub is : field ≡ digits_of count number ++ tail

time-front : (u : TimeUnit) (t : ℕ) → HasFront (time_field u t)
time-front Seconds t = record { count = 14; number = t / 1000000; tail = 46 ∷ digits_of 6 (t % 1000000); some = lit< tt; is = refl }
time-front Milliseconds t = record { count = 17; number = t / 1000; tail = 46 ∷ digits_of 3 (t % 1000); some = lit< tt; is = refl }
time-front Microseconds t = record { count = 20; number = t; tail = []; some = lit< tt; is = sym (append-nil (digits_of 20 t)) }
time-front Nanoseconds t = record { count = 20; number = t; tail = codes "000"; some = lit< tt; is = refl }
time-front Picoseconds t = record { count = 20; number = t; tail = codes "000000"; some = lit< tt; is = refl }

-- what is true of digits and of a point is true of the field
time-all : (p : ℕ → Bool) → ((b : ℕ) → is_digit b ≡ true → p b ≡ true) → p 46 ≡ true → (u : TimeUnit) (t : ℕ) → list_all p (time_field u t) ≡ true
time-all p h point Seconds t = list_all-append p (digits_of 14 (t / 1000000)) (46 ∷ digits_of 6 (t % 1000000))
    ∙ rw (all-digits p h 14 (t / 1000000), point, all-digits p h 6 (t % 1000000)) refl
time-all p h point Milliseconds t = list_all-append p (digits_of 17 (t / 1000)) (46 ∷ digits_of 3 (t % 1000))
    ∙ rw (all-digits p h 17 (t / 1000), point, all-digits p h 3 (t % 1000)) refl
time-all p h point Microseconds t = all-digits p h 20 t
time-all p h point Nanoseconds t = list_all-append p (digits_of 20 t) (codes "000") ∙ rw (all-digits p h 20 t, h 48 refl) refl
time-all p h point Picoseconds t = list_all-append p (digits_of 20 t) (codes "000000") ∙ rw (all-digits p h 20 t, h 48 refl) refl

-- Rows.

abbrev level_fields : (sep : ℕ) → Edge → List ℕ
level_fields sep e = level_byte e.levels.atn ∷ sep ∷ level_byte e.levels.clock ∷ sep ∷ level_byte e.levels.line ∷ []

-- the columns of the names that are written
abbrev columns : Columns
columns = record { atn = 1; clock = 2; line = 3; has_other_first = false; are_rated = false }

-- and the layout
abbrev layout : Separator → TimeUnit → Layout
layout p u = record { columns = columns; separator = separator_byte p; scale = Timed (place_of_unit u); times = 0 }

-- a moment of a table that starts at 0: none was given yet, or one was
abbrev moment : (start : Option ℕ) → (before : ℕ) → Levels → Moment
moment start before k = record { start = start; before = before; count = 0; levels = k }

abbrev AtZero : Option ℕ → Type 0
AtZero start = (start ≡ None) ⊎ (start ≡ Some 0)

-- the levels are read
levels-read : (p : Separator) (u : TimeUnit) (k : Levels) (n t : ℕ) (time : List ℕ) (a c l : Bool)
    → sample_of (layout p u) (alike false) k n (time ∷ fields_of (separator_byte p) false (level_byte a ∷ separator_byte p ∷ level_byte c ∷ separator_byte p ∷ level_byte l ∷ [])) t
    ≡ Ok (edge_at t a c l)
levels-read Comma u k n t time true true true = refl
levels-read Comma u k n t time true true false = refl
levels-read Comma u k n t time true false true = refl
levels-read Comma u k n t time true false false = refl
levels-read Comma u k n t time false true true = refl
levels-read Comma u k n t time false true false = refl
levels-read Comma u k n t time false false true = refl
levels-read Comma u k n t time false false false = refl
levels-read Semicolon u k n t time true true true = refl
levels-read Semicolon u k n t time true true false = refl
levels-read Semicolon u k n t time true false true = refl
levels-read Semicolon u k n t time true false false = refl
levels-read Semicolon u k n t time false true true = refl
levels-read Semicolon u k n t time false true false = refl
levels-read Semicolon u k n t time false false true = refl
levels-read Semicolon u k n t time false false false = refl
levels-read Tab u k n t time true true true = refl
levels-read Tab u k n t time true true false = refl
levels-read Tab u k n t time true false true = refl
levels-read Tab u k n t time true false false = refl
levels-read Tab u k n t time false true true = refl
levels-read Tab u k n t time false true false = refl
levels-read Tab u k n t time false false true = refl
levels-read Tab u k n t time false false false = refl

-- it starts at 0 after such a time
start-zero : (start : Option ℕ) (t : ℕ) → AtZero start → start_of start (behind_start t) ≡ 0
start-zero start t (inl h) = rw h refl
start-zero start t (inr h) = rw h refl

-- a time is counted from there
moment-read : (n before t : ℕ) (start : Option ℕ) (k : Levels) → AtZero start → before ≤ t → t < 18446744073709551616
    → moment_at n (moment start before k) (Some (behind_start t)) ≡ Ok (moment (Some 0) t k)
moment-read n before t start k z later fits =
    let zero-on : 0 + t ≡ t = omega arith in
    let room : nat_lt (0 + t) 18446744073709551616 ≡ true = rw zero-on (grind (arith, common_steps)) in
    let on : nat_lt t before ≡ false = grind (arith, common_steps) in
    rw (start-zero start t z, room, zero-on, on) refl

-- a row is read
row-read : (p : Separator) (u : TimeUnit) (n before : ℕ) (start : Option ℕ) (k : Levels) (e : Edge) → AtZero start → before ≤ e.time → e.time < 18446744073709551616
    → row_of (layout p u) (alike false) n (moment start before k) (fields_of (separator_byte p) false (csv_row (separator_byte p) u e))
    ≡ Ok (record { sample = e; moment = moment (Some 0) e.time e.levels })
row-read p u n before start k e z later fits =
    let sep : ℕ = separator_byte p in
    let plain : list_all (is_inside sep) (time_field u e.time) ≡ true = time-all (is_inside sep) (digit-plain p) (point-plain p) u e.time in
    let split : fields_of sep false (csv_row sep u e) ≡ time_field u e.time ∷ fields_of sep false (level_fields sep e) =
    field-first sep (time_field u e.time) (level_fields sep e) plain in
    let fs : List (List ℕ) = time_field u e.time ∷ fields_of sep false (level_fields sep e) in
    let timed : moment_at n (moment start before k) (instant_in sep (place_of_unit u) (without_front (time_field u e.time))) ≡ Ok (moment (Some 0) e.time k) =
    ap (moment_at n (moment start before k)) (time-read sep u e.time fits) ∙ moment-read n before e.time start k z later fits in
    ap (row_of (layout p u) (alike false) n (moment start before k)) split
    ∙ (ap (λ o. o >>= λ next. sample_of (layout p u) (alike false) k n fs next.before >>= λ v. Ok (record { sample = v; moment = record next { levels = v.levels } })) timed
    ∙ ap (λ o. o >>= λ v. Ok (record { sample = v; moment = moment (Some 0) e.time v.levels }))
    (levels-read p u k n e.time (time_field u e.time) e.levels.atn e.levels.clock e.levels.line))

row-silent : (sep : ℕ) (u : TimeUnit) (e : Edge) → is_silent (csv_row sep u e) ≡ false
row-silent sep u e =
    let f = time-front u e.time in
    let row : csv_row sep u e ≡ digits_of f.count f.number ++ (f.tail ++ sep ∷ level_fields sep e) =
    ap (λ v. v ++ sep ∷ level_fields sep e) f.is ∙ append_assoc (digits_of f.count f.number) f.tail (sep ∷ level_fields sep e) in
    ap is_silent row
    ∙ (digit-first (digits_of f.count f.number) (f.tail ++ sep ∷ level_fields sep e) (some-digits f.count f.number f.some) (is-digits f.count f.number)).1

-- a level ends no line
level-inner : (b : Bool) → is_inner (level_byte b) ≡ true
level-inner true = refl
level-inner false = refl

separator-inner : (p : Separator) → is_inner (separator_byte p) ≡ true
separator-inner Comma = refl
separator-inner Semicolon = refl
separator-inner Tab = refl

row-inner : (p : Separator) (u : TimeUnit) (e : Edge) → list_all is_inner (csv_row (separator_byte p) u e) ≡ true
row-inner p u e =
    let sep : ℕ = separator_byte p in
    let levels : list_all is_inner (sep ∷ level_fields sep e) ≡ true =
    rw (separator-inner p, level-inner e.levels.atn, level-inner e.levels.clock, level-inner e.levels.line) refl in
    list_all-append is_inner (time_field u e.time) (sep ∷ level_fields sep e) ∙ rw (time-all is_inner digit-inner refl u e.time, levels) refl

-- an empty text has no line
no-lines : lines_of [] ≡ []
unfolding lines_of
no-lines = refl

-- a row that is read, and those after it
one-row : (y : Layout) (n before : ℕ) (start : Option ℕ) (k : Levels) (line : List ℕ) (ls : List (List ℕ)) (e : Edge) → is_silent line ≡ false
    → row_of y (alike false) n (moment start before k) (fields_of y.separator false line) ≡ Ok (record { sample = e; moment = moment (Some 0) e.time e.levels })
    → row_contents y (alike false) n (moment start before k) (line ∷ ls)
    ≡ with_samples (e ∷ []) (row_contents y (alike false) (n + 1) (moment (Some 0) e.time e.levels) ls)
one-row y n before start k line ls e loud reads = rw (loud, reads) refl

-- all rows are read
rows-read : (p : Separator) (u : TimeUnit) (n before : ℕ) (start : Option ℕ) (k : Levels) (es : List Edge) → AtZero start → InOrder before es
    → row_contents (layout p u) (alike false) n (moment start before k) (lines_of (csv_rows (separator_byte p) u es)) ≡ record { samples = es; fault = None }
rows-read p u n before start k [] z h = rw no-lines refl
rows-read p u n before start k (e ∷ es) z h =
    let sep : ℕ = separator_byte p in
    ap (row_contents (layout p u) (alike false) n (moment start before k)) (inner-line (csv_row sep u e) (csv_rows sep u es) (row-inner p u e))
    ∙ (one-row (layout p u) n before start k (csv_row sep u e) (lines_of (csv_rows sep u es)) e (row-silent sep u e) (row-read p u n before start k e z h.0 h.1)
    ∙ ap (with_samples (e ∷ [])) (rows-read p u (n + 1) e.time (Some 0) e.levels es (inr refl) h.2))

-- The whole.

-- the line of the names is read
pub record NamesAre (p : Separator) (u : TimeUnit) : Type 0 where
  pub inner : list_all is_inner (csv_names (separator_byte p) u) ≡ true
  pub loud : is_in_front (csv_names (separator_byte p) u) ≡ false
  pub opens : opened (csv_names (separator_byte p) u) ≡ Ok (csv_names (separator_byte p) u)
  pub whole : has_return (csv_names (separator_byte p) u) ≡ false
  pub separator : separator_of (csv_names (separator_byte p) u) ≡ separator_byte p
  pub fields : fields_of (separator_byte p) false (csv_names (separator_byte p) u)
      ≡ time_name u ∷ codes "ATN" ∷ codes "CLOCK" ∷ codes "DATA" ∷ []

names-are : (p : Separator) (u : TimeUnit) → NamesAre p u
names-are Comma Seconds = record { inner = refl; loud = refl; opens = refl; whole = refl; separator = refl; fields = refl }
names-are Comma Milliseconds = record { inner = refl; loud = refl; opens = refl; whole = refl; separator = refl; fields = refl }
names-are Comma Microseconds = record { inner = refl; loud = refl; opens = refl; whole = refl; separator = refl; fields = refl }
names-are Comma Nanoseconds = record { inner = refl; loud = refl; opens = refl; whole = refl; separator = refl; fields = refl }
names-are Comma Picoseconds = record { inner = refl; loud = refl; opens = refl; whole = refl; separator = refl; fields = refl }
names-are Semicolon Seconds = record { inner = refl; loud = refl; opens = refl; whole = refl; separator = refl; fields = refl }
names-are Semicolon Milliseconds = record { inner = refl; loud = refl; opens = refl; whole = refl; separator = refl; fields = refl }
names-are Semicolon Microseconds = record { inner = refl; loud = refl; opens = refl; whole = refl; separator = refl; fields = refl }
names-are Semicolon Nanoseconds = record { inner = refl; loud = refl; opens = refl; whole = refl; separator = refl; fields = refl }
names-are Semicolon Picoseconds = record { inner = refl; loud = refl; opens = refl; whole = refl; separator = refl; fields = refl }
names-are Tab Seconds = record { inner = refl; loud = refl; opens = refl; whole = refl; separator = refl; fields = refl }
names-are Tab Milliseconds = record { inner = refl; loud = refl; opens = refl; whole = refl; separator = refl; fields = refl }
names-are Tab Microseconds = record { inner = refl; loud = refl; opens = refl; whole = refl; separator = refl; fields = refl }
names-are Tab Nanoseconds = record { inner = refl; loud = refl; opens = refl; whole = refl; separator = refl; fields = refl }
names-are Tab Picoseconds = record { inner = refl; loud = refl; opens = refl; whole = refl; separator = refl; fields = refl }

unit-read : (bare : Option ℕ) (u : TimeUnit) → time_unit bare (time_name u) ≡ Some (place_of_unit u)
unit-read bare Seconds = refl
unit-read bare Milliseconds = refl
unit-read bare Microseconds = refl
unit-read bare Nanoseconds = refl
unit-read bare Picoseconds = refl

names-read : (p : Separator) (u : TimeUnit) (s : Signals) (rate : Option ℕ) → IsAsWritten s
    → layout_of s (no_remarks rate) 1 (csv_names (separator_byte p) u) ≡ Ok (layout p u)
names-read p u s rate h =
    let sep : ℕ = separator_byte p in
    let n = names-are p u in
    let fs : List (List ℕ) = codes "ATN" ∷ codes "CLOCK" ∷ codes "DATA" ∷ [] in
    let atn : column_in 1 Atn s.atn.now 1 fs ≡ Ok 1 = ap (λ v. column_in 1 Atn v 1 fs) h.atn in
    let clock : column_in 1 Clock (clock_name s fs) 1 fs ≡ Ok 2 =
    ap (λ v. column_in 1 Clock (if is_some (column_of v 0 fs) then v else second_name s) 1 fs) h.clock in
    let line : column_in 1 Data s.line.now 1 fs ≡ Ok 3 = ap (λ v. column_in 1 Data v 1 fs) h.line in
    let read : ℕ → Result Layout CaptureFault = λ b. layout_in s (no_remarks rate) 1 b (fields_of b false (csv_names sep u)) in
    ap (λ b. if b then Err (NoSignal 1 Atn) else read (separator_of (csv_names sep u))) n.whole
    ∙ (ap read n.separator
    ∙ (ap (layout_in s (no_remarks rate) 1 sep) n.fields
    ∙ (ap (λ o. layout_by s (no_remarks rate) 1 sep o (time_name u ∷ fs)) (unit-read (bare_unit (no_remarks rate)) u)
    ∙ rw (atn, clock, line) refl)))

-- the first line names the columns
first-line : (p : Separator) (u : TimeUnit) (s : Signals) (rate : Option ℕ) (ls : List (List ℕ)) → IsAsWritten s
    → first_contents s rate 1 (csv_names (separator_byte p) u ∷ ls) ≡ row_contents (layout p u) (alike false) 2 first_moment ls
first-line p u s rate ls h =
    let n = names-are p u in
    rw (n.opens, n.loud, names-read p u s rate h, h.straight) refl

pub samples-back : (p : Separator) (u : TimeUnit) (s : Signals) (rate : Option ℕ) (es : List Edge) → IsAsWritten s → InOrder 0 es
    → csv_contents s rate (csv_of p u es) ≡ record { samples = es; fault = None }
unfolding csv_contents
samples-back p u s rate es h k =
    let sep : ℕ = separator_byte p in
    ap (first_contents s rate 1) (inner-line (csv_names sep u) (csv_rows sep u es) (names-are p u).inner)
    ∙ (first-line p u s rate (lines_of (csv_rows sep u es)) h ∙ rows-read p u 2 0 None (record { atn = true; clock = true; line = true }) es (inl refl) k)

-- Edges.

in-order : (b : Edge) (es : List Edge) → RunsOn (Some b) es → InOrder b.time es
in-order b [] h = tt
in-order b (e ∷ es) h = (omega (arith, h.0), omega (arith, h.2), in-order e es h.3)

pub all-in-order : (es : List Edge) → RunsOn None es → InOrder 0 es
all-in-order [] h = tt
all-in-order (e ∷ es) h = (omega arith, omega (arith, h.0), in-order e es h.1)

last-of-each : (b : Edge) (es : List Edge) → RunsOn (Some b) es → last_at_each (b ∷ es) ≡ b ∷ es
last-of-each b [] h = refl
last-of-each b (e ∷ es) h = rw (not-same b.time e.time h.0) (ap (λ v. b ∷ v) (last-of-each e es h.3))

all-new : (b : Edge) (es : List Edge) → RunsOn (Some b) es → changes_after (Some b.levels) es ≡ es
all-new b [] h = refl
all-new b (e ∷ es) h = rw h.1 (ap (λ v. e ∷ v) (all-new e es h.3))

pub same-edges : (es : List Edge) → RunsOn None es → edges_of 0 es ≡ es
unfolding edges_of
same-edges [] h = refl
same-edges (e ∷ es) h =
    ap (λ v. changes_after None (last_at_each v)) (from-zero (e ∷ es))
    ∙ (ap (changes_after None) (last-of-each e es h.1) ∙ ap (λ v. e ∷ v) (all-new e es h.1))

-- A row that goes on as the last row does: what it says without its fields.
use Rattle.std.proofs.Common.{◌≡◌, ℕ, zero, suc, ◌+◌, ◌-◌, ◌<◌, ◌≤◌, ◌==◌, Bool, true, false, List, [], ◌∷◌, ◌++◌, length, take, drop, get_or, refl, ap, sym, subst, ◌∙◌, arith, append_assoc, append-nil, length-append, nat_lt, if◌then◌else◌, Option, Some, None}
use Rattle.std.proofs.Math.Seq.{take-append_seam, take-add}
use Rattle.std.specs.Prelude.{◌&&◌, ◌||◌, not, Result, Ok, Err}
use Rattle.std.specs.List.{list_all, prefix_len}
use Rattle.std.proofs.lemmas.Grind.{common_steps}
use Rattle.std.proofs.lemmas.List.{length-take-le, take-append-drop, take_more}
use Rattle.std.proofs.lemmas.Slice.Eq.{bytes_eq-Decides}
use Rattle.std.specs.Str.{bytes_eq}
use Rattle.std.proofs.lemmas.List.Folds.{list_all-append, length-prefix_len}
use Rattle.pr_wire.specs.declared.Edge.{Edge}
use Rattle.pr_wire.specs.declared.Levels.{Levels}
use Rattle.pr_wire.specs.Levels.{edge_at}
use Rattle.pr_base.specs.Digits.{is_digit}
use Rattle.pr_base.specs.Lines.{lines_of}
use Rattle.pr_capture.specs.declared.csv.CsvReader.{CsvReader}
use Rattle.pr_capture.specs.declared.csv.Layout.{Layout}
use Rattle.pr_capture.specs.declared.csv.Moment.{Moment}
use Rattle.pr_capture.specs.declared.csv.Row.{Row}
use Rattle.pr_capture.specs.declared.csv.RowPlace.{RowPlace}
use Rattle.pr_capture.specs.declared.csv.RowPlace.TheVariants.{Rows}
use Rattle.pr_capture.specs.declared.csv.Scale.{Scale}
use Rattle.pr_capture.specs.declared.csv.Scale.TheVariants.{Counted, Numbered, Timed}
use Rattle.pr_capture.specs.declared.last_row.LastRow.{LastRow}
use Rattle.pr_capture.specs.declared.fault.CaptureFault.{CaptureFault}
use Rattle.pr_capture.specs.declared.signals.Probes.{Probes}
use Rattle.pr_capture.specs.declared.signals.Signals.{Signals}
use Rattle.pr_capture.specs.declared.volts.Threshold.{Threshold}
use Rattle.pr_capture.specs.declared.volts.Volts.{Volts}
use Rattle.pr_capture.specs.declared.times.Instant.{Instant}
use Rattle.pr_capture.specs.declared.fault.CaptureFault.TheVariants.{BadLevel, Floating, NoTime, Unknown}
use Rattle.pr_capture.specs.declared.fault.Wire.{Wire}
use Rattle.pr_capture.specs.declared.fault.Wire.TheVariants.{Atn, Clock, Data}
use Rattle.pr_capture.specs.Csv.{behind_point, cell_level, csv_contents, field_at, fields_of, has_number, instant_of_number, instant_of_row, is_foreign, is_inner, is_silent, level_at, level_of, level_or, moment_at, moment_next, moment_of, row_contents, row_of, sample_by, sample_of, volts_level}
use Rattle.pr_capture.specs.CsvReads.{ReadsMore, SkipsRows, TakesRepeats}
use Rattle.pr_capture.specs.Gathers.{AllHave}
use Rattle.pr_capture.specs.CsvSteps.{are_behind, contents_from, decimals_len, digits_ahead, field_len, is_plain, line_number, row_at, row_if, tail_at, tail_behind, tail_by, with_len, HasLevels, HasReadTable, IsFront, IsPlainTime, IsRepeat, IsRowOf, IsTimeAhead, KnowsLevels, PlainComesFirst, TimeComesFirst}
use Rattle.pr_capture.specs.Numbers.{behind_digits, digits_in, number_from, number_of, onward}
use Rattle.pr_capture.specs.TableTimes.{count_in, instant_in, instant_of, micros_of, sample_in, time_at_rate, times_in}
use Rattle.pr_capture.specs.Volts.{is_at_least, volts_in}
use Rattle.pr_capture.specs.Words.{is_space}
use Rattle.pr_capture.specs.Recording.{◌>>=◌, inverts, is_framing, level_in, with_samples, without_front}
use Rattle.pr_capture.specs.declared.numbers.Digits.{Digits}
use Rattle.pr_capture.proofs.CsvFields.{field-ended}
use Rattle.pr_capture.proofs.CsvReading.{behind-behind, inner-line}
use Rattle.pr_capture.proofs.DigitLemmas.{ahead-digits}
use Rattle.pr_capture.proofs.CsvTimes.{IsTail, behind_start, digit-first, digits-read, digits-run, field-first, is_inside, tail-of-none, tail-of-point}

-- Plain times.

-- what comes before the first byte that is another
all-front : (p : ℕ → Bool) (l : List ℕ) → list_all p (take (prefix_len p l) l) ≡ true
all-front p [] = refl
all-front p (b ∷ bs) = step (p b) refl (all-front p bs)
  where
    step : (t : Bool) → p b ≡ t → list_all p (take (prefix_len p bs) bs) ≡ true → list_all p (take (prefix_len p (b ∷ bs)) (b ∷ bs)) ≡ true
    step true e next =
        let n : suc (prefix_len p bs) ≡ prefix_len p (b ∷ bs) = rw e (omega arith) in
        let P : ℕ → Type 0 = λ j. list_all p (take j (b ∷ bs)) ≡ true in
        let now : list_all p (take (suc (prefix_len p bs)) (b ∷ bs)) ≡ true = rw e next in
        subst P n now
    step false e next = rw e refl

-- what is true of each is true of all
all-of : (p q : ℕ → Bool) → ((b : ℕ) → p b ≡ true → q b ≡ true) → (l : List ℕ) → list_all p l ≡ true → list_all q l ≡ true
all-of p q h [] a = refl
all-of p q h (b ∷ bs) a = step (p b) refl a (all-of p q h bs)
  where
    step : (t : Bool) → p b ≡ t → list_all p (b ∷ bs) ≡ true → (list_all p bs ≡ true → list_all q bs ≡ true) → list_all q (b ∷ bs) ≡ true
    step true e k next =
        let rest : list_all p bs ≡ true = rw e at k in
        rw (h b e, next rest) refl
    step false e k next = absurd (let no : false ≡ true = rw e at k in cc)

digit-is-plain : (b : ℕ) → is_digit b ≡ true → is_plain b ≡ true
digit-is-plain b h = grind (arith, common_steps)

-- digits and what follows them are a plain time
plain-read : (whole parts tail : List ℕ) → list_all is_digit whole ≡ true → list_all is_plain tail ≡ true → 0 < length whole → IsTail parts tail
    → IsPlainTime (whole ++ tail) whole parts
plain-read whole parts tail digits plain some h =
    record {
      plain = list_all-append is_plain whole tail ∙ rw (all-of is_digit is_plain digit-is-plain whole digits, plain) refl;
      some = omega (arith, length-append whole tail, some);
      reads = λ sep unit i spelled. by sep unit i (micros_of 6 unit whole parts) refl spelled;
    }
  where
    by : (sep unit : ℕ) (i : Instant) (v : Option ℕ) → micros_of 6 unit whole parts ≡ v → instant_of false (micros_of 6 unit whole parts) ≡ Some i
        → instant_in sep unit (without_front (whole ++ tail)) ≡ Some i
    by sep unit i None e k = absurd (let o : None ≡ Some i = rw e at k in cc)
    by sep unit i (Some n) e k =
        let o : Some (behind_start n) ≡ Some i = rw e at k in
        let there : (length whole == 0) ≡ false = grind (arith, common_steps) in
        let same : unit + 0 ≡ unit = omega arith in
        digits-read sep unit whole parts tail n digits some h (rw (there, same, e) refl) ∙ o

-- a point and decimals, or neither
record IsFrontPart (behind : List ℕ) : Type 0 where
  front : List ℕ
  parts : List ℕ
  rest : List ℕ
  all : behind ≡ front ++ rest
  long : length front ≡ decimals_len behind
  cut : drop 1 front ≡ parts
  plain : list_all is_plain front ≡ true
  tail : IsTail parts front

front-part : (behind : List ℕ) → IsFrontPart behind
front-part [] = record { front = []; parts = []; rest = []; all = refl; long = refl; cut = refl; plain = refl; tail = tail-of-none }
front-part (b ∷ bs) = by (b == 46) refl
  where
    by : (t : Bool) → (b == 46) ≡ t → IsFrontPart (b ∷ bs)
    by true e =
        let point : b ≡ 46 = grind (arith, common_steps) in
        let places : ℕ = prefix_len is_digit bs in
        let parts : List ℕ = take places bs in
        let decimals : list_all is_digit parts ≡ true = all-front is_digit bs in
        let count : length parts ≡ places = length-prefix_len is_digit bs in
        let long : length (46 ∷ parts) ≡ 1 + places = omega (arith, count) in
        record {
          front = 46 ∷ parts;
          parts = parts;
          rest = drop places bs;
          all = ap (λ v. v ∷ bs) point ∙ ap (λ v. 46 ∷ v) (sym (take-append-drop places bs));
          long = rw e long;
          cut = refl;
          plain = all-of is_digit is_plain digit-is-plain parts decimals;
          tail = tail-of-point parts decimals;
        }
    by false e = record { front = []; parts = []; rest = b ∷ bs; all = refl; long = rw e refl; cut = refl; plain = refl; tail = tail-of-none }

-- digits in front of a text, and what follows them
pub plain-front : (len count : ℕ) (text decimals : List ℕ) → count ≡ prefix_len is_digit text → 0 < length (take count text) → decimals ≡ drop 1 (take (decimals_len (drop count text)) (drop count text))
    → len ≡ count + decimals_len (drop count text) → IsPlainTime (take len text) (take count text) decimals
plain-front len count text decimals c some d l =
    let whole : List ℕ = take count text in
    let digits : list_all is_digit whole ≡ true = ap (λ n. list_all is_digit (take n text)) c ∙ all-front is_digit text in
    let wide : length whole ≡ count = ap (λ n. length (take n text)) c ∙ (length-prefix_len is_digit text ∙ sym c) in
    let p = front-part (drop count text) in
    let all : text ≡ (whole ++ p.front) ++ p.rest =
    sym (take-append-drop count text) ∙ (ap (λ v. whole ++ v) p.all ∙ sym (append_assoc whole p.front p.rest)) in
    let n : len ≡ length (whole ++ p.front) = omega (arith, l, wide, p.long, length-append whole p.front) in
    let front : take len text ≡ whole ++ p.front =
    ap (λ i. take i text) n ∙ (ap (take (length (whole ++ p.front))) all ∙ take-append_seam (whole ++ p.front) p.rest) in
    let P : List ℕ → Type 0 = λ v. IsPlainTime v whole p.parts in
    let Q : List ℕ → Type 0 = λ v. IsPlainTime (take len text) whole v in
    let own : take (decimals_len (drop count text)) (drop count text) ≡ p.front =
    ap (λ i. take i (drop count text)) (sym p.long) ∙ (ap (take (length p.front)) p.all ∙ take-append_seam p.front p.rest) in
    subst Q (sym (d ∙ (ap (drop 1) own ∙ p.cut))) (subst P (sym front) (plain-read whole p.parts p.front digits p.plain some p.tail))

-- Rows.

-- a level does not depend on the line's number
cell-anywhere : (n m : ℕ) (inverted : Bool) (v : List ℕ) (l : Bool) → level_of n inverted v ≡ Ok l → level_of m inverted v ≡ Ok l
cell-anywhere n m inverted v l h = by v h
  where
    known : (b : ℕ) → level_in n inverted b ≡ Ok l → level_in m inverted b ≡ Ok l
    known b k = step (b == 48 || b == 76 || b == 108) (b == 49 || b == 72 || b == 104) (b == 120 || b == 88) (b == 122 || b == 90) refl refl refl refl
      where
        step : (p q r s : Bool) → (b == 48 || b == 76 || b == 108) ≡ p → (b == 49 || b == 72 || b == 104) ≡ q → (b == 120 || b == 88) ≡ r → (b == 122 || b == 90) ≡ s → level_in m inverted b ≡ Ok l
        step true q r s hp hq hr hs = let o : Ok inverted ≡ Ok l = rw hp at k in rw hp o
        step false true r s hp hq hr hs = let o : Ok (not inverted) ≡ Ok l = rw (hp, hq) at k in rw (hp, hq) o
        step false false true s hp hq hr hs = absurd (let o : Err (Unknown n) ≡ Ok l = rw (hp, hq, hr) at k in cc)
        step false false false true hp hq hr hs = absurd (let o : Err (Floating n) ≡ Ok l = rw (hp, hq, hr, hs) at k in cc)
        step false false false false hp hq hr hs = absurd (let o : Err (BadLevel n) ≡ Ok l = rw (hp, hq, hr, hs) at k in cc)

    pick : (z : Bool) (r s : Result Bool CaptureFault) → (r ≡ Ok l → s ≡ Ok l) → (if z then Ok true else r) ≡ Ok l → (if z then Ok true else s) ≡ Ok l
    pick true r s h k = k
    pick false r s h k = h k

    letter : (b : ℕ) → cell_level n inverted b ≡ Ok l → cell_level m inverted b ≡ Ok l
    letter b k = pick (b == 122 || b == 90) (level_in n inverted b) (level_in m inverted b) (known b) k

    by : (v : List ℕ) → level_of n inverted v ≡ Ok l → level_of m inverted v ≡ Ok l
    by [] k = absurd (cc)
    by (b ∷ bs) k = framed (list_all is_framing (behind_point bs)) refl
      where
        framed : (t : Bool) → list_all is_framing (behind_point bs) ≡ t → level_of m inverted (b ∷ bs) ≡ Ok l
        framed true e = let o : cell_level n inverted b ≡ Ok l = rw e at k in rw e (letter b o)
        framed false e = absurd (let o : Err (BadLevel n) ≡ Ok l = rw e at k in cc)

-- nor on the level before, if it is the same
level-again : (n m sep : ℕ) (probes : Probes) (wire : Wire) (before : Bool) (field : Option (List ℕ)) (l : Bool) → level_or n sep probes wire before field ≡ Ok l
    → level_or m sep probes wire l field ≡ Ok l
level-again n m sep probes wire before None l h = absurd (cc)
level-again n m sep probes wire before (Some f) l h = by probes.threshold h
  where
    volts : (t : Threshold) (v : Option Volts) → volts_level n (inverts probes wire) before t v ≡ Ok l → volts_level m (inverts probes wire) l t v ≡ Ok l
    volts t None k = absurd (cc)
    volts t (Some v) k = pick (is_at_least v t.high) (is_at_least v t.low) refl refl
      where
        pick : (a b : Bool) → is_at_least v t.high ≡ a → is_at_least v t.low ≡ b → volts_level m (inverts probes wire) l t (Some v) ≡ Ok l
        pick true b ha hb = let o : Ok (not (inverts probes wire)) ≡ Ok l = rw ha at k in rw ha o
        pick false true ha hb = rw (ha, hb) refl
        pick false false ha hb = let o : Ok (inverts probes wire) ≡ Ok l = rw (ha, hb) at k in rw (ha, hb) o

    by : (t : Option Threshold) → level_at n sep (inverts probes wire) before t (without_front f) ≡ Ok l → level_at m sep (inverts probes wire) l t (without_front f) ≡ Ok l
    by None k = cell-anywhere n m (inverts probes wire) (without_front f) l k
    by (Some t) k = volts t (volts_in sep (without_front f)) k

-- so neither does a sample, nor on its time
levels-again : (y : Layout) (probes : Probes) (before : Levels) (n m t u : ℕ) (fields : List (List ℕ)) (e : Edge) → sample_by y probes before n fields t ≡ Ok e
    → sample_by y probes e.levels m fields u ≡ Ok (record { time = u; levels = e.levels })
levels-again y probes before n m t u fields e h =
    by (level_or n y.separator probes Atn before.atn (field_at y.columns.atn fields)) (level_or n y.separator probes Clock before.clock (field_at y.columns.clock fields))
    (level_or n y.separator probes Data before.line (field_at y.columns.line fields)) refl refl refl h
  where
    by : (a b d : Result Bool CaptureFault) → level_or n y.separator probes Atn before.atn (field_at y.columns.atn fields) ≡ a → level_or n y.separator probes Clock before.clock (field_at y.columns.clock fields) ≡ b
        → level_or n y.separator probes Data before.line (field_at y.columns.line fields) ≡ d
        → sample_by y probes before n fields t ≡ Ok e → sample_by y probes e.levels m fields u ≡ Ok (record { time = u; levels = e.levels })
    by (Ok a) (Ok b) (Ok d) ha hb hd k =
        let is : edge_at t a b d ≡ e = (let o : Ok (edge_at t a b d) ≡ Ok e = rw (ha, hb, hd) at k in cc) in
        let P : Edge → Type 0 = λ v. sample_by y probes v.levels m fields u ≡ Ok (record { time = u; levels = v.levels }) in
        subst P is
        (rw (
          level-again n m y.separator probes Atn before.atn (field_at y.columns.atn fields) a ha,
          level-again n m y.separator probes Clock before.clock (field_at y.columns.clock fields) b hb,
          level-again n m y.separator probes Data before.line (field_at y.columns.line fields) d hd,
        ) refl)
    by (Err f) b d ha hb hd k = absurd (let o : Err f ≡ Ok e = rw ha at k in cc)
    by (Ok a) (Err f) d ha hb hd k = absurd (let o : Err f ≡ Ok e = rw (ha, hb) at k in cc)
    by (Ok a) (Ok b) (Err f) ha hb hd k = absurd (let o : Err f ≡ Ok e = rw (ha, hb, hd) at k in cc)

sample-again : (y : Layout) (probes : Probes) (before : Levels) (n m t u : ℕ) (fields : List (List ℕ)) (e : Edge) → sample_of y probes before n fields t ≡ Ok e
    → sample_of y probes e.levels m fields u ≡ Ok (record { time = u; levels = e.levels })
sample-again y probes before n m t u fields e h = by (is_foreign y.columns fields) refl
  where
    by : (b : Bool) → is_foreign y.columns fields ≡ b → sample_of y probes e.levels m fields u ≡ Ok (record { time = u; levels = e.levels })
    by true k = absurd (let o : Err (NoTime n) ≡ Ok e = rw k at h in cc)
    by false k =
        let own : sample_by y probes before n fields t ≡ Ok e = rw k at h in
        rw k (levels-again y probes before n m t u fields e own)

-- the moment after a row with this sample
abbrev with_sample : Moment → Edge → Row
with_sample next e = record { sample = e; moment = record next { levels = e.levels } }

-- a row that was read has the levels of its sample, and so has the moment after it
pub row-levels : (y : Layout) (probes : Probes) (number : ℕ) (m : Moment) (fields : List (List ℕ)) (row : Row) → row_of y probes number m fields ≡ Ok row
    → (row.moment.levels ≡ row.sample.levels) × ((n t : ℕ) → sample_of y probes row.sample.levels n fields t ≡ Ok (record { time = t; levels = row.sample.levels }))
row-levels y probes number m fields row h = by (moment_of y.scale y.separator number m (field_at y.times fields)) refl h
  where
    in-row : (next : Moment) (v : Result Edge CaptureFault) → sample_of y probes m.levels number fields next.before ≡ v
        → (v >>= λ e. Ok (with_sample next e)) ≡ Ok row
        → (row.moment.levels ≡ row.sample.levels) × ((n t : ℕ) → sample_of y probes row.sample.levels n fields t ≡ Ok (record { time = t; levels = row.sample.levels }))
    in-row next (Err f) e k = absurd (cc)
    in-row next (Ok s) e k =
        let made : Row = with_sample next s in
        let is : made ≡ row = cc in
        let P : Row → Type 0 = λ r. (r.moment.levels ≡ r.sample.levels) × ((n t : ℕ) → sample_of y probes r.sample.levels n fields t ≡ Ok (record { time = t; levels = r.sample.levels })) in
        subst P is (refl, λ n t. sample-again y probes m.levels number n next.before t fields s e)

    by : (v : Result Moment CaptureFault) → moment_of y.scale y.separator number m (field_at y.times fields) ≡ v → row_of y probes number m fields ≡ Ok row
        → (row.moment.levels ≡ row.sample.levels) × ((n t : ℕ) → sample_of y probes row.sample.levels n fields t ≡ Ok (record { time = t; levels = row.sample.levels }))
    by (Err f) e k = absurd (let o : Err f ≡ Ok row = rw e at k in cc)
    by (Ok next) e k =
        let o : (sample_of y probes m.levels number fields next.before >>= λ s. Ok (with_sample next s)) ≡ Ok row = rw e at k in
        in-row next (sample_of y probes m.levels number fields next.before) refl o

-- the byte that ends the first field
field-end : (sep : ℕ) (quoted : Bool) (l : List ℕ) → field_len sep quoted l < length l
    → drop (field_len sep quoted l) l ≡ sep ∷ drop (field_len sep quoted l + 1) l
field-end sep quoted [] h = absurd (omega arith)
field-end sep quoted (b ∷ bs) h = step (b == sep && not quoted) refl h (λ k. field-end sep (if b == 34 then not quoted else quoted) bs k)
  where
    is-sep : (b == sep && not quoted) ≡ true → b ≡ sep
    is-sep e = grind (arith, common_steps)

    step : (t : Bool) → (b == sep && not quoted) ≡ t → field_len sep quoted (b ∷ bs) < length (b ∷ bs)
        → (field_len sep (if b == 34 then not quoted else quoted) bs < length bs
        → drop (field_len sep (if b == 34 then not quoted else quoted) bs) bs ≡ sep ∷ drop (field_len sep (if b == 34 then not quoted else quoted) bs + 1) bs)
        → drop (field_len sep quoted (b ∷ bs)) (b ∷ bs) ≡ sep ∷ drop (field_len sep quoted (b ∷ bs) + 1) (b ∷ bs)
    step true e k next = rw e (ap (λ v. v ∷ bs) (is-sep e))
    step false e k next =
        let m : ℕ = field_len sep (if b == 34 then not quoted else quoted) bs in
        let n : suc m ≡ field_len sep quoted (b ∷ bs) = rw e (omega arith) in
        let less : m < length bs = omega (arith, k, n) in
        let o : suc (m + 1) ≡ suc m + 1 = omega arith in
        let P : ℕ → Type 0 = λ j. drop (suc m) (b ∷ bs) ≡ sep ∷ drop j (b ∷ bs) in
        let Q : ℕ → Type 0 = λ j. drop j (b ∷ bs) ≡ sep ∷ drop (j + 1) (b ∷ bs) in
        subst Q n (subst P o (next less))

-- a plain time is no white space and no remark
front-loud : (front tail : List ℕ) → list_all is_plain front ≡ true → 0 < length front → is_silent (front ++ tail) ≡ false
front-loud [] tail h some = absurd (omega (arith, some))
front-loud (b ∷ bs) tail h some = by (is_plain b) refl h
  where
    by : (t : Bool) → is_plain b ≡ t → list_all is_plain (b ∷ bs) ≡ true → is_silent ((b ∷ bs) ++ tail) ≡ false
    by true e k =
        let w : is_space b ≡ false = grind (arith, common_steps) in
        let r : (b == 59 || b == 35) ≡ false = grind (arith, common_steps) in
        rw (w, r) refl
    by false e k = absurd (let no : false ≡ true = rw e at k in cc)

-- a plain time has no separator in it, which is not plain, and no quotation marks
plain-inside : (sep b : ℕ) → is_plain sep ≡ false → is_plain b ≡ true → is_inside sep b ≡ true
plain-inside sep b h k = by (b == sep) refl
  where
    by : (t : Bool) → (b == sep) ≡ t → is_inside sep b ≡ true
    by true e = absurd (let is : b ≡ sep = grind (arith, common_steps) in let no : is_plain sep ≡ true = ap is_plain (sym is) ∙ k in cc)
    by false e = let q : (b == 34) ≡ false = grind (arith, common_steps) in rw (e, q) refl

plain-inner : (b : ℕ) → is_plain b ≡ true → is_inner b ≡ true
plain-inner b h = grind (arith, common_steps)

-- bytes of inner bytes
inner-rest : (n : ℕ) (l : List ℕ) → list_all is_inner l ≡ true → list_all is_inner (drop n l) ≡ true
inner-rest n l h = by (list_all is_inner (take n l)) (list_all is_inner (drop n l)) refl refl
  where
    both : (list_all is_inner (take n l) && list_all is_inner (drop n l)) ≡ true
    both = sym (list_all-append is_inner (take n l) (drop n l)) ∙ (ap (list_all is_inner) (take-append-drop n l) ∙ h)

    by : (a b : Bool) → list_all is_inner (take n l) ≡ a → list_all is_inner (drop n l) ≡ b → list_all is_inner (drop n l) ≡ true
    by a true e k = k
    by true false e k = absurd (let no : false ≡ true = rw (e, k) at both in cc)
    by false false e k = absurd (let no : false ≡ true = rw e at both in cc)

-- the fields after the first do not depend on it
column-behind : (place : ℕ) (f g : List ℕ) (fs : List (List ℕ)) → (place == 0) ≡ false → field_at place (f ∷ fs) ≡ field_at place (g ∷ fs)
column-behind zero f g fs h = absurd (cc)
column-behind (suc place) f g fs h = refl

sample-behind : (y : Layout) (probes : Probes) (before : Levels) (n t : ℕ) (f g : List ℕ) (fs : List (List ℕ)) → are_behind y.columns ≡ true → sample_of y probes before n (f ∷ fs) t ≡ sample_of y probes before n (g ∷ fs) t
sample-behind y probes before n t f g fs h = by y.columns.has_other_first (y.columns.atn == 0) (y.columns.clock == 0) (y.columns.line == 0) refl refl refl refl
  where
    by : (o p q r : Bool) → y.columns.has_other_first ≡ o → (y.columns.atn == 0) ≡ p → (y.columns.clock == 0) ≡ q → (y.columns.line == 0) ≡ r
        → sample_of y probes before n (f ∷ fs) t ≡ sample_of y probes before n (g ∷ fs) t
    by false false false false ho hp hq hr =
        let made : (a b d : Option (List ℕ)) → Result Edge CaptureFault =
        λ a b d. level_or n y.separator probes Atn before.atn a >>= λ atn. level_or n y.separator probes Clock before.clock b >>= λ clock. level_or n y.separator probes Data before.line d >>= λ line. Ok (edge_at t atn clock line) in
        let same : sample_by y probes before n (f ∷ fs) t ≡ sample_by y probes before n (g ∷ fs) t =
        ap (λ v. made v (field_at y.columns.clock (f ∷ fs)) (field_at y.columns.line (f ∷ fs))) (column-behind y.columns.atn f g fs hp)
        ∙ (ap (λ v. made (field_at y.columns.atn (g ∷ fs)) v (field_at y.columns.line (f ∷ fs))) (column-behind y.columns.clock f g fs hq)
        ∙ ap (λ v. made (field_at y.columns.atn (g ∷ fs)) (field_at y.columns.clock (g ∷ fs)) v) (column-behind y.columns.line f g fs hr)) in
        let later : Bool = y.columns.are_rated && has_number y.columns 1 fs in
        rw ho (ap (λ v. if later then Err (NoTime n) else v) same)
    by true p q r ho hp hq hr = absurd (let no : false ≡ true = rw ho at h in cc)
    by false true q r ho hp hq hr = absurd (let no : false ≡ true = rw (ho, hp) at h in cc)
    by false false true r ho hp hq hr = absurd (let no : false ≡ true = rw (ho, hp, hq) at h in cc)
    by false false false true ho hp hq hr = absurd (let no : false ≡ true = rw (ho, hp, hq, hr) at h in cc)

-- rows with times or numbers
plain-levels : (probes : Probes) (y : Layout) (line : List ℕ) (from : ℕ) (e : Edge) → ((front : List ℕ) → IsFront y.scale front → (list_all is_plain front ≡ true) × (0 < length front))
    → ((tail : List ℕ) → PlainComesFirst y.separator y.times tail → TimeComesFirst y.scale y.separator y.times tail) → y.times ≡ 0 → are_behind y.columns ≡ true → is_plain y.separator ≡ false
    → from ≡ field_len y.separator false line → from < length line → list_all is_inner line ≡ true
    → ((number time : ℕ) → sample_of y probes e.levels number (fields_of y.separator false line) time ≡ Ok (record { time = time; levels = e.levels }))
    → HasLevels probes y (drop from line) e.levels
plain-levels probes y line from e plain comes ahead behind other at less inner reads =
    let sep : ℕ = y.separator in
    let more : List ℕ = drop (from + 1) line in
    let ends : field_len sep false line < length line = omega (arith, at, less) in
    let tail : drop from line ≡ sep ∷ more = subst (λ j. drop j line ≡ sep ∷ drop (j + 1) line) (sym at) (field-end sep false line ends) in
    let split : fields_of sep false line ≡ take from line ∷ fields_of sep false more =
    subst (λ j. fields_of sep false line ≡ take j line ∷ fields_of sep false (drop (j + 1) line)) (sym at) (field-ended sep false line ends) in
    let first : (front : List ℕ) → list_all is_plain front ≡ true → fields_of sep false (front ++ sep ∷ more) ≡ front ∷ fields_of sep false more =
    λ front p. field-first sep front more (all-of is_plain (is_inside sep) (λ b k. plain-inside sep b other k) front p) in
    let P : List ℕ → Type 0 = λ v. HasLevels probes y v e.levels in
    subst P (sym tail) record {
      inner = ap (list_all is_inner) (sym tail) ∙ inner-rest from line inner;
      loud = λ front f. front-loud front (sep ∷ more) (plain front f).0 (plain front f).1;
      first = comes (sep ∷ more) (λ front p. ap (λ j. field_at j (fields_of sep false (front ++ sep ∷ more))) ahead ∙ ap (field_at 0) (first front p));
      reads = λ number time front f.
          ap (λ v. sample_of y probes e.levels number v time) (first front (plain front f).0)
          ∙ (sample-behind y probes e.levels number time front (take from line) (fields_of sep false more) behind
          ∙ (ap (λ v. sample_of y probes e.levels number v time) (sym split) ∙ reads number time));
    }

-- what is known of rows that go on as a row does
pub tail-levels : (probes : Probes) (y : Layout) (line : List ℕ) (from : ℕ) (e : Edge) → tail_at y line ≡ Some from → list_all is_inner line ≡ true → is_silent line ≡ false
    → ((number time : ℕ) → sample_of y probes e.levels number (fields_of y.separator false line) time ≡ Ok (record { time = time; levels = e.levels }))
    → HasLevels probes y (drop from line) e.levels
tail-levels probes y line from e at inner loud reads = by y.scale refl at
  where
    behind : ((front : List ℕ) → IsFront y.scale front → (list_all is_plain front ≡ true) × (0 < length front))
        → ((tail : List ℕ) → PlainComesFirst y.separator y.times tail → TimeComesFirst y.scale y.separator y.times tail)
        → (z a b d : Bool) → (y.times == 0) ≡ z → are_behind y.columns ≡ a → is_plain y.separator ≡ b → nat_lt (field_len y.separator false line) (length line) ≡ d
        → tail_behind y.times y.columns y.separator line ≡ Some from → HasLevels probes y (drop from line) e.levels
    behind plain comes true true false true hz ha hb hd k =
        let o : Some (field_len y.separator false line) ≡ Some from = rw (hz, ha, hb, hd) at k in
        let ahead : y.times ≡ 0 = grind (arith, common_steps) in
        let j : from ≡ field_len y.separator false line = cc in
        let less : field_len y.separator false line < length line = grind (arith, common_steps) in
        plain-levels probes y line from e plain comes ahead ha hb j (omega (arith, j, less)) inner reads
    behind plain comes false a b d hz ha hb hd k = absurd (let o : None ≡ Some from = rw hz at k in cc)
    behind plain comes true false b d hz ha hb hd k = absurd (let o : None ≡ Some from = rw (hz, ha) at k in cc)
    behind plain comes true true true d hz ha hb hd k = absurd (let o : None ≡ Some from = rw (hz, ha, hb) at k in cc)
    behind plain comes true true false false hz ha hb hd k = absurd (let o : None ≡ Some from = rw (hz, ha, hb, hd) at k in cc)

    by : (scale : Scale) → y.scale ≡ scale → tail_by scale y.times y.columns y.separator line ≡ Some from → HasLevels probes y (drop from line) e.levels
    by (Counted rate) is k =
        let none-before : 0 ≡ from = cc in
        let P : ℕ → Type 0 = λ j. HasLevels probes y (drop j line) e.levels in
        subst P none-before record {
          inner = inner;
          loud = λ front f. (let none : front ≡ [] = rw is at f in rw none loud);
          first = rw is tt;
          reads = λ number time front f. (let none : front ≡ [] = rw is at f in rw none (reads number time));
        }
    by (Numbered step rate) is k =
        behind (λ front f. rw is at f) (λ tail p. rw is p) (y.times == 0) (are_behind y.columns) (is_plain y.separator) (nat_lt (field_len y.separator false line) (length line)) refl refl refl refl k
    by (Timed unit) is k =
        behind (λ front f. rw is at f) (λ tail p. rw is p) (y.times == 0) (are_behind y.columns) (is_plain y.separator) (nat_lt (field_len y.separator false line) (length line)) refl refl refl refl k

-- so it is of a line that has ended
pub row-known : (probes : Probes) (p : RowPlace) (y : Layout) (m : Moment) (line : List ℕ) (sample : Option Edge) (e : Edge) (from : ℕ) → p ≡ Rows y m → sample ≡ Some e → tail_at y line ≡ Some from
    → list_all is_inner line ≡ true → IsRowOf probes p line sample → (m.levels ≡ e.levels) × HasLevels probes y (drop from line) e.levels
row-known probes p y m line sample e from place some at inner row =
    let r : (is_silent line ≡ false) × (m.levels ≡ e.levels) × ((number time : ℕ)
    → sample_of y probes e.levels number (fields_of y.separator false line) time ≡ Ok (record { time = time; levels = e.levels })) = rw (place, some) at row in
    (r.1, tail-levels probes y line from e at inner r.0 r.2)

-- a row that goes on as the last one is read by what is in front
row-read : (probes : Probes) (y : Layout) (number : ℕ) (m next : Moment) (block front tail bytes : List ℕ) (levels : Levels) → m.levels ≡ levels → HasLevels probes y tail levels → IsFront y.scale front
    → list_all is_inner front ≡ true → moment_of y.scale y.separator number m (field_at y.times (fields_of y.separator false (front ++ tail))) ≡ Ok next → bytes ≡ (front ++ tail) ++ 10 ∷ []
    → IsRepeat probes y number m bytes (row_at next levels)
row-read probes y number m next block front tail bytes levels same h is inner reads ends = record {
  line = front ++ tail;
  ends = ends;
  inner = list_all-append is_inner front tail ∙ rw (inner, h.inner) refl;
  loud = h.loud front is;
  reads = (let sample : sample_of y probes m.levels number (fields_of y.separator false (front ++ tail)) next.before ≡ Ok (record { time = next.before; levels = levels }) =
      ap (λ (k : Levels). sample_of y probes k number (fields_of y.separator false (front ++ tail)) next.before) same ∙ h.reads number next.before front is in
      rw (reads, sample) refl);
}

-- in a table without times
pub repeated-counted : (probes : Probes) (y : Layout) (number rate len : ℕ) (m next : Moment) (block tail : List ℕ) (levels : Levels) → y.scale ≡ Counted rate → m.levels ≡ levels → HasLevels probes y tail levels
    → moment_next number m (time_at_rate rate m.count) ≡ Ok next → take (length tail + 1) block ≡ tail ++ 10 ∷ [] → len ≡ length tail + 1
    → IsRepeat probes y number m (take len block) (row_at next levels)
repeated-counted probes y number rate len m next block tail levels is same h reads ends l =
    row-read probes y number m next block [] tail (take len block) levels same h (rw is refl) refl (rw is reads) (ap (λ i. take i block) l ∙ ends)

-- and in one with times or numbers
repeated-plain : (probes : Probes) (y : Layout) (number n len : ℕ) (m next : Moment) (block tail : List ℕ) (levels : Levels) → IsFront y.scale (take n block) → m.levels ≡ levels → HasLevels probes y tail levels
    → list_all is_plain (take n block) ≡ true → moment_of y.scale y.separator number m (field_at y.times (fields_of y.separator false (take n block ++ tail))) ≡ Ok next
    → take (length tail + 1) (drop n block) ≡ tail ++ 10 ∷ [] → len ≡ n + length tail + 1 → IsRepeat probes y number m (take len block) (row_at next levels)
repeated-plain probes y number n len m next block tail levels front same h plain reads ends l =
    let in-parts : len ≡ n + (length tail + 1) = omega (arith, l) in
    let bytes : take len block ≡ (take n block ++ tail) ++ 10 ∷ [] =
    ap (λ j. take j block) in-parts ∙ (take-add n (length tail + 1) block ∙ (ap (λ v. take n block ++ v) ends ∙ sym (append_assoc (take n block) tail (10 ∷ [])))) in
    row-read probes y number m next block (take n block) tail (take len block) levels same h front (all-of is_plain is_inner plain-inner (take n block) plain) reads bytes

pub repeated-timed : (probes : Probes) (y : Layout) (number unit n len : ℕ) (m next : Moment) (block tail whole decimals : List ℕ) (i : Instant) (levels : Levels) → y.scale ≡ Timed unit
    → m.levels ≡ levels → HasLevels probes y tail levels → IsPlainTime (take n block) whole decimals → instant_of false (micros_of 6 unit whole decimals) ≡ Some i → moment_at number m (Some i) ≡ Ok next
    → take (length tail + 1) (drop n block) ≡ tail ++ 10 ∷ [] → len ≡ n + length tail + 1 → IsRepeat probes y number m (take len block) (row_at next levels)
repeated-timed probes y number unit n len m next block tail whole decimals i levels is same h plain spelled reads ends l =
    let front : List ℕ = take n block in
    let first : PlainComesFirst y.separator y.times tail = rw is at h.first in
    let timed : moment_of (Timed unit) y.separator number m (field_at y.times (fields_of y.separator false (front ++ tail))) ≡ Ok next =
    ap (λ o. moment_at number m (instant_of_row y.separator unit o)) (first front plain.plain) ∙ (ap (moment_at number m) (plain.reads y.separator unit i spelled) ∙ reads) in
    repeated-plain probes y number n len m next block tail levels (rw is (plain.plain, plain.some)) same h plain.plain (rw is timed) ends l

-- digits alone are a plain time
pub digits-ahead : (text : List ℕ) (d : Digits) → digits_ahead text ≡ Some d → 0 < d.len → IsTimeAhead 6 text (record { len = d.len; micros = d.number })
digits-ahead text d h some =
    let is = ahead-digits text d h in
    let whole : List ℕ = digits_in text in
    let digits : list_all is_digit whole ≡ true = all-front is_digit text in
    let long : 0 < length whole = omega (arith, some, is.0, length-prefix_len is_digit text) in
    let read : IsPlainTime whole whole [] = subst (λ v. IsPlainTime v whole []) (append-nil whole) (plain-read whole [] [] digits refl long tail-of-none) in
    record { whole = whole; decimals = []; plain = subst (λ j. IsPlainTime (take j text) whole []) (sym is.0) read; spells = rw is.1 refl }

-- digits alone are the number that they spell
digits-counted : (xs : List ℕ) → list_all is_digit xs ≡ true → 0 < length xs → count_in (without_front xs) ≡ number_from 0 xs
digits-counted [] h some = absurd (omega (arith, some))
digits-counted (x ∷ xs) h some =
    let all : List ℕ = x ∷ xs in
    let run = digits-run all [] h refl in
    let none : all ++ [] ≡ all = append-nil all in
    let own : digits_in all ≡ all = subst (λ v. take (prefix_len is_digit v) v ≡ all) none run.0 in
    let behind : behind_digits all ≡ [] = subst (λ v. drop (prefix_len is_digit v) v ≡ []) none run.1 in
    let front : without_front all ≡ all = subst (λ v. without_front v ≡ v) none (digit-first all [] some h).0 in
    ap count_in front ∙ (rw behind refl ∙ ap number_of own)

pub repeated-numbered : (probes : Probes) (y : Layout) (number step rate count len : ℕ) (m next : Moment) (block tail : List ℕ) (i : Instant) (levels : Levels) → y.scale ≡ Numbered step rate
    → m.levels ≡ levels → HasLevels probes y tail levels → 0 < length (digits_in block) → number_from 0 (digits_in block) ≡ Some count → instant_of false (onward (times_in step count) (time_at_rate rate)) ≡ Some i
    → moment_at number m (Some i) ≡ Ok next → take (length tail + 1) (drop (prefix_len is_digit block) block) ≡ tail ++ 10 ∷ [] → len ≡ prefix_len is_digit block + length tail + 1
    → IsRepeat probes y number m (take len block) (row_at next levels)
repeated-numbered probes y number step rate count len m next block tail i levels is same h some counted spelled reads ends l =
    let front : List ℕ = digits_in block in
    let digits : list_all is_digit front ≡ true = all-front is_digit block in
    let plain : list_all is_plain front ≡ true = all-of is_digit is_plain digit-is-plain front digits in
    let first : PlainComesFirst y.separator y.times tail = rw is at h.first in
    let sample : sample_in step rate (without_front front) ≡ Some i =
    ap (λ o. instant_of false (onward (onward o (times_in step)) (time_at_rate rate))) (digits-counted front digits some ∙ counted) ∙ spelled in
    let timed : moment_of (Numbered step rate) y.separator number m (field_at y.times (fields_of y.separator false (front ++ tail))) ≡ Ok next =
    ap (λ o. moment_at number m (instant_of_number step rate o)) (first front plain) ∙ (ap (moment_at number m) sample ∙ reads) in
    repeated-plain probes y number (prefix_len is_digit block) len m next block tail levels (rw is (plain, some)) same h plain (rw is timed) ends l

-- the moment that made a row
moment-of-row : (probes : Probes) (y : Layout) (number : ℕ) (m : Moment) (bytes : List ℕ) (levels : Levels) (row : Row) (v : Result Moment CaptureFault) → row_if v levels ≡ Some row
    → ((next : Moment) → v ≡ Ok next → IsRepeat probes y number m bytes (row_at next levels)) → IsRepeat probes y number m bytes row
moment-of-row probes y number m bytes levels row (Ok next) e k =
    let is : row_at next levels ≡ row = cc in
    let P : Row → Type 0 = λ r. IsRepeat probes y number m bytes r in
    subst P is (k next refl)
moment-of-row probes y number m bytes levels row (Err f) e k = absurd (cc)

pub counted-repeat : (probes : Probes) (y : Layout) (number rate : ℕ) (m : Moment) (block tail : List ℕ) (last : LastRow) (levels : Levels) (row : Row) (v : Result Moment CaptureFault) (o : Option Row)
    → y.scale ≡ Counted rate → last.levels ≡ Some levels → tail ≡ drop last.from last.bytes.items → v ≡ moment_next number m (time_at_rate rate m.count) → o ≡ row_if v levels → o ≡ Some row
    → take (length tail + 1) block ≡ tail ++ 10 ∷ [] → KnowsLevels probes y m last → IsRepeat probes y number m (take (length tail + 1) block) row
counted-repeat probes y number rate m block tail last levels row v o is there t made r some ends knows =
    let k : (m.levels ≡ levels) × HasLevels probes y (drop last.from last.bytes.items) levels = rw there at knows in
    let P : List ℕ → Type 0 = λ l. HasLevels probes y l levels in
    moment-of-row probes y number m (take (length tail + 1) block) levels row v (sym r ∙ some)
    (λ next e. repeated-counted probes y number rate (length tail + 1) m next block tail levels is k.0 (subst P (sym t) k.1) (sym made ∙ e) ends refl)

pub timed-repeat : (probes : Probes) (y : Layout) (number unit n : ℕ) (m : Moment) (block tail whole decimals : List ℕ) (last : LastRow) (levels : Levels) (i : Instant) (row : Row)
    (v : Result Moment CaptureFault) (o : Option Row) → y.scale ≡ Timed unit → last.levels ≡ Some levels → tail ≡ drop last.from last.bytes.items → IsPlainTime (take n block) whole decimals
    → instant_of false (micros_of 6 unit whole decimals) ≡ Some i → v ≡ moment_at number m (Some i) → o ≡ row_if v levels → o ≡ Some row
    → take (length tail + 1) (drop n block) ≡ tail ++ 10 ∷ [] → KnowsLevels probes y m last → IsRepeat probes y number m (take (n + length tail + 1) block) row
timed-repeat probes y number unit n m block tail whole decimals last levels i row v o is there t plain spelled made r some ends knows =
    let k : (m.levels ≡ levels) × HasLevels probes y (drop last.from last.bytes.items) levels = rw there at knows in
    let P : List ℕ → Type 0 = λ l. HasLevels probes y l levels in
    moment-of-row probes y number m (take (n + length tail + 1) block) levels row v (sym r ∙ some)
    (λ next e.
    repeated-timed probes y number unit n (n + length tail + 1) m next block tail whole decimals i levels is k.0 (subst P (sym t) k.1) plain spelled (sym made ∙ e) ends refl)

pub numbered-repeat : (probes : Probes) (y : Layout) (number step rate count : ℕ) (m : Moment) (block tail : List ℕ) (last : LastRow) (levels : Levels) (i : Instant) (row : Row)
    (v : Result Moment CaptureFault) (o : Option Row) → y.scale ≡ Numbered step rate → last.levels ≡ Some levels → tail ≡ drop last.from last.bytes.items → 0 < length (digits_in block)
    → number_from 0 (digits_in block) ≡ Some count → instant_of false (onward (times_in step count) (time_at_rate rate)) ≡ Some i → v ≡ moment_at number m (Some i) → o ≡ row_if v levels → o ≡ Some row
    → take (length tail + 1) (drop (prefix_len is_digit block) block) ≡ tail ++ 10 ∷ [] → KnowsLevels probes y m last
    → IsRepeat probes y number m (take (prefix_len is_digit block + length tail + 1) block) row
numbered-repeat probes y number step rate count m block tail last levels i row v o is there t digits counted spelled made r some ends knows =
    let k : (m.levels ≡ levels) × HasLevels probes y (drop last.from last.bytes.items) levels = rw there at knows in
    let P : List ℕ → Type 0 = λ l. HasLevels probes y l levels in
    let len : ℕ = prefix_len is_digit block + length tail + 1 in
    moment-of-row probes y number m (take len block) levels row v (sym r ∙ some)
    (λ next e. repeated-numbered probes y number step rate count len m next block tail i levels is k.0 (subst P (sym t) k.1) digits counted spelled (sym made ∙ e) ends refl)

-- these bytes and the end of a line are in front of a text
pub led : (tail text : List ℕ) (word : Bool) → word ≡ bytes_eq (take (length tail) text) tail → length tail < length text → get_or text (length tail) 0 ≡ 10 → word ≡ true
    → take (length tail + 1) text ≡ tail ++ 10 ∷ []
led tail text word e less end h =
    let same : take (length tail) text ≡ tail = (bytes_eq-Decides (take (length tail) text) tail).0 (sym e ∙ h) in
    take_more text (length tail) 0 less ∙ (ap (λ v. v ++ get_or text (length tail) 0 ∷ []) same ∙ ap (λ b. tail ++ b ∷ []) end)

-- nothing has begun
pub none-begun : (l : List ℕ) → length l ≡ 0 → l ≡ []
none-begun [] h = refl
none-begun (b ∷ bs) h = absurd (omega (arith, h))

-- so it is taken
pub read-known : (s : Signals) (rate : Option ℕ) (text : List ℕ) (samples : List Edge) (old new : CsvReader) (bytes : List ℕ) (y : Layout) (m : Moment) (row : Row)
    → HasReadTable s rate text samples old → IsRepeat old.signals.probes y old.number m bytes row → old.last.levels ≡ Some row.sample.levels
    → old.place ≡ Rows y m → old.line.items ≡ [] → new.place ≡ Rows y row.moment → new.line.items ≡ [] → new.signals ≡ old.signals → new.number ≡ old.number + 1 → new.last ≡ old.last
    → HasReadTable s rate (text ++ bytes) (samples ++ row.sample ∷ []) new
read-known s rate text samples old new bytes y m row h r same p e q d a n l =
    let probes : Probes = old.signals.probes in
    let before : KnowsLevels probes y m old.last = rw p at h.last in
    let own : (m.levels ≡ row.sample.levels) × HasLevels probes y (drop old.last.from old.last.bytes.items) row.sample.levels = rw same at before in
    let known : KnowsLevels probes y row.moment old.last = rw same ((row-levels y probes old.number m (fields_of y.separator false r.line) row r.reads).0, own.1) in
    record {
      signals = a ∙ h.signals;
      inner = rw d refl;
      last = rw (a, q, l) known;
      told = λ more.
          ap (csv_contents s rate) (append_assoc text bytes more)
          ∙ (h.told (bytes ++ more)
          ∙ (ap (with_samples samples) (here more)
          ∙ (behind-behind samples (row.sample ∷ []) (row_contents y probes (old.number + 1) row.moment (lines_of more))
          ∙ ap (with_samples (samples ++ row.sample ∷ [])) (rw (a, q, d, n) refl))));
    }
  where
    here : (more : List ℕ)
        → contents_from old.signals old.place old.number (lines_of (old.line.items ++ (bytes ++ more)))
        ≡ with_samples (row.sample ∷ []) (row_contents y old.signals.probes (old.number + 1) row.moment (lines_of more))
    here more =
        let lines : lines_of (old.line.items ++ (bytes ++ more)) ≡ r.line ∷ lines_of more =
        ap (λ v. lines_of (v ++ (bytes ++ more))) e
        ∙ (ap (λ v. lines_of (v ++ more)) r.ends ∙ (ap lines_of (append_assoc r.line (10 ∷ []) more) ∙ inner-line r.line more r.inner)) in
        ap (contents_from old.signals old.place old.number) lines ∙ rw (p, r.loud, r.reads) refl

pub read-repeat : (old new : CsvReader) (bytes : List ℕ) (y : Layout) (m : Moment) (row : Row)
    → ((probes : Probes) → KnowsLevels probes y m old.last → IsRepeat probes y old.number m bytes row) → old.last.levels ≡ Some row.sample.levels
    → old.place ≡ Rows y m → old.line.items ≡ [] → new.place ≡ Rows y row.moment → new.line.items ≡ [] → new.signals ≡ old.signals → new.number ≡ old.number + 1 → new.last ≡ old.last
    → ReadsMore bytes (Some row.sample) old new
read-repeat old new bytes y m row repeats same p e q d a n l = λ s rate text samples h.
    let known : KnowsLevels old.signals.probes y m old.last = rw p at h.last in
    read-known s rate text samples old new bytes y m row h (repeats old.signals.probes known) same p e q d a n l

-- Several rows.

-- no row was taken, or some that have these levels
abbrev pub Repeats : (bytes : List ℕ) → Levels → (last : Option Edge) → (old new : CsvReader) → Type 0
Repeats bytes levels None old new = (bytes ≡ []) × (new ≡ old)
Repeats bytes levels (Some e) old new = (0 < length bytes) × (e.levels ≡ levels) × SkipsRows bytes e old new

-- those of a front of a block
pub record SkipsFront (block rest : List ℕ) (levels : Levels) (last : Option Edge) (old new : CsvReader) : Type 0 where
  pub front : List ℕ
  pub whole : block ≡ front ++ rest
  pub known : Repeats front levels last old new

pub skip-none : (block : List ℕ) (levels : Levels) (r : CsvReader) → SkipsFront block block levels None r r
skip-none block levels r = record { front = []; whole = refl; known = (refl, refl) }

have-more : (l : Levels) (es : List Edge) (e : Edge) → AllHave l es → e.levels ≡ l → AllHave l (es ++ e ∷ [])
have-more l [] e h k = (k, tt)
have-more l (x ∷ es) e h k = (h.0, have-more l es e h.1 k)

-- one row more
pub skip-more : (block rest : List ℕ) (levels : Levels) (last : Option Edge) (old mid new : CsvReader) (len : ℕ) (e : Edge) → SkipsFront block rest levels last old mid → e.levels ≡ levels
    → ReadsMore (take len rest) (Some e) mid new → 0 < len → len ≤ length rest → SkipsFront block (drop len rest) levels (Some e) old new
skip-more block rest levels last old mid new len e f same reads some within = record {
  front = f.front ++ take len rest;
  whole = f.whole ∙ (ap (λ l. f.front ++ l) (sym (take-append-drop len rest)) ∙ sym (append_assoc f.front (take len rest) (drop len rest)));
  known = (omega (arith, length-append f.front (take len rest), length-take-le len rest within, some), same, by last f.known);
}
  where
    by : (last : Option Edge) → Repeats f.front levels last old mid → SkipsRows (f.front ++ take len rest) e old new
    by None k = λ s rate text samples h.
        let P : CsvReader → Type 0 = λ r. HasReadTable s rate text samples r in
        let Q : List ℕ → Type 0 = λ l. HasReadTable s rate (text ++ l) ((samples ++ []) ++ e ∷ []) new in
        let R : List Edge → Type 0 = λ l. HasReadTable s rate (text ++ take len rest) (l ++ e ∷ []) new in
        record {
          between = [];
          same = tt;
          read = subst Q (ap (λ v. v ++ take len rest) (sym k.0)) (subst R (sym (append-nil samples)) (reads s rate text samples (subst P (sym k.1) h)));
        }
    by (Some l) k = λ s rate text samples h.
        let t = k.2 s rate text samples h in
        let Q : List ℕ → Type 0 = λ v. HasReadTable s rate v ((samples ++ (t.between ++ l ∷ [])) ++ e ∷ []) new in
        let R : List Edge → Type 0 = λ v. HasReadTable s rate ((text ++ f.front) ++ take len rest) (v ++ e ∷ []) new in
        let own : l.levels ≡ e.levels = k.1 ∙ sym same in
        record {
          between = t.between ++ l ∷ [];
          same = subst (λ v. AllHave v (t.between ++ l ∷ [])) own (have-more l.levels t.between l t.same refl);
          read = subst Q (append_assoc text f.front (take len rest))
              (subst R (append_assoc samples t.between (l ∷ [])) (reads s rate (text ++ f.front) ((samples ++ t.between) ++ l ∷ []) t.read));
        }

-- what was taken in all
pub all-skipped : (block rest : List ℕ) (levels : Levels) (last : Option Edge) (old new : CsvReader) (n : ℕ) → SkipsFront block rest levels last old new → n ≡ length block - length rest
    → line_number new + length rest ≤ line_number old + length block → TakesRepeats block levels old new (with_len n last)
all-skipped block rest levels last old new n f count lines =
    let whole : length block ≡ length f.front + length rest = ap length f.whole ∙ length-append f.front rest in
    let long : n ≡ length f.front = omega (arith, count, whole) in
    let front : take n block ≡ f.front = ap (λ i. take i block) long ∙ (ap (take (length f.front)) f.whole ∙ take-append_seam f.front rest) in
    by last f.known (omega (arith, long, whole)) (omega (arith, long, whole, lines)) long front
  where
    by : (last : Option Edge) → Repeats f.front levels last old new → n ≤ length block → line_number new ≤ line_number old + n → n ≡ length f.front → take n block ≡ f.front
        → TakesRepeats block levels old new (with_len n last)
    by None k within number long front = record { read = tt; alike = tt; some = tt; within = tt; number = tt; same = λ e. k.1 }
    by (Some e) k within number long front =
        let P : List ℕ → Type 0 = λ v. SkipsRows v e old new in
        record {
          read = subst P (sym front) k.2;
          alike = k.1;
          some = omega (arith, long, k.0);
          within = within;
          number = number;
          same = λ none. absurd (cc);
        }

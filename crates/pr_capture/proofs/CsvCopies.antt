-- Rows that are the last row byte for byte.
use Rattle.std.proofs.Common.{◌≡◌, ◌≢◌, ℕ, zero, suc, ◌+◌, ◌-◌, ◌*◌, ◌/◌, ◌<◌, ◌≤◌, ◌==◌, Bool, true, false, List, [], ◌∷◌, ◌++◌, take, drop, refl, ap, sym, subst, ◌∙◌, arith, append_assoc, append-nil, nat_lt, Option, Some, None, mul-le-mul_right, div-mul-le_self, le_trans, take-add}
use Rattle.std.specs.Prelude.{Ok}
use Rattle.std.proofs.lemmas.Grind.{common_steps}
use Rattle.std.proofs.lemmas.Nat.{le-div}
use Rattle.pr_wire.specs.declared.Edge.{Edge}
use Rattle.pr_wire.specs.declared.Levels.{Levels}
use Rattle.pr_capture.specs.declared.csv.CsvReader.{CsvReader}
use Rattle.pr_capture.specs.declared.csv.Layout.{Layout}
use Rattle.pr_capture.specs.declared.csv.Moment.{Moment}
use Rattle.pr_capture.specs.declared.csv.Row.{Row}
use Rattle.pr_capture.specs.declared.csv.RowPlace.TheVariants.{Rows}
use Rattle.pr_capture.specs.declared.csv.Scale.TheVariants.{Counted}
use Rattle.pr_capture.specs.declared.signals.Probes.{Probes}
use Rattle.pr_capture.specs.declared.signals.Signals.{Signals}
use Rattle.pr_capture.specs.Csv.{field_at, fields_of, moment_of, sample_of}
use Rattle.pr_capture.specs.CsvReads.{HasSkipped, SkipsRows}
use Rattle.pr_capture.specs.CsvSteps.{copies, moment_after, moment_beyond, row_at, AreTimed, HasReadTable, IsRepeat, IsRun, KnowsLevels}
use Rattle.pr_capture.specs.TableTimes.{time_at_rate}
use Rattle.pr_capture.proofs.CsvRepeats.{read-known, row-levels}

-- Copies.

pub copies-add : (a b : ℕ) (bytes : List ℕ) → copies (a + b) bytes ≡ copies a bytes ++ copies b bytes
copies-add zero b bytes = let o : 0 + b ≡ b = omega arith in ap (λ n. copies n bytes) o
copies-add (suc a) b bytes =
    let o : suc a + b ≡ suc (a + b) = omega arith in
    ap (λ n. copies n bytes) o ∙ (ap (λ v. bytes ++ v) (copies-add a b bytes) ∙ sym (append_assoc bytes (copies a bytes) (copies b bytes)))

-- twice as many
pub copies-twice : (n end : ℕ) (bytes text : List ℕ) → take end text ≡ copies n bytes → take end (drop end text) ≡ take end text
    → take (end + end) text ≡ copies (n + n) bytes
copies-twice n end bytes text h same =
    take-add end end text ∙ (ap (λ v. take end text ++ v) same ∙ (ap (λ v. v ++ v) h ∙ sym (copies-add n n bytes)))

-- Times.

-- a row after others has a time, so they have, none before an earlier one
record HasTime (rate c d t : ℕ) : Type 0 where
  first : time_at_rate rate c ≡ Some (c * 1000000 / rate)
  last : t ≡ d * 1000000 / rate
  later : c * 1000000 / rate ≤ d * 1000000 / rate

time-on : (rate c d t : ℕ) → c ≤ d → time_at_rate rate d ≡ Some t → HasTime rate c d t
time-on rate c d t less known = by (rate == 0) (nat_lt (d + 1) 18446744073709551616) (nat_lt (d * 1000000 / rate) 18446744073709551616) refl refl refl known
  where
    by : (p q r : Bool) → (rate == 0) ≡ p → nat_lt (d + 1) 18446744073709551616 ≡ q → nat_lt (d * 1000000 / rate) 18446744073709551616 ≡ r → time_at_rate rate d ≡ Some t
        → HasTime rate c d t
    by true q r hp hq hr k = absurd (let o : None ≡ Some t = rw hp at k in cc)
    by false false r hp hq hr k = absurd (let o : None ≡ Some t = rw (hp, hq) at k in cc)
    by false true false hp hq hr k = absurd (let o : None ≡ Some t = rw (hp, hq, hr) at k in cc)
    by false true true hp hq hr k =
        let o : Some (d * 1000000 / rate) ≡ Some t = rw (hp, hq, hr) at k in
        let some : 0 < rate = grind (arith, common_steps) in
        let few : d + 1 < 18446744073709551616 = grind (arith, common_steps) in
        let soon : d * 1000000 / rate < 18446744073709551616 = grind (arith, common_steps) in
        let below : c * 1000000 ≤ d * 1000000 = mul-le-mul_right 1000000 less in
        let times : c * 1000000 / rate ≤ d * 1000000 / rate =
        le-div (c * 1000000 / rate) (d * 1000000) rate some (le_trans (div-mul-le_self (c * 1000000) rate) below) in
        let fewer : nat_lt (c + 1) 18446744073709551616 ≡ true = grind (arith, common_steps) in
        let sooner : nat_lt (c * 1000000 / rate) 18446744073709551616 ≡ true = grind (arith, common_steps) in
        record { first = rw (hp, fewer, sooner) refl; last = cc; later = times }

-- n + 1 rows have times if the last has one, and the first has none before what came before
pub are-timed : (rate n t u : ℕ) (m : Moment) → time_at_rate rate m.count ≡ Some t → m.before ≤ t → time_at_rate rate (m.count + n) ≡ Some u → AreTimed rate m (suc n)
are-timed rate zero t u m first before last =
    let h = time-on rate m.count m.count t (omega arith) first in
    (h.first, omega (arith, before, h.last), tt)
are-timed rate (suc n) t u m first before last =
    let h = time-on rate m.count m.count t (omega arith) first in
    let o : m.count + suc n ≡ (m.count + 1) + n = omega arith in
    let more : time_at_rate rate ((m.count + 1) + n) ≡ Some u = ap (time_at_rate rate) (sym o) ∙ last in
    let k = time-on rate (m.count + 1) ((m.count + 1) + n) u (omega arith) more in
    let j = time-on rate m.count (m.count + 1) ((m.count + 1) * 1000000 / rate) (omega arith) k.first in
    (h.first, omega (arith, before, h.last), are-timed rate n ((m.count + 1) * 1000000 / rate) u (moment_beyond rate m) k.first j.later more)

-- the moment after them
pub moment-after : (rate n : ℕ) (m : Moment) → moment_after rate m (suc n) ≡ record m { before = (m.count + n) * 1000000 / rate; count = m.count + suc n }
moment-after rate zero m = let o : m.count + 0 ≡ m.count = omega arith in rw o refl
moment-after rate (suc n) m =
    let o : (m.count + 1) + n ≡ m.count + suc n = omega arith in
    let p : (m.count + 1) + suc n ≡ m.count + suc (suc n) = omega arith in
    let made : ℕ → ℕ → Moment = λ a b. record m { before = a * 1000000 / rate; count = b } in
    moment-after rate n (moment_beyond rate m) ∙ (ap (λ a. made a ((m.count + 1) + suc n)) o ∙ ap (made (m.count + suc n)) p)

-- Rows.

-- a row says the same at another moment at the rate
again : (probes : Probes) (y : Layout) (rate number i : ℕ) (m k : Moment) (bytes : List ℕ) (row : Row) → y.scale ≡ Counted rate → IsRepeat probes y number m bytes row
    → k.levels ≡ row.sample.levels → time_at_rate rate k.count ≡ Some (k.count * 1000000 / rate) → k.before ≤ k.count * 1000000 / rate
    → IsRepeat probes y i k bytes (row_at (moment_beyond rate k) row.sample.levels)
again probes y rate number i m k bytes row is r same timed before =
    let fields : List (List ℕ) = fields_of y.separator false r.line in
    let t : ℕ = k.count * 1000000 / rate in
    let late : nat_lt t k.before ≡ false = grind (arith, common_steps) in
    let next : moment_of y.scale y.separator i k (field_at y.times fields) ≡ Ok (moment_beyond rate k) = rw (is, timed, late) refl in
    let sample : sample_of y probes k.levels i fields t ≡ Ok (record { time = t; levels = row.sample.levels }) =
    ap (λ (v : Levels). sample_of y probes v i fields t) same ∙ (row-levels y probes number m fields row r.reads).1 i t in
    record { line = r.line; ends = r.ends; inner = r.inner; loud = r.loud; reads = rw (next, sample) refl }

-- the last of `more` more rows
abbrev last_at : (rate : ℕ) → (more : ℕ) → Row → Row
last_at rate zero row = row
last_at rate (suc n) row = last_at rate n (row_at (moment_beyond rate row.moment) row.sample.levels)

last-levels : (rate n : ℕ) (row : Row) → row.sample.levels ≡ (last_at rate n row).sample.levels
last-levels rate zero row = refl
last-levels rate (suc n) row = last-levels rate n (row_at (moment_beyond rate row.moment) row.sample.levels)

last-after : (rate n : ℕ) (m : Moment) (levels : Levels) → last_at rate n (row_at m levels) ≡ row_at (moment_after rate m n) levels
last-after rate zero m levels = refl
last-after rate (suc n) m levels = last-after rate n (moment_beyond rate m) levels

runs : (probes : Probes) (y : Layout) (rate number n : ℕ) (m : Moment) (bytes : List ℕ) (row : Row) → y.scale ≡ Counted rate → IsRepeat probes y number m bytes row → AreTimed rate row.moment n
    → IsRun probes y number m (copies (suc n) bytes) (suc n) (last_at rate n row)
runs probes y rate number zero m bytes row is r timed =
    let P : List ℕ → Type 0 = λ v. IsRepeat probes y number m v row in
    subst P (sym (append-nil bytes)) r
runs probes y rate number (suc n) m bytes row is r timed =
    let keeps : row.moment.levels ≡ row.sample.levels = (row-levels y probes number m (fields_of y.separator false r.line) row r.reads).0 in
    let P : Levels → Type 0 = λ v. AreTimed rate (record (moment_beyond rate row.moment) { levels = v }) n in
    let next : Row = row_at (moment_beyond rate row.moment) row.sample.levels in (
      row,
      bytes,
      copies (suc n) bytes,
      refl,
      r,
      last-levels rate (suc n) row,
      runs probes y rate (number + 1) n row.moment bytes next is (again probes y rate number (number + 1) m row.moment bytes row is r keeps timed.0 timed.1) (subst P keeps timed.2),
    )

-- a row, and n more
pub run-on : (probes : Probes) (y : Layout) (rate number n : ℕ) (m after : Moment) (text bytes : List ℕ) (row : Row) → y.scale ≡ Counted rate → IsRepeat probes y number m bytes row
    → AreTimed rate row.moment (suc n) → after ≡ moment_after rate row.moment (suc n) → text ≡ copies (suc (suc n)) bytes
    → IsRun probes y number m text (suc (suc n)) (row_at after row.sample.levels)
run-on probes y rate number n m after text bytes row is r timed a t =
    let end : last_at rate (suc n) row ≡ row_at after row.sample.levels =
    last-after rate n (moment_beyond rate row.moment) row.sample.levels ∙ ap (λ k. row_at k row.sample.levels) (sym a) in
    let P : List ℕ → Type 0 = λ v. IsRun probes y number m v (suc (suc n)) (row_at after row.sample.levels) in
    let Q : Row → Type 0 = λ v. IsRun probes y number m (copies (suc (suc n)) bytes) (suc (suc n)) v in
    subst P (sym t) (subst Q end (runs probes y rate number (suc n) m bytes row is r timed))

-- Reading them.

reads-run : (n : ℕ) (s : Signals) (rate : Option ℕ) (text bytes : List ℕ) (samples : List Edge) (old new : CsvReader) (y : Layout) (m : Moment) (row : Row) → HasReadTable s rate text samples old
    → IsRun old.signals.probes y old.number m bytes (suc n) row → old.place ≡ Rows y m → old.line.items ≡ [] → new.place ≡ Rows y row.moment → new.line.items ≡ []
    → new.signals ≡ old.signals → new.number ≡ old.number + suc n → new.last ≡ old.last → old.last.levels ≡ Some row.sample.levels → HasSkipped s rate (text ++ bytes) samples row.sample new
reads-run zero s rate text bytes samples old new y m row h run p e q d a c l same =
    let P : List Edge → Type 0 = λ v. HasReadTable s rate (text ++ bytes) (v ++ row.sample ∷ []) new in
    record { between = []; same = tt; read = subst P (sym (append-nil samples)) (read-known s rate text samples old new bytes y m row h run same p e q d a c l) }
reads-run (suc n) s rate text bytes samples old new y m row h run p e q d a c l same =
    let first : Row = run.0 in
    let front : List ℕ = run.1 in
    let rest : List ℕ = run.2 in
    let mid : CsvReader = record old { place = Rows y first.moment; number = old.number + 1 } in
    let one : HasReadTable s rate (text ++ front) (samples ++ first.sample ∷ []) mid =
    read-known s rate text samples old mid front y m first h run.4 (same ∙ ap Some (sym run.5)) p e refl e refl refl refl in
    let more : HasSkipped s rate ((text ++ front) ++ rest) (samples ++ first.sample ∷ []) row.sample new =
    reads-run n s rate (text ++ front) rest (samples ++ first.sample ∷ []) mid new y first.moment row one run.6 refl e q d a (omega (arith, c)) l same in
    let P : List ℕ → Type 0 = λ v. HasReadTable s rate v ((samples ++ (first.sample ∷ more.between)) ++ row.sample ∷ []) new in
    let Q : List Edge → Type 0 = λ v. HasReadTable s rate ((text ++ front) ++ rest) (v ++ row.sample ∷ []) new in
    record {
      between = first.sample ∷ more.between;
      same = (run.5, more.same);
      read = subst P (append_assoc text front rest ∙ ap (λ v. text ++ v) (sym run.3)) (subst Q (append_assoc samples (first.sample ∷ []) more.between) more.read);
    }

-- rows that go on as the last one does
pub skips-run : (old new : CsvReader) (bytes : List ℕ) (y : Layout) (m : Moment) (count : ℕ) (row : Row) → ((probes : Probes) → KnowsLevels probes y m old.last → IsRun probes y old.number m bytes count row) → old.last.levels ≡ Some row.sample.levels
    → 0 < count → old.place ≡ Rows y m → old.line.items ≡ [] → new.place ≡ Rows y row.moment → new.line.items ≡ [] → new.signals ≡ old.signals → new.number ≡ old.number + count → new.last ≡ old.last
    → SkipsRows bytes row.sample old new
skips-run old new bytes y m zero row runs same some p e q d a c l = absurd (omega (arith, some))
skips-run old new bytes y m (suc n) row runs same some p e q d a c l = λ s rate text samples h.
    let known : KnowsLevels old.signals.probes y m old.last = rw p at h.last in
    reads-run n s rate text bytes samples old new y m row h (runs old.signals.probes known) p e q d a c l same

-- the moment after more rows, from the times of the first and the last of them
pub record IsSkipped (rate rows u count : ℕ) (m : Moment) : Type 0 where
  pub after : record m { before = u; count = count } ≡ moment_after rate m rows
  pub timed : AreTimed rate m rows

pub skipped : (rate rows t u count : ℕ) (m : Moment) → 0 < rows → time_at_rate rate m.count ≡ Some t → m.before ≤ t → count ≡ m.count + rows → time_at_rate rate (count - 1) ≡ Some u
    → IsSkipped rate rows u count m
skipped rate zero t u count m some first before total last = absurd (omega (arith, some))
skipped rate (suc n) t u count m some first before total last =
    let o : count - 1 ≡ m.count + n = omega (arith, total) in
    let end : time_at_rate rate (m.count + n) ≡ Some u = ap (time_at_rate rate) (sym o) ∙ last in
    let h = time-on rate (m.count + n) (m.count + n) u (omega arith) end in
    let made : ℕ → ℕ → Moment = λ a b. record m { before = a; count = b } in
    record {
      after = ap (λ a. made a count) h.last ∙ (ap (made ((m.count + n) * 1000000 / rate)) total ∙ sym (moment-after rate n m));
      timed = are-timed rate n t u m first before end;
    }

-- a row and what was found to follow it
pub run-of : (probes : Probes) (y : Layout) (rate number count : ℕ) (m after : Moment) (text bytes : List ℕ) (row : Row) → 0 < count → count ≢ 1 → y.scale ≡ Counted rate
    → IsRepeat probes y number m bytes row → AreTimed rate row.moment (count - 1) → after ≡ moment_after rate row.moment (count - 1) → text ≡ copies count bytes
    → IsRun probes y number m text count (row_at after row.sample.levels)
run-of probes y rate number zero m after text bytes row some many is r timed a t = absurd (omega (arith, some))
run-of probes y rate number (suc zero) m after text bytes row some many is r timed a t = absurd (many refl)
run-of probes y rate number (suc (suc n)) m after text bytes row some many is r timed a t =
    let o : suc (suc n) - 1 ≡ suc n = omega arith in
    run-on probes y rate number n m after text bytes row is r (subst (AreTimed rate row.moment) o timed) (a ∙ ap (moment_after rate row.moment) o) t

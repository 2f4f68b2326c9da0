-- A table whose first row is found line by line.
use Rattle.std.proofs.Common.{◌≡◌, ◌≤◌, ◌<◌, ◌+◌, ◌-◌, ◌==◌, ℕ, Bool, true, false, List, [], ◌∷◌, ◌++◌, length, take, drop, suc, refl, ap, sym, length-drop, subst, ◌∙◌, arith, append_assoc, append-nil, length-append, Option, Some, None, IfSome, inl, inr}
use Rattle.std.specs.Prelude.{IsErrAnd, is_some, Result, Ok, Err}
use Rattle.std.specs.List.{prefix_len}
use Rattle.std.proofs.lemmas.List.{drop-append-le, take-append-drop, take-append-le}
use Rattle.std.proofs.lemmas.List.Folds.{prefix_len-append}
use Rattle.std.proofs.lemmas.Grind.{common_steps}
use Rattle.std.specs.Io.KnownBytes.{Consumes, IsAtEnd}
use Rattle.std.proofs.Math.Seq.{drop-append_seam, take-add}
use Rattle.pr_wire.specs.declared.Edge.{Edge}
use Rattle.pr_base.specs.Lines.{lines_of, onto_first}
use Rattle.pr_capture.specs.declared.csv.CsvReader.{CsvReader}
use Rattle.pr_capture.specs.declared.fault.CaptureFault.{CaptureFault}
use Rattle.pr_capture.specs.declared.fault.CaptureFault.TheVariants.{NoMemory}
use Rattle.pr_capture.specs.declared.format.TraceInput.{TraceInput}
use Rattle.pr_capture.specs.Csv.{csv_contents, is_inner}
use Rattle.pr_capture.specs.CsvReads as csv
use Rattle.pr_capture.specs.CsvSteps.{contents_left, HasReadTable}
use Rattle.pr_capture.specs.Recording.{refused, with_samples, CaptureContents}
use Rattle.pr_capture.specs.Samples.{listed}
use Rattle.pr_cli.specs.Starts.{samples_in, table_zero, with_line, with_zeros, zero_after, zero_by}
use Rattle.pr_cli.specs.StartSteps.{FindsSample, GoesOn, HasNoSample, IsWhole, ShowsZero}
use Rattle.pr_cli.specs.Reading.{ReadsMore}
use Rattle.pr_cli.proofs.WholeLines.{given-is-all}

-- Bytes that are taken up to a sample.

pub no_length : (n : ℕ) → (n == 0) ≡ true → n ≡ 0
no_length n e = grind (arith, common_steps)

pub some_length : (n : ℕ) → (n == 0) ≡ false → 0 < n
some_length n e = grind (arith, common_steps)

pub no_bytes : (l : List ℕ) → length l ≡ 0 → l ≡ []
no_bytes [] e = refl
no_bytes (x ∷ l) e = absurd (omega (arith, e))

-- a reader has taken the bytes in front of the rest, which have no sample
pub record HasPassed (bytes rest : List ℕ) (old now : CsvReader) : Type 0 where
  pub front : List ℕ
  pub whole : bytes ≡ front ++ rest
  pub read : (input : TraceInput) (before : List ℕ) → HasNoSample input before old → HasNoSample input (before ++ front) now

pub passed_none : (bytes : List ℕ) (r : CsvReader) → HasPassed bytes bytes r r
passed_none bytes r = record {
  front = [];
  whole = refl;
  read = λ input before h. let P : List ℕ → Type 0 = λ l. HasNoSample input l r in subst P (sym (append-nil before)) h;
}

-- the bytes in front, with more of the rest
front_more : (bytes front rest : List ℕ) (n : ℕ) → bytes ≡ front ++ rest → bytes ≡ (front ++ take n rest) ++ drop n rest
front_more bytes front rest n whole = whole ∙ (ap (λ l. front ++ l) (sym (take-append-drop n rest)) ∙ sym (append_assoc front (take n rest) (drop n rest)))

pub passed_more : (bytes rest : List ℕ) (n : ℕ) (sample : Option Edge) (old now new : CsvReader) → is_some sample ≡ false → HasPassed bytes rest old now → csv.ReadsMore (take n rest) sample now new
    → HasPassed bytes (drop n rest) old new
passed_more bytes rest n (Some e) old now new is p reads = absurd (cc)
passed_more bytes rest n None old now new is p reads = record {
  front = p.front ++ take n rest;
  whole = front_more bytes p.front rest n p.whole;
  read = λ input before h.
      let P : List ℕ → Type 0 = λ l. HasNoSample input l new in
      subst P (append_assoc before p.front (take n rest)) (reads input.signals input.rate (before ++ p.front) [] (p.read input before h));
}

pub passed_all : (bytes rest : List ℕ) (old now : CsvReader) → length rest ≡ 0 → HasPassed bytes rest old now → FindsSample bytes (Ok false) old now
passed_all bytes rest old now none p = λ input before h.
    let P : List ℕ → Type 0 = λ l. HasNoSample input (before ++ l) now in
    subst P (sym (p.whole ∙ (ap (λ l. p.front ++ l) (no_bytes rest none) ∙ append-nil p.front))) (p.read input before h)

-- a text that was taken in parts, and what follows
in_parts : (before front rest more bytes : List ℕ) (n : ℕ) → bytes ≡ front ++ rest → (before ++ bytes) ++ more ≡ ((before ++ front) ++ take n rest) ++ (drop n rest ++ more)
in_parts before front rest more bytes n whole =
    ap (λ l. (before ++ l) ++ more) (front_more bytes front rest n whole)
    ∙ (ap (λ l. l ++ more) (sym (append_assoc before (front ++ take n rest) (drop n rest)))
    ∙ (append_assoc (before ++ (front ++ take n rest)) (drop n rest) more
    ∙ ap (λ l. l ++ (drop n rest ++ more)) (sym (append_assoc before front (take n rest)))))

pub sample_found : (bytes rest : List ℕ) (n : ℕ) (sample : Option Edge) (old now new : CsvReader) → is_some sample ≡ true → HasPassed bytes rest old now → csv.ReadsMore (take n rest) sample now new
    → FindsSample bytes (Ok true) old new
unfolding samples_in
sample_found bytes rest n None old now new is p reads = absurd (cc)
sample_found bytes rest n (Some e) old now new is p reads = λ input before h more.
    let k : HasReadTable input.signals input.rate ((before ++ p.front) ++ take n rest) (e ∷ []) new = reads input.signals input.rate (before ++ p.front) [] (p.read input before h) in (
      e,
      (contents_left new (drop n rest ++ more)).samples,
      ap (λ l. (csv_contents input.signals input.rate l).samples) (in_parts before p.front rest more bytes n p.whole) ∙ ap (λ (c : CaptureContents). c.samples) (k.told (drop n rest ++ more)),
    )

fault_none : (bytes rest : List ℕ) (f : CaptureFault) (old now : CsvReader) → HasPassed bytes rest old now → csv.FaultsIn rest now f
    → (input : TraceInput) (before : List ℕ) → HasNoSample input before old → (more : List ℕ) → samples_in input ((before ++ bytes) ++ more) ≡ []
unfolding samples_in
fault_none bytes rest f old now p faults = λ input before h more.
    ap (λ l. (csv_contents input.signals input.rate (l ++ more)).samples) (ap (λ l. before ++ l) p.whole ∙ sym (append_assoc before p.front rest))
    ∙ ap (λ (c : CaptureContents). c.samples) (faults input.signals input.rate (before ++ p.front) [] (p.read input before h) more)

pub fault_found : (bytes rest : List ℕ) (f : CaptureFault) (old now new : CsvReader) → HasPassed bytes rest old now → csv.RefusesTable rest now f → FindsSample bytes (Err f) old new
fault_found bytes rest f old now new p (inl lack) = inl lack
fault_found bytes rest f old now new p (inr faults) = inr (fault_none bytes rest f old now p faults)

-- a refusal that is handed on
pub refused_on : (bytes : List ℕ) (f : CaptureFault) (v : Result Bool CaptureFault) (old new : CsvReader) → IsErrAnd v (λ x. x ≡ f) → FindsSample bytes (Err f) old new → FindsSample bytes v old new
refused_on bytes f (Ok is) old new h found = absurd h
refused_on bytes f (Err g) old new h found = rw h found

-- bytes after bytes
pub found_first : (a b : List ℕ) (old new : CsvReader) → FindsSample a (Ok true) old new → FindsSample (a ++ b) (Ok true) old new
found_first a b old new found = λ input before h more.
    let k = found input before h (b ++ more) in (
      k.0,
      k.1,
      ap (samples_in input) (ap (λ l. l ++ more) (sym (append_assoc before a b)) ∙ append_assoc (before ++ a) b more) ∙ k.2,
    )

pub refused_first : (a b : List ℕ) (f : CaptureFault) (old new : CsvReader) → FindsSample a (Err f) old new → FindsSample (a ++ b) (Err f) old new
refused_first a b f old new (inl lack) = inl lack
refused_first a b f old new (inr none) = inr (λ input before h more.
    ap (samples_in input) (ap (λ l. l ++ more) (sym (append_assoc before a b)) ∙ append_assoc (before ++ a) b more) ∙ none input before h (b ++ more))

pub found_then : (a b : List ℕ) (v : Result Bool CaptureFault) (old mid new : CsvReader) → FindsSample a (Ok false) old mid → FindsSample b v mid new → FindsSample (a ++ b) v old new
found_then a b (Ok true) old mid new first found = λ input before h more.
    let k = found input (before ++ a) (first input before h) more in
    (k.0, k.1, ap (samples_in input) (ap (λ l. l ++ more) (sym (append_assoc before a b))) ∙ k.2)
found_then a b (Ok false) old mid new first found = λ input before h.
    let P : List ℕ → Type 0 = λ l. HasNoSample input l new in
    subst P (append_assoc before a b) (found input (before ++ a) (first input before h))
found_then a b (Err f) old mid new first (inl lack) = inl lack
found_then a b (Err f) old mid new first (inr none) = inr (λ input before h more.
    ap (samples_in input) (ap (λ l. l ++ more) (sym (append_assoc before a b))) ∙ none input (before ++ a) (first input before h) more)

-- A table's samples.

-- a reader has taken the bytes of a table in front of the rest, and has given these samples
pub record HasRead (input : TraceInput) (table rest : List ℕ) (samples : List Edge) (r : CsvReader) : Type 0 where
  pub front : List ℕ
  pub whole : table ≡ front ++ rest
  pub read : HasReadTable input.signals input.rate front samples r

pub read_none : (input : TraceInput) (table : List ℕ) (r : CsvReader) → HasReadTable input.signals input.rate [] [] r → HasRead input table table [] r
read_none input table r h = record { front = []; whole = refl; read = h }

pub read_on : (input : TraceInput) (table rest : List ℕ) (n : ℕ) (old new : List Edge) (sample : Option Edge) (r s : CsvReader) → HasRead input table rest old r → csv.ReadsMore (take n rest) sample r s
    → new ≡ old ++ listed sample → HasRead input table (drop n rest) new s
read_on input table rest n old new sample r s h reads is = record {
  front = h.front ++ take n rest;
  whole = front_more table h.front rest n h.whole;
  read = rw is (reads input.signals input.rate h.front old h.read);
}

read_up_to : (input : TraceInput) (table rest : List ℕ) (samples : List Edge) (f : CaptureFault) (r : CsvReader) → HasRead input table rest samples r → csv.FaultsIn rest r f → samples ≡ samples_in input table
unfolding samples_in
read_up_to input table rest samples f r h faults =
    let here : csv_contents input.signals input.rate table ≡ with_samples samples (refused f) =
    ap (csv_contents input.signals input.rate) (h.whole ∙ sym (append-nil (h.front ++ rest))) ∙ faults input.signals input.rate h.front samples h.read [] in
    sym (ap (λ (c : CaptureContents). c.samples) here ∙ append-nil samples)

pub read_refused : (input : TraceInput) (table rest : List ℕ) (samples : List Edge) (f : CaptureFault) (r : CsvReader) → HasRead input table rest samples r → (f ≡ NoMemory → ⊥)
    → csv.RefusesTable rest r f → samples ≡ samples_in input table
read_refused input table rest samples f r h other (inl lack) = absurd (other lack)
read_refused input table rest samples f r h other (inr faults) = read_up_to input table rest samples f r h faults

pub read_ended : (input : TraceInput) (table rest : List ℕ) (old new : List Edge) (sample : Option Edge) (r : CsvReader) → HasRead input table rest old r → length rest ≡ 0 → csv.EndsText r (Ok sample)
    → new ≡ old ++ listed sample → new ≡ samples_in input table
unfolding samples_in
read_ended input table rest old new sample r h none ends is =
    let whole : table ≡ h.front = h.whole ∙ (ap (λ l. h.front ++ l) (no_bytes rest none) ∙ append-nil h.front) in
    is ∙ sym (ap (λ l. (csv_contents input.signals input.rate l).samples) whole ∙ (ap (λ (c : CaptureContents). c.samples) (ends input.signals input.rate h.front old h.read) ∙ append-nil (old ++ listed sample)))

pub read_faulty : (input : TraceInput) (table rest : List ℕ) (old : List Edge) (f : CaptureFault) (r : CsvReader) → HasRead input table rest old r → length rest ≡ 0 → csv.EndsText r (Err f) → old ≡ samples_in input table
unfolding samples_in
read_faulty input table rest old f r h none ends =
    let whole : table ≡ h.front = h.whole ∙ (ap (λ l. h.front ++ l) (no_bytes rest none) ∙ append-nil h.front) in
    sym (ap (λ l. (csv_contents input.signals input.rate l).samples) whole ∙ (ap (λ (c : CaptureContents). c.samples) (ends input.signals input.rate h.front old h.read) ∙ append-nil old))

-- A line of a table.

-- a line more is whole
pub line_whole : (front line : List ℕ) → IsWhole (with_line front line)
line_whole front line = inr (front ++ line, sym (append_assoc front line (10 ∷ [])))

-- the first row
pub zero_shown : (input : TraceInput) (front line : List ℕ) (moment : ℕ) (old new : CsvReader) → FindsSample (line ++ 10 ∷ []) (Ok true) old new
    → moment ≡ zero_by line (samples_in input (with_zeros front line)) → ShowsZero input front line (Some moment) old new
zero_shown input front line moment old new found is = λ h whole lines.
    let k = found input front h [] in
    let some : samples_in input (with_line front line) ≡ k.0 ∷ k.1 = ap (samples_in input) (sym (append-nil (with_line front line))) ∙ k.2 in
    rw some is

-- a line before it
pub zero_later : (input : TraceInput) (front line : List ℕ) (old new : CsvReader) → FindsSample (line ++ 10 ∷ []) (Ok false) old new → ShowsZero input front line None old new
unfolding samples_in
zero_later input front line old new found = λ h whole.
    let k = found input front h in
    let none : (csv_contents input.signals input.rate (with_line front line)).samples ≡ [] = given-is-all input.signals input.rate (with_line front line) [] new (line_whole front line) k in
    (k, λ lines. rw none refl)

-- a table without samples
no_zero : (input : TraceInput) (front : List ℕ) (lines : List (List ℕ)) → ((more : List ℕ) → samples_in input (front ++ more) ≡ []) → zero_after input front lines ≡ 0
no_zero input front [] none = refl
no_zero input front (line ∷ lines) none =
    rw (none (line ++ 10 ∷ [])) (no_zero input (with_line front line) lines (λ more. ap (samples_in input) (append_assoc front (line ++ 10 ∷ []) more) ∙ none ((line ++ 10 ∷ []) ++ more)))

-- or with a fault in this line
pub zero_refused : (input : TraceInput) (front line : List ℕ) (f : CaptureFault) (old new : CsvReader) → (f ≡ NoMemory → ⊥) → FindsSample (line ++ 10 ∷ []) (Err f) old new
    → ShowsZero input front line (Some 0) old new
zero_refused input front line f old new other (inl lack) = absurd (other lack)
zero_refused input front line f old new other (inr none) = λ h whole lines.
    let k = none input front h in
    rw (ap (samples_in input) (sym (append-nil (with_line front line))) ∙ k []) (sym (no_zero input (with_line front line) lines k))

-- The lines before the first row.

-- a reader has taken these lines of a table, which have no sample, so that the others decide, whatever follows
pub record IsBeforeRows (input : TraceInput) (first : List ℕ) (taken : ℕ) (r : CsvReader) : Type 0 where
  pub whole : IsWhole (take taken first)
  pub read : HasNoSample input (take taken first) r
  pub rest : (more : List ℕ) → table_zero input (first ++ more) ≡ zero_after input (take taken first) (lines_of (drop taken first ++ more))

pub before_all : (input : TraceInput) (first : List ℕ) (r : CsvReader) → HasReadTable input.signals input.rate [] [] r → IsBeforeRows input first 0 r
unfolding table_zero
before_all input first r h = record { whole = inl refl; read = h; rest = λ more. refl }

-- no line ends in some bytes
pub inner_before : (xs ys : List ℕ) → prefix_len is_inner xs ≡ length xs → prefix_len is_inner (xs ++ ys) ≡ length xs + prefix_len is_inner ys
inner_before xs ys e = grind (arith, common_steps, prefix_len-append is_inner xs ys)

-- and more bytes come
pub inner_grown : (from seen n : ℕ) (old new : List ℕ) → n ≡ length old → from ≤ seen → seen ≤ length old → prefix_len is_inner (drop from old) ≡ (seen - from) + prefix_len is_inner (drop seen old)
    → prefix_len is_inner (drop seen old) ≡ length (drop seen old) → GoesOn old new → prefix_len is_inner (drop from new) ≡ (n - from) + prefix_len is_inner (drop n new)
inner_grown from seen n old new long f s known none (tail, is) =
    let all : prefix_len is_inner (drop from old) ≡ length (drop from old) = omega (arith, known, none, f, s, length-drop from old, length-drop seen old) in
    rw (long, is, drop-append-le from old tail (omega (arith, f, s)), drop-append_seam old tail) (omega (arith, inner_before (drop from old) tail all, length-drop from old))

-- the first line of some bytes
pub first_line : (bytes more : List ℕ) → prefix_len is_inner bytes < length bytes
    → lines_of (bytes ++ more) ≡ take (prefix_len is_inner bytes) bytes ∷ lines_of (drop (prefix_len is_inner bytes + 1) bytes ++ more)
unfolding lines_of
first_line [] more some = absurd (omega (arith, some))
first_line (b ∷ bs) more some = step (b == 10) refl some (first_line bs more)
  where
    step : (is : Bool) → (b == 10) ≡ is → prefix_len is_inner (b ∷ bs) < length (b ∷ bs)
        → (prefix_len is_inner bs < length bs → lines_of (bs ++ more) ≡ take (prefix_len is_inner bs) bs ∷ lines_of (drop (prefix_len is_inner bs + 1) bs ++ more))
        → lines_of ((b ∷ bs) ++ more) ≡ take (prefix_len is_inner (b ∷ bs)) (b ∷ bs) ∷ lines_of (drop (prefix_len is_inner (b ∷ bs) + 1) (b ∷ bs) ++ more)
    step true e k next = rw e refl
    step false e k next =
        let n : prefix_len is_inner (b ∷ bs) ≡ suc (prefix_len is_inner bs) = rw e (omega arith) in
        let m : suc (prefix_len is_inner bs) + 1 ≡ suc (prefix_len is_inner bs + 1) = omega arith in
        rw (n, m) (rw e (ap (onto_first b) (next (omega (arith, k, n)))))

-- with its end
pub line_ended : (bytes : List ℕ) → prefix_len is_inner bytes < length bytes → take (prefix_len is_inner bytes + 1) bytes ≡ take (prefix_len is_inner bytes) bytes ++ 10 ∷ []
line_ended [] some = absurd (omega (arith, some))
line_ended (b ∷ bs) some = step (b == 10) refl some (line_ended bs)
  where
    step : (is : Bool) → (b == 10) ≡ is → prefix_len is_inner (b ∷ bs) < length (b ∷ bs)
        → (prefix_len is_inner bs < length bs → take (prefix_len is_inner bs + 1) bs ≡ take (prefix_len is_inner bs) bs ++ 10 ∷ [])
        → take (prefix_len is_inner (b ∷ bs) + 1) (b ∷ bs) ≡ take (prefix_len is_inner (b ∷ bs)) (b ∷ bs) ++ 10 ∷ []
    step true e k next = let is : b ≡ 10 = grind (arith, common_steps) in rw is refl
    step false e k next =
        let n : prefix_len is_inner (b ∷ bs) ≡ suc (prefix_len is_inner bs) = rw e (omega arith) in
        let m : suc (prefix_len is_inner bs) + 1 ≡ suc (prefix_len is_inner bs + 1) = omega arith in
        rw (n, m) (ap (λ l. b ∷ l) (next (omega (arith, k, n))))

-- the last line, without its end
pub last_line : (bytes : List ℕ) → 0 < length bytes → prefix_len is_inner bytes ≡ length bytes → lines_of bytes ≡ bytes ∷ []
unfolding lines_of
last_line [] some all = absurd (omega (arith, some))
last_line (b ∷ bs) some all = step (b == 10) refl bs all (last_line bs)
  where
    step : (is : Bool) → (b == 10) ≡ is → (rest : List ℕ) → prefix_len is_inner (b ∷ rest) ≡ length (b ∷ rest)
        → (0 < length rest → prefix_len is_inner rest ≡ length rest → lines_of rest ≡ rest ∷ []) → lines_of (b ∷ rest) ≡ (b ∷ rest) ∷ []
    step true e rest k next = let n : prefix_len is_inner (b ∷ rest) ≡ 0 = rw e refl in absurd (omega (arith, n, k))
    step false e [] k next = rw e refl
    step false e (x ∷ rest) k next =
        let n : prefix_len is_inner (b ∷ x ∷ rest) ≡ suc (prefix_len is_inner (x ∷ rest)) = rw e (omega arith) in
        rw e (ap (onto_first b) (next (omega arith) (omega (arith, n, k))))

-- more bytes are after the lines taken
pub before_grown : (input : TraceInput) (old new : List ℕ) (taken : ℕ) (r : CsvReader) → taken ≤ length old → GoesOn old new → IsBeforeRows input old taken r → IsBeforeRows input new taken r
before_grown input old new taken r within (tail, is) b =
    let front : take taken (old ++ tail) ≡ take taken old = take-append-le taken old tail within in
    rw is (record {
      whole = rw front b.whole;
      read = rw front b.read;
      rest = λ more.
          ap (table_zero input) (append_assoc old tail more)
          ∙ (b.rest (tail ++ more)
          ∙ rw (front, drop-append-le taken old tail within) (ap (λ l. zero_after input (take taken old) (lines_of l)) (sym (append_assoc (drop taken old) tail more))));
    })

pub goes_on : (a b c : List ℕ) → GoesOn a b → GoesOn b c → GoesOn a c
goes_on a b c (more, is) (tail, said) = (more ++ tail, said ∙ (ap (λ l. l ++ tail) is ∙ append_assoc a more tail))

pub goes_longer : (a b : List ℕ) → GoesOn a b → length a ≤ length b
goes_longer a b (tail, is) = omega (arith, ap length is, length-append a tail)

-- after some elements, and then more
abbrev nothing : List ℕ
nothing = []

drop_none : (n : ℕ) → drop n nothing ≡ nothing
drop_none ℕ.zero = refl
drop_none (suc n) = refl

drop_add : (n m : ℕ) (l : List ℕ) → drop (n + m) l ≡ drop m (drop n l)
drop_add ℕ.zero m l = let e : 0 + m ≡ m = omega arith in ap (λ i. drop i l) e
drop_add (suc n) m [] = drop_none (suc n + m) ∙ sym (drop_none m)
drop_add (suc n) m (x ∷ l) = let e : suc n + m ≡ suc (n + m) = omega arith in ap (λ i. drop i (x ∷ l)) e ∙ drop_add n m l

-- a line more was taken
pub before_next : (input : TraceInput) (first : List ℕ) (taken len : ℕ) (r s : CsvReader) → len ≡ prefix_len is_inner (drop taken first) → len < length (drop taken first) → IsBeforeRows input first taken r
    → ShowsZero input (take taken first) (take len (drop taken first)) None r s → IsBeforeRows input first (taken + (len + 1)) s
before_next input first taken len r s is some b shows =
    let line : List ℕ = take len (drop taken first) in
    let ended : take (len + 1) (drop taken first) ≡ line ++ 10 ∷ [] = rw is (line_ended (drop taken first) (omega (arith, is, some))) in
    let front : take (taken + (len + 1)) first ≡ with_line (take taken first) line = take-add taken (len + 1) first ∙ ap (λ l. take taken first ++ l) ended in
    let k = shows b.read b.whole in
    let lines : (more : List ℕ) → lines_of (drop taken first ++ more) ≡ line ∷ lines_of (drop (len + 1) (drop taken first) ++ more) = λ more. rw is (first_line (drop taken first) more (omega (arith, is, some))) in
    record {
      whole = subst IsWhole (sym front) (line_whole (take taken first) line);
      read = let P : List ℕ → Type 0 = λ l. HasNoSample input l s in subst P (sym front) k.0;
      rest = λ more.
          b.rest more
          ∙ (ap (zero_after input (take taken first)) (lines more)
          ∙ (k.1 (lines_of (drop (len + 1) (drop taken first) ++ more))
          ∙ (ap (λ l. zero_after input l (lines_of (drop (len + 1) (drop taken first) ++ more))) (sym front)
          ∙ ap (λ l. zero_after input (take (taken + (len + 1)) first) (lines_of (l ++ more))) (sym (drop_add taken (len + 1) first)))));
    }

-- a line shows moment 0
pub zero_told : (input : TraceInput) (first : List ℕ) (taken len moment : ℕ) (r s : CsvReader) → len ≡ prefix_len is_inner (drop taken first) → len < length (drop taken first) → IsBeforeRows input first taken r
    → ShowsZero input (take taken first) (take len (drop taken first)) (Some moment) r s → (more : List ℕ) → moment ≡ table_zero input (first ++ more)
zero_told input first taken len moment r s is some b shows more =
    let lines : lines_of (drop taken first ++ more) ≡ take len (drop taken first) ∷ lines_of (drop (len + 1) (drop taken first) ++ more) =
    rw is (first_line (drop taken first) more (omega (arith, is, some))) in
    shows b.read b.whole (lines_of (drop (len + 1) (drop taken first) ++ more)) ∙ (ap (zero_after input (take taken first)) (sym lines) ∙ sym (b.rest more))

-- no line is left
pub zero_none : (input : TraceInput) (first : List ℕ) (taken : ℕ) (r : CsvReader) → length (drop taken first) ≡ 0 → IsBeforeRows input first taken r → 0 ≡ table_zero input (first ++ [])
unfolding lines_of
zero_none input first taken r none b = sym (b.rest [] ∙ ap (λ l. zero_after input (take taken first) (lines_of (l ++ []))) (no_bytes (drop taken first) none))

-- or one that does not end
last_told : (input : TraceInput) (first : List ℕ) (taken : ℕ) (r : CsvReader) → 0 < length (drop taken first) → prefix_len is_inner (drop taken first) ≡ length (drop taken first) → IsBeforeRows input first taken r
    → table_zero input (first ++ []) ≡ zero_after input (take taken first) (drop taken first ∷ [])
last_told input first taken r some all b =
    b.rest [] ∙ ap (zero_after input (take taken first)) (ap lines_of (append-nil (drop taken first)) ∙ last_line (drop taken first) some all)

pub zero_last : (input : TraceInput) (first : List ℕ) (taken moment : ℕ) (r s : CsvReader) → 0 < length (drop taken first) → prefix_len is_inner (drop taken first) ≡ length (drop taken first)
    → IsBeforeRows input first taken r → ShowsZero input (take taken first) (drop taken first) (Some moment) r s → moment ≡ table_zero input (first ++ [])
zero_last input first taken moment r s some all b shows = shows b.read b.whole [] ∙ sym (last_told input first taken r some all b)

pub none_last : (input : TraceInput) (first : List ℕ) (taken : ℕ) (r s : CsvReader) → 0 < length (drop taken first) → prefix_len is_inner (drop taken first) ≡ length (drop taken first)
    → IsBeforeRows input first taken r → ShowsZero input (take taken first) (drop taken first) None r s → 0 ≡ table_zero input (first ++ [])
none_last input first taken r s some all b shows = sym (last_told input first taken r some all b ∙ (shows b.read b.whole).1 [])

-- What holds of the bytes read, whatever follows, holds of all.

pub zero_of_all : (input : TraceInput) (moment : ℕ) (start now : Option (List ℕ)) (old new : List ℕ) → ReadsMore old new start now → ((more : List ℕ) → now ≡ Some more → moment ≡ table_zero input (new ++ more))
    → IfSome start (λ left. moment ≡ table_zero input (old ++ left))
zero_of_all input moment None now old new reads is = tt
zero_of_all input moment (Some left) now old new reads is = step now (reads (Some (old ++ left)) refl) is
  where
    step : (now : Option (List ℕ)) → Consumes (Some (old ++ left)) now new → ((more : List ℕ) → now ≡ Some more → moment ≡ table_zero input (new ++ more)) → moment ≡ table_zero input (old ++ left)
    step None h is = absurd h
    step (Some more) h is = is more refl ∙ ap (table_zero input) (sym h)

-- and at the input's end
pub zero_at_end : (input : TraceInput) (moment : ℕ) (start now : Option (List ℕ)) (old new : List ℕ) → ReadsMore old new start now → IsAtEnd now → moment ≡ table_zero input (new ++ [])
    → IfSome start (λ left. moment ≡ table_zero input (old ++ left))
zero_at_end input moment start now old new reads ends is = zero_of_all input moment start now old new reads (λ more k. by now more k ends)
  where
    by : (now : Option (List ℕ)) (more : List ℕ) → now ≡ Some more → IsAtEnd now → moment ≡ table_zero input (new ++ more)
    by None more k ends = absurd (cc)
    by (Some ys) more k ends = let same : ys ≡ more = cc in is ∙ ap (λ l. table_zero input (new ++ l)) (sym ends ∙ same)

-- After whole lines a reader has given all samples of a table. A law of tables: one more line has one more sample or the fault.
use Rattle.std.proofs.Common.{◌≡◌, ◌+◌, ◌≤◌, ◌<◌, ◌==◌, ℕ, Bool, true, false, List, [], ◌∷◌, ◌++◌, length, refl, ap, sym, ◌∙◌, arith, append-nil, length-append, Option, Some, None, inl, inr}
use Rattle.std.specs.Prelude.{Result, Ok, Err}
use Rattle.std.specs.List.{list_all}
use Rattle.std.proofs.lemmas.Grind.{common_steps}
use Rattle.pr_wire.specs.declared.Edge.{Edge}
use Rattle.pr_base.specs.Lines.{lines_of, onto_first}
use Rattle.pr_capture.specs.declared.csv.CsvReader.{CsvReader}
use Rattle.pr_capture.specs.declared.csv.Layout.{Layout}
use Rattle.pr_capture.specs.declared.csv.Moment.{Moment}
use Rattle.pr_capture.specs.declared.csv.Row.{Row}
use Rattle.pr_capture.specs.declared.csv.RowPlace.{RowPlace}
use Rattle.pr_capture.specs.declared.csv.RowPlace.TheVariants.{First, Names, Rows}
use Rattle.pr_capture.specs.declared.fault.CaptureFault.{CaptureFault}
use Rattle.pr_capture.specs.declared.remarks.Remarks.{Remarks}
use Rattle.pr_capture.specs.declared.signals.Probes.{Probes}
use Rattle.pr_capture.specs.declared.signals.Signals.{Signals}
use Rattle.pr_capture.specs.Csv.{contents_after_row, csv_contents, fields_of, first_contents, first_moment, is_in_front, is_inner, is_silent, layout_of, line_contents, noted, opened, row_contents, row_of}
use Rattle.pr_capture.specs.CsvSteps.{contents_from, contents_left, HasReadTable}
use Rattle.pr_capture.specs.Recording.{ended, with_samples, CaptureContents}
use Rattle.pr_capture.specs.TableTimes.{no_remarks}
use Rattle.pr_cli.specs.StartSteps.{IsWhole}

-- The lines of a text.

-- a line goes before others
onto-before : (b : ℕ) (xs ys : List (List ℕ)) → 0 < length xs → onto_first b (xs ++ ys) ≡ onto_first b xs ++ ys
onto-before b [] ys some = absurd (omega (arith, some))
onto-before b (x ∷ xs) ys some = refl

-- a text that ends has a line
some-line : (t : List ℕ) → 0 < length (lines_of (t ++ 10 ∷ []))
unfolding lines_of
some-line [] = omega arith
some-line (b ∷ t) = step (b == 10) refl (some-line t)
  where
    onto-some : (b : ℕ) (xs : List (List ℕ)) → 0 < length xs → 0 < length (onto_first b xs)
    onto-some b [] some = omega arith
    onto-some b (x ∷ xs) some = omega arith

    step : (is : Bool) → (b == 10) ≡ is → 0 < length (lines_of (t ++ 10 ∷ [])) → 0 < length (lines_of ((b ∷ t) ++ 10 ∷ []))
    step true e some = rw e (omega arith)
    step false e some = rw e (onto-some b (lines_of (t ++ 10 ∷ [])) some)

-- lines that end come before those of what follows
ended-lines : (t more : List ℕ) → lines_of ((t ++ 10 ∷ []) ++ more) ≡ lines_of (t ++ 10 ∷ []) ++ lines_of more
unfolding lines_of
ended-lines [] more = refl
ended-lines (b ∷ t) more = step (b == 10) refl (ended-lines t more)
  where
    step : (is : Bool) → (b == 10) ≡ is → lines_of ((t ++ 10 ∷ []) ++ more) ≡ lines_of (t ++ 10 ∷ []) ++ lines_of more
        → lines_of (((b ∷ t) ++ 10 ∷ []) ++ more) ≡ lines_of ((b ∷ t) ++ 10 ∷ []) ++ lines_of more
    step true e next = rw e (ap (λ ls. [] ∷ ls) next)
    step false e next = rw e (ap (onto_first b) next ∙ onto-before b (lines_of (t ++ 10 ∷ [])) (lines_of more) (some-line t))

pub whole-lines : (text more : List ℕ) → IsWhole text → lines_of (text ++ more) ≡ lines_of text ++ lines_of more
unfolding lines_of
whole-lines text more (inl none) = rw none refl
whole-lines text more (inr (lines, is)) = rw is (ended-lines lines more)

-- bytes of one line are a line at most
one-line : (l : List ℕ) → list_all is_inner l ≡ true → length (lines_of l) ≤ 1
unfolding lines_of
one-line [] inner = omega arith
one-line (b ∷ bs) inner = step (b == 10) refl (list_all is_inner bs) refl inner (one-line bs)
  where
    onto-one : (ls : List (List ℕ)) → length ls ≤ 1 → length (onto_first b ls) ≤ 1
    onto-one [] few = omega arith
    onto-one (x ∷ xs) few = omega (arith, few)

    step : (is : Bool) → (b == 10) ≡ is → (rest : Bool) → list_all is_inner bs ≡ rest → list_all is_inner (b ∷ bs) ≡ true
        → (list_all is_inner bs ≡ true → length (lines_of bs) ≤ 1) → length (lines_of (b ∷ bs)) ≤ 1
    step true e rest r inner next = absurd (grind (arith, common_steps))
    step false e true r inner next = rw e (onto-one (lines_of bs) (next r))
    step false e false r inner next = absurd (grind (arith, common_steps))

inner-more : (l : List ℕ) → list_all is_inner l ≡ true → list_all is_inner (l ++ 48 ∷ []) ≡ true
inner-more [] inner = refl
inner-more (b ∷ bs) inner = grind (arith, common_steps, inner-more bs)

-- Samples and a fault.

-- how many samples there are, with the fault as one
abbrev fault-weight : Option CaptureFault → ℕ
fault-weight None = 0
fault-weight (Some f) = 1

abbrev weight : CaptureContents → ℕ
weight c = length c.samples + fault-weight c.fault

-- contents with one line more: where there was no fault, there is a sample more, or the fault
abbrev HasMore : (old new : CaptureContents) → Type 0
HasMore old new = old.fault ≡ None → weight new ≡ length old.samples + 1

weight-behind : (before : List Edge) (c : CaptureContents) → weight (with_samples before c) ≡ length before + weight c
weight-behind before c = omega (arith, length-append before c.samples)

more-behind : (before : List Edge) (c d : CaptureContents) → HasMore c d → HasMore (with_samples before c) (with_samples before d)
more-behind before c d h = λ none. omega (arith, h none, length-append before c.samples, weight-behind before d)

abbrev last : List (List ℕ)
last = (48 ∷ []) ∷ []

-- a row that has no fault
row-weight : (v : Result Row CaptureFault) (rest : Moment → CaptureContents) → ((m : Moment) → weight (rest m) ≡ 0) → weight (contents_after_row v rest) ≡ 1
row-weight (Err f) rest none = refl
row-weight (Ok r) rest none = omega (arith, weight-behind (r.sample ∷ []) (rest r.moment), none r.moment)

rows-more : (y : Layout) (probes : Probes) (number : ℕ) (m : Moment) (ls : List (List ℕ))
    → HasMore (row_contents y probes number m ls) (row_contents y probes number m (ls ++ last))
rows-more y probes number m [] = λ none. row-weight (row_of y probes number m (fields_of y.separator false (48 ∷ []))) (λ next. ended) (λ next. refl)
rows-more y probes number m (l ∷ ls) = step (is_silent l) refl (row_of y probes number m (fields_of y.separator false l)) refl (λ m. rows-more y probes (number + 1) m ls)
  where
    step : (silent : Bool) → is_silent l ≡ silent → (v : Result Row CaptureFault) → row_of y probes number m (fields_of y.separator false l) ≡ v
        → ((m : Moment) → HasMore (row_contents y probes (number + 1) m ls) (row_contents y probes (number + 1) m (ls ++ last)))
        → HasMore (row_contents y probes number m (l ∷ ls)) (row_contents y probes number m ((l ∷ ls) ++ last))
    step true e v is next = rw e (next m)
    step false e (Err f) is next = rw (e, is) (λ none. absurd (cc))
    step false e (Ok r) is next = rw (e, is) (more-behind (r.sample ∷ []) _ _ (next r.moment))

lines-more : (s : Signals) (r : Remarks) (number : ℕ) (ls : List (List ℕ)) → HasMore (line_contents s r number ls) (line_contents s r number (ls ++ last))
lines-more s r number [] = λ none. absurd (cc)
lines-more s r number (l ∷ ls) = step (is_in_front l) refl (layout_of s r number l) refl (lines-more s (noted s r l) (number + 1) ls)
  where
    step : (front : Bool) → is_in_front l ≡ front → (v : Result Layout CaptureFault) → layout_of s r number l ≡ v
        → HasMore (line_contents s (noted s r l) (number + 1) ls) (line_contents s (noted s r l) (number + 1) (ls ++ last))
        → HasMore (line_contents s r number (l ∷ ls)) (line_contents s r number ((l ∷ ls) ++ last))
    step true e v is next = rw e next
    step false e (Err f) is next = rw (e, is) (λ none. absurd (cc))
    step false e (Ok y) is next = rw (e, is) (rows-more y s.probes (number + 1) first_moment ls)

first-more : (s : Signals) (given : Option ℕ) (number : ℕ) (ls : List (List ℕ)) → HasMore (first_contents s given number ls) (first_contents s given number (ls ++ last))
first-more s given number [] = λ none. absurd (cc)
first-more s given number (l ∷ ls) = step (opened l) refl
  where
    step : (v : Result (List ℕ) CaptureFault) → opened l ≡ v → HasMore (first_contents s given number (l ∷ ls)) (first_contents s given number ((l ∷ ls) ++ last))
    step (Err f) is = rw is (λ none. absurd (cc))
    step (Ok line) is = rw is (lines-more s (no_remarks given) number (line ∷ ls))

-- a text of whole lines, with one line more
text-more : (s : Signals) (rate : Option ℕ) (text : List ℕ) → IsWhole text → HasMore (csv_contents s rate text) (csv_contents s rate (text ++ 48 ∷ []))
unfolding csv_contents lines_of
text-more s rate text whole = rw (whole-lines text (48 ∷ []) whole) (first-more s rate 1 (lines_of text))

-- One line at most.

names-few : (s : Signals) (r : Remarks) (number : ℕ) (ls : List (List ℕ)) → length ls ≤ 1 → weight (line_contents s r number ls) ≤ 1
names-few s r number [] few = omega arith
names-few s r number (l ∷ []) few = step (is_in_front l) refl (layout_of s r number l) refl
  where
    step : (front : Bool) → is_in_front l ≡ front → (v : Result Layout CaptureFault) → layout_of s r number l ≡ v → weight (line_contents s r number (l ∷ [])) ≤ 1
    step true e v is = rw e (omega arith)
    step false e (Err f) is = rw (e, is) (omega arith)
    step false e (Ok y) is = rw (e, is) (omega arith)
names-few s r number (l ∷ k ∷ ls) few = absurd (omega (arith, few))

rows-few : (y : Layout) (probes : Probes) (number : ℕ) (m : Moment) (ls : List (List ℕ)) → length ls ≤ 1 → weight (row_contents y probes number m ls) ≤ 1
rows-few y probes number m [] few = omega arith
rows-few y probes number m (l ∷ []) few = step (is_silent l) refl
  where
    step : (silent : Bool) → is_silent l ≡ silent → weight (row_contents y probes number m (l ∷ [])) ≤ 1
    step true e = rw e (omega arith)
    step false e = rw e (omega (arith, row-weight (row_of y probes number m (fields_of y.separator false l)) (λ next. ended) (λ next. refl)))
rows-few y probes number m (l ∷ k ∷ ls) few = absurd (omega (arith, few))

first-few : (s : Signals) (given : Option ℕ) (number : ℕ) (ls : List (List ℕ)) → length ls ≤ 1 → weight (first_contents s given number ls) ≤ 1
first-few s given number [] few = omega arith
first-few s given number (l ∷ ls) few = step (opened l) refl
  where
    step : (v : Result (List ℕ) CaptureFault) → opened l ≡ v → weight (first_contents s given number (l ∷ ls)) ≤ 1
    step (Err f) is = rw is (omega arith)
    step (Ok line) is = rw is (names-few s (no_remarks given) number (line ∷ ls) few)

place-few : (s : Signals) (p : RowPlace) (number : ℕ) (ls : List (List ℕ)) → length ls ≤ 1 → weight (contents_from s p number ls) ≤ 1
place-few s (First given) number ls few = first-few s given number ls few
place-few s (Names r) number ls few = names-few s r number ls few
place-few s (Rows y m) number ls few = rows-few y s.probes number m ls few

-- What is left.

-- few contents with a fault have no sample, and those with none have no room for one
none-left : (given : List Edge) (a b c d : CaptureContents) → c ≡ with_samples given a → d ≡ with_samples given b → weight a ≤ 1 → weight b ≤ 1 → HasMore c d → length a.samples ≡ 0
none-left given a b c d is said few short more = step a.fault refl
  where
    step : (fault : Option CaptureFault) → a.fault ≡ fault → length a.samples ≡ 0
    step (Some f) e = let one : weight a ≡ length a.samples + 1 = ap (λ v. length a.samples + fault-weight v) e in omega (arith, few, one)
    step None e =
        let none : c.fault ≡ None = ap (λ (v : CaptureContents). v.fault) is ∙ e in
        let grown : weight d ≡ length c.samples + 1 = more none in
        let before : length c.samples ≡ length given + length a.samples = ap (λ (v : CaptureContents). length v.samples) is ∙ length-append given a.samples in
        let after : weight d ≡ length given + weight b = ap weight said ∙ weight-behind given b in
        omega (arith, grown, before, after, short)

no-items : (l : List Edge) → length l ≡ 0 → l ≡ []
no-items [] e = refl
no-items (x ∷ l) e = absurd (omega (arith, e))

-- after whole lines the samples given are all
pub given-is-all : (s : Signals) (rate : Option ℕ) (text : List ℕ) (given : List Edge) (r : CsvReader) → IsWhole text → HasReadTable s rate text given r
    → (csv_contents s rate text).samples ≡ given
given-is-all s rate text given r whole h =
    let now : csv_contents s rate text ≡ with_samples given (contents_left r []) = ap (csv_contents s rate) (sym (append-nil text)) ∙ h.told [] in
    let few : weight (contents_left r []) ≤ 1 = place-few r.signals r.place r.number (lines_of (r.line.items ++ [])) (rw (append-nil r.line.items) (one-line r.line.items h.inner)) in
    let short : weight (contents_left r (48 ∷ [])) ≤ 1 = place-few r.signals r.place r.number (lines_of (r.line.items ++ 48 ∷ [])) (one-line (r.line.items ++ 48 ∷ []) (inner-more r.line.items h.inner)) in
    let none : (contents_left r []).samples ≡ [] = no-items (contents_left r []).samples (none-left given _ _ _ _ now (h.told (48 ∷ [])) few short (text-more s rate text whole)) in
    ap (λ (v : CaptureContents). v.samples) now ∙ (ap (λ l. given ++ l) none ∙ append-nil given)

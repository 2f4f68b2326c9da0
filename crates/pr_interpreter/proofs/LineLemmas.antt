use Rattle.std.proofs.Common.{◌≡◌, ℕ, zero, suc, ◌+◌, ◌-◌, ◌*◌, ◌<◌, ◌≤◌, ◌==◌, Bool, true, false, List, [], ◌∷◌}
use Rattle.std.proofs.Common.{length, drop, get_or, if◌then◌else◌, arith, sym, refl, ap, ◌∙◌, drop-cons, add-one}
use Rattle.std.proofs.Common.{Result, Ok, Err, ◌⊎◌, inl, inr}
use Rattle.pr_interpreter.specs.Lines.{after_rest, after_row, ends_row, go_on, line_number, next_number, program_lines}
use Rattle.pr_interpreter.specs.declared.lines.Line.{Line}
use Rattle.pr_interpreter.specs.declared.fault.ProgramFault.{ProgramFault}
use Rattle.pr_interpreter.specs.declared.fault.ProgramFault.TheVariants.{OutOfMemory}

pub number_step : (skip : Bool) (n d : ℕ) → n ≤ (if skip then n else n * 10 + d)
number_step true n d = omega arith
number_step false n d = omega arith

-- more digits make no smaller number
pub number_grows : (n : ℕ) (bs : List ℕ) → n ≤ line_number n bs
number_grows n [] = omega arith
number_grows n (b ∷ bs) =
    let step = number_step (b == 32) n (b - 48) in
    let more = number_grows (next_number n b) bs in
    omega arith

-- a number that is too large stays so
pub too_large : (xs : List ℕ) (i n next whole : ℕ) → i < length xs → line_number n (drop i xs) ≡ whole
    → next ≡ next_number n (get_or xs i 0) → 63999 < next → 63999 < whole
too_large xs i n next whole h e step large =
    let cons = drop-cons xs i 0 h in
    let grown = number_grows next (drop (suc i) xs) in
    let same : line_number next (drop (suc i) xs) ≡ whole = rw step
    (sym (ap (λ (t : List ℕ). line_number n t) cons) ∙ e) in
    omega arith

-- ---- a byte of a text

pub row_ends : (text : List ℕ) (start place : ℕ) (lines : List Line) → place < length text
    → ends_row (get_or text place 0) ≡ true
    → after_rest text start place lines
    ≡ go_on (after_row text start place lines) (λ more. after_rest text (place + 1) (place + 1) more)
unfolding after_rest
row_ends text start place lines h e = rw (drop-cons text place 0 h, e, add-one place) refl

pub row_goes_on : (text : List ℕ) (start place : ℕ) (lines : List Line) → place < length text
    → ends_row (get_or text place 0) ≡ false
    → after_rest text start place lines ≡ after_rest text start (place + 1) lines
unfolding after_rest
row_goes_on text start place lines h e = rw (drop-cons text place 0 h, e, add-one place) refl

abbrev pub ok_of : List Line → Result (List Line) ProgramFault
ok_of lines = Ok lines

abbrev pub err_of : ProgramFault → Result (List Line) ProgramFault
err_of fault = Err fault

pub row_taken : (text : List ℕ) (start place : ℕ) (lines more : List Line) → place < length text
    → ends_row (get_or text place 0) ≡ true
    → after_row text start place lines ≡ ok_of more
    → after_rest text start place lines ≡ after_rest text (place + 1) (place + 1) more
row_taken text start place lines more h e done = row_ends text start place lines h e ∙ rw done refl

pub row_refused : (text : List ℕ) (start place : ℕ) (lines : List Line) (fault : ProgramFault)
    → place < length text → ends_row (get_or text place 0) ≡ true
    → after_row text start place lines ≡ err_of fault → after_rest text start place lines ≡ err_of fault
row_refused text start place lines fault h e done = row_ends text start place lines h e ∙ rw done refl

pub dropped_all : (text : List ℕ) (n : ℕ) → length text ≤ n → drop n text ≡ []
dropped_all [] zero h = refl
dropped_all [] (suc n) h = refl
dropped_all (x ∷ xs) zero h = absurd (omega arith)
dropped_all (x ∷ xs) (suc n) h = let less : length xs ≤ n = omega arith in dropped_all xs n less

-- the last row
pub last_row : (text : List ℕ) (start place : ℕ) (lines : List Line) → length text ≤ place
    → after_rest text start place lines ≡ go_on (after_row text start place lines) ok_of
unfolding after_rest
last_row text start place lines h = rw (dropped_all text place h) refl

pub last_taken : (text : List ℕ) (start place : ℕ) (lines more : List Line) → length text ≤ place
    → after_row text start place lines ≡ ok_of more → after_rest text start place lines ≡ ok_of more
last_taken text start place lines more h done = last_row text start place lines h ∙ rw done refl

pub last_refused : (text : List ℕ) (start place : ℕ) (lines : List Line) (fault : ProgramFault) → length text ≤ place
    → after_row text start place lines ≡ err_of fault → after_rest text start place lines ≡ err_of fault
last_refused text start place lines fault h done = last_row text start place lines h ∙ rw done refl

pub last_fault : (text : List ℕ) (start place : ℕ) (lines : List Line) (fault : ProgramFault)
    (whole : Result (List Line) ProgramFault)
    → place ≡ length text → (fault ≡ OutOfMemory) ⊎ (after_row text start (length text) lines ≡ err_of fault)
    → after_rest text start place lines ≡ whole → (fault ≡ OutOfMemory) ⊎ (whole ≡ err_of fault)
last_fault text start place lines fault whole e (inl none) all = inl none
last_fault text start place lines fault whole e (inr refused) all =
    let most : length text ≤ place = omega arith in
    let same = ap (λ (n : ℕ). after_row text start n lines) e in
    inr (sym all ∙ last_refused text start place lines fault most (same ∙ refused))

pub from_start : (text : List ℕ) → after_rest text 0 0 [] ≡ program_lines text
unfolding program_lines
from_start text = refl

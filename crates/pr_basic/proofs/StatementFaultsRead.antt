-- The faults of the table are those that are read.
use Rattle.std.proofs.Common.{◌≡◌, ℕ, List, [], ◌∷◌, refl, ◌∙◌, true, false, Option, Some, None, Result, Ok, Err, inl, inr}
use Rattle.pr_basic.specs.Lexemes.{Lexeme, Word, Remark, Comma}
use Rattle.pr_base.specs.Digits.{number_of}
use Rattle.pr_basic.specs.FaultRules.{AfterDevice, AfterFile, GoesTooFar, IsFaultOutsideLists, IsStatementFault, Lacks, NoNumber, Placed, begins_statement, start_of, takes_file, takes_list}
use Rattle.pr_basic.specs.Reading.{close_in, cmd_in, comma_in, ended, line_in, number_in, open_in, optional_line_in, print_in, print_to_in, second_in, statement_in, ◌>>=◌}
use Rattle.pr_basic.specs.declared.lexemes.Keyword.{Keyword}
use Rattle.pr_basic.specs.declared.lexemes.Keyword.TheVariants as word
use Rattle.pr_basic.specs.declared.fault.LineFault.TheVariants.{UnknownWord, BadNumber, BadDevice, BadSecond}
use Rattle.pr_basic.specs.declared.statement.Statement.{Statement}
use Rattle.pr_basic.specs.declared.statement.Statement.TheVariants.{OpenFile}
use Rattle.pr_basic.proofs.ListFaults.{list_fault_read}
use Rattle.pr_basic.proofs.StatementFaults.{no_number_read, number_read}

-- what begins no statement is an unknown word
no_keyword_read : (l : Lexeme) (ls : List Lexeme) → begins_statement l ≡ false → statement_in (l ∷ ls) ≡ Err (UnknownWord, start_of (l ∷ ls))
unfolding statement_in
no_keyword_read (Word word.Open) ls h = absurd (cc)
no_keyword_read (Word word.Close) ls h = absurd (cc)
no_keyword_read (Word word.Cmd) ls h = absurd (cc)
no_keyword_read (Word word.PrintTo) ls h = absurd (cc)
no_keyword_read (Word word.Print) ls h = absurd (cc)
no_keyword_read Remark ls h = absurd (cc)
no_keyword_read l ls h = refl

-- what follows an OPEN's file
abbrev open_end : ℕ → List Lexeme → Result Statement Placed
open_end file ls = comma_in BadDevice ls >>= λ rest. number_in 4 30 BadDevice BadDevice rest >>= λ device. second_in device.1 >>= λ second. ended (OpenFile file device.0 second.0) second.1

-- an OPEN without a comma after its file
no_comma_read : (file : ℕ) (ls : List Lexeme) → Lacks Comma ls → open_end file ls ≡ Err (BadDevice, start_of ls)
unfolding comma_in
no_comma_read file [] h = refl
no_comma_read file (Comma ∷ ls) h = absurd (h ls refl)
no_comma_read file (l ∷ ls) h = refl

-- an OPEN without a device after its file
no_device_read : (file : ℕ) (ls : List Lexeme) → NoNumber 4 30 ls → open_end file (Comma ∷ ls) ≡ Err (BadDevice, start_of ls)
unfolding comma_in
no_device_read file ls h = rw (no_number_read 4 30 BadDevice ls h) refl

-- what is not a comma after a device
no_second_read : (l : Lexeme) (ls : List Lexeme) → Lacks Comma (l ∷ ls) → second_in (l ∷ ls) ≡ Ok (None, l ∷ ls)
unfolding second_in
no_second_read Comma ls h = absurd (h ls refl)
no_second_read l ls h = refl

-- what is not a comma after a file
no_list_read : (l : Lexeme) (ls : List Lexeme) → Lacks Comma (l ∷ ls) → optional_line_in (l ∷ ls) ≡ Err (UnknownWord, start_of (l ∷ ls))
unfolding optional_line_in
no_list_read Comma ls h = absurd (h ls refl)
no_list_read l ls h = refl

-- what follows a file is read
after_file_read : (k : Keyword) (part rest : List Lexeme) (h : AfterFile k part rest) → (part ≡ Word k ∷ h.0) × (number_in 0 255 BadNumber BadNumber h.0 ≡ Ok (number_of h.2.0, rest))
after_file_read k part rest h = (h.1, number_read 0 255 BadNumber BadNumber h.0 rest h.2)

-- an OPEN's front up to its device is read
device_read : (part rest : List Lexeme) → AfterDevice part rest → (file : ℕ) × (device : ℕ)
    × (statement_in part ≡ (second_in rest >>= λ second. ended (OpenFile file device second.0) second.1 >>= λ s. Ok (Some s)))
unfolding statement_in open_in comma_in
device_read part rest h =
    let f = after_file_read word.Open part (Comma ∷ h.0) h.1 in
    let d = number_read 4 30 BadDevice BadDevice h.0 rest h.2 in
    (number_of h.1.2.0, number_of h.2.0, rw (f.0, f.1, d) (bound (second_in rest) (number_of h.1.2.0) (number_of h.2.0)))
  where
    bound : (r : Result (Option ℕ × List Lexeme) Placed) (file device : ℕ)
        → (r >>= (λ second. ended (OpenFile file device second.0) second.1) >>= λ s. Ok (Some s)) ≡ (r >>= λ second. ended (OpenFile file device second.0) second.1 >>= λ s. Ok (Some s))
    bound (Ok x) file device = refl
    bound (Err e) file device = refl

-- what fails after the file of a CMD or a PRINT# fails the statement
listing_read : (k : Keyword) (part rest : List Lexeme) (f : Placed) → takes_list k ≡ true → AfterFile k part rest → optional_line_in rest ≡ Err f → statement_in part ≡ Err f
unfolding statement_in cmd_in print_to_in
listing_read word.Cmd part rest f takes h e = let a = after_file_read word.Cmd part rest h in rw (a.0, a.1, e) refl
listing_read word.PrintTo part rest f takes h e = let a = after_file_read word.PrintTo part rest h in rw (a.0, a.1, e) refl
listing_read word.Open part rest f takes h e = absurd (cc)
listing_read word.Close part rest f takes h e = absurd (cc)
listing_read word.Print part rest f takes h e = absurd (cc)
listing_read word.Chr part rest f takes h e = absurd (cc)

-- a statement that goes too far is refused
too_far_read : (part : List Lexeme) (l : Lexeme) (ls : List Lexeme) → GoesTooFar part (l ∷ ls) → statement_in part ≡ Err (UnknownWord, start_of (l ∷ ls))
unfolding statement_in second_in ended close_in
too_far_read part l ls (inl h) =
    let d = device_read part (Comma ∷ h.0) h.1 in
    let n = number_read 0 15 BadSecond BadSecond h.0 (l ∷ ls) h.2 in
    d.2 ∙ rw n refl
too_far_read part l ls (inr (inl h)) =
    let d = device_read part (l ∷ ls) h.0 in
    d.2 ∙ rw (no_second_read l ls h.1) refl
too_far_read part l ls (inr (inr (inl h))) =
    let f = after_file_read word.Close part (l ∷ ls) h in
    rw (f.0, f.1) refl
too_far_read part l ls (inr (inr (inr h))) = listing_read h.0 part (l ∷ ls) (UnknownWord, start_of (l ∷ ls)) h.1 h.2 (no_list_read l ls h.3)

-- a bad file is refused
no_file_read : (k : Keyword) (ls : List Lexeme) → takes_file k ≡ true → NoNumber 0 255 ls → statement_in (Word k ∷ ls) ≡ Err (BadNumber, start_of ls)
unfolding statement_in open_in close_in cmd_in print_to_in
no_file_read word.Open ls takes h = rw (no_number_read 0 255 BadNumber ls h) refl
no_file_read word.Close ls takes h = rw (no_number_read 0 255 BadNumber ls h) refl
no_file_read word.Cmd ls takes h = rw (no_number_read 0 255 BadNumber ls h) refl
no_file_read word.PrintTo ls takes h = rw (no_number_read 0 255 BadNumber ls h) refl
no_file_read word.Print ls takes h = absurd (cc)
no_file_read word.Chr ls takes h = absurd (cc)

-- a comma with no list after it is refused
comma_alone_read : optional_line_in (Comma ∷ []) ≡ Err (UnknownWord, start_of [])
unfolding optional_line_in
comma_alone_read = refl

-- an OPEN whose file is read
open_read : (part ls : List Lexeme) (f : Placed) → AfterFile word.Open part ls → ((file : ℕ) → open_end file ls ≡ Err f) → statement_in part ≡ Err f
unfolding statement_in open_in
open_read part ls f h k =
    let a = after_file_read word.Open part ls h in
    rw (a.0, a.1, k (number_of h.2.0)) refl

-- a fault outside lists is read
outside_read : (f : Placed) (part : List Lexeme) → IsFaultOutsideLists f part → statement_in part ≡ Err f
unfolding second_in
outside_read (UnknownWord, at) part (inl h) = rw (h.4, h.2) (no_keyword_read h.0 h.1 h.3)
outside_read (UnknownWord, at) part (inr (inl h)) = rw h.3 (too_far_read part h.0 h.1 h.2)
outside_read (UnknownWord, at) part (inr (inr h)) = rw h.3 (listing_read h.0 part (Comma ∷ []) (UnknownWord, start_of []) h.1 h.2 comma_alone_read)
outside_read (BadNumber, at) part h = rw (h.5, h.2) (no_file_read h.0 h.1 h.3 h.4)
outside_read (BadDevice, at) part (ls, inl h, e) = rw e (open_read part ls (BadDevice, start_of ls) h.0 (λ file. no_comma_read file ls h.1))
outside_read (BadDevice, at) part (ls, inr h, e) = rw e (open_read part (Comma ∷ ls) (BadDevice, start_of ls) h.0 (λ file. no_device_read file ls h.1))
outside_read (BadSecond, at) part h =
    let d = device_read part (Comma ∷ h.0) h.1 in
    rw h.3 (d.2 ∙ rw (no_number_read 0 15 BadSecond h.0 h.2) refl)
outside_read (f, at) part h = absurd h

-- a list that fails after a comma
comma_list_read : (list : List Lexeme) (f : Placed) → line_in [] true list ≡ Err f → optional_line_in (Comma ∷ list) ≡ Err f
unfolding optional_line_in line_in
comma_list_read [] f h = absurd (cc)
comma_list_read (l ∷ ls) f h = h

-- a fault of the table is read as that
pub statement_fault_read : (f : Placed) (part : List Lexeme) → IsStatementFault f part → statement_in part ≡ Err f
unfolding statement_in print_in
statement_fault_read f part (inl h) = outside_read f part h
statement_fault_read f part (inr (list, inl e, h)) = rw (e, list_fault_read f list h) refl
statement_fault_read f part (inr (list, inr k, h)) = listing_read k.0 part (Comma ∷ list) f k.1 k.2 (comma_list_read list f (list_fault_read f list h))

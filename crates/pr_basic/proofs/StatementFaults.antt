-- The faults of statements that are read are those of the table.
use Rattle.std.proofs.Common.{◌≡◌, ℕ, ◌≤◌, List, [], ◌∷◌, refl, ap, subst, ◌∙◌, arith, Bool, true, false, Option, Some, Result, Ok, Err, inl, inr, ◌&&◌}
use Rattle.std.specs.Prelude.{nat_le}
use Rattle.std.proofs.lemmas.Grind.{common_steps}
use Rattle.pr_basic.specs.Lexemes.{Lexeme, Word, Remark, Digits, Comma}
use Rattle.pr_base.specs.Digits.{number_of}
use Rattle.pr_basic.specs.FaultRules.{AfterDevice, AfterFile, GoesTooFar, IsStatementFault, Lacks, NoNumber, Number, Placed, start_of, takes_file, takes_list}
use Rattle.pr_basic.specs.Reading.{close_in, cmd_in, comma_in, ended, line_in, number_in, open_in, optional_line_in, print_in, print_to_in, second_in, statement_in, ◌>>=◌}
use Rattle.pr_basic.specs.declared.lexemes.Keyword.{Keyword}
use Rattle.pr_basic.specs.declared.lexemes.Keyword.TheVariants as word
use Rattle.pr_basic.specs.declared.fault.LineFault.{LineFault}
use Rattle.pr_basic.specs.declared.fault.LineFault.TheVariants.{UnknownWord, BadNumber, BadDevice, BadSecond}
use Rattle.pr_basic.specs.declared.statement.Statement.{Statement}
use Rattle.pr_basic.specs.declared.statement.Statement.TheVariants.{OpenFile, CloseFile, Cmd, PrintTo, Print}
use Rattle.pr_basic.proofs.ListFaults.{bind_err, err_is, list_fails}
use Rattle.pr_basic.proofs.StatementsAgree.{comma_parts, number_parts, second_parts}

-- a number that is read is there
number_stands : (low high : ℕ) (m o : LineFault) (ls : List Lexeme) (p : ℕ × List Lexeme) → number_in low high m o ls ≡ Ok p → Number low high ls p.1
number_stands low high m o ls p h =
    let k = number_parts low high m o ls p.0 p.1 h in
    (k.0, k.1, omega (arith, k.2.0, k.2.1), omega (arith, k.2.0, k.2.2))

-- a number that is there is read
pub number_read : (low high : ℕ) (m o : LineFault) (ls rest : List Lexeme) (h : Number low high ls rest) → number_in low high m o ls ≡ Ok (number_of h.0, rest)
unfolding number_in
number_read low high m o ls rest h =
    let low_is : low ≤ number_of h.0 = h.2 in
    let high_is : number_of h.0 ≤ high = h.3 in
    let both : (nat_le low (number_of h.0) && nat_le (number_of h.0) high) ≡ true = grind (arith, common_steps) in
    rw (h.1, both) refl

-- a number that fails gives its fault
number_fault : (low high : ℕ) (e : LineFault) (f : Placed) (ls : List Lexeme) → number_in low high e e ls ≡ Err f → (e, start_of ls) ≡ f
unfolding number_in
number_fault low high e f (Digits ds ∷ ls) h = cases (nat_le low (number_of ds) && nat_le (number_of ds) high) refl
  where
    cases : (t : Bool) → (nat_le low (number_of ds) && nat_le (number_of ds) high) ≡ t → (e, start_of (Digits ds ∷ ls)) ≡ f
    cases true k = let said : number_in low high e e (Digits ds ∷ ls) ≡ Ok (number_of ds, ls) = rw k refl in absurd (cc)
    cases false k = let said : number_in low high e e (Digits ds ∷ ls) ≡ Err (e, start_of (Digits ds ∷ ls)) = rw k refl in err_is _ f _ said h
number_fault low high e f [] h = err_is _ f _ refl h
number_fault low high e f (l ∷ ls) h = err_is (e, start_of (l ∷ ls)) f (number_in low high e e (l ∷ ls)) refl h

-- where no number is read, none is
number_fails : (low high : ℕ) (e : LineFault) (f : Placed) (ls : List Lexeme) → number_in low high e e ls ≡ Err f → ((e, start_of ls) ≡ f) × NoNumber low high ls
number_fails low high e f ls h =
    (number_fault low high e f ls h, λ rest k. let r : number_in low high e e ls ≡ Ok (number_of k.0, rest) = number_read low high e e ls rest k in cc)

-- where no number is, none is read
pub no_number_read : (low high : ℕ) (e : LineFault) (ls : List Lexeme) → NoNumber low high ls → number_in low high e e ls ≡ Err (e, start_of ls)
unfolding number_in
no_number_read low high e [] h = refl
no_number_read low high e (Digits ds ∷ ls) h = cases (nat_le low (number_of ds)) refl (nat_le (number_of ds) high) refl
  where
    cases : (t : Bool) → nat_le low (number_of ds) ≡ t → (u : Bool) → nat_le (number_of ds) high ≡ u → number_in low high e e (Digits ds ∷ ls) ≡ Err (e, start_of (Digits ds ∷ ls))
    cases true x true y =
        let low_is : low ≤ number_of ds = grind (arith, common_steps) in
        let high_is : number_of ds ≤ high = grind (arith, common_steps) in
        absurd (h ls (ds, refl, low_is, high_is))
    cases true x false y = rw (x, y) refl
    cases false x u y = rw x refl
no_number_read low high e (l ∷ ls) h = refl

-- what follows a file, or a device, or a secondary address
after_file : (k : Keyword) (ls : List Lexeme) (p : ℕ × List Lexeme) → number_in 0 255 BadNumber BadNumber ls ≡ Ok p → AfterFile k (Word k ∷ ls) p.1
after_file k ls p h = (ls, refl, number_stands 0 255 BadNumber BadNumber ls p h)

-- a file that fails
file_fails : (k : Keyword) (ls : List Lexeme) (f : Placed) → takes_file k ≡ true → number_in 0 255 BadNumber BadNumber ls ≡ Err f → IsStatementFault f (Word k ∷ ls)
file_fails k ls f takes h =
    let n = number_fails 0 255 BadNumber f ls h in
    let P : Placed → Type 0 = λ x. IsStatementFault x (Word k ∷ ls) in
    subst P n.0 (inl (k, ls, refl, takes, n.1, refl))

-- a whole statement that goes on
ended_fails : (s : Statement) (ls : List Lexeme) (f : Placed) → ended s ls ≡ Err f → (l : Lexeme) × (more : List Lexeme) × (ls ≡ l ∷ more) × ((UnknownWord, start_of (l ∷ more)) ≡ f)
unfolding ended
ended_fails s [] f h = absurd (cc)
ended_fails s (l ∷ ls) f h = (l, ls, refl, err_is (UnknownWord, start_of (l ∷ ls)) f (ended s (l ∷ ls)) refl h)

-- a statement that goes too far
too_far : (part : List Lexeme) (f : Placed) (l : Lexeme) (ls : List Lexeme) → (UnknownWord, start_of (l ∷ ls)) ≡ f → GoesTooFar part (l ∷ ls) → IsStatementFault f part
too_far part f l ls h g = let P : Placed → Type 0 = λ x. IsStatementFault x part in subst P h (inl (inr (inl (l, ls, g, refl))))

-- a comma that is not there
comma_fails : (ls : List Lexeme) (f : Placed) → comma_in BadDevice ls ≡ Err f → ((BadDevice, start_of ls) ≡ f) × Lacks Comma ls
unfolding comma_in
comma_fails [] f h = (err_is _ f _ refl h, λ rest k. cc)
comma_fails (Comma ∷ ls) f h = absurd (cc)
comma_fails (l ∷ ls) f h = (err_is (BadDevice, start_of (l ∷ ls)) f (comma_in BadDevice (l ∷ ls)) refl h, λ rest k. cc)

-- a secondary address that fails
second_fails : (ls : List Lexeme) (f : Placed) → second_in ls ≡ Err f → (more : List Lexeme) × (ls ≡ Comma ∷ more) × ((BadSecond, start_of more) ≡ f) × NoNumber 0 15 more
unfolding second_in
second_fails (Comma ∷ ls) f h =
    let said : (second : ℕ × List Lexeme) → Result (Option ℕ × List Lexeme) Placed = λ second. Ok (Some second.0, second.1) in
    elim (bind_err (number_in 0 15 BadSecond BadSecond ls) said f h) [
      | inl k ↦ let n = number_fails 0 15 BadSecond f ls k in (ls, refl, n.0, n.1)
      | inr k ↦ absurd (let e = k.2 in cc)
    ]
second_fails [] f h = absurd (cc)
second_fails (l ∷ ls) f h = absurd (cc)

-- what follows an OPEN's device fails
open_end_fails : (ls : List Lexeme) (file device : ℕ) (more : List Lexeme) (f : Placed) → AfterDevice (Word word.Open ∷ ls) more
    → (second_in more >>= λ second. ended (OpenFile file device second.0) second.1) ≡ Err f → IsStatementFault f (Word word.Open ∷ ls)
open_end_fails ls file device more f after h = elim (bind_err (second_in more) (λ second. ended (OpenFile file device second.0) second.1) f h) [
  | inl k ↦
      let n = second_fails more f k in
      let P : Placed → Type 0 = λ x. IsStatementFault x (Word word.Open ∷ ls) in
      let Q : List Lexeme → Type 0 = λ x. AfterDevice (Word word.Open ∷ ls) x in
      subst P n.2 (inl (n.0, subst Q n.1 after, n.3, refl))
  | inr k ↦
      let e = ended_fails (OpenFile file device k.0.0) k.0.1 f k.2 in
      let Q : List Lexeme → Type 0 = λ x. AfterDevice (Word word.Open ∷ ls) x in
      elim (second_parts more k.0.0 k.0.1 k.1) [
        | inl j ↦
            let here : more ≡ e.0 ∷ e.1 = j.1 ∙ e.2 in
            too_far (Word word.Open ∷ ls) f e.0 e.1 e.3 (inr (inl (subst Q here after, λ rest c. j.2 rest (here ∙ c))))
        | inr j ↦
            let number : Number 0 15 (Digits j.0 ∷ k.0.1) (e.0 ∷ e.1) = (j.0, ap (λ v. Digits j.0 ∷ v) e.2, omega arith, omega (arith, j.3.0, j.3.2)) in
            too_far (Word word.Open ∷ ls) f e.0 e.1 e.3 (inl (Digits j.0 ∷ k.0.1, subst Q j.2 after, number))
      ]
]

-- an OPEN that fails
open_fails : (ls : List Lexeme) (f : Placed) → open_in ls ≡ Err f → IsStatementFault f (Word word.Open ∷ ls)
unfolding open_in
open_fails ls f h = elim (bind_err (number_in 0 255 BadNumber BadNumber ls) (λ file. comma_in BadDevice file.1 >>= λ rest. number_in 4 30 BadDevice BadDevice rest >>= λ device. second_in device.1 >>= λ second. ended (OpenFile file.0 device.0 second.0) second.1) f h) [
  | inl k ↦ file_fails word.Open ls f refl k
  | inr x ↦ elim (bind_err (comma_in BadDevice x.0.1) (λ rest. number_in 4 30 BadDevice BadDevice rest >>= λ device. second_in device.1 >>= λ second. ended (OpenFile x.0.0 device.0 second.0) second.1) f x.2) [
    | inl k ↦
        let c = comma_fails x.0.1 f k in
        let P : Placed → Type 0 = λ v. IsStatementFault v (Word word.Open ∷ ls) in
        subst P c.0 (inl (x.0.1, inl (after_file word.Open ls x.0 x.1, c.1), refl))
    | inr y ↦
        let comma : x.0.1 ≡ Comma ∷ y.0 = comma_parts BadDevice x.0.1 y.0 y.1 in
        let Q : List Lexeme → Type 0 = λ v. AfterFile word.Open (Word word.Open ∷ ls) v in
        let after = subst Q comma (after_file word.Open ls x.0 x.1) in
        elim (bind_err (number_in 4 30 BadDevice BadDevice y.0) (λ device. second_in device.1 >>= λ second. ended (OpenFile x.0.0 device.0 second.0) second.1) f y.2) [
          | inl k ↦
              let n = number_fails 4 30 BadDevice f y.0 k in
              let P : Placed → Type 0 = λ v. IsStatementFault v (Word word.Open ∷ ls) in
              subst P n.0 (inl (y.0, inr (after, n.1), refl))
          | inr z ↦ open_end_fails ls x.0.0 z.0.0 z.0.1 f (y.0, after, number_stands 4 30 BadDevice BadDevice y.0 z.0 z.1) z.2
        ]
  ]
]

-- a CLOSE that fails
close_fails : (ls : List Lexeme) (f : Placed) → close_in ls ≡ Err f → IsStatementFault f (Word word.Close ∷ ls)
unfolding close_in
close_fails ls f h = elim (bind_err (number_in 0 255 BadNumber BadNumber ls) (λ file. ended (CloseFile file.0) file.1) f h) [
  | inl k ↦ file_fails word.Close ls f refl k
  | inr x ↦
      let e = ended_fails (CloseFile x.0.0) x.0.1 f x.2 in
      let Q : List Lexeme → Type 0 = λ v. AfterFile word.Close (Word word.Close ∷ ls) v in
      too_far (Word word.Close ∷ ls) f e.0 e.1 e.3 (inr (inr (inl (subst Q e.2 (after_file word.Close ls x.0 x.1)))))
]

-- a list that fails after a comma
optional_fails : (k : Keyword) (ls more : List Lexeme) (f : Placed) → takes_list k ≡ true → AfterFile k (Word k ∷ ls) more → optional_line_in more ≡ Err f → IsStatementFault f (Word k ∷ ls)
unfolding optional_line_in
optional_fails k ls [] f takes after h = absurd (cc)
optional_fails k ls (Comma ∷ []) f takes after h =
    let same = err_is (UnknownWord, start_of []) f (optional_line_in (Comma ∷ [])) refl h in
    let P : Placed → Type 0 = λ x. IsStatementFault x (Word k ∷ ls) in
    subst P same (inl (inr (inr (k, takes, after, refl))))
optional_fails k ls (Comma ∷ l ∷ more) f takes after h = inr (l ∷ more, inr (k, takes, after), list_fails [] true (l ∷ more) f (omega arith) h)
optional_fails k ls (l ∷ more) f takes after h =
    let same = err_is (UnknownWord, start_of (l ∷ more)) f (optional_line_in (l ∷ more)) refl h in
    too_far (Word k ∷ ls) f l more same (inr (inr (inr (k, takes, after, λ rest e. cc))))

-- a CMD that fails
cmd_fails : (ls : List Lexeme) (f : Placed) → cmd_in ls ≡ Err f → IsStatementFault f (Word word.Cmd ∷ ls)
unfolding cmd_in
cmd_fails ls f h = elim (bind_err (number_in 0 255 BadNumber BadNumber ls) (λ file. optional_line_in file.1 >>= λ line. Ok (Cmd file.0 line)) f h) [
  | inl k ↦ file_fails word.Cmd ls f refl k
  | inr x ↦ elim (bind_err (optional_line_in x.0.1) (λ line. Ok (Cmd x.0.0 line)) f x.2) [
    | inl k ↦ optional_fails word.Cmd ls x.0.1 f refl (after_file word.Cmd ls x.0 x.1) k
    | inr y ↦ absurd (let e = y.2 in cc)
  ]
]

-- a PRINT# that fails
print_to_fails : (ls : List Lexeme) (f : Placed) → print_to_in ls ≡ Err f → IsStatementFault f (Word word.PrintTo ∷ ls)
unfolding print_to_in
print_to_fails ls f h = elim (bind_err (number_in 0 255 BadNumber BadNumber ls) (λ file. optional_line_in file.1 >>= λ line. Ok (PrintTo file.0 line)) f h) [
  | inl k ↦ file_fails word.PrintTo ls f refl k
  | inr x ↦ elim (bind_err (optional_line_in x.0.1) (λ line. Ok (PrintTo x.0.0 line)) f x.2) [
    | inl k ↦ optional_fails word.PrintTo ls x.0.1 f refl (after_file word.PrintTo ls x.0 x.1) k
    | inr y ↦ absurd (let e = y.2 in cc)
  ]
]

-- a PRINT that fails
print_fails : (ls : List Lexeme) (f : Placed) → print_in ls ≡ Err f → IsStatementFault f (Word word.Print ∷ ls)
unfolding print_in
print_fails ls f h = elim (bind_err (line_in [] true ls) (λ line. Ok (Print line)) f h) [
  | inl k ↦ inr (ls, inl refl, list_fails [] true ls f (omega arith) k)
  | inr y ↦ absurd (let e = y.2 in cc)
]

-- a statement's fault is that of what follows its keyword
fault_of : (r : Result Statement Placed) (f : Placed) → (r >>= λ s. Ok (Some s)) ≡ Err f → r ≡ Err f
fault_of (Ok s) f h = absurd (cc)
fault_of (Err e) f h = let k : e ≡ f = cc in ap Err k

-- the fault of a statement that is read is one of the table
pub statement_fails : (part : List Lexeme) (f : Placed) → statement_in part ≡ Err f → IsStatementFault f part
unfolding statement_in
statement_fails [] f h = absurd (cc)
statement_fails (Remark ∷ ls) f h = absurd (cc)
statement_fails (Word word.Open ∷ ls) f h = open_fails ls f (fault_of (open_in ls) f h)
statement_fails (Word word.Close ∷ ls) f h = close_fails ls f (fault_of (close_in ls) f h)
statement_fails (Word word.Cmd ∷ ls) f h = cmd_fails ls f (fault_of (cmd_in ls) f h)
statement_fails (Word word.PrintTo ∷ ls) f h = print_to_fails ls f (fault_of (print_to_in ls) f h)
statement_fails (Word word.Print ∷ ls) f h = print_fails ls f (fault_of (print_in ls) f h)
statement_fails (l ∷ ls) f h =
    let same = err_is (UnknownWord, start_of (l ∷ ls)) f (statement_in (l ∷ ls)) refl h in
    let P : Placed → Type 0 = λ x. IsStatementFault x (l ∷ ls) in
    subst P same (inl (inl (l, ls, refl, refl, refl)))

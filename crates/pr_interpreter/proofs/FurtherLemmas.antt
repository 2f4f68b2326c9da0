use Rattle.std.proofs.Common.{◌≡◌, inl, inr, ℕ, zero, suc, ◌+◌, ◌-◌, ◌<◌, ◌≤◌, List, [], ◌∷◌, ◌++◌, length, drop}
use Rattle.std.proofs.Common.{arith, sym, refl, ap, ◌∙◌, Result, Ok, Err}
use Rattle.std.proofs.lemmas.List.{drop-drop, drop_all}
use Rattle.pr_interpreter.specs.Faults.{FaultsAs, ReadsAs}
use Rattle.pr_interpreter.specs.Reading.{Read}
use Rattle.pr_interpreter.specs.Statements.{further, next_of_line}
use Rattle.pr_interpreter.specs.declared.fault.ProgramFault.{ProgramFault}
use Rattle.pr_interpreter.specs.declared.lexemes.Lexeme.{Lexeme}
use Rattle.pr_interpreter.specs.declared.statements.PlacedStatement.{PlacedStatement}

abbrev pub statements_read : List PlacedStatement → Result (List PlacedStatement) ProgramFault
statements_read found = Ok found

abbrev front_read : List PlacedStatement → ℕ → Read (List PlacedStatement)
front_read found n = Ok (found, n)

-- lexemes that are left of a statement are passed
further_skip : (end : ℕ) (found : List PlacedStatement) (k : ℕ) (ls : List Lexeme)
    → further end found k ls ≡ further end found 0 (drop k ls)
unfolding further
further_skip end found zero ls = refl
further_skip end found (suc k) [] = refl
further_skip end found (suc k) (l ∷ ls) = further_skip end found k ls

-- statements are taken
further_more : (end : ℕ) (found new more : List PlacedStatement) (ls : List Lexeme) (n : ℕ) → 0 < length ls
    → next_of_line end ls ≡ front_read more n → 0 < n → new ≡ found ++ more
    → further end new 0 (drop n ls) ≡ further end found 0 ls
unfolding further
further_more end found new more [] n h is some put = absurd (omega arith)
further_more end found new more (l ∷ ls) zero h is some put = absurd (omega arith)
further_more end found new more (l ∷ ls) (suc n) h is some put =
    let back : suc n - 1 ≡ n = omega arith in
    ap (λ (xs : List PlacedStatement). further end xs 0 (drop n ls)) put
    ∙ (sym (further_skip end (found ++ more) n ls)
    ∙ (ap (λ (k : ℕ). further end (found ++ more) k ls) (sym back) ∙ rw is refl))

read_more : (end : ℕ) (found new : List PlacedStatement) (ls : List Lexeme) (n : ℕ) (read : Read (List PlacedStatement))
    → 0 < length ls → next_of_line end ls ≡ read → ReadsAs found new n read → 0 < n
    → further end new 0 (drop n ls) ≡ further end found 0 ls
read_more end found new ls n (Ok (more, m)) h is reads some =
    let same : next_of_line end ls ≡ front_read more n = is ∙ ap (λ (k : ℕ). front_read more k) (sym reads.1) in
    further_more end found new more ls n h same some reads.0
read_more end found new ls n (Err fault) h is reads some = absurd reads

-- a loop over statements goes on
pub further_on : (end : ℕ) (found new : List PlacedStatement) (k n : ℕ) (ls : List Lexeme)
    (whole : Result (List PlacedStatement) ProgramFault) → 0 < length (drop k ls)
    → ReadsAs found new n (next_of_line end (drop k ls)) → 0 < n → further end found 0 (drop k ls) ≡ whole
    → further end new 0 (drop (k + n) ls) ≡ whole
further_on end found new k n ls whole h reads some all =
    ap (λ (ts : List Lexeme). further end new 0 ts) (sym (drop-drop n k ls))
    ∙ (read_more end found new (drop k ls) n _ h refl reads some ∙ all)

-- a statement is refused
further_refused : (end : ℕ) (found : List PlacedStatement) (ls : List Lexeme) (fault : ProgramFault) → 0 < length ls
    → next_of_line end ls ≡ Err fault → further end found 0 ls ≡ Err fault
unfolding further
further_refused end found [] fault h is = absurd (omega arith)
further_refused end found (l ∷ ls) fault h is = rw is refl

pub further_faults : (end : ℕ) (found : List PlacedStatement) (ls : List Lexeme) (fault : ProgramFault)
    (whole : Result (List PlacedStatement) ProgramFault) → 0 < length ls → FaultsAs fault (next_of_line end ls)
    → further end found 0 ls ≡ whole → FaultsAs fault whole
further_faults end found ls fault whole h (inl none) all = inl none
further_faults end found ls fault whole h (inr is) all = inr (sym all ∙ further_refused end found ls fault h is)

-- there are no more
none_left : (end : ℕ) (found : List PlacedStatement) → further end found 0 [] ≡ statements_read found
unfolding further
none_left end found = refl

pub further_done : (end : ℕ) (found : List PlacedStatement) (k : ℕ) (ls : List Lexeme)
    (whole : Result (List PlacedStatement) ProgramFault) → length ls ≤ k → further end found 0 (drop k ls) ≡ whole
    → whole ≡ statements_read found
further_done end found k ls whole h all =
    sym all ∙ (ap (λ (ts : List Lexeme). further end found 0 ts) (drop_all k ls h) ∙ none_left end found)

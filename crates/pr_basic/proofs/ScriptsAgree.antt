-- The scripts that are read are those of the grammar.
use Rattle.std.proofs.Common.{◌≡◌, ℕ, zero, suc, ◌+◌, ◌-◌, ◌<◌, ◌≤◌, List, [], ◌∷◌, ◌++◌, length, refl, ap, subst, sym, ◌∙◌, arith, Bool, true, false, Option, Some, None, Result, Ok, Err, length-append, inl, inr}
use Rattle.std.specs.Prelude.{nat_le}
use Rattle.std.proofs.lemmas.Grind.{common_steps}
use Rattle.pr_basic.specs.FaultRules.{Placed, start_of}
use Rattle.pr_basic.specs.Limits.{statement_limit}
use Rattle.pr_basic.specs.Lexemes.{Colon, Digits, Lexeme}
use Rattle.pr_basic.specs.Lexing.{lexemes_of}
use Rattle.pr_basic.specs.Grammar.{AreLines, AreParts, HasNumber, IsLine, IsScript, parts, without_return}
use Rattle.pr_base.specs.Digits.{number_of}
use Rattle.pr_base.specs.Lines.{lines_of}
use Rattle.pr_basic.specs.Reading.{statement_in, ◌>>=◌}
use Rattle.pr_basic.specs.ReadingScripts.{and_more, at_line, counted, is_begun, in_line, in_part, behind, line_statements, lines_statements, split_number, room_after, script_of, statements_in, statements_of, Passed}
use Rattle.pr_basic.specs.declared.fault.LineFault.{LineFault}
use Rattle.pr_basic.specs.declared.fault.LineFault.TheVariants.{BadNumber, TooMany}
use Rattle.pr_basic.specs.declared.statement.Statement.{Statement}
use Rattle.pr_basic.proofs.LexemesAgree.{lexemes_found, lexemes_spelled}
use Rattle.pr_basic.proofs.ListsAgree.{bind_ok}
use Rattle.pr_basic.proofs.ScriptLaws.{no_part_counted, no_room}
use Rattle.pr_basic.proofs.StatementsAgree.{no_statement, statement_complete, statement_sound}

-- where there is room, a part is read as it is
pub counted_more : (room : ℕ) (p : List Lexeme) → 0 < room → counted room p ≡ statement_in p
counted_more room p h = grind (arith, common_steps)

-- a statement that is counted is read, and there is room for it
pub counted_some : (room : ℕ) (p : List Lexeme) (s : Statement) → counted room p ≡ Ok (Some s) → (statement_in p ≡ Ok (Some s)) × (0 < room)
counted_some zero p s h = absurd (no_room p s h)
counted_some (suc room) p s h = (sym (counted_more (suc room) p (omega arith)) ∙ h, omega arith)

-- where no statement is counted, nothing is
pub counted_none : (room : ℕ) (p : List Lexeme) → counted room p ≡ Ok None → p ≡ []
counted_none zero p h = cases (is_begun p) refl
  where
    cases : (t : Bool) → is_begun p ≡ t → p ≡ []
    cases true e = let k : counted 0 p ≡ Err (TooMany, start_of p) = rw e refl in absurd (cc)
    cases false e = no_statement p (sym (rw e refl) ∙ h)
counted_none (suc room) p h = no_statement p (sym (counted_more (suc room) p (omega arith)) ∙ h)

-- a statement is counted where there is room
counted_given : (room : ℕ) (p : List Lexeme) (s : Statement) → 0 < room → statement_in p ≡ Ok (Some s) → counted room p ≡ Ok (Some s)
counted_given zero p s h k = absurd (omega arith)
counted_given (suc room) p s h k = counted_more (suc room) p h ∙ k

-- a part that is read is in the grammar
part_sound : (room : ℕ) (p : List Lexeme) (ps : List (List Lexeme)) (ss more : List Statement) (s : Option Statement) → counted room p ≡ Ok s → and_more s more ≡ ss → AreParts ps more × (length more ≤ room_after room s) → AreParts (p ∷ ps) ss × (length ss ≤ room)
part_sound room p ps ss more None h e k =
    let P : List Statement → Type 0 = λ v. AreParts (p ∷ ps) v × (length v ≤ room) in subst P e (inl (counted_none room p h, k.0), k.1)
part_sound room p ps ss more (Some s) h e k =
    let c = counted_some room p s h in
    let P : List Statement → Type 0 = λ v. AreParts (p ∷ ps) v × (length v ≤ room) in
    subst P e (inr (s, more, statement_sound p s c.0, refl, k.0), omega (arith, c.1, k.1))

-- statements that are read
abbrev ok_of : List Statement → Result (List Statement) (LineFault × Passed)
ok_of ss = Ok ss

-- two lists that are read are one
and_more_is : (s : Option Statement) (more ss : List Statement) → ok_of (and_more s more) ≡ ok_of ss → and_more s more ≡ ss
and_more_is s more ss h = grind arith

-- what is reported of a part was read
in_part_ok : {A : Type 0} (p : List Lexeme) (r : Result A Placed) (x : A) → in_part p r ≡ Ok x → r ≡ Ok x
in_part_ok p (Ok y) x h = let e : y ≡ x = grind arith in ap Ok e
in_part_ok p (Err e) x h = absurd (cc)

-- what is reported after lexemes was read
behind_ok : {A : Type 0} (front : List Lexeme) (r : Result A (LineFault × Passed)) (x : A) → behind front r ≡ Ok x → r ≡ Ok x
behind_ok front (Ok y) x h = let e : y ≡ x = grind arith in ap Ok e
behind_ok front (Err e) x h = absurd (cc)

-- what is reported of a line was read
in_line_of : {A : Type 0} (line : List ℕ) (r : Result A (LineFault × Passed)) (x : A) → in_line line r ≡ Ok x → r ≡ Ok x
in_line_of line (Ok y) x h = let e : y ≡ x = grind arith in ap Ok e
in_line_of line (Err e) x h = absurd (cc)

-- what is reported of a script's line was read
at_line_of : {A : Type 0} (n start : ℕ) (r : Result A (LineFault × ℕ)) (x : A) → at_line n start r ≡ Ok x → r ≡ Ok x
at_line_of n start (Ok y) x h = let e : y ≡ x = grind arith in ap Ok e
at_line_of n start (Err e) x h = absurd (cc)

-- parts that are read are in the grammar
pub parts_sound : (room : ℕ) (ps : List (List Lexeme)) (ss : List Statement) → statements_in room ps ≡ Ok ss → AreParts ps ss × (length ss ≤ room)
unfolding statements_in
parts_sound room [] ss h = let e : [] ≡ ss = grind arith in (sym e, omega (arith, ap length e))
parts_sound room (p ∷ ps) ss h =
    let x = bind_ok (in_part p (counted room p)) (λ s. behind (p ++ Colon ∷ []) (statements_in (room_after room s) ps) >>= λ ss. Ok (and_more s ss)) ss h in
    let y = bind_ok (behind (p ++ Colon ∷ []) (statements_in (room_after room x.0) ps)) (λ ss. Ok (and_more x.0 ss)) ss x.2 in
    let first : counted room p ≡ Ok x.0 = in_part_ok p (counted room p) x.0 x.1 in
    let rest : statements_in (room_after room x.0) ps ≡ Ok y.0 = behind_ok (p ++ Colon ∷ []) (statements_in (room_after room x.0) ps) y.0 y.1 in
    part_sound room p ps ss y.0 x.0 first (and_more_is x.0 y.0 ss y.2) (parts_sound (room_after room x.0) ps y.0 rest)

-- parts in the grammar are read
pub parts_complete : (room : ℕ) (ps : List (List Lexeme)) (ss : List Statement) → AreParts ps ss → length ss ≤ room → statements_in room ps ≡ Ok ss
unfolding statements_in
parts_complete room [] ss h few = rw h refl
parts_complete room (p ∷ ps) ss (inl h) few = rw (h.0, no_part_counted room, parts_complete room ps ss h.1 few) refl
parts_complete room (p ∷ ps) ss (inr h) few =
    let some : 0 < room = omega (arith, ap length h.3, few) in
    let one : counted room p ≡ Ok (Some h.0) = counted_given room p h.0 some (statement_complete h.0 p h.2) in
    let rest : statements_in (room - 1) ps ≡ Ok h.1 = parts_complete (room - 1) ps h.1 h.4 (omega (arith, ap length h.3, few)) in
    rw (one, rest, h.3) refl

-- what is reported of a line number
ok_pair : (a b : List Lexeme × List Lexeme) (r : Result (List Lexeme × List Lexeme) (LineFault × Passed)) → r ≡ Ok a → r ≡ Ok b → a ≡ b
ok_pair a b r h k = cc

-- a line number that is read is there
pub numbered_sound : (ls number rest : List Lexeme) → split_number ls ≡ Ok (number, rest) → HasNumber ls rest × (ls ≡ number ++ rest)
unfolding split_number
numbered_sound (Digits ds ∷ ls) number rest h = cases (nat_le (number_of ds) 63999) refl
  where
    cases : (t : Bool) → nat_le (number_of ds) 63999 ≡ t → HasNumber (Digits ds ∷ ls) rest × (Digits ds ∷ ls ≡ number ++ rest)
    cases true e =
        let small : number_of ds ≤ 63999 = grind (arith, common_steps) in
        let said : split_number (Digits ds ∷ ls) ≡ Ok (Digits ds ∷ [], ls) = rw e refl in
        let same : (Digits ds ∷ [], ls) ≡ (number, rest) = ok_pair (Digits ds ∷ [], ls) (number, rest) _ said h in
        let front : Digits ds ∷ [] ≡ number = ap (λ (q : List Lexeme × List Lexeme). q.0) same in
        let more : ls ≡ rest = ap (λ (q : List Lexeme × List Lexeme). q.1) same in
        (inr (ds, ap (λ v. Digits ds ∷ v) more, small), ap (λ v. Digits ds ∷ v) more ∙ ap (λ v. v ++ rest) front)
    cases false e =
        let said : split_number (Digits ds ∷ ls) ≡ Err (BadNumber, record { done = []; inside = 0 }) = rw e refl in
        absurd (cc)
numbered_sound [] number rest h =
    let same : ([], []) ≡ (number, rest) = ok_pair ([], []) (number, rest) _ refl h in
    let front : [] ≡ number = ap (λ (q : List Lexeme × List Lexeme). q.0) same in
    let more : [] ≡ rest = ap (λ (q : List Lexeme × List Lexeme). q.1) same in
    (inl (more, λ ds m k. cc), more ∙ ap (λ v. v ++ rest) front)
numbered_sound (l ∷ ls) number rest h =
    let same : ([], l ∷ ls) ≡ (number, rest) = ok_pair ([], l ∷ ls) (number, rest) _ refl h in
    let front : [] ≡ number = ap (λ (q : List Lexeme × List Lexeme). q.0) same in
    let more : l ∷ ls ≡ rest = ap (λ (q : List Lexeme × List Lexeme). q.1) same in
    (inl (more, λ ds m k. cc), more ∙ ap (λ v. v ++ rest) front)

-- where no digits are first, there is no line number
unnumbered : (ls : List Lexeme) → ((ds : List ℕ) (more : List Lexeme) → ls ≡ Digits ds ∷ more → ⊥) → split_number ls ≡ Ok ([], ls)
unfolding split_number
unnumbered (Digits ds ∷ ls) h = absurd (h ds ls refl)
unnumbered [] h = refl
unnumbered (l ∷ ls) h = refl

-- a small number is read
small_number : (ds : List ℕ) (rest : List Lexeme) → number_of ds ≤ 63999 → split_number (Digits ds ∷ rest) ≡ Ok (Digits ds ∷ [], rest)
unfolding split_number
small_number ds rest h =
    let small : nat_le (number_of ds) 63999 ≡ true = grind (arith, common_steps) in
    rw small refl

-- a line number that is there is read
pub numbered_complete : (ls rest : List Lexeme) → HasNumber ls rest → (number : List Lexeme) × (split_number ls ≡ Ok (number, rest)) × (ls ≡ number ++ rest)
numbered_complete ls rest (inl h) = ([], unnumbered ls h.1 ∙ ap (λ v. Ok ([], v)) h.0, h.0)
numbered_complete ls rest (inr k) = (Digits k.0 ∷ [], ap split_number k.1 ∙ small_number k.0 rest k.2, k.1)

-- a line that is read is in the grammar
pub line_sound : (room : ℕ) (line : List ℕ) (ss : List Statement) → line_statements room line ≡ Ok ss → IsLine (without_return line) ss × (length ss ≤ room)
line_sound room line ss h =
    let bytes = without_return line in
    let said : statements_of room (lexemes_of bytes) ≡ Ok ss = in_line_of bytes (statements_of room (lexemes_of bytes)) ss h in
    let x = bind_ok (split_number (lexemes_of bytes)) (λ p. behind p.0 (statements_in room (parts p.1))) ss said in
    let y = behind_ok x.0.0 (statements_in room (parts x.0.1)) ss x.2 in
    let k = parts_sound room (parts x.0.1) ss y in
    ((lexemes_of bytes, x.0.1, lexemes_spelled (length bytes) bytes (omega arith), (numbered_sound (lexemes_of bytes) x.0.0 x.0.1 x.1).0, k.0), k.1)

-- a line in the grammar is read
pub line_complete : (room : ℕ) (line : List ℕ) (ss : List Statement) → IsLine (without_return line) ss → length ss ≤ room → line_statements room line ≡ Ok ss
line_complete room line ss h few =
    let n = numbered_complete h.0 h.1 h.3 in
    rw (lexemes_found _ h.0 h.2, n.1, parts_complete room (parts h.1) ss h.4 few) refl

-- lines that are read are in the grammar
pub lines_sound : (n start room : ℕ) (ls : List (List ℕ)) (ss : List Statement) → lines_statements n start room ls ≡ Ok ss → AreLines ls ss × (length ss ≤ room)
unfolding lines_statements
lines_sound n start room [] ss h = let e : [] ≡ ss = cc in (sym e, omega (arith, ap length e))
lines_sound n start room (l ∷ ls) ss h =
    let x = bind_ok (at_line n start (line_statements room l)) (λ ss. lines_statements (n + 1) (start + suc (length l)) (room - length ss) ls >>= λ more. Ok (ss ++ more)) ss h in
    let y = bind_ok (lines_statements (n + 1) (start + suc (length l)) (room - length x.0) ls) (λ more. Ok (x.0 ++ more)) ss x.2 in
    let one = line_sound room l x.0 (at_line_of n start (line_statements room l) x.0 x.1) in
    let rest = lines_sound (n + 1) (start + suc (length l)) (room - length x.0) ls y.0 y.1 in
    let e : x.0 ++ y.0 ≡ ss = let j = y.2 in cc in
    ((x.0, y.0, one.0, sym e, rest.0), omega (arith, ap length e, length-append x.0 y.0, one.1, rest.1))

-- lines in the grammar are read
pub lines_complete : (n start room : ℕ) (ls : List (List ℕ)) (ss : List Statement) → AreLines ls ss → length ss ≤ room → lines_statements n start room ls ≡ Ok ss
unfolding lines_statements
lines_complete n start room [] ss h few = rw h refl
lines_complete n start room (l ∷ ls) ss h few =
    let size : length ss ≡ length h.0 + length h.1 = ap length h.3 ∙ length-append h.0 h.1 in
    let one : line_statements room l ≡ Ok h.0 = line_complete room l h.0 h.2 (omega (arith, size, few)) in
    let rest : lines_statements (n + 1) (start + suc (length l)) (room - length h.0) ls ≡ Ok h.1 = lines_complete (n + 1) (start + suc (length l)) (room - length h.0) ls h.1 h.4 (omega (arith, size, few)) in
    both (line_statements room l) one rest
  where
    both : (r : Result (List Statement) (LineFault × ℕ)) → r ≡ Ok h.0 → lines_statements (n + 1) (start + suc (length l)) (room - length h.0) ls ≡ Ok h.1
        → (at_line n start r >>= λ ss. lines_statements (n + 1) (start + suc (length l)) (room - length ss) ls >>= λ more. Ok (ss ++ more)) ≡ Ok ss
    both r e k = rw (e, k, h.3) refl

-- a script that is read is in the grammar
pub script_sound : (bytes : List ℕ) (ss : List Statement) → script_of bytes ≡ Ok ss → IsScript bytes ss
script_sound bytes ss h = lines_sound 1 0 statement_limit (lines_of bytes) ss h

-- a script in the grammar is read
pub script_complete : (bytes : List ℕ) (ss : List Statement) → IsScript bytes ss → script_of bytes ≡ Ok ss
script_complete bytes ss h = lines_complete 1 0 statement_limit (lines_of bytes) ss h.0 h.1

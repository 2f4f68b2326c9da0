-- Laws of lines read part by part, and of scripts read line by line.
use Rattle.std.proofs.Common.{◌≡◌, ℕ, suc, ◌+◌, ◌-◌, ◌<◌, ◌≤◌, List, [], ◌∷◌, ◌++◌, length, take, refl, ap, sym, ◌∙◌, arith, Bool, true, false, append_assoc, append-nil, Option, Some, None, IfSome, Result, Ok, Err, Bor, length-append, MatchOption, ◌⊎◌, inl, inr, ◌≢◌}
use Rattle.std.proofs.lemmas.Grind.{common_steps}
use Rattle.std.proofs.Math.Seq.{take-append_seam}
use Rattle.pr_basic.specs.FaultRules.{start_of, within}
use Rattle.pr_basic.specs.Grammar.{parts}
use Rattle.pr_base.specs.Lines.{lines_of, onto_first}
use Rattle.pr_basic.specs.Lexemes.{Colon, Lexeme, Remark, Word}
use Rattle.pr_basic.specs.Lexing.{IsRest, after_part, here, later, lexemes_of, part_of, past, unspaced}
use Rattle.pr_basic.specs.Limits.{statement_limit}
use Rattle.pr_basic.specs.Reading.{statement_in, ◌>>=◌}
use Rattle.pr_basic.specs.ReadingScripts.{Passed, ScriptError, and_more, at_line, behind, counted, first_digits, in_line, in_part, is_begun, line_statements, lines_statements, split_number, room_after, statements_in, statements_of}
use Rattle.pr_basic.specs.Reads.{StandsIn, UnlessMemory, still, with_front}
use Rattle.pr_basic.specs.declared.fault.LineFault.{LineFault}
use Rattle.pr_basic.specs.declared.fault.LineFault.TheVariants as line
use Rattle.pr_basic.specs.declared.statement.Statement.{Statement}
use Rattle.pr_basic.specs.declared.lexemes.Keyword.TheVariants as word
use Rattle.pr_basic.proofs.ListLaws.{unless_of, unless_then}
use Rattle.pr_basic.proofs.Places.{past_past}

-- what is read of some parts of a line
abbrev pub Said : Type 0
Said = Result (List Statement) (LineFault × Passed)

-- what is left to read
abbrev pub work : Option (Bor (List ℕ)) → ℕ
work None = 0
work (Some b) = length b.now + 1

-- the first part and the others
pub parts_first : (l : Lexeme) (ls : List Lexeme) → parts (l ∷ ls) ≡ part_of (l ∷ ls) ∷ parts (after_part (l ∷ ls))
unfolding parts part_of after_part
parts_first Colon ls = refl
parts_first l [] = refl
parts_first l (m ∷ ls) = ap (onto_first l) (parts_first m ls)

-- an empty part counts for nothing
pub no_part_counted : (room : ℕ) → counted room [] ≡ Ok None
unfolding statement_in
no_part_counted room = grind (arith, common_steps)

-- the statement of the first part, and those of the others
pub part_step : (room : ℕ) (ls : List Lexeme) → statements_in room (parts ls) ≡ (in_part (part_of ls) (counted room (part_of ls)) >>= λ s. behind (part_of ls ++ Colon ∷ []) (statements_in (room_after room s) (parts (after_part ls))) >>= λ ss. Ok (and_more s ss))
unfolding statements_in parts part_of after_part
part_step room [] = rw (no_part_counted room) refl
part_step room (l ∷ ls) = rw (parts_first l ls) refl

-- only a keyword begins a statement
begun : (part : List Lexeme) (s : Statement) → is_begun part ≡ false → statement_in part ≡ Ok (Some s) → ⊥
unfolding statement_in
begun [] s b h = absurd (cc)
begun (Word word.Chr ∷ ls) s b h = absurd (cc)
begun (Word k ∷ ls) s b h = absurd (cc)
begun (Remark ∷ ls) s b h = absurd (cc)
begun (l ∷ ls) s b h = absurd (cc)

-- there is no statement where there is no room
pub no_room : (part : List Lexeme) (s : Statement) → counted 0 part ≡ Ok (Some s) → ⊥
no_room part s h = cases (is_begun part) refl
  where
    cases : (t : Bool) → is_begun part ≡ t → ⊥
    cases true e = let k : counted 0 part ≡ Err (line.TooMany, start_of part) = rw e refl in let j : Err (line.TooMany, start_of part) ≡ Ok (Some s) = sym k ∙ h in cc
    cases false e = begun part s e (sym (rw e refl) ∙ h)

-- no more statements are kept than the limit
pub few_kept : (old new : List Statement) (part : List Lexeme) (s : Option Statement) → length old ≤ statement_limit → counted (statement_limit - length old) part ≡ Ok s → new ≡ old ++ and_more s [] → length new ≤ statement_limit
few_kept old new part None few h e = omega (arith, ap length e, length-append old [])
few_kept old new part (Some s) few h e = cases (at_limit (length old))
  where
    at_limit : (n : ℕ) → (n ≡ statement_limit) ⊎ (n ≢ statement_limit)
    at_limit n = grind arith

    cases : (length old ≡ statement_limit) ⊎ (length old ≢ statement_limit) → length new ≤ statement_limit
    cases (inl full) = let none : statement_limit - length old ≡ 0 = omega arith in absurd (no_room part s (ap (λ room. counted room part) (sym none) ∙ h))
    cases (inr more) = omega (arith, ap length e, length-append old (s ∷ []))

-- no statement in front changes nothing
pub none_more : (r : Said) → (r >>= λ ss. Ok (and_more None ss)) ≡ r
none_more (Ok ss) = refl
none_more (Err e) = refl

-- one statement more is in front
one_more : (old : List Statement) (s : Statement) (r : Said) → with_front old (r >>= λ ss. Ok (and_more (Some s) ss)) ≡ with_front (old ++ s ∷ []) r
one_more old s (Ok ss) = ap Ok (sym (append_assoc old (s ∷ []) ss))
one_more old s (Err e) = refl

-- the statements so far with the first part's, and those of the other parts
pub part_taken : (old new : List Statement) (ls : List Lexeme) (s : Option Statement) → counted (statement_limit - length old) (part_of ls) ≡ Ok s → new ≡ old ++ and_more s []
    → with_front old (statements_in (statement_limit - length old) (parts ls)) ≡ with_front new (behind (part_of ls ++ Colon ∷ []) (statements_in (statement_limit - length new) (parts (after_part ls))))
part_taken old new ls None h e =
    let same : new ≡ old = e ∙ append-nil old in
    rw (same, part_step (statement_limit - length old) ls, h, none_more (behind (part_of ls ++ Colon ∷ []) (statements_in (statement_limit - length old) (parts (after_part ls))))) refl
part_taken old new ls (Some s) h e =
    let room : statement_limit - length old - 1 ≡ statement_limit - length (old ++ s ∷ []) = omega (arith, length-append old (s ∷ [])) in
    rw (part_step (statement_limit - length old) ls, h, e) (one_more old s (behind (part_of ls ++ Colon ∷ []) (statements_in (statement_limit - length old - 1) (parts (after_part ls)))) ∙ rw room refl)

-- what follows the colon is the other parts
pub still_is : (room : ℕ) (rest : List ℕ) (next : Option (Bor (List ℕ))) → MatchOption next (later rest ≡ []) (λ r. (later rest ≡ lexemes_of r.now) × (length r.now < length rest)) → statements_in room (parts (later rest)) ≡ still room next
unfolding statements_in parts
still_is room rest None h = rw h refl
still_is room rest (Some r) h = rw h.0 refl

-- the lexemes before those that are left
pub front_taken : (ls front next : List Lexeme) → ls ≡ front ++ next → take (length ls - length next) ls ≡ front
front_taken ls front next h =
    let size : length (front ++ next) - length next ≡ length front = omega (arith, length-append front next) in
    rw (h, size) (take-append_seam front next)

-- a part that fails fails the parts
pub part_fails : (room : ℕ) (bs rest : List ℕ) (f : LineFault) (inside : ℕ) → IsRest rest bs → UnlessMemory f (counted room (here bs) ≡ Err (f, within (here rest) inside))
    → UnlessMemory f (StandsIn f rest inside bs (statements_in room (parts (lexemes_of bs))))
part_fails room bs rest f inside r h = unless_then f _ _ one h
  where
    one : counted room (here bs) ≡ Err (f, within (here rest) inside) → StandsIn f rest inside bs (statements_in room (parts (lexemes_of bs)))
    one k =
        let front : take (length (here bs) - length (here rest)) (here bs) ≡ r.gone = front_taken (here bs) r.gone (here rest) r.goes_on in
        record { done = r.gone; told = part_step room (lexemes_of bs) ∙ rw (k, front) refl; left = r.is }

-- lack of memory is reported
pub memory_fails : (f : LineFault) (P : Type 0) → f ≡ line.NoMemory → UnlessMemory f P
memory_fails f P h = rw h tt

-- what fails after statements fails
pub front_err : {E : Type 0} (old : List Statement) (r : Result (List Statement) E) (e : E) → with_front old r ≡ Err e → r ≡ Err e
front_err old (Ok ss) e h = absurd (cc)
front_err old (Err f) e h = h

-- a line has been read so far, with these statements
pub record IsReadTo (old new : List Statement) (line : List ℕ) (rest : Option (Bor (List ℕ))) : Type 0 where
  pub done : List Lexeme
  pub read : with_front old (statements_of (statement_limit - length old) (lexemes_of line)) ≡ with_front new (behind done (still (statement_limit - length new) rest))
  pub left : IfSome rest (λ r. r.now ≡ past (length done) line)

-- a line is read up to what follows its number
pub read_begins : (ss : List Statement) (line : List ℕ) (rest : Bor (List ℕ)) → split_number (lexemes_of line) ≡ Ok (first_digits (lexemes_of line), lexemes_of rest.now)
    → rest.now ≡ past (length (first_digits (lexemes_of line))) line → IsReadTo ss ss line (Some rest)
read_begins ss line rest h k = record { done = first_digits (lexemes_of line); read = rw h refl; left = k }

-- a line number that fails fails the line
pub number_fails : (room : ℕ) (f : LineFault) (rest : List ℕ) (inside : ℕ) (line : List ℕ) → split_number (lexemes_of line) ≡ Err (f, record { done = []; inside = inside })
    → rest ≡ line → UnlessMemory f (StandsIn f rest inside line (statements_of room (lexemes_of line)))
unfolding past
number_fails room f rest inside line h k = unless_of f _ (record { done = []; told = rw h refl; left = k })

-- what is after lexemes is after those before them too
behind_on : (done d : List Lexeme) (now new : List Statement) (a b : Said) → with_front now a ≡ with_front new (behind d b) → with_front now (behind done a) ≡ with_front new (behind (done ++ d) b)
behind_on done d now new (Ok x) (Ok y) h = h
behind_on done d now new (Ok x) (Err e) h = absurd (cc)
behind_on done d now new (Err e) (Ok y) h = absurd (cc)
behind_on done d now new (Err (f, at)) (Err (g, there)) h =
    let pair : (LineFault × Passed) = (f, at) in
    let same : pair ≡ (g, record { done = d ++ there.done; inside = there.inside }) = cc in
    ap (λ (p : LineFault × Passed). Err (p.0, record { done = done ++ p.1.done; inside = p.1.inside })) same
    ∙ ap (λ v. Err (g, record { done = v; inside = there.inside })) (sym (append_assoc done d there.done))

-- one part more is read
pub read_on : (old now new : List Statement) (line bytes : List ℕ) (b : Bor (List ℕ)) (rest : Option (Bor (List ℕ))) → b.now ≡ bytes → IsReadTo old now line (Some b)
    → with_front now (statements_in (statement_limit - length now) (parts (lexemes_of bytes))) ≡ with_front new (behind (here bytes ++ Colon ∷ []) (still (statement_limit - length new) rest))
    → IfSome rest (λ r. r.now ≡ past (suc (length (here bytes))) bytes) → IsReadTo old new line rest
read_on old now new line bytes b rest is h k left =
    let said : with_front now (statements_in (statement_limit - length now) (parts (lexemes_of b.now))) ≡ with_front new (behind (here b.now ++ Colon ∷ []) (still (statement_limit - length new) rest)) = rw is k in
    let behind_is : IfSome rest (λ r. r.now ≡ past (suc (length (here b.now))) b.now) = rw is left in
    record {
      done = h.done ++ (here b.now ++ Colon ∷ []);
      read = h.read ∙ behind_on h.done (here b.now ++ Colon ∷ []) now new (statements_in (statement_limit - length now) (parts (lexemes_of b.now))) (still (statement_limit - length new) rest) said;
      left = further rest behind_is;
    }
  where
    further : (r : Option (Bor (List ℕ))) → IfSome r (λ x. x.now ≡ past (suc (length (here b.now))) b.now) → IfSome r (λ x. x.now ≡ past (length (h.done ++ (here b.now ++ Colon ∷ []))) line)
    further None e = tt
    further (Some x) e =
        let size : length h.done + suc (length (here b.now)) ≡ length (h.done ++ (here b.now ++ Colon ∷ [])) = omega (arith, length-append h.done (here b.now ++ Colon ∷ []), length-append (here b.now) (Colon ∷ [])) in
        e ∙ ap (past (suc (length (here b.now)))) h.left ∙ past_past (length h.done) (suc (length (here b.now))) line ∙ ap (λ n. past n line) size

-- what fails in the rest of a line fails the line
pub line_fails : (old now : List Statement) (line : List ℕ) (b : Bor (List ℕ)) (f : LineFault) (rest : List ℕ) (inside : ℕ) → IsReadTo old now line (Some b)
    → UnlessMemory f (StandsIn f rest inside b.now (statements_in (statement_limit - length now) (parts (lexemes_of b.now))))
    → UnlessMemory f (StandsIn f rest inside line (statements_of (statement_limit - length old) (lexemes_of line)))
line_fails old now line b f rest inside h k = unless_then f _ _ one k
  where
    one : StandsIn f rest inside b.now (statements_in (statement_limit - length now) (parts (lexemes_of b.now))) → StandsIn f rest inside line (statements_of (statement_limit - length old) (lexemes_of line))
    one s =
        let at : Passed = record { done = h.done ++ s.done; inside = inside } in
        let all : with_front old (statements_of (statement_limit - length old) (lexemes_of line)) ≡ Err (f, at) = h.read ∙ rw s.told refl in
        let size : length h.done + length s.done ≡ length (h.done ++ s.done) = omega (arith, length-append h.done s.done) in
        record {
          done = h.done ++ s.done;
          told = front_err old (statements_of (statement_limit - length old) (lexemes_of line)) (f, at) all;
          left = s.left ∙ ap (past (length s.done)) h.left ∙ past_past (length h.done) (length s.done) line ∙ ap (λ n. past n line) size;
        }

-- a line that is read
pub in_line_ok : (old new : List Statement) (line : List ℕ) (r : Said) → with_front old r ≡ Ok new → with_front old (in_line line r) ≡ Ok new
in_line_ok old new line (Ok ss) h = let e : old ++ ss ≡ new = grind arith in ap Ok e
in_line_ok old new line (Err e) h = absurd (cc)

-- a line's fault, with its column
pub in_line_err : (f : LineFault) (rest : List ℕ) (inside : ℕ) (line : List ℕ) (r : Said) (column : ℕ) → column ≡ length line - (length (unspaced rest) - inside)
    → UnlessMemory f (StandsIn f rest inside line r) → UnlessMemory f (in_line line r ≡ Err (f, column))
in_line_err f rest inside line r column is h = unless_then f _ _ one h
  where
    one : StandsIn f rest inside line r → in_line line r ≡ Err (f, column)
    one s = rw s.told (ap (λ v. Err (f, length line - (length (unspaced v) - inside))) (sym s.left) ∙ ap (λ v. Err (f, v)) (sym is))

-- the first line that is left fails
pub script_fails : (whole : Result (List Statement) ScriptError) (now : List Statement) (n start room : ℕ) (l : List ℕ) (lines ls : List (List ℕ)) (f : LineFault) (column : ℕ) → whole ≡ with_front now (lines_statements n start room lines) → lines ≡ l ∷ ls
    → UnlessMemory f (line_statements room l ≡ Err (f, column)) → UnlessMemory f (whole ≡ Err (record { fault = f; number = n; place = start + column }))
unfolding lines_statements
script_fails whole now n start room l lines ls f column h k fails = unless_then f _ _ one fails
  where
    told : (r : Result (List Statement) (LineFault × ℕ)) (g : List Statement → Result (List Statement) ScriptError) → r ≡ Err (f, column) → with_front now (at_line n start r >>= g) ≡ Err (record { fault = f; number = n; place = start + column })
    told r g e = rw e refl

    one : line_statements room l ≡ Err (f, column) → whole ≡ Err (record { fault = f; number = n; place = start + column })
    one j =
        h ∙ ap (λ v. with_front now (lines_statements n start room v)) k
        ∙ told (line_statements room l) (λ ss. lines_statements (n + 1) (start + suc (length l)) (room - length ss) ls >>= λ more. Ok (ss ++ more)) j

-- lines after statements
then_front : (old ss : List Statement) (r : Result (List Statement) ScriptError) → with_front old (r >>= λ more. Ok (ss ++ more)) ≡ with_front (old ++ ss) r
then_front old ss (Ok more) = ap Ok (sym (append_assoc old ss more))
then_front old ss (Err e) = refl

-- one more line
pub line_taken : (old new : List Statement) (n start : ℕ) (l : List ℕ) (ls : List (List ℕ)) → with_front old (line_statements (statement_limit - length old) l) ≡ Ok new
    → with_front old (lines_statements n start (statement_limit - length old) (l ∷ ls)) ≡ with_front new (lines_statements (n + 1) (start + suc (length l)) (statement_limit - length new) ls)
unfolding lines_statements
line_taken old new n start l ls h = cases (line_statements (statement_limit - length old) l) refl h
  where
    cases : (r : Result (List Statement) (LineFault × ℕ)) → line_statements (statement_limit - length old) l ≡ r → with_front old r ≡ Ok new
        → with_front old (at_line n start (line_statements (statement_limit - length old) l) >>= λ ss. lines_statements (n + 1) (start + suc (length l)) (statement_limit - length old - length ss) ls >>= λ more. Ok (ss ++ more)) ≡ with_front new (lines_statements (n + 1) (start + suc (length l)) (statement_limit - length new) ls)
    cases (Ok ss) e k =
        let is : old ++ ss ≡ new = grind arith in
        let room : statement_limit - length old - length ss ≡ statement_limit - length new = omega (arith, ap length is, length-append old ss) in
        rw (e, room) (then_front old ss (lines_statements (n + 1) (start + suc (length l)) (statement_limit - length new) ls) ∙ rw is refl)
    cases (Err f) e k = absurd (cc)

-- where the lines that are left begin
pub start_moved : (n start room whole : ℕ) (line rest more : List ℕ) → length rest ≤ whole → start ≡ whole - length rest → (length more ≡ 0) ⊎ (length rest ≡ suc (length line) + length more)
    → lines_statements n (start + suc (length line)) room (lines_of more) ≡ lines_statements n (whole - length more) room (lines_of more)
unfolding lines_statements lines_of
start_moved n start room whole line rest [] few is size = refl
start_moved n start room whole line rest (b ∷ more) few is (inl e) = absurd (omega arith)
start_moved n start room whole line rest (b ∷ more) few is (inr e) =
    let same : start + suc (length line) ≡ whole - length (b ∷ more) = omega (arith, e, is, few) in
    ap (λ s. lines_statements n s room (lines_of (b ∷ more))) same

-- no line is left
pub script_ends : (now : List Statement) (n start room : ℕ) (bs : List ℕ) → length bs ≡ 0 → with_front now (lines_statements n start room (lines_of bs)) ≡ Ok now
unfolding lines_statements lines_of
script_ends now n start room [] h = ap Ok (append-nil now)
script_ends now n start room (b ∷ bs) h = absurd (omega arith)

-- what is left after the colon, by the part it ends
pub left_on : (next : Option (Bor (List ℕ))) (rest bs : List ℕ) → IsRest rest bs → IfSome next (λ r. r.now ≡ past (suc (length (here rest))) rest) → IfSome next (λ r. r.now ≡ past (suc (length (here bs))) bs)
left_on None rest bs h k = tt
left_on (Some r) rest bs h k =
    let size : length h.gone + suc (length (here rest)) ≡ suc (length (here bs)) = omega (arith, ap length h.goes_on, length-append h.gone (here rest)) in
    k ∙ ap (past (suc (length (here rest)))) h.is ∙ past_past (length h.gone) (suc (length (here rest))) bs ∙ ap (λ n. past n bs) size

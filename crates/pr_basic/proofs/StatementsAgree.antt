-- The statements that are read are those of the grammar.
use Rattle.std.proofs.Common.{◌≡◌, ℕ, ◌<◌, ◌≤◌, List, [], ◌∷◌, length, refl, ap, subst, sym, ◌∙◌, arith, Bool, true, Option, Some, None, Result, Ok, Err, ◌⊎◌, inl, inr}
use Rattle.std.proofs.lemmas.Grind.{common_steps}
use Rattle.pr_basic.specs.Text.{Text}
use Rattle.pr_basic.specs.Lexemes.{Lexeme, Word, Remark, Digits, Comma}
use Rattle.pr_basic.specs.Grammar.{IsList, IsNumber, IsPrinting, IsStatement}
use Rattle.pr_base.specs.Digits.{number_of}
use Rattle.pr_basic.specs.FaultRules.{Lacks, Placed}
use Rattle.pr_basic.specs.Reading.{close_in, cmd_in, comma_in, ended, line_in, number_in, open_in, optional_line_in, print_in, print_to_in, second_in, statement_in, ◌>>=◌}
use Rattle.pr_basic.specs.declared.lexemes.Keyword.{Keyword}
use Rattle.pr_basic.specs.declared.lexemes.Keyword.TheVariants as word
use Rattle.pr_basic.specs.declared.fault.LineFault.{LineFault}
use Rattle.pr_basic.specs.declared.fault.LineFault.TheVariants.{BadNumber, BadDevice, BadSecond}
use Rattle.pr_basic.specs.declared.statement.Statement.{Statement}
use Rattle.pr_basic.specs.declared.statement.Statement.TheVariants.{OpenFile, CloseFile, Cmd, PrintTo, Print, Rem}
use Rattle.pr_basic.proofs.ListsAgree.{bind_ok, list_complete, list_sound}

-- a number that is read is there
pub number_parts : (low high : ℕ) (m o : LineFault) (ls : List Lexeme) (n : ℕ) (rest : List Lexeme) → number_in low high m o ls ≡ Ok (n, rest) → (ds : List ℕ) × (ls ≡ Digits ds ∷ rest) × IsNumber low high n ds
unfolding number_in
number_parts low high m o (Digits ds ∷ ls) n rest h =
    let low_is : low ≤ number_of ds = grind (arith, common_steps) in
    let high_is : number_of ds ≤ high = grind (arith, common_steps) in
    let same : number_of ds ≡ n = grind (arith, common_steps) in
    let more : ls ≡ rest = grind (arith, common_steps) in
    (ds, ap (λ x. Digits ds ∷ x) more, (same, omega (arith, same), omega (arith, same)))
number_parts low high m o [] n rest h = absurd (cc)
number_parts low high m o (l ∷ ls) n rest h = absurd (cc)

-- a number that is there is read
pub number_given : (low high : ℕ) (m o : LineFault) (ds : List ℕ) (n : ℕ) (rest : List Lexeme) → IsNumber low high n ds → number_in low high m o (Digits ds ∷ rest) ≡ Ok (n, rest)
unfolding number_in
number_given low high m o ds n rest h = grind (arith, common_steps, h.0, h.1, h.2)

-- a comma that is passed is there
pub comma_parts : (m : LineFault) (ls rest : List Lexeme) → comma_in m ls ≡ Ok rest → ls ≡ Comma ∷ rest
unfolding comma_in
comma_parts m (Comma ∷ ls) rest h = let e : ls ≡ rest = grind arith in ap (λ x. Comma ∷ x) e
comma_parts m [] rest h = absurd (cc)
comma_parts m (l ∷ ls) rest h = absurd (cc)

-- nothing more is there
pub ended_parts : (s t : Statement) (ls : List Lexeme) → ended s ls ≡ Ok t → (ls ≡ []) × (s ≡ t)
unfolding ended
ended_parts s t [] h = (refl, grind arith)
ended_parts s t (l ∷ ls) h = absurd (cc)

-- what is read after the device: nothing, where no comma is, or a secondary address
pub second_parts : (ls : List Lexeme) (o : Option ℕ) (rest : List Lexeme) → second_in ls ≡ Ok (o, rest)
    → ((None ≡ o) × (ls ≡ rest) × Lacks Comma ls) ⊎ ((d : List ℕ) × (n : ℕ) × (ls ≡ Comma ∷ Digits d ∷ rest) × IsNumber 0 15 n d × (Some n ≡ o))
unfolding second_in
second_parts (Comma ∷ ls) o rest h =
    let said : (second : ℕ × List Lexeme) → Result (Option ℕ × List Lexeme) Placed = λ second. Ok (Some second.0, second.1) in
    let x = bind_ok (number_in 0 15 BadSecond BadSecond ls) said (o, rest) h in
    let n = number_parts 0 15 BadSecond BadSecond ls x.0.0 x.0.1 x.1 in
    let some : Some x.0.0 ≡ o = let j = x.2 in grind arith in
    let same : x.0.1 ≡ rest = let j = x.2 in grind arith in
    inr (n.0, x.0.0, ap (λ v. Comma ∷ v) (n.1 ∙ ap (λ v. Digits n.0 ∷ v) same), n.2, some)
second_parts [] o rest h = inl (grind arith, grind arith, λ r k. cc)
second_parts (l ∷ ls) o rest h = inl (grind arith, grind arith, λ r k. cc)

-- an OPEN that is read is in the grammar
open_sound : (ls : List Lexeme) (s : Statement) → open_in ls ≡ Ok s → IsStatement s (Word word.Open ∷ ls)
unfolding open_in
open_sound ls s h =
    let x = bind_ok (number_in 0 255 BadNumber BadNumber ls) (λ file. comma_in BadDevice file.1 >>= λ rest. number_in 4 30 BadDevice BadDevice rest >>= λ device. second_in device.1 >>= λ second. ended (OpenFile file.0 device.0 second.0) second.1) s h in
    let f = number_parts 0 255 BadNumber BadNumber ls x.0.0 x.0.1 x.1 in
    let y = bind_ok (comma_in BadDevice x.0.1) (λ rest. number_in 4 30 BadDevice BadDevice rest >>= λ device. second_in device.1 >>= λ second. ended (OpenFile x.0.0 device.0 second.0) second.1) s x.2 in
    let comma = comma_parts BadDevice x.0.1 y.0 y.1 in
    let z = bind_ok (number_in 4 30 BadDevice BadDevice y.0) (λ device. second_in device.1 >>= λ second. ended (OpenFile x.0.0 device.0 second.0) second.1) s y.2 in
    let d = number_parts 4 30 BadDevice BadDevice y.0 z.0.0 z.0.1 z.1 in
    let w = bind_ok (second_in z.0.1) (λ second. ended (OpenFile x.0.0 z.0.0 second.0) second.1) s z.2 in
    let e = ended_parts (OpenFile x.0.0 z.0.0 w.0.0) s w.0.1 w.2 in
    let front : ls ≡ Digits f.0 ∷ Comma ∷ Digits d.0 ∷ z.0.1 = f.1 ∙ ap (λ v. Digits f.0 ∷ v) (comma ∙ ap (λ v. Comma ∷ v) d.1) in
    let P : Statement → Type 0 = λ t. IsStatement t (Word word.Open ∷ ls) in
    let none : (None ≡ w.0.0) → z.0.1 ≡ [] → P (OpenFile x.0.0 z.0.0 w.0.0) = λ o k.
    let Q : Option ℕ → Type 0 = λ v. P (OpenFile x.0.0 z.0.0 v) in
    subst Q o (f.0, d.0, ap (λ v. Word word.Open ∷ v) (front ∙ ap (λ v. Digits f.0 ∷ Comma ∷ Digits d.0 ∷ v) k), f.2, d.2) in
    let some : (g : List ℕ) (n : ℕ) → z.0.1 ≡ Comma ∷ Digits g ∷ [] → IsNumber 0 15 n g → Some n ≡ w.0.0 → P (OpenFile x.0.0 z.0.0 w.0.0) = λ g n k j o.
    let Q : Option ℕ → Type 0 = λ v. P (OpenFile x.0.0 z.0.0 v) in
    subst Q o (f.0, d.0, g, ap (λ v. Word word.Open ∷ v) (front ∙ ap (λ v. Digits f.0 ∷ Comma ∷ Digits d.0 ∷ v) k), f.2, d.2, j) in
    subst P e.1 (elim (second_parts z.0.1 w.0.0 w.0.1 w.1) [
      | inl k ↦ none k.0 (k.1 ∙ e.0)
      | inr k ↦ some k.0 k.1 (k.2 ∙ ap (λ v. Comma ∷ Digits k.0 ∷ v) e.0) k.3 k.4
    ])

-- a CLOSE that is read is in the grammar
close_sound : (ls : List Lexeme) (s : Statement) → close_in ls ≡ Ok s → IsStatement s (Word word.Close ∷ ls)
unfolding close_in
close_sound ls s h =
    let x = bind_ok (number_in 0 255 BadNumber BadNumber ls) (λ file. ended (CloseFile file.0) file.1) s h in
    let f = number_parts 0 255 BadNumber BadNumber ls x.0.0 x.0.1 x.1 in
    let e = ended_parts (CloseFile x.0.0) s x.0.1 x.2 in
    let P : Statement → Type 0 = λ t. IsStatement t (Word word.Close ∷ ls) in
    subst P e.1 (f.0, ap (λ v. Word word.Close ∷ v) (f.1 ∙ ap (λ v. Digits f.0 ∷ v) e.0), f.2)

-- a list that is read whole is in the grammar
list_of : (ls : List Lexeme) (line : Text) → line_in [] true ls ≡ Ok line → IsList ls line
list_of ls line h =
    let g = list_sound [] true ls line (omega arith) h in
    record { items = g.items; spelled = g.spelled; good = g.good; bytes = g.bytes_are; ends = g.ends_are; short = g.short }

-- a line is its parts
line_is : (b : List ℕ) (e : Bool) (line : Text) → line.bytes ≡ b → line.ends ≡ e → line ≡ record { bytes = b; ends = e }
line_is b e line h k = rw (← h, ← k) refl

-- a list in the grammar is read whole
list_read : (ls : List Lexeme) (line : Text) → IsList ls line → line_in [] true ls ≡ Ok line
list_read ls line h =
    ap (line_in [] true) h.spelled ∙ (list_complete [] true h.items h.good (omega (arith, ap length h.bytes, h.short)) ∙ ap Ok (sym (line_is _ _ line h.bytes h.ends)))

-- what is read after a file: nothing, or a comma and a list
optional_parts : (ls : List Lexeme) (line : Text) → optional_line_in ls ≡ Ok line
    → ((ls ≡ []) × (line ≡ record { bytes = []; ends = true })) ⊎ ((list : List Lexeme) × (ls ≡ Comma ∷ list) × (0 < length list) × IsList list line)
unfolding optional_line_in
optional_parts [] line h = inl (refl, grind arith)
optional_parts (Comma ∷ []) line h = absurd (cc)
optional_parts (Comma ∷ l ∷ ls) line h = inr (l ∷ ls, refl, omega arith, list_of (l ∷ ls) line h)
optional_parts (l ∷ ls) line h = absurd (cc)

-- a file and perhaps a list that are read are in the grammar
printing_parts : (k : Keyword) (ls : List Lexeme) (file : ℕ × List Lexeme) (line : Text) → number_in 0 255 BadNumber BadNumber ls ≡ Ok file → optional_line_in file.1 ≡ Ok line → IsPrinting k file.0 line (Word k ∷ ls)
printing_parts k ls file line h j =
    let f = number_parts 0 255 BadNumber BadNumber ls file.0 file.1 h in
    elim (optional_parts file.1 line j) [
      | inl e ↦ (f.0, f.2, inl (ap (λ v. Word k ∷ v) (f.1 ∙ ap (λ v. Digits f.0 ∷ v) e.0), e.1))
      | inr e ↦ (f.0, f.2, inr (e.0, ap (λ v. Word k ∷ v) (f.1 ∙ ap (λ v. Digits f.0 ∷ v) e.1), e.2, e.3))
    ]

-- a CMD that is read is in the grammar
cmd_sound : (ls : List Lexeme) (s : Statement) → cmd_in ls ≡ Ok s → IsStatement s (Word word.Cmd ∷ ls)
unfolding cmd_in
cmd_sound ls s h =
    let x = bind_ok (number_in 0 255 BadNumber BadNumber ls) (λ file. optional_line_in file.1 >>= λ line. Ok (Cmd file.0 line)) s h in
    let y = bind_ok (optional_line_in x.0.1) (λ line. Ok (Cmd x.0.0 line)) s x.2 in
    let e : Cmd x.0.0 y.0 ≡ s = let j = y.2 in grind arith in
    let P : Statement → Type 0 = λ t. IsStatement t (Word word.Cmd ∷ ls) in
    subst P e (printing_parts word.Cmd ls x.0 y.0 x.1 y.1)

-- a PRINT# that is read is in the grammar
print_to_sound : (ls : List Lexeme) (s : Statement) → print_to_in ls ≡ Ok s → IsStatement s (Word word.PrintTo ∷ ls)
unfolding print_to_in
print_to_sound ls s h =
    let x = bind_ok (number_in 0 255 BadNumber BadNumber ls) (λ file. optional_line_in file.1 >>= λ line. Ok (PrintTo file.0 line)) s h in
    let y = bind_ok (optional_line_in x.0.1) (λ line. Ok (PrintTo x.0.0 line)) s x.2 in
    let e : PrintTo x.0.0 y.0 ≡ s = let j = y.2 in grind arith in
    let P : Statement → Type 0 = λ t. IsStatement t (Word word.PrintTo ∷ ls) in
    subst P e (printing_parts word.PrintTo ls x.0 y.0 x.1 y.1)

-- a PRINT that is read is in the grammar
print_sound : (ls : List Lexeme) (s : Statement) → print_in ls ≡ Ok s → IsStatement s (Word word.Print ∷ ls)
unfolding print_in
print_sound ls s h =
    let x = bind_ok (line_in [] true ls) (λ line. Ok (Print line)) s h in
    let e : Print x.0 ≡ s = let j = x.2 in grind arith in
    let P : Statement → Type 0 = λ t. IsStatement t (Word word.Print ∷ ls) in
    subst P e (ls, refl, list_of ls x.0 x.1)

-- a statement that was read
some_of : (r : Result Statement Placed) (s : Statement) → (r >>= λ t. Ok (Some t)) ≡ Ok (Some s) → r ≡ Ok s
some_of (Ok t) s h = let e : t ≡ s = grind arith in ap Ok e
some_of (Err f) s h = absurd (cc)

-- a statement is not none
none_of : (r : Result Statement Placed) → (r >>= λ t. Ok (Some t)) ≡ Ok None → ⊥
none_of (Ok t) h = absurd (cc)
none_of (Err f) h = absurd (cc)

-- a statement that is read is in the grammar
pub statement_sound : (ls : List Lexeme) (s : Statement) → statement_in ls ≡ Ok (Some s) → IsStatement s ls
unfolding statement_in
statement_sound [] s h = absurd (cc)
statement_sound (Remark ∷ ls) s h =
    let e : Rem ≡ s = grind arith in
    let P : Statement → Type 0 = λ t. IsStatement t (Remark ∷ ls) in
    subst P e (ls, refl)
statement_sound (Word word.Open ∷ ls) s h = open_sound ls s (some_of (open_in ls) s h)
statement_sound (Word word.Close ∷ ls) s h = close_sound ls s (some_of (close_in ls) s h)
statement_sound (Word word.Cmd ∷ ls) s h = cmd_sound ls s (some_of (cmd_in ls) s h)
statement_sound (Word word.PrintTo ∷ ls) s h = print_to_sound ls s (some_of (print_to_in ls) s h)
statement_sound (Word word.Print ∷ ls) s h = print_sound ls s (some_of (print_in ls) s h)
statement_sound (l ∷ ls) s h = absurd (cc)

-- where no statement is read, nothing is
pub no_statement : (ls : List Lexeme) → statement_in ls ≡ Ok None → ls ≡ []
unfolding statement_in
no_statement [] h = refl
no_statement (Remark ∷ ls) h = absurd (cc)
no_statement (Word word.Open ∷ ls) h = absurd (none_of (open_in ls) h)
no_statement (Word word.Close ∷ ls) h = absurd (none_of (close_in ls) h)
no_statement (Word word.Cmd ∷ ls) h = absurd (none_of (cmd_in ls) h)
no_statement (Word word.PrintTo ∷ ls) h = absurd (none_of (print_to_in ls) h)
no_statement (Word word.Print ∷ ls) h = absurd (none_of (print_in ls) h)
no_statement (l ∷ ls) h = absurd (cc)

-- a comma and a list in the grammar are read
pub optional_given : (list : List Lexeme) (line : Text) → 0 < length list → IsList list line → optional_line_in (Comma ∷ list) ≡ Ok line
unfolding optional_line_in
optional_given [] line some h = absurd (omega arith)
optional_given (l ∷ ls) line some h = list_read (l ∷ ls) line h

-- no list is read
nothing : optional_line_in [] ≡ Ok (record { bytes = []; ends = true })
unfolding optional_line_in
nothing = refl

-- a statement in the grammar is read
pub statement_complete : (s : Statement) (ls : List Lexeme) → IsStatement s ls → statement_in ls ≡ Ok (Some s)
unfolding statement_in open_in close_in cmd_in print_to_in print_in comma_in second_in ended
statement_complete (OpenFile file device None) ls h =
    rw (h.2, number_given 0 255 BadNumber BadNumber h.0 file (Comma ∷ Digits h.1 ∷ []) h.3, number_given 4 30 BadDevice BadDevice h.1 device [] h.4) refl
statement_complete (OpenFile file device (Some second)) ls h =
    rw (h.3, number_given 0 255 BadNumber BadNumber h.0 file (Comma ∷ Digits h.1 ∷ Comma ∷ Digits h.2 ∷ []) h.4, number_given 4 30 BadDevice BadDevice h.1 device (Comma ∷ Digits h.2 ∷ []) h.5, number_given 0 15 BadSecond BadSecond h.2 second [] h.6) refl
statement_complete (CloseFile file) ls h = rw (h.1, number_given 0 255 BadNumber BadNumber h.0 file [] h.2) refl
statement_complete (Cmd file line) ls h =
    elim h.2 [
      | inl e ↦ rw (e.0, number_given 0 255 BadNumber BadNumber h.0 file [] h.1, e.1, nothing) refl
      | inr e ↦ rw (e.1, number_given 0 255 BadNumber BadNumber h.0 file (Comma ∷ e.0) h.1, optional_given e.0 line e.2 e.3) refl
    ]
statement_complete (PrintTo file line) ls h =
    elim h.2 [
      | inl e ↦ rw (e.0, number_given 0 255 BadNumber BadNumber h.0 file [] h.1, e.1, nothing) refl
      | inr e ↦ rw (e.1, number_given 0 255 BadNumber BadNumber h.0 file (Comma ∷ e.0) h.1, optional_given e.0 line e.2 e.3) refl
    ]
statement_complete (Print line) ls h = rw (h.1, list_read h.0 line h.2) refl
statement_complete Rem ls h = rw h.1 refl

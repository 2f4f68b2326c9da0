use Rattle.std.proofs.Common.{◌≡◌, inl, inr, ℕ, zero, suc, ◌+◌, ◌≤◌, ◌==◌, ◌∷◌, Bool, true, false, not, List}
use Rattle.std.proofs.Common.{◌++◌, length, drop, refl, sym, ap, ◌∙◌, arith, Option, Some, None, Result, Ok}
use Rattle.std.proofs.Common.{append_assoc, append-nil, add-one, le-leb, le-ltb, length-append, nat_le, nat_lt}
use Rattle.std.proofs.Common.{if◌then◌else◌, [], filter, slice_get}
use Rattle.pr_basic.specs.Limits.{byte_limit}
use Rattle.pr_basic.specs.Text.{Text as Line}
use Rattle.pr_basic.specs.declared.statement.Statement.{Statement as Output}
use Rattle.pr_basic.specs.declared.statement.Statement.TheVariants.{CloseFile, Cmd, OpenFile, Print as Printed, PrintTo}
use Rattle.pr_basic.specs.declared.statement.Statement.TheVariants.{Rem}
use Rattle.pr_interpreter.specs.declared.expressions.Placed.{Placed}
use Rattle.pr_interpreter.specs.declared.program.ProgramLine.{ProgramLine}
use Rattle.pr_interpreter.specs.declared.statements.Item.{Item}
use Rattle.pr_interpreter.specs.declared.statements.Part.{Part}
use Rattle.pr_interpreter.specs.declared.statements.Part.TheVariants.{Comma, Semicolon, Spaces, Tab, Value as Shows}
use Rattle.pr_interpreter.specs.declared.statements.PlacedStatement.{PlacedStatement}
use Rattle.pr_interpreter.specs.declared.statements.Statement.{Statement}
use Rattle.pr_interpreter.specs.declared.statements.Statement.TheVariants.{Close, Command, Nothing, Open, Print}
use Rattle.pr_interpreter.specs.declared.statements.Statement.TheVariants.{PrintFile}
use Rattle.pr_interpreter.specs.declared.values.BasicError.{BasicError}
use Rattle.pr_interpreter.specs.declared.values.Stop.{Stop}
use Rattle.pr_interpreter.specs.declared.values.Value.{Value}
use Rattle.pr_interpreter.specs.declared.values.Value.TheVariants.{Text}
use Rattle.pr_interpreter.specs.Evaluation.{Evaluation}
use Rattle.pr_run.specs.declared.ending.Ending.TheVariants.{Error}
use Rattle.pr_run.specs.declared.outcome.Outcome.{Outcome}
use Rattle.pr_run.specs.declared.performed.Performed.{Performed}
use Rattle.pr_run.specs.declared.place.Place.{Place}
use Rattle.pr_run.specs.declared.programs.Program.{Program}
use Rattle.pr_run.specs.declared.uses.Use.{Use}
use Rattle.pr_run.specs.Lists.{ends_after, fitting, part_bytes, printed, shown, value_bytes, with_part}
use Rattle.pr_run.specs.Lists.{with_parts}
use Rattle.pr_run.specs.Memory.{bytes_without_arrays, fits, memory_limit}
use Rattle.pr_run.specs.Opened.{stack_left, stack_limit}
use Rattle.pr_run.specs.Outputs.{close_statement, command_statement, command_to, directed, is_open}
use Rattle.pr_run.specs.Outputs.{numbers, open_error, open_statement, opened_or, print_file_statement, print_statement}
use Rattle.pr_run.specs.Outputs.{print_to, undirected}
use Rattle.pr_run.specs.Places.{after_statement, found_at, number_at}
use Rattle.pr_run.specs.Plain.{AreParts, IsConstant, IsList, IsNumber, IsPart, LineSays, LinesSay, PlainRuns, Says}
use Rattle.pr_run.specs.Plain.{error_of, failing, files_after, in_line, in_order, performed_by, step_count}
use Rattle.pr_run.specs.Runs.{after_turn, outcome, run, run_from}
use Rattle.pr_run.specs.States.{State, first_state, next_line}
use Rattle.pr_run.specs.Steps.{Ends, Goes, Turn, changed, output, step, turn}
use Rattle.pr_run.specs.Uses.{Valued, Worked, line_at, use_at, use_of, used, whole_of}
use Rattle.pr_run.specs.Worked.{scope, then_on, valued, whole, worked, worked_out}
use Rattle.pr_run.proofs.RunLawLemmas.{ended_stays}

-- ---- constants and lists

-- a constant has its value in each state, and changes nothing
constant_worked : (p : Program) (s : State) (nodes : List Placed) (v : Value) → s.opened ≡ []
    → IsConstant p.text nodes v → worked p s nodes ≡ Ok (record { value = v; after = s })
unfolding worked stack_left
constant_worked p s nodes v free c =
    let whole : stack_left s.opened ≡ stack_limit = rw free refl in
    ap (λ (e : Evaluation). worked_out (line_at p s) s e.arrays e.value) (c (scope p s) s.arrays refl whole)

number_worked : (p : Program) (s : State) (nodes : List Placed) (n : ℕ) → s.opened ≡ [] → IsNumber p.text nodes n
    → whole 255 p s nodes ≡ Ok (record { value = n; after = s })
unfolding whole
number_worked p s nodes n free c =
    ap (λ (r : Worked (Valued Value)). then_on r (λ v t. valued t (used (use_of p t nodes) (whole_of 255 v))))
    (constant_worked p s nodes c.0 free c.1)
    ∙ ap (λ (r : Result ℕ Stop). valued s (used (use_of p s nodes) r)) c.2

abbrev gives_bytes : List ℕ → State → Worked (Valued (List ℕ))
gives_bytes bytes s = Ok (record { value = bytes; after = s })

part_is : (p : Program) (u : Use) (s : State) (part : Part) (bytes : List ℕ) → s.opened ≡ [] → IsPart p.text part bytes
    → part_bytes p u s part ≡ gives_bytes bytes s
unfolding part_bytes
part_is p u s (Shows nodes) bytes free c =
    ap (λ (r : Worked (Valued Value)). then_on r (λ v t. valued t (value_bytes u t v)))
    (constant_worked p s nodes (Text bytes) free c)
part_is p u s Semicolon bytes free e = ap (λ (bs : List ℕ). gives_bytes bs s) (sym e)
part_is p u s (Tab nodes) bytes free none = absurd none
part_is p u s (Spaces nodes) bytes free none = absurd none
part_is p u s Comma bytes free none = absurd none

item_is : (p : Program) (before : List ℕ) (s : State) (i : Item) (bytes : List ℕ) → s.opened ≡ []
    → IsPart p.text i.part bytes
    → length (before ++ bytes) ≤ byte_limit → with_part p before s i ≡ gives_bytes (before ++ bytes) (shown bytes s)
unfolding with_part
item_is p before s i bytes free c h =
    let fits : nat_le (length (before ++ bytes)) byte_limit ≡ true = le-leb (length (before ++ bytes)) byte_limit h in
    let u : Use = use_at p s i.place in
    ap (λ (r : Worked (Valued (List ℕ))). then_on r (λ more t. valued (shown more t) (fitting u (before ++ more))))
    (part_is p u s i.part bytes free c)
    ∙ rw fits refl

-- where the cursor is
abbrev with_left : Bool → State → State
with_left b s = record s { at_left = b }

items_are : (p : Program) (is : List Item) (before : List ℕ) (s : State) (bytes : List ℕ) → s.opened ≡ []
    → AreParts p.text is bytes → length (before ++ bytes) ≤ byte_limit
    → (b : Bool) × (with_parts p before s is ≡ gives_bytes (before ++ bytes) (with_left b s))
items_are p [] before s bytes free none h = (s.at_left, rw (none, append-nil before) refl)
items_are p (i ∷ is) before s bytes free c h =
    let all : length (before ++ (c.0 ++ c.1)) ≤ byte_limit = rw c.4 at h in
    let more : length ((before ++ c.0) ++ c.1) ≤ byte_limit = rw (append_assoc before c.0 c.1) all in
    let fits : length (before ++ c.0) ≤ byte_limit = omega (arith, more, length-append (before ++ c.0) c.1) in
    let first = item_is p before s i c.0 free c.2 fits in
    let r = items_are p is (before ++ c.0) (shown c.0 s) c.1 free c.3 more in
    let joined : (before ++ c.0) ++ c.1 ≡ before ++ bytes =
    append_assoc before c.0 c.1 ∙ ap (λ (bs : List ℕ). before ++ bs) (sym c.4) in (
      r.0,
      ap (λ (w : Worked (Valued (List ℕ))). then_on w (λ bs t. with_parts p bs t is)) first
          ∙ (r.1 ∙ ap (λ (bs : List ℕ). gives_bytes bs (with_left r.0 s)) joined),
    )

abbrev prints : Line → State → Worked (Valued Line)
prints line s = Ok (record { value = line; after = s })

after_return : (s : State) (ends b : Bool)
    → (c : Bool) × ((if ends then shown (13 ∷ []) (with_left b s) else with_left b s) ≡ with_left c s)
after_return s true b = ((shown (13 ∷ []) (with_left b s)).at_left, refl)
after_return s false b = (b, refl)

-- a list prints its line, and only moves the cursor
list_is : (p : Program) (s : State) (is : List Item) (line : Line) → s.opened ≡ [] → IsList p.text is line
    → (b : Bool) × (printed p s is ≡ prints line (with_left b s))
unfolding printed
list_is p s is line free c =
    let r = items_are p is [] s line.bytes free c.parts c.short in
    let e = after_return s (ends_after true is) r.0 in
    (e.0, rw (r.1, e.1, ← c.ends) refl)

-- ---- statements

-- a state after an output statement: the same place, and these open files, but no loop
pub record Keeps (s t : State) (files : List ℕ) : Type 0 where
  pub place : t.place ≡ s.place
  pub skipped : t.skipped_poke ≡ s.skipped_poke
  pub opened : t.files ≡ files
  pub loops : t.opened ≡ s.opened

-- the turn of an output statement of a line, which leaves a state if it has no error
abbrev turn_for : ℕ → Option BasicError → Output → State → Turn
turn_for line None o t = Goes t (record { line = line; statement = o } ∷ [])
turn_for line (Some e) o t = Ends (record { line = line; statement = failing o } ∷ []) (Error e line)

abbrev Turns : ℕ → State → Output → Turn → Type 0
Turns line s o found = (t : State) × Keeps s t (files_after s.files o)
    × (found ≡ turn_for line (error_of s.files o) o t)

print_turns : (p : Program) (s : State) (is : List Item) (line : Line) → s.opened ≡ [] → IsList p.text is line
    → Turns (line_at p s) s (Printed line) (turn p s (Print is))
unfolding turn print_statement
print_turns p s is line free c =
    let r = list_is p s is line free c in
    (with_left r.0 s, record { place = refl; skipped = refl; opened = refl; loops = refl }, rw r.1 refl)

print_to_turns : (p : Program) (s : State) (is : List Item) (file : ℕ) (line : Line) (number : ℕ) (opened : Bool)
    → s.opened ≡ [] → is_open file s.files ≡ opened → IsList p.text is line
    → Turns number s (PrintTo file line) (output number (print_to p is file s))
print_to_turns p s is file line number true free e c =
    let r = list_is p (directed file s) is line free c in (
      undirected (with_left r.0 (directed file s)),
      record { place = refl; skipped = refl; opened = refl; loops = refl },
      rw (e, r.1) refl,
    )
print_to_turns p s is file line number false free e c =
    (s, record { place = refl; skipped = refl; opened = refl; loops = refl }, rw e refl)

print_file_turns : (p : Program) (s : State) (f : List Placed) (is : List Item) (file : ℕ) (line : Line)
    → s.opened ≡ [] → IsNumber p.text f file → IsList p.text is line
    → Turns (line_at p s) s (PrintTo file line) (turn p s (PrintFile f is))
unfolding turn print_file_statement
print_file_turns p s f is file line free n c =
    rw (number_worked p s f file free n)
    (print_to_turns p s is file line (line_at p s) (is_open file s.files) free refl c)

command_to_turns : (p : Program) (s : State) (is : List Item) (file : ℕ) (line : Line) (number : ℕ) (opened : Bool)
    → s.opened ≡ [] → is_open file s.files ≡ opened → IsList p.text is line
    → Turns number s (Cmd file line) (output number (command_to p is file s))
command_to_turns p s is file line number true free e c =
    let r = list_is p (directed file s) is line free c in (
      with_left r.0 (directed file s),
      record { place = refl; skipped = refl; opened = refl; loops = refl },
      rw (e, r.1) refl,
    )
command_to_turns p s is file line number false free e c =
    (s, record { place = refl; skipped = refl; opened = refl; loops = refl }, rw e refl)

command_turns : (p : Program) (s : State) (f : List Placed) (is : List Item) (file : ℕ) (line : Line)
    → s.opened ≡ [] → IsNumber p.text f file → IsList p.text is line
    → Turns (line_at p s) s (Cmd file line) (turn p s (Command f is))
unfolding turn command_statement
command_turns p s f is file line free n c =
    rw (number_worked p s f file free n)
    (command_to_turns p s is file line (line_at p s) (is_open file s.files) free refl c)

close_turns : (p : Program) (s : State) (f : List Placed) (file : ℕ) → s.opened ≡ [] → IsNumber p.text f file
    → Turns (line_at p s) s (CloseFile file) (turn p s (Close (f ∷ [])))
unfolding turn close_statement numbers
close_turns p s f file free n =
    let t : State = record s { files = filter (λ x. not (x == file)) s.files; has_sent = true } in
    (t, record { place = refl; skipped = refl; opened = refl; loops = refl }, rw (number_worked p s f file free n) refl)

abbrev opens : ℕ → State → State
opens file s = record s { files = s.files ++ file ∷ [] }

opened_turn : (number file device : ℕ) (second : Option ℕ) (error : Option BasicError) (s : State)
    → output number (Ok (opened_or error file (OpenFile file device second) s))
    ≡ turn_for number error (OpenFile file device second) (opens file s)
opened_turn number file device second None s = refl
opened_turn number file device second (Some e) s = refl

open_turns : (p : Program) (s : State) (f d : List Placed) (file device : ℕ) → s.opened ≡ [] → IsNumber p.text f file
    → IsNumber p.text d device → 4 ≤ device → device ≤ 30
    → Turns (line_at p s) s (OpenFile file device None) (turn p s (Open (f ∷ d ∷ [])))
unfolding turn open_statement numbers
open_turns p s f d file device free nf nd low high =
    let above : nat_lt device 4 ≡ false = le-ltb device 4 low in
    let below : nat_lt 30 device ≡ false = le-ltb 30 device high in (
      opens file s,
      record { place = refl; skipped = refl; opened = refl; loops = refl },
      rw (number_worked p s f file free nf, number_worked p s d device free nd, above, below)
          (opened_turn (line_at p s) file device None (open_error file s.files) s),
    )

open_with_second_turns : (p : Program) (s : State) (f d a : List Placed) (file device second : ℕ)
    → s.opened ≡ [] → IsNumber p.text f file → IsNumber p.text d device → IsNumber p.text a second
    → 4 ≤ device → device ≤ 30 → second ≤ 15
    → Turns (line_at p s) s (OpenFile file device (Some second)) (turn p s (Open (f ∷ d ∷ a ∷ [])))
unfolding turn open_statement numbers
open_with_second_turns p s f d a file device second free nf nd na low high most =
    let above : nat_lt device 4 ≡ false = le-ltb device 4 low in
    let below : nat_lt 30 device ≡ false = le-ltb 30 device high in
    let small : nat_lt 15 second ≡ false = le-ltb 15 second most in (
      opens file s,
      record { place = refl; skipped = refl; opened = refl; loops = refl },
      rw (
        number_worked p s f file free nf,
        number_worked p s d device free nd,
        number_worked p s a second free na,
        above,
        below,
        small,
      )
          (opened_turn (line_at p s) file device (Some second) (open_error file s.files) s),
    )

-- a statement does what it says
says_turns : (p : Program) (s : State) (st : Statement) (o : Output) → s.opened ≡ [] → Says p.text o st
    → Turns (line_at p s) s o (turn p s st)
says_turns p s st (OpenFile file device None) free c =
    rw c.2 (open_turns p s c.0 c.1 file device free c.3 c.4 c.5 c.6)
says_turns p s st (OpenFile file device (Some second)) free c =
    rw c.3 (open_with_second_turns p s c.0 c.1 c.2 file device second free c.4 c.5 c.6 c.7 c.8 c.9)
says_turns p s st (Cmd file line) free c = rw c.2 (command_turns p s c.0 c.1 file line free c.3 c.4)
says_turns p s st (PrintTo file line) free c = rw c.2 (print_file_turns p s c.0 c.1 file line free c.3 c.4)
says_turns p s st (Printed line) free c = rw c.1 (print_turns p s c.0 line free c.2)
says_turns p s st (CloseFile file) free c = rw c.1 (close_turns p s c.0 file free c.2)
says_turns p s st Rem free none = absurd none

-- ---- places

drop_head : {X : Type 0} (n : ℕ) (xs ys : List X) (x : X) → drop n xs ≡ x ∷ ys → slice_get xs n ≡ Some x
drop_head zero (z ∷ zs) ys x e = grind arith
drop_head zero [] ys x e = absurd (cc)
drop_head (suc n) (z ∷ zs) ys x e = drop_head n zs ys x e
drop_head (suc n) [] ys x e = absurd (cc)

drop_tail : {X : Type 0} (n : ℕ) (xs ys : List X) (x : X) → drop n xs ≡ x ∷ ys → drop (suc n) xs ≡ ys
drop_tail zero (z ∷ zs) ys x e = grind arith
drop_tail zero [] ys x e = absurd (cc)
drop_tail (suc n) (z ∷ zs) ys x e = drop_tail n zs ys x e
drop_tail (suc n) [] ys x e = absurd (cc)

drop_end : {X : Type 0} (n : ℕ) (xs : List X) → drop n xs ≡ [] → slice_get xs n ≡ None
drop_end zero (z ∷ zs) e = absurd (cc)
drop_end zero [] e = refl
drop_end (suc n) (z ∷ zs) e = drop_end n zs e
drop_end (suc n) [] e = refl

-- ---- lines

-- a run that begins a line performs in order what this line and those after it say
abbrev Finishes : Program → ℕ → List ProgramLine → List Performed → Type 0
Finishes p at ls said = (t : State) (limit : ℕ) → t.place ≡ record { line = at; statement = 0 } → t.skipped_poke ≡ None
    → t.opened ≡ [] → step_count ls ≤ limit → run_from p limit t ≡ in_order t.files said

-- where a turn leads
put_on : (p : Program) (limit : ℕ) (s t : State) (number : ℕ) (error : Option BasicError) (o : Output)
    (more : List Performed) (files : List ℕ) → s.skipped_poke ≡ None
    → run_from p limit t ≡ in_order files more
    → after_turn s (turn_for number error o t) (λ u. run_from p limit u)
    ≡ performed_by error (record { line = number; statement = o }) (in_order files more)
put_on p limit s t number None o more files none rest =
    ap (λ (r : Outcome). outcome (record { line = number; statement = o } ∷ r.performed) r.ending r.skipped_poke) rest
put_on p limit s t number (Some e) o more files none rest = rw none refl

-- a statement that says something, and then the rest
said_runs : (p : Program) (s t u : State) (limit number : ℕ) (st : Statement) (o : Output) (rest : List Performed)
    → s.skipped_poke ≡ None → line_at p t ≡ number
    → turn p t st ≡ turn_for (line_at p t) (error_of s.files o) o u
    → run_from p limit u ≡ in_order (files_after s.files o) rest
    → after_turn s (turn p t st) (λ v. run_from p limit v)
    ≡ in_order s.files (record { line = number; statement = o } ∷ rest)
said_runs p s t u limit number st o rest none here turns runs =
    rw (turns, here) (put_on p limit s u number (error_of s.files o) o rest (files_after s.files o) none runs)

number_here : (p : Program) (place : Place) (l : ProgramLine) → slice_get p.lines place.line ≡ Some l
    → number_at p.lines place ≡ l.number
unfolding number_at
number_here p place l e = rw e refl

turn_nothing : (p : Program) (s : State) (st : Statement) → st ≡ Nothing → turn p s st ≡ Goes s []
unfolding turn changed
turn_nothing p s st e = rw e refl

line_runs : (p : Program) (ss : List PlacedStatement) (l : ProgramLine) (ls : List ProgramLine) (os : List Output)
    (more : List Performed) (s : State) (limit : ℕ)
    → slice_get p.lines s.place.line ≡ Some l → drop s.place.statement l.statements ≡ ss → s.skipped_poke ≡ None
    → s.opened ≡ [] → LineSays p.text ss os → Finishes p (s.place.line + 1) ls more
    → length ss + 1 + step_count ls ≤ limit
    → run_from p limit s ≡ in_order s.files (in_line l.number os ++ more)
unfolding run_from step found_at
line_runs p [] l ls os more s zero e f none free says rest h = absurd (omega (arith, h))
line_runs p (x ∷ xs) l ls os more s zero e f none free says rest h = absurd (omega (arith, h))
line_runs p [] l ls os more s (suc m) e f none free says rest h =
    let end = drop_end s.place.statement l.statements f in
    let few : step_count ls ≤ m = omega (arith, h) in
    rw (says, e, end) (rest (next_line s) m refl none free few)
line_runs p (x ∷ xs) l ls os more s (suc m) e f none free (inl quiet) rest h =
    let here = drop_head s.place.statement l.statements xs x f in
    let t : State = record s { place = after_statement s.place } in
    let next : drop t.place.statement l.statements ≡ xs =
    rw add-one (drop_tail s.place.statement l.statements xs x f) in
    let few : length xs + 1 + step_count ls ≤ m = omega (arith, h) in
    rw (e, here, turn_nothing p t x.statement quiet.0)
    (line_runs p xs l ls os more t m e next none free quiet.1 rest few)
line_runs p (x ∷ xs) l ls os more s (suc m) e f none free (inr says) rest h =
    let here = drop_head s.place.statement l.statements xs x f in
    let t : State = record s { place = after_statement s.place } in
    let next : drop t.place.statement l.statements ≡ xs =
    rw add-one (drop_tail s.place.statement l.statements xs x f) in
    let few : length xs + 1 + step_count ls ≤ m = omega (arith, h) in
    let r = says_turns p t x.statement says.0 free says.2 in
    let u = r.0 in
    let k = r.1 in
    let at : slice_get p.lines u.place.line ≡ Some l = rw k.place e in
    let left : drop u.place.statement l.statements ≡ xs = rw k.place next in
    let after : Finishes p (u.place.line + 1) ls more = rw k.place rest in
    let runs = line_runs p xs l ls says.1 more u m at left (k.skipped ∙ none) (k.loops ∙ free) says.3 after few in
    let all = runs ∙ ap (λ (fs : List ℕ). in_order fs (in_line l.number says.1 ++ more)) k.opened in
    rw (e, here, says.4)
    (said_runs p s t u m l.number x.statement says.0 (in_line l.number says.1 ++ more) none (number_here p t.place l e)
    r.2 all)

lines_run : (p : Program) (ls : List ProgramLine) (said : List Performed) (at : ℕ) → drop at p.lines ≡ ls
    → LinesSay p.text ls said → Finishes p at ls said
lines_run p [] said at e says t limit place none free h =
    let past : slice_get p.lines t.place.line ≡ None = rw place (drop_end at p.lines e) in
    rw (ended_stays p limit t None past refl, none, says) refl
lines_run p (l ∷ ls) said at e says t limit place none free h =
    let here : slice_get p.lines t.place.line ≡ Some l = rw place (drop_head at p.lines ls l e) in
    let whole : drop t.place.statement l.statements ≡ l.statements = rw place refl in
    let later : drop (at + 1) p.lines ≡ ls = rw add-one (drop_tail at p.lines ls l e) in
    let after : Finishes p (t.place.line + 1) ls says.1 = rw place (lines_run p ls says.1 (at + 1) later says.3) in
    rw says.4 (line_runs p l.statements l ls says.0 says.1 t limit here whole none free says.2 after h)

-- a plain program performs in order what it says
pub plain_runs : PlainRuns
unfolding run bytes_without_arrays
plain_runs p said limit room says h =
    let enough : fits p first_state ≡ true = le-leb _ memory_limit (omega (arith, room)) in
    rw enough (lines_run p p.lines said 0 refl says first_state limit refl refl refl h)

use Rattle.std.proofs.Common.{◌≡◌, ℕ, zero, suc, Bool, true, false, IsTrue, List, [], ◌∷◌, All, refl}
use Rattle.std.proofs.Common.{Option, Some, None, Ok, Err, if◌then◌else◌, drop, nat_lt, ◌||◌}
use Rattle.std.proofs.Common.{inl, inr}
use Rattle.std.proofs.lemmas.Bool.{cases_Bool}
use Rattle.std.proofs.lemmas.List.Elements.{All-append, All-cons, All-nil, All-weaker}
use Rattle.pr_basic.specs.declared.statement.Statement.{Statement as Output}
use Rattle.pr_basic.specs.declared.statement.Statement.TheVariants.{Cmd, OpenFile, Print as Printed, PrintTo}
use Rattle.pr_interpreter.specs.declared.expressions.Placed.{Placed}
use Rattle.pr_interpreter.specs.declared.statements.Item.{Item}
use Rattle.pr_interpreter.specs.declared.statements.Statement.{Statement}
use Rattle.pr_interpreter.specs.declared.statements.Statement.TheVariants.{Close, Command, Open, Print, PrintFile}
use Rattle.pr_interpreter.specs.declared.values.BasicError.{BasicError}
use Rattle.pr_interpreter.specs.declared.values.BasicError.TheVariants.{FileNotOpen}
use Rattle.pr_run.specs.declared.ending.Ending.TheVariants.{Refused}
use Rattle.pr_run.specs.declared.ending.Refusal.TheVariants.{Device, SecondAddress}
use Rattle.pr_run.specs.declared.performed.Performed.{Performed}
use Rattle.pr_run.specs.declared.programs.Program.{Program}
use Rattle.pr_run.specs.Lists.{printed}
use Rattle.pr_run.specs.Outputs.{Output as Result, close_statement, close_with, command_statement, command_to, directed}
use Rattle.pr_run.specs.Outputs.{done, failed, no_line}
use Rattle.pr_run.specs.Outputs.{file_numbers, is_open, on_bus, open_error, open_file, open_statement, open_with}
use Rattle.pr_run.specs.Outputs.{opened_or}
use Rattle.pr_run.specs.Outputs.{print_file_statement, print_statement, print_to, value_place, with_second, undirected}
use Rattle.pr_run.specs.Places.{Doing, Found, LineEnd, ProgramEnd, after_statement, found_at, number_at}
use Rattle.pr_run.specs.Memory.{fits}
use Rattle.pr_run.specs.RunLaws.{AllComeFrom, ComesFrom, is_kind}
use Rattle.pr_run.specs.Runs.{after_turn, run, run_from}
use Rattle.pr_run.specs.States.{State, first_state}
use Rattle.pr_run.specs.Steps.{Ends, Goes, Turn, changed, output, output_turn, quiet, step, turn, turn_at}
use Rattle.pr_run.specs.Uses.{Valued, Worked, line_at, statement_place}
use Rattle.pr_run.specs.Worked.{then_on, whole}

-- what a turn performs
abbrev pub performed_in : Turn → List Performed
performed_in (Goes s performed) = performed
performed_in (Ends performed ending) = performed

-- ---- kinds

-- an output statement, if there is one, is of the kind of a statement
abbrev IsKind : Statement → Worked Result → Type 0
IsKind s (Ok o) = IsTrue (is_kind s o.statement)
IsKind s (Err ending) = Unit {0}

then_kind : {A : Type 0} (s : Statement) (w : Worked (Valued A)) (more : A → State → Worked Result)
    → ((a : A) (t : State) → IsKind s (more a t)) → IsKind s (then_on w more)
then_kind s (Ok v) more h = h v.value v.after
then_kind s (Err ending) more h = tt

if_kind : (s : Statement) (b : Bool) (x y : Worked Result) → IsKind s x → IsKind s y → IsKind s (if b then x else y)
if_kind s true x y hx hy = hx
if_kind s false x y hx hy = hy

print_kind : (p : Program) (s : State) (is : List Item) → IsKind (Print is) (print_statement p s is)
unfolding print_statement
print_kind p s is = then_kind (Print is) (printed p s is) (λ line t. Ok (done (Printed line) t)) (λ line t. refl)

print_file_kind : (p : Program) (s : State) (f : List Placed) (is : List Item)
    → IsKind (PrintFile f is) (print_file_statement p s f is)
unfolding print_file_statement
print_file_kind p s f is = then_kind (PrintFile f is) (whole 255 p s f) (λ n t. print_to p is n t)
    (λ n t. if_kind (PrintFile f is) (is_open n t.files)
    (then_on (printed p (directed n t) is) (λ line u. Ok (done (PrintTo n line) (undirected u))))
    (Ok (failed FileNotOpen (PrintTo n no_line) t))
    (then_kind (PrintFile f is) (printed p (directed n t) is) (λ line u. Ok (done (PrintTo n line) (undirected u)))
    (λ line u. refl)) refl)

command_kind : (p : Program) (s : State) (f : List Placed) (is : List Item)
    → IsKind (Command f is) (command_statement p s f is)
unfolding command_statement
command_kind p s f is = then_kind (Command f is) (whole 255 p s f) (λ n t. command_to p is n t)
    (λ n t. if_kind (Command f is) (is_open n t.files)
    (then_on (printed p (directed n t) is) (λ line u. Ok (done (Cmd n line) u)))
    (Ok (failed FileNotOpen (Cmd n no_line) t))
    (then_kind (Command f is) (printed p (directed n t) is) (λ line u. Ok (done (Cmd n line) u))
    (λ line u. refl)) refl)

close_with_kind : (place : ℕ) (is : List (List Placed)) (found : List ℕ) (s : State)
    → IsKind (Close is) (close_with place found s)
close_with_kind place is [] s = tt
close_with_kind place is (file ∷ more) s = refl

close_kind : (p : Program) (s : State) (is : List (List Placed)) → IsKind (Close is) (close_statement p s is)
unfolding close_statement
close_kind p s is = then_kind (Close is) (file_numbers p s is) (λ found t. close_with (statement_place p t) found t)
    (λ found t. close_with_kind (statement_place p t) is found t)

opened_kind : (is : List (List Placed)) (error : Option BasicError) (file device : ℕ) (second : Option ℕ) (s : State)
    → IsTrue (is_kind (Open is) (opened_or error file (OpenFile file device second) s).statement)
opened_kind is None file device second s = refl
opened_kind is (Some e) file device second s = refl

open_file_kind : (is : List (List Placed)) (file device : ℕ) (second : Option ℕ) (s : State)
    → IsTrue (is_kind (Open is) (open_file file device second s).statement)
open_file_kind is file device second s = opened_kind is (open_error file s.files) file device second s

on_bus_kind : (is : List (List Placed)) (place device : ℕ) (more : Worked Result) → IsKind (Open is) more
    → IsKind (Open is) (on_bus place device more)
on_bus_kind is place device more h =
    if_kind (Open is) (nat_lt device 4 || nat_lt 30 device) (Err (Refused (Device device) place)) more tt h

second_kind : (is : List (List Placed)) (place second : ℕ) (more : Worked Result) → IsKind (Open is) more
    → IsKind (Open is) (with_second place second more)
second_kind is place second more h =
    if_kind (Open is) (nat_lt 15 second) (Err (Refused (SecondAddress second) place)) more tt h

open_with_kind : (place : ℕ) (is : List (List Placed)) (found : List ℕ) (s : State)
    → IsKind (Open is) (open_with place is found s)
open_with_kind place is [] s = tt
open_with_kind place is (file ∷ []) s = tt
open_with_kind place is (file ∷ device ∷ []) s =
    on_bus_kind is (value_place (drop 1 is)) device (Ok (open_file file device None s))
    (open_file_kind is file device None s)
open_with_kind place is (file ∷ device ∷ second ∷ more) s =
    on_bus_kind is (value_place (drop 1 is)) device
    (with_second (value_place (drop 2 is)) second (Ok (open_file file device (Some second) s)))
    (second_kind is (value_place (drop 2 is)) second (Ok (open_file file device (Some second) s))
    (open_file_kind is file device (Some second) s))

open_kind : (p : Program) (s : State) (is : List (List Placed)) → IsKind (Open is) (open_statement p s is)
unfolding open_statement
open_kind p s is = then_kind (Open is) (file_numbers p s is) (λ found t. open_with (statement_place p t) is found t)
    (λ found t. open_with_kind (statement_place p t) is found t)

-- ---- turns

-- what is performed has the line of a state and is of the kind of a statement
abbrev OfKind : ℕ → Statement → Performed → Type 0
OfKind line s d = (d.line ≡ line) × IsTrue (is_kind s d.statement)

abbrev AllOfKind : ℕ → Statement → Turn → Type 0
AllOfKind line s t = All (OfKind line s) (performed_in t)

quiet_kinds : (line : ℕ) (s : Statement) (w : Worked State) → AllOfKind line s (quiet w)
quiet_kinds line s (Ok t) = All-nil (OfKind line s)
quiet_kinds line s (Err ending) = All-nil (OfKind line s)

one_of_kind : (line : ℕ) (s : Statement) (o : Output) → IsTrue (is_kind s o)
    → All (OfKind line s) (record { line = line; statement = o } ∷ [])
one_of_kind line s o h =
    All-cons (OfKind line s) (record { line = line; statement = o }) [] (refl, h) (All-nil (OfKind line s))

put_kinds : (line : ℕ) (s : Statement) (error : Option BasicError) (o : Result) → IsTrue (is_kind s o.statement)
    → AllOfKind line s (output_turn line error o)
put_kinds line s None o h = one_of_kind line s o.statement h
put_kinds line s (Some e) o h = one_of_kind line s o.statement h

output_kinds : (line : ℕ) (s : Statement) (w : Worked Result) → IsKind s w → AllOfKind line s (output line w)
output_kinds line s (Ok o) h = put_kinds line s o.error o h
output_kinds line s (Err ending) h = All-nil (OfKind line s)

turn_kinds : (p : Program) (s : State) (st : Statement) → AllOfKind (line_at p s) st (turn p s st)
unfolding turn
turn_kinds p s (Print is) = output_kinds (line_at p s) (Print is) (print_statement p s is) (print_kind p s is)
turn_kinds p s (PrintFile f is) =
    output_kinds (line_at p s) (PrintFile f is) (print_file_statement p s f is) (print_file_kind p s f is)
turn_kinds p s (Command f is) =
    output_kinds (line_at p s) (Command f is) (command_statement p s f is) (command_kind p s f is)
turn_kinds p s (Open is) = output_kinds (line_at p s) (Open is) (open_statement p s is) (open_kind p s is)
turn_kinds p s (Close is) = output_kinds (line_at p s) (Close is) (close_statement p s is) (close_kind p s is)
turn_kinds p s other = quiet_kinds (line_at p s) other (changed p s other)

-- ---- steps and runs

found_comes : (p : Program) (s : State) (f : Found) → found_at p.lines s.place ≡ f
    → All (ComesFrom p) (performed_in (turn_at p s f))
unfolding number_at
found_comes p s (Doing st) e =
    let t : State = record s { place = after_statement s.place } in
    All-weaker (OfKind (line_at p t) st) (ComesFrom p) (λ d h. (s.place, st, e, h.0, h.1)) _ (turn_kinds p t st)
found_comes p s LineEnd e = All-nil (ComesFrom p)
found_comes p s ProgramEnd e = All-nil (ComesFrom p)

step_comes : (p : Program) (s : State) → All (ComesFrom p) (performed_in (step p s))
unfolding step
step_comes p s = found_comes p s (found_at p.lines s.place) refl

turn_comes : (p : Program) (n : ℕ) (s : State) (t : Turn) → All (ComesFrom p) (performed_in t)
    → ((u : State) → All (ComesFrom p) (run_from p n u).performed)
    → All (ComesFrom p) (after_turn s t (λ u. run_from p n u)).performed
turn_comes p n s (Goes u done) h more = All-append (ComesFrom p) done (run_from p n u).performed h (more u)
turn_comes p n s (Ends done ending) h more = h

-- what a run performs comes from its program
run_comes : (p : Program) (limit : ℕ) (s : State) → All (ComesFrom p) (run_from p limit s).performed
unfolding run_from
run_comes p zero s = All-nil (ComesFrom p)
run_comes p (suc n) s = turn_comes p n s (step p s) (step_comes p s) (λ u. run_comes p n u)

pub runs_come : AllComeFrom
unfolding run
runs_come p limit =
    elim (cases_Bool (fits p first_state)) [
      | inl hit ↦ rw hit (run_comes p limit first_state)
      | inr miss ↦ rw miss (All-nil (ComesFrom p))
    ]

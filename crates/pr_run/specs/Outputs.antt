-- Trusted: the output statements: OPEN, CLOSE, CMD, PRINT and PRINT#.
use Rattle.std.specs.Prelude.{ℕ, ◌==◌, ◌||◌, Bool, true, not, List, [], ◌∷◌, ◌++◌, length, take, drop, nat_lt}
use Rattle.std.specs.Prelude.{if◌then◌else◌, Option, Some, None, Ok, Err}
use Rattle.std.specs.List.{filter, list_any}
use Rattle.pr_basic.specs.declared.statement.Statement.{Statement}
use Rattle.pr_basic.specs.declared.statement.Statement.TheVariants.{CloseFile, Cmd, OpenFile, Print, PrintTo}
use Rattle.pr_basic.specs.Text.{Text as Line}
use Rattle.pr_interpreter.specs.declared.expressions.Placed.{Placed}
use Rattle.pr_interpreter.specs.declared.statements.Item.{Item}
use Rattle.pr_interpreter.specs.declared.values.BasicError.{BasicError}
use Rattle.pr_interpreter.specs.declared.values.BasicError.TheVariants.{FileNotOpen, FileOpen, NotInputFile}
use Rattle.pr_interpreter.specs.declared.values.BasicError.TheVariants.{TooManyFiles}
use Rattle.pr_run.specs.declared.ending.Ending.TheVariants.{Refused}
use Rattle.pr_run.specs.declared.ending.Refusal.TheVariants.{Device, FileName, SecondAddress}
use Rattle.pr_run.specs.Lists.{printed}
use Rattle.pr_run.specs.declared.programs.Program.{Program}
use Rattle.pr_run.specs.States.{State}
use Rattle.pr_run.specs.Uses.{Valued, Worked, first_place, statement_place}
use Rattle.pr_run.specs.Worked.{every, then_on, whole}

-- the statement that is performed; the error that the machine reports, if it does; and the state after it
pub record Output : Type 0 where
  pub statement : Statement
  pub error : Option BasicError
  pub after : State

abbrev pub done : Statement → State → Output
done statement s = record { statement = statement; error = None; after = s }

-- it is performed, and there the run ends
abbrev pub failed : BasicError → Statement → State → Output
failed error statement s = record { statement = statement; error = Some error; after = s }

-- ---- OPEN and CLOSE

-- whole numbers from 0 to 255
unfoldable pub numbers : Program → State → List (List Placed) → Worked (Valued (List ℕ))
numbers p s is = every (whole 255 p) [] s is

-- a fourth value is a file name, which is not taken
abbrev pub unnamed : {A : Type 0} → List (List Placed) → Worked A → Worked A
unnamed [] more = more
unnamed (name ∷ names) more = Err (Refused FileName (first_place name))

-- the numbers of a file
abbrev pub file_numbers : Program → State → List (List Placed) → Worked (Valued (List ℕ))
file_numbers p s is =
    then_on (numbers p s (take 3 is)) (λ found t. unnamed (drop 3 is) (Ok (record { value = found; after = t })))

abbrev pub is_open : ℕ → List ℕ → Bool
is_open file files = list_any (λ f. f == file) files

-- the error of an OPEN, if there is one: the file's number is 0, the file is open, or ten are
abbrev pub open_error : ℕ → List ℕ → Option BasicError
open_error file files =
    if file == 0 then Some NotInputFile else if is_open file files then Some FileOpen
    else if length files == 10 then Some TooManyFiles else None

abbrev pub opened_or : Option BasicError → ℕ → Statement → State → Output
opened_or None file statement s = done statement (record s { files = s.files ++ file ∷ [] })
opened_or (Some error) file statement s = failed error statement s

abbrev pub open_file : ℕ → ℕ → Option ℕ → State → Output
open_file file device second s = opened_or (open_error file s.files) file (OpenFile file device second) s

-- a device is 4 to 30
abbrev pub on_bus : ℕ → ℕ → Worked Output → Worked Output
on_bus place device more = if nat_lt device 4 || nat_lt 30 device then Err (Refused (Device device) place) else more

-- a secondary address is at most 15
abbrev pub with_second : ℕ → ℕ → Worked Output → Worked Output
with_second place second more = if nat_lt 15 second then Err (Refused (SecondAddress second) place) else more

-- the place of the value that has others before it
abbrev pub value_place : List (List Placed) → ℕ
value_place [] = 0
value_place (i ∷ is) = first_place i

-- OPEN: a file without a device is one of device 1
abbrev pub open_with : ℕ → List (List Placed) → List ℕ → State → Worked Output
open_with place is [] s = Err (Refused (Device 1) place)
open_with place is (file ∷ []) s = Err (Refused (Device 1) place)
open_with place is (file ∷ device ∷ []) s =
    on_bus (value_place (drop 1 is)) device (Ok (open_file file device None s))
open_with place is (file ∷ device ∷ second ∷ more) s =
    on_bus (value_place (drop 1 is)) device
    (with_second (value_place (drop 2 is)) second (Ok (open_file file device (Some second) s)))

unfoldable pub open_statement : Program → State → List (List Placed) → Worked Output
open_statement p s is =
    then_on (file_numbers p s is) (λ found t. open_with (statement_place p t) is found t)

abbrev pub close_with : ℕ → List ℕ → State → Worked Output
close_with place [] s = Err (Refused FileName place)
close_with place (file ∷ more) s =
    Ok (done (CloseFile file) (record s { files = filter (λ f. not (f == file)) s.files; has_sent = true }))

-- CLOSE: a file that is not open stays so; what closes may be sent to a file
unfoldable pub close_statement : Program → State → List (List Placed) → Worked Output
close_statement p s is = then_on (file_numbers p s is) (λ found t. close_with (statement_place p t) found t)

-- ---- PRINT, CMD and PRINT#

-- PRINT goes where the last CMD said
unfoldable pub print_statement : Program → State → List Item → Worked Output
print_statement p s is = then_on (printed p s is) (λ line t. Ok (done (Print line) t))

-- a list of nothing
abbrev pub no_line : Line
no_line = record { bytes = []; ends = true }

-- the output goes to a file
abbrev pub directed : ℕ → State → State
directed file s = record s { channel = file; has_sent = true }

abbrev pub command_to : Program → List Item → ℕ → State → Worked Output
command_to p is file s =
    if is_open file s.files
    then then_on (printed p (directed file s) is) (λ line t. Ok (done (Cmd file line) t))
    else Ok (failed FileNotOpen (Cmd file no_line) s)

-- CMD: output goes to the file from now on
unfoldable pub command_statement : Program → State → List Placed → List Item → Worked Output
command_statement p s file is = then_on (whole 255 p s file) (λ n t. command_to p is n t)

-- and then to the screen
abbrev pub undirected : State → State
undirected s = record s { channel = 0 }

abbrev pub print_to : Program → List Item → ℕ → State → Worked Output
print_to p is file s =
    if is_open file s.files
    then then_on (printed p (directed file s) is) (λ line t. Ok (done (PrintTo file line) (undirected t)))
    else Ok (failed FileNotOpen (PrintTo file no_line) s)

-- PRINT#: output goes to the file for this list
unfoldable pub print_file_statement : Program → State → List Placed → List Item → Worked Output
print_file_statement p s file is = then_on (whole 255 p s file) (λ n t. print_to p is n t)

-- Trusted: plain programs, of OPEN, CMD, PRINT, PRINT#, CLOSE and REM alone, with constants, as scripts are: which
-- output statements they say, and what is performed of them.
use Rattle.std.specs.Prelude.{ℕ, ◌≡◌, ◌⊎◌, ◌+◌, ◌-◌, ◌==◌, ◌≤◌, Bool, true, false, List, [], ◌∷◌, ◌++◌}
use Rattle.std.specs.Prelude.{length, map, not, slice_range, Option, Some, None, Ok}
use Rattle.std.specs.List.{filter}
use Rattle.pr_basic.specs.Limits.{byte_limit}
use Rattle.pr_basic.specs.Text.{Text as Line}
use Rattle.pr_basic.specs.declared.statement.Statement.{Statement as Output}
use Rattle.pr_basic.specs.declared.statement.Statement.TheVariants.{CloseFile, Cmd, OpenFile, Print as Printed, PrintTo}
use Rattle.pr_basic.specs.declared.statement.Statement.TheVariants.{Rem}
use Rattle.pr_interpreter.specs.declared.constants.Tens.TheVariants.{Times}
use Rattle.pr_interpreter.specs.declared.expressions.Callee.TheVariants.{Function}
use Rattle.pr_interpreter.specs.declared.expressions.Node.TheVariants.{Call, Number as Digits, Text as Quoted}
use Rattle.pr_interpreter.specs.declared.expressions.Placed.{Placed}
use Rattle.pr_interpreter.specs.declared.memory.Arrays.{Arrays}
use Rattle.pr_interpreter.specs.declared.program.ProgramLine.{ProgramLine}
use Rattle.pr_interpreter.specs.declared.statements.Item.{Item}
use Rattle.pr_interpreter.specs.declared.statements.Part.{Part}
use Rattle.pr_interpreter.specs.declared.statements.Part.TheVariants.{Comma, Semicolon, Spaces, Tab, Value as Shows}
use Rattle.pr_interpreter.specs.declared.statements.PlacedStatement.{PlacedStatement}
use Rattle.pr_interpreter.specs.declared.statements.Statement.{Statement}
use Rattle.pr_interpreter.specs.declared.statements.Statement.TheVariants.{Close, Command, Nothing, Open, Print}
use Rattle.pr_interpreter.specs.declared.statements.Statement.TheVariants.{PrintFile}
use Rattle.pr_interpreter.specs.declared.values.BasicError.{BasicError}
use Rattle.pr_interpreter.specs.declared.values.BasicError.TheVariants.{FileNotOpen}
use Rattle.pr_interpreter.specs.declared.values.Value.{Value}
use Rattle.pr_interpreter.specs.declared.values.Value.TheVariants.{Text}
use Rattle.pr_interpreter.specs.Evaluation.{Scope, evaluation}
use Rattle.pr_run.specs.declared.ending.Ending.TheVariants.{Error, LastLine}
use Rattle.pr_run.specs.declared.outcome.Outcome.{Outcome}
use Rattle.pr_run.specs.declared.performed.Performed.{Performed}
use Rattle.pr_run.specs.declared.programs.Program.{Program}
use Rattle.pr_run.specs.Lists.{ends_after}
use Rattle.pr_run.specs.Memory.{memory_limit, program_bytes}
use Rattle.pr_run.specs.Opened.{stack_limit}
use Rattle.pr_run.specs.Outputs.{is_open, no_line, open_error}
use Rattle.pr_run.specs.Runs.{outcome, run}
use Rattle.pr_run.specs.Uses.{whole_of}

-- ---- constants

-- an expression has this value, whatever the variables, arrays and functions are, if no loop and no call is open
abbrev pub IsConstant : List ℕ → List Placed → Value → Type 0
IsConstant text nodes v = (s : Scope) (arrays : Arrays) → s.text ≡ text → s.stack ≡ stack_limit
    → evaluation s arrays nodes ≡ record { value = Ok v; arrays = arrays }

-- it is this whole number, of at most 255
abbrev pub IsNumber : List ℕ → List Placed → ℕ → Type 0
IsNumber text nodes n = (v : Value) × IsConstant text nodes v × (whole_of 255 v ≡ Ok n)

-- digits, as a program's text has them, alone or in CHR$
abbrev pub digits : ℕ → ℕ → ℕ → Placed
digits stacked place n = record {
  node = Digits (record { digits = n; more = false; tens = Times 0; roundings = 0; plain = true });
  place = place;
  stacked = stacked;
}

-- digits are the number that they write
abbrev pub DigitsAreNumbers : Type 0
DigitsAreNumbers = (text : List ℕ) (place n : ℕ) → n ≤ 255 → IsNumber text (digits 0 place n ∷ []) n

-- a string between quotes is its bytes
abbrev pub StringsAreConstant : Type 0
StringsAreConstant = (text : List ℕ) (place start end : ℕ) → start ≤ end → end ≤ length text → end - start ≤ 255
    → IsConstant text (record { node = Quoted start end; place = place; stacked = 0 } ∷ [])
    (Text (slice_range text start end))

-- CHR$ of digits is the byte of that number
abbrev pub CharactersAreConstant : Type 0
CharactersAreConstant = (text : List ℕ) (place at n : ℕ) → n ≤ 255
    → IsConstant text (digits 8 place n ∷ record { node = Call (Function 199) 1; place = at; stacked = 0 } ∷ [])
    (Text (n ∷ []))

-- ---- which output statements the statements of a program are

-- a part of a list is these bytes: a string, or a semicolon
abbrev pub IsPart : List ℕ → Part → List ℕ → Type 0
IsPart text (Shows nodes) bytes = IsConstant text nodes (Text bytes)
IsPart text Semicolon bytes = bytes ≡ []
IsPart text (Tab nodes) bytes = ⊥
IsPart text (Spaces nodes) bytes = ⊥
IsPart text Comma bytes = ⊥

-- parts are these bytes, one after another
abbrev pub AreParts : List ℕ → List Item → List ℕ → Type 0
AreParts text [] bytes = bytes ≡ []
AreParts text (i ∷ is) bytes = (front : List ℕ) × (rest : List ℕ)
    × IsPart text i.part front × AreParts text is rest × (bytes ≡ front ++ rest)

-- a list is this line
pub record IsList (text : List ℕ) (items : List Item) (line : Line) : Type 0 where
  pub parts : AreParts text items line.bytes
  pub ends : line.ends ≡ ends_after true items
  pub short : length line.bytes ≤ byte_limit

-- an output statement is what a statement of a program says
abbrev pub Says : List ℕ → Output → Statement → Type 0
Says text (OpenFile file device None) s = (f : List Placed) × (d : List Placed) × (s ≡ Open (f ∷ d ∷ []))
    × IsNumber text f file × IsNumber text d device × (4 ≤ device) × (device ≤ 30)
Says text (OpenFile file device (Some second)) s = (f : List Placed) × (d : List Placed) × (a : List Placed)
    × (s ≡ Open (f ∷ d ∷ a ∷ [])) × IsNumber text f file × IsNumber text d device × IsNumber text a second
    × (4 ≤ device) × (device ≤ 30) × (second ≤ 15)
Says text (Cmd file line) s = (f : List Placed) × (is : List Item) × (s ≡ Command f is)
    × IsNumber text f file × IsList text is line
Says text (PrintTo file line) s = (f : List Placed) × (is : List Item) × (s ≡ PrintFile f is)
    × IsNumber text f file × IsList text is line
Says text (Printed line) s = (is : List Item) × (s ≡ Print is) × IsList text is line
Says text (CloseFile file) s = (f : List Placed) × (s ≡ Close (f ∷ [])) × IsNumber text f file
Says text Rem s = ⊥

-- the statements of a line say these output statements; an empty statement and REM say nothing
abbrev pub LineSays : List ℕ → List PlacedStatement → List Output → Type 0
LineSays text [] os = os ≡ []
LineSays text (s ∷ ss) os = ((s.statement ≡ Nothing) × LineSays text ss os)
    ⊎ ((o : Output) × (more : List Output) × Says text o s.statement × LineSays text ss more × (os ≡ o ∷ more))

-- output statements with the number of their line
abbrev pub in_line : ℕ → List Output → List Performed
in_line number os = map (λ o. record { line = number; statement = o }) os

-- lines say these output statements, one line after another
abbrev pub LinesSay : List ℕ → List ProgramLine → List Performed → Type 0
LinesSay text [] said = said ≡ []
LinesSay text (l ∷ ls) said = (os : List Output) × (more : List Performed)
    × LineSays text l.statements os × LinesSay text ls more × (said ≡ in_line l.number os ++ more)

-- ---- what is performed of them

abbrev pub error_unless : Bool → Option BasicError
error_unless true = None
error_unless false = Some FileNotOpen

-- the error of an output statement where these files are open, if it has one
abbrev pub error_of : List ℕ → Output → Option BasicError
error_of files (OpenFile file device second) = open_error file files
error_of files (Cmd file line) = error_unless (is_open file files)
error_of files (PrintTo file line) = error_unless (is_open file files)
error_of files (Printed line) = None
error_of files (CloseFile file) = None
error_of files Rem = None

-- the open files after it
abbrev pub files_after : List ℕ → Output → List ℕ
files_after files (OpenFile file device second) = files ++ file ∷ []
files_after files (Cmd file line) = files
files_after files (PrintTo file line) = files
files_after files (Printed line) = files
files_after files (CloseFile file) = filter (λ f. not (f == file)) files
files_after files Rem = files

-- with an error it does not come to its list
abbrev pub failing : Output → Output
failing (OpenFile file device second) = OpenFile file device second
failing (Cmd file line) = Cmd file no_line
failing (PrintTo file line) = PrintTo file no_line
failing (Printed line) = Printed line
failing (CloseFile file) = CloseFile file
failing Rem = Rem

abbrev pub performed_by : Option BasicError → Performed → Outcome → Outcome
performed_by (Some e) d rest = outcome (record d { statement = failing d.statement } ∷ []) (Error e d.line) None
performed_by None d rest = record rest { performed = d ∷ rest.performed }

-- output statements, performed in order up to the first that has an error, where these files are open
abbrev pub in_order : List ℕ → List Performed → Outcome
in_order files [] = outcome [] LastLine None
in_order files (d ∷ ds) = performed_by (error_of files d.statement) d (in_order (files_after files d.statement) ds)

-- how many steps lines take at most: one for each statement, and one for each line's end
abbrev pub step_count : List ProgramLine → ℕ
step_count [] = 0
step_count (l ∷ ls) = length l.statements + 1 + step_count ls

-- a plain program for which the machine surely has the memory performs in order what it says
abbrev pub PlainRuns : Type 0
PlainRuns = (p : Program) (said : List Performed) (limit : ℕ) → program_bytes p ≤ memory_limit
    → LinesSay p.text p.lines said → step_count p.lines ≤ limit → run limit p ≡ in_order [] said

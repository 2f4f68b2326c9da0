-- Trusted: one step of a run.
use Rattle.std.specs.Prelude.{ℕ, ◌||◌, ◌&&◌, Bool, List, [], ◌∷◌, nat_le, if◌then◌else◌, Option, Some, None, Ok}
use Rattle.std.specs.Prelude.{Err}
use Rattle.pr_interpreter.specs.declared.expressions.Placed.{Placed}
use Rattle.pr_interpreter.specs.declared.memory.Function.{Function}
use Rattle.pr_interpreter.specs.declared.names.Kind.{Kind}
use Rattle.pr_interpreter.specs.declared.names.Kind.TheVariants.{Number as Numeric, Text as Letters, Whole as Short}
use Rattle.pr_interpreter.specs.declared.names.Name.{Name}
use Rattle.pr_interpreter.specs.declared.statements.Statement.{Statement}
use Rattle.pr_interpreter.specs.declared.statements.Statement.TheVariants.{Clear, Close, Command, Define, Dim, End, For}
use Rattle.pr_interpreter.specs.declared.statements.Statement.TheVariants.{Go, If, Let, Next, NoStatement, Nothing}
use Rattle.pr_interpreter.specs.declared.statements.Statement.TheVariants.{NotTaken, On, Open, Poke}
use Rattle.pr_interpreter.specs.declared.statements.Statement.TheVariants.{Print, PrintFile, Read, Restore, Return}
use Rattle.pr_interpreter.specs.declared.statements.Statement.TheVariants.{Stop}
use Rattle.pr_interpreter.specs.declared.values.BasicError.{BasicError}
use Rattle.pr_interpreter.specs.declared.values.BasicError.TheVariants.{Syntax, TypeMismatch}
use Rattle.pr_interpreter.specs.Memory.{same_name}
use Rattle.pr_run.specs.declared.ending.Ending.{Ending}
use Rattle.pr_run.specs.declared.ending.Ending.TheVariants.{Break, End as Ended, Error, LastLine, Refused}
use Rattle.pr_run.specs.declared.ending.Refusal.TheVariants.{NotTaken as Unknown, Poke as Poked}
use Rattle.pr_run.specs.declared.performed.Performed.{Performed}
use Rattle.pr_run.specs.Items.{read_statement, restore_statement}
use Rattle.pr_run.specs.Jumps.{for_statement, if_statement, jump, next_statement, on_statement, return_statement}
use Rattle.pr_run.specs.Outputs.{Output, close_statement, command_statement, open_statement, print_file_statement}
use Rattle.pr_run.specs.Outputs.{print_statement}
use Rattle.pr_run.specs.Places.{Found, Doing, LineEnd, ProgramEnd, after_statement, found_at}
use Rattle.pr_run.specs.declared.programs.Program.{Program}
use Rattle.pr_run.specs.States.{State, next_line}
use Rattle.pr_run.specs.Assignments.{clear_statement, declared, dim_statement, in_memory, is_system}
use Rattle.pr_run.specs.Assignments.{let_statement, replaced}
use Rattle.pr_run.specs.declared.uses.Use.{Use}
use Rattle.pr_run.specs.Uses.{Worked, line_at, statement_place, statement_use}
use Rattle.pr_run.specs.Worked.{then_on, whole}

-- ---- DEF FN and POKE

unfoldable pub with_function : Function → List Function → List Function
with_function f fs = replaced (λ g. same_name f.name g.name) f fs

-- the error of a name with DEF FN, if there is one
abbrev pub kind_error : Kind → Option BasicError
kind_error Short = Some Syntax
kind_error Letters = Some TypeMismatch
kind_error Numeric = None

abbrev pub or_error : Option BasicError → Option BasicError → Option BasicError
or_error (Some e) more = Some e
or_error None more = more

-- the error of DEF FN, if there is one: the name of the function comes first; its variable is not TI or ST
abbrev pub define_error : Name → Name → Option BasicError
define_error name variable =
    or_error (kind_error name.kind)
    (or_error (kind_error variable.kind) (if is_system variable [] then Some Syntax else None))

abbrev pub defined : Function → State → State
defined f s = record s { functions = with_function f s.functions; variables = declared f.variable s.variables }

abbrev pub define_or : Program → Use → Option BasicError → Function → State → Worked State
define_or p u (Some e) f s = Err (Error e u.line)
define_or p u None f s = in_memory p u (defined f s)

-- DEF FN: nothing is worked out yet, but there is a variable of its variable's name
unfoldable pub define_statement : Program → State → Name → Name → List Placed → Worked State
define_statement p s name variable nodes =
    define_or p (statement_use p s) (define_error name variable)
    (record { name = name; variable = variable; value = nodes }) s

-- Addresses where POKE cannot change what is printed: the screen, and the chips for picture, sound and colour. The
-- chips after them have the timers and the lines of the bus.
abbrev pub is_harmless : ℕ → Bool
is_harmless a = (nat_le 1024 a && nat_le a 2023) || (nat_le 53248 a && nat_le a 56319)

abbrev pub or_else : Option ℕ → ℕ → Option ℕ
or_else (Some first) n = Some first
or_else None n = Some n

-- a POKE of a line is left out: the line of the first one is kept
abbrev pub poke_skipped : ℕ → State → State
poke_skipped line s = record s { skipped_poke = or_else s.skipped_poke line }

abbrev pub poke_at : Use → ℕ → State → Worked State
poke_at u a s = if is_harmless a then Ok (poke_skipped u.line s) else Err (Refused (Poked a) u.place)

-- POKE is left out where it cannot change what is printed
unfoldable pub poke_statement : Program → State → List Placed → List Placed → Worked State
poke_statement p s address value =
    then_on (whole 65535 p s address) (λ a t. then_on (whole 255 p t value) (λ b u. poke_at (statement_use p u) a u))

-- ---- steps

-- what a step gives: the next state, or the run's end; and the statement that it performs, if it is one for output
pub data Turn : Type 0 where
  Goes : State → List Performed → Turn
  Ends : List Performed → Ending → Turn

-- a statement that performs nothing
abbrev pub quiet : Worked State → Turn
quiet (Ok s) = Goes s []
quiet (Err ending) = Ends [] ending

abbrev pub output_turn : ℕ → Option BasicError → Output → Turn
output_turn line None o = Goes o.after (record { line = line; statement = o.statement } ∷ [])
output_turn line (Some e) o = Ends (record { line = line; statement = o.statement } ∷ []) (Error e line)

-- an output statement of a line
abbrev pub output : ℕ → Worked Output → Turn
output line (Ok o) = output_turn line o.error o
output line (Err ending) = Ends [] ending

-- the state after a statement that is none for output, in a state whose place is the one after it
unfoldable pub changed : Program → State → Statement → Worked State
changed p s Nothing = Ok s
changed p s (Let target value) = let_statement p s target value
changed p s (If condition line) = if_statement p s condition line
changed p s (For variable from to step) = for_statement p s variable from to step
changed p s (Next variables) = next_statement p s variables
changed p s (Go way line) = jump p way line s
changed p s Return = return_statement p s
changed p s (On choice way lines) = on_statement p s choice way lines
changed p s (Read targets) = read_statement p s targets
changed p s Restore = Ok (restore_statement s)
changed p s (Dim arrays) = dim_statement p s arrays
changed p s (Define name variable value) = define_statement p s name variable value
changed p s (Poke address value) = poke_statement p s address value
changed p s Clear = clear_statement p s
changed p s Stop = Err (Break (line_at p s))
changed p s End = Err (Ended (line_at p s))
changed p s NoStatement = Err (Error Syntax (line_at p s))
changed p s NotTaken = Err (Refused Unknown (statement_place p s))
changed p s output = Ok s

-- what a statement does in such a state
unfoldable pub turn : Program → State → Statement → Turn
turn p s (Print items) = output (line_at p s) (print_statement p s items)
turn p s (PrintFile file items) = output (line_at p s) (print_file_statement p s file items)
turn p s (Command file items) = output (line_at p s) (command_statement p s file items)
turn p s (Open values) = output (line_at p s) (open_statement p s values)
turn p s (Close values) = output (line_at p s) (close_statement p s values)
turn p s other = quiet (changed p s other)

abbrev pub turn_at : Program → State → Found → Turn
turn_at p s (Doing statement) = turn p (record s { place = after_statement s.place }) statement
turn_at p s LineEnd = Goes (next_line s) []
turn_at p s ProgramEnd = Ends [] LastLine

-- a step: a statement, or from the end of a line to the next one
unfoldable pub step : Program → State → Turn
step p s = turn_at p s (found_at p.lines s.place)

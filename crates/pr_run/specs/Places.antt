-- Trusted: what is at a place of a program, and the places that a statement leads to.
use Rattle.std.specs.Prelude.{ℕ, ◌+◌, ◌-◌, ◌==◌, List, [], ◌∷◌, Option, Some, None, if◌then◌else◌}
use Rattle.std.specs.List.{slice_get}
use Rattle.pr_interpreter.specs.declared.program.ProgramLine.{ProgramLine}
use Rattle.pr_interpreter.specs.declared.statements.PlacedStatement.{PlacedStatement}
use Rattle.pr_interpreter.specs.declared.statements.Statement.{Statement}
use Rattle.pr_run.specs.declared.place.Place.{Place}

-- a statement, the end of a line, or the end of the program
pub data Found : Type 0 where
  Doing : Statement → Found
  LineEnd : Found
  ProgramEnd : Found

abbrev pub found_in : Option PlacedStatement → Found
found_in None = LineEnd
found_in (Some s) = Doing s.statement

abbrev pub found_on : Option ProgramLine → ℕ → Found
found_on None n = ProgramEnd
found_on (Some l) n = found_in (slice_get l.statements n)

-- what is at a place
unfoldable pub found_at : List ProgramLine → Place → Found
found_at lines p = found_on (slice_get lines p.line) p.statement

abbrev pub start_of : Option PlacedStatement → ℕ
start_of None = 0
start_of (Some s) = s.place

abbrev pub start_on : Option ProgramLine → ℕ → ℕ
start_on None n = 0
start_on (Some l) n = start_of (slice_get l.statements n)

-- where the statement before a place begins, as the number of bytes before it in the text
unfoldable pub start_before : List ProgramLine → Place → ℕ
start_before lines p = start_on (slice_get lines p.line) (p.statement - 1)

-- the number of the line that a place is in
abbrev pub number_of : Option ProgramLine → ℕ
number_of None = 0
number_of (Some l) = l.number

unfoldable pub number_at : List ProgramLine → Place → ℕ
number_at lines p = number_of (slice_get lines p.line)

-- the place after a statement
abbrev pub after_statement : Place → Place
after_statement p = record p { statement = p.statement + 1 }

-- where the next line begins
abbrev pub after_line : Place → Place
after_line p = record { line = p.line + 1; statement = 0 }

-- where the line of a number begins, of lines of which so many come before
abbrev pub begin_from : ℕ → ℕ → List ProgramLine → Option Place
begin_from number at [] = None
begin_from number at (l ∷ ls) =
    if l.number == number then Some (record { line = at; statement = 0 }) else begin_from number (at + 1) ls

-- where the line of a number begins
unfoldable pub beginning : ℕ → List ProgramLine → Option Place
beginning number lines = begin_from number 0 lines

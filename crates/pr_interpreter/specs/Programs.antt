-- Trusted: the program that a text is: its lines in the order of their numbers, each with its statements.
use Rattle.std.specs.Prelude.{ℕ, List, [], ◌∷◌, ◌++◌, slice_range, Result, Ok, Err}
use Rattle.pr_interpreter.specs.declared.fault.ProgramFault.{ProgramFault}
use Rattle.pr_interpreter.specs.declared.lines.Line.{Line}
use Rattle.pr_interpreter.specs.declared.program.ProgramLine.{ProgramLine}
use Rattle.pr_interpreter.specs.declared.statements.PlacedStatement.{PlacedStatement}
use Rattle.pr_interpreter.specs.declared.symbols.Writing.TheVariants.{Typed}
use Rattle.pr_interpreter.specs.Lexemes.{line_lexemes}
use Rattle.pr_interpreter.specs.Lines.{program_lines}
use Rattle.pr_interpreter.specs.Statements.{statements}

-- a line of a number with what is read of it
abbrev pub numbered : ℕ → Result (List PlacedStatement) ProgramFault → Result ProgramLine ProgramFault
numbered number (Ok found) = Ok (record { number = number; statements = found })
numbered number (Err fault) = Err fault

-- a line of a text as typed, with its statements
unfoldable pub program_line : List ℕ → Line → Result ProgramLine ProgramFault
program_line text l =
    numbered l.number (statements l.end (line_lexemes Typed l.start (slice_range text l.start l.end)))

abbrev pub or_stop : {A B : Type 0} → Result A ProgramFault → (A → Result B ProgramFault) → Result B ProgramFault
or_stop (Ok a) more = more a
or_stop (Err fault) more = Err fault

-- lines with their statements, after those that were read; the first fault counts
abbrev pub each_line : List ℕ → List ProgramLine → List Line → Result (List ProgramLine) ProgramFault
each_line text found [] = Ok found
each_line text found (l ∷ ls) = or_stop (program_line text l) (λ p. each_line text (found ++ p ∷ []) ls)

-- the program that a text is
unfoldable pub program : List ℕ → Result (List ProgramLine) ProgramFault
program text = or_stop (program_lines text) (λ lines. each_line text [] lines)

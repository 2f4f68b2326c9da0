-- Linking words: the statements of a script, or its first fault and its place, read line by line. The laws of the crate tie them to the
-- grammar and to the table of faults. No reader needs to believe them.
use Rattle.std.specs.Prelude.{ℕ, suc, ◌+◌, ◌-◌, ◌==◌, List, [], ◌∷◌, length, ◌++◌, take, Bool, false, Option, Some, None, Result, Ok, Err, nat_le, if◌then◌else◌}
use Rattle.pr_basic.specs.Limits.{line_number_limit, statement_limit}
use Rattle.pr_basic.specs.Lexemes.{Lexeme, Colon, Digits}
use Rattle.pr_basic.specs.Lexing.{lexemes_of, past, unspaced}
use Rattle.pr_basic.specs.Grammar.{parts, without_return}
use Rattle.pr_base.specs.Digits.{number_of}
use Rattle.pr_base.specs.Lines.{lines_of}
use Rattle.pr_basic.specs.FaultRules.{Placed, begins_statement, start_of}
use Rattle.pr_basic.specs.Reading.{statement_in, ◌>>=◌}
use Rattle.pr_basic.specs.declared.fault.LineFault.{LineFault}
use Rattle.pr_basic.specs.declared.fault.LineFault.TheVariants.{BadNumber, TooMany}
use Rattle.pr_basic.specs.declared.statement.Statement.{Statement}

-- a place in a line: the lexemes before it, and how many bytes of the next one come before it
pub record Passed : Type 0 where
  pub done : List Lexeme
  pub inside : ℕ

-- a line's optional number of at most 63999, and the lexemes after it
unfoldable pub split_number : List Lexeme → Result (List Lexeme × List Lexeme) (LineFault × Passed)
split_number (Digits ds ∷ ls) =
    if nat_le (number_of ds) line_number_limit then Ok (Digits ds ∷ [], ls)
    else Err (BadNumber, record { done = []; inside = 0 })
split_number ls = Ok ([], ls)

-- the digits that are first
unfoldable pub first_digits : List Lexeme → List Lexeme
first_digits (Digits ds ∷ ls) = Digits ds ∷ []
first_digits ls = []

-- a statement begins with the first lexeme
abbrev pub is_begun : List Lexeme → Bool
is_begun [] = false
is_begun (l ∷ ls) = begins_statement l

-- one part, where there is room for this many more statements
abbrev pub counted : ℕ → List Lexeme → Result (Option Statement) Placed
counted room part =
    if room == 0 then (if is_begun part then Err (TooMany, start_of part) else statement_in part) else statement_in part

-- the room after a part
abbrev pub room_after : ℕ → Option Statement → ℕ
room_after room None = room
room_after room (Some s) = room - 1

-- the statement of a part, if it has one, before others
abbrev pub and_more : Option Statement → List Statement → List Statement
and_more None ss = ss
and_more (Some s) ss = s ∷ ss

-- the fault of a part, placed by the lexemes before it
abbrev pub in_part : {A : Type 0} → List Lexeme → Result A Placed → Result A (LineFault × Passed)
in_part part (Ok x) = Ok x
in_part part (Err (f, at)) = Err (f, record { done = take (length part - length at.next) part; inside = at.inside })

-- what is read after some lexemes
abbrev pub behind : {A : Type 0} → List Lexeme → Result A (LineFault × Passed) → Result A (LineFault × Passed)
behind front (Ok x) = Ok x
behind front (Err (f, at)) = Err (f, record { done = front ++ at.done; inside = at.inside })

-- the statements of some parts, in order
unfoldable pub statements_in : ℕ → List (List Lexeme) → Result (List Statement) (LineFault × Passed)
statements_in room [] = Ok []
statements_in room (p ∷ ps) = in_part p (counted room p) >>= λ s.
    behind (p ++ Colon ∷ []) (statements_in (room_after room s) ps) >>= λ ss. Ok (and_more s ss)

-- the statements of a line's lexemes
abbrev pub statements_of : ℕ → List Lexeme → Result (List Statement) (LineFault × Passed)
statements_of room lexemes = split_number lexemes >>= λ p. behind p.0 (statements_in room (parts p.1))

-- how many bytes of a line come before a place
abbrev pub column_of : List ℕ → Passed → ℕ
column_of line at = length line - (length (unspaced (past (length at.done) line)) - at.inside)

-- a fault with its column
abbrev pub in_line : {A : Type 0} → List ℕ → Result A (LineFault × Passed) → Result A (LineFault × ℕ)
in_line line (Ok x) = Ok x
in_line line (Err (f, at)) = Err (f, column_of line at)

-- the statements of a line
abbrev pub line_statements : ℕ → List ℕ → Result (List Statement) (LineFault × ℕ)
line_statements room line = in_line (without_return line) (statements_of room (lexemes_of (without_return line)))

-- a fault of a script, with its line's number and how many bytes come before it
pub record ScriptError : Type 0 where
  pub fault : LineFault
  pub number : ℕ
  pub place : ℕ

-- a line's fault, with the line's number and where the line begins
abbrev pub at_line : {A : Type 0} → ℕ → ℕ → Result A (LineFault × ℕ) → Result A ScriptError
at_line n start (Ok x) = Ok x
at_line n start (Err (f, column)) = Err (record { fault = f; number = n; place = start + column })

-- the statements of the lines from line n on, which begin after this many bytes
unfoldable pub lines_statements : ℕ → ℕ → ℕ → List (List ℕ) → Result (List Statement) ScriptError
lines_statements n start room [] = Ok []
lines_statements n start room (l ∷ ls) = at_line n start (line_statements room l) >>= λ ss.
    lines_statements (n + 1) (start + suc (length l)) (room - length ss) ls >>= λ more. Ok (ss ++ more)

-- the statements of a script, or its first fault
abbrev pub script_of : List ℕ → Result (List Statement) ScriptError
script_of bytes = lines_statements 1 0 statement_limit (lines_of bytes)

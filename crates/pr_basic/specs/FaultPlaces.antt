-- Trusted: the place of the first fault of a script: the number of bytes of the text before it.
use Rattle.std.specs.Prelude.{◌≡◌, IsTrue, ℕ, suc, ◌+◌, ◌-◌, ◌≤◌, ◌<◌, ◌⊎◌, List, [], ◌∷◌, ◌++◌, length}
use Rattle.std.specs.List.{list_all}
use Rattle.pr_basic.specs.Limits.{line_number_limit, statement_limit}
use Rattle.pr_basic.specs.Lexemes.{AreLexemes, IsLexeme, Lexeme, Digits, Colon, NoSpace, is_space}
use Rattle.pr_basic.specs.Grammar.{AreLines, AreParts, HasNumber, parts, without_return}
use Rattle.pr_basic.specs.FaultRules.{IsPartFault, within}
use Rattle.pr_base.specs.Digits.{number_of}
use Rattle.pr_base.specs.Lines.{lines_of}
use Rattle.pr_basic.specs.declared.statement.Statement.{Statement}
use Rattle.pr_basic.specs.declared.fault.LineFault.{LineFault}
use Rattle.pr_basic.specs.declared.fault.LineFault.TheVariants.{UnknownWord, BadNumber, BadDevice, BadSecond, BadByte, TooLong, TooMany, NoMemory}
use Rattle.pr_basic.specs.declared.fault.ScriptFault.{ScriptFault}
use Rattle.pr_basic.specs.declared.fault.ScriptFault.TheVariants as script

-- the lexemes of parts, with a colon after each part
abbrev pub with_colons : List (List Lexeme) → List Lexeme
with_colons [] = []
with_colons (p ∷ ps) = p ++ Colon ∷ with_colons ps

-- good parts, no more statements than there is room for, and then a part with a fault; `done` has
-- the lexemes before the place of the fault, and `inside` is the number of bytes of the next lexeme
-- before it
pub record ArePartsFault (room : ℕ) (f : LineFault) (done : List Lexeme) (inside : ℕ)
    (ps : List (List Lexeme)) : Type 0 where
  pub before : List (List Lexeme)
  pub part : List Lexeme
  pub after : List (List Lexeme)
  pub statements : List Statement
  pub front : List Lexeme
  pub next : List Lexeme
  pub cut : ps ≡ before ++ part ∷ after
  pub good : AreParts before statements
  pub few : length statements ≤ room
  pub fault : IsPartFault (room - length statements) (f, within next inside) part
  pub halves : part ≡ front ++ next
  pub at : done ≡ with_colons before ++ front

-- the first fault of a line's lexemes: a line number above 63999 at the front, or a fault after the
-- line number, if there is one
abbrev pub IsFaultOfLexemes : ℕ → LineFault → List Lexeme → ℕ → List Lexeme → Type 0
IsFaultOfLexemes room f done inside lexemes =
    ((f ≡ BadNumber) × (ds : List ℕ) × (rest : List Lexeme) × (lexemes ≡ Digits ds ∷ rest)
    × (line_number_limit < number_of ds) × (done ≡ []) × (inside ≡ 0))
    ⊎ ((rest : List Lexeme) × (number : List Lexeme) × (front : List Lexeme)
    × HasNumber lexemes rest × (lexemes ≡ number ++ rest)
    × ArePartsFault room f front inside (parts rest) × (done ≡ number ++ front))

-- a line begins with these lexemes; `left` has the bytes after them and after the spaces that follow
abbrev pub BeginsWith : List ℕ → List Lexeme → List ℕ → Type 0
BeginsWith line [] left = (spaces : List ℕ) × (line ≡ spaces ++ left)
    × IsTrue (list_all is_space spaces) × NoSpace left
BeginsWith line (l ∷ ls) left = (spaces : List ℕ) × (bytes : List ℕ) × (after : List ℕ)
    × (line ≡ spaces ++ (bytes ++ after)) × IsTrue (list_all is_space spaces)
    × IsLexeme l bytes after × BeginsWith after ls left

-- the first fault of a line without its end; `column` is the number of the line's bytes before its place
pub record IsLineFault (room : ℕ) (f : LineFault) (column : ℕ) (line : List ℕ) : Type 0 where
  pub lexemes : List Lexeme
  pub done : List Lexeme
  pub inside : ℕ
  pub left : List ℕ
  pub found : AreLexemes line lexemes
  pub fault : IsFaultOfLexemes room f done inside lexemes
  pub begins : BeginsWith line done left
  pub at : column + length left ≡ length line + inside

-- the number of bytes of lines, with a byte 10 after each
abbrev pub size_of : List (List ℕ) → ℕ
size_of [] = 0
size_of (l ∷ ls) = suc (length l) + size_of ls

-- good lines, no more statements than there is room for, and then a line with a fault; `number` is
-- the line's number from 0, and `place` the number of bytes before the fault's place
pub record AreLinesFault (room : ℕ) (f : LineFault) (number place : ℕ)
    (lines : List (List ℕ)) : Type 0 where
  pub before : List (List ℕ)
  pub line : List ℕ
  pub after : List (List ℕ)
  pub statements : List Statement
  pub column : ℕ
  pub cut : lines ≡ before ++ line ∷ after
  pub good : AreLines before statements
  pub few : length statements ≤ room
  pub fault : IsLineFault (room - length statements) f column (without_return line)
  pub numbered : number ≡ length before
  pub at : place ≡ size_of before + column

-- a line's fault, with the line's number
abbrev pub at_number : LineFault → ℕ → ScriptFault
at_number UnknownWord n = script.UnknownWord n
at_number BadNumber n = script.BadNumber n
at_number BadDevice n = script.BadDevice n
at_number BadSecond n = script.BadSecond n
at_number BadByte n = script.BadByte n
at_number TooLong n = script.TooLong n
at_number TooMany n = script.TooMany n
at_number NoMemory n = script.NoMemory

-- the first fault of the bytes, with the number of its line from 1; `place` is the number of bytes before it
abbrev pub IsFirstFaultAt : List ℕ → ScriptFault → ℕ → Type 0
IsFirstFaultAt bytes fault place = (f : LineFault) × (number : ℕ)
    × AreLinesFault statement_limit f number place (lines_of bytes)
    × (fault ≡ at_number f (number + 1))

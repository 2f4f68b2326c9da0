-- Trusted: which texts are scripts and programs alike, and that they then say the same.
use Rattle.std.specs.Prelude.{ℕ, ◌≡◌, ◌⊎◌, ◌+◌, ◌≤◌, ◌==◌, ⊤, IsTrue, Bool, true, false, not, List, [], ◌∷◌}
use Rattle.std.specs.Prelude.{◌++◌, length, map, Ok}
use Rattle.std.specs.List.{filter, list_all}
use Rattle.pr_base.specs.Digits.{number_of}
use Rattle.pr_base.specs.Lines.{lines_of}
use Rattle.pr_basic.specs.Grammar.{IsLine, IsScript, without_return}
use Rattle.pr_basic.specs.Lexemes.{CloseParen, Colon, Comma, Digits, IsLexeme, Lexeme, OpenParen, Quoted}
use Rattle.pr_basic.specs.Lexemes.{Remark, Semicolon, Stray, Word}
use Rattle.pr_basic.specs.LineAt.{HasBasicNumber}
use Rattle.pr_basic.specs.declared.statement.Statement.{Statement as Output}
use Rattle.pr_basic.specs.declared.statement.Statement.TheVariants.{CloseFile, Cmd, OpenFile, Print, PrintTo, Rem}
use Rattle.pr_interpreter.specs.declared.program.ProgramLine.{ProgramLine}
use Rattle.pr_interpreter.specs.Programs.{program}
use Rattle.pr_run.specs.declared.performed.Performed.{Performed}
use Rattle.pr_run.specs.declared.programs.Program.{Program}
use Rattle.pr_run.specs.Memory.{memory_limit, program_bytes}
use Rattle.pr_run.specs.Plain.{LinesSay, in_line, in_order, step_count}
use Rattle.pr_run.specs.Runs.{program_of, run}

-- ---- texts that are both

-- a blank; no tab (9), which is a space in scripts alone
abbrev pub is_blank : ℕ → Bool
is_blank b = b == 32

-- no carriage return, which ends a line of a program wherever it is
abbrev pub is_no_return : ℕ → Bool
is_no_return b = not (b == 13)

-- bytes are these lexemes, as `AreLexemes` has them, but with blanks alone around them
abbrev pub AreSpaced : List ℕ → List Lexeme → Type 0
AreSpaced line [] = IsTrue (list_all is_blank line)
AreSpaced line (l ∷ ls) = (blanks : List ℕ) × (bytes : List ℕ) × (after : List ℕ)
    × (line ≡ blanks ++ (bytes ++ after)) × IsTrue (list_all is_blank blanks)
    × IsLexeme l bytes after × AreSpaced after ls

-- a number has at most 255 digits
abbrev pub IsShort : Lexeme → Type 0
IsShort (Digits ds) = length ds ≤ 255
IsShort (Word k) = ⊤
IsShort Remark = ⊤
IsShort (Quoted s) = ⊤
IsShort Comma = ⊤
IsShort Semicolon = ⊤
IsShort Colon = ⊤
IsShort OpenParen = ⊤
IsShort CloseParen = ⊤
IsShort Stray = ⊤

abbrev pub AreShort : List Lexeme → Type 0
AreShort [] = ⊤
AreShort (l ∷ ls) = IsShort l × AreShort ls

-- a line, without its end, begins with a number; what follows is taken alike by scripts and programs
pub record IsNumberedLine (line : List ℕ) (n : ℕ) : Type 0 where
  pub digits : List ℕ
  pub rest : List Lexeme
  pub spelled : AreSpaced line (Digits digits ∷ rest)
  pub number : number_of digits ≡ n
  pub short : AreShort rest
  pub one_row : IsTrue (list_all is_no_return line)

-- each line is blank or begins with a number, the first with at least so much and each other with more than the one
-- before it
abbrev pub AreNumbered : ℕ → List (List ℕ) → Type 0
AreNumbered least [] = ⊤
AreNumbered least (l ∷ ls) = (IsTrue (list_all is_blank (without_return l)) × AreNumbered least ls)
    ⊎ ((n : ℕ) × IsNumberedLine (without_return l) n × (least ≤ n) × AreNumbered (n + 1) ls)

-- ---- what they say

-- a remark performs nothing
abbrev pub is_performed : Output → Bool
is_performed Rem = false
is_performed (OpenFile file device second) = true
is_performed (Cmd file line) = true
is_performed (PrintTo file line) = true
is_performed (Print line) = true
is_performed (CloseFile file) = true

abbrev pub statement_of : Performed → Output
statement_of d = d.statement

-- output statements come from lines of a script, one line after another, each with the number of its line
abbrev pub AreFrom : List (List ℕ) → List Performed → Type 0
AreFrom [] said = said ≡ []
AreFrom (l ∷ ls) said = (n : ℕ) × (ss : List Output) × (more : List Performed)
    × IsLine (without_return l) ss × (HasBasicNumber (without_return l) n ⊎ (ss ≡ []))
    × (said ≡ in_line n (filter is_performed ss) ++ more) × AreFrom ls more

-- a text that is a script of some statements, and whose lines are numbered in order, is a program that says the same
-- statements but for remarks
abbrev pub TextsSayTheSame : Type 0
TextsSayTheSame = (text : List ℕ) (ss : List Output) → IsScript text ss → AreNumbered 0 (lines_of text)
    → (lines : List ProgramLine) × (said : List Performed) × (program text ≡ Ok lines) × LinesSay text lines said
    × AreFrom (lines_of text) said × (map statement_of said ≡ filter is_performed ss)

-- and for which the machine surely has the memory, performs these statements in order, up to the first that has an
-- error
abbrev pub ScriptsRun : Type 0
ScriptsRun = (text : List ℕ) (ss : List Output) → IsScript text ss → AreNumbered 0 (lines_of text)
    → (p : Program) × (said : List Performed) × (program_of text ≡ Ok p)
    × AreFrom (lines_of text) said × (map statement_of said ≡ filter is_performed ss)
    × ((limit : ℕ) → program_bytes p ≤ memory_limit → step_count p.lines ≤ limit → run limit p ≡ in_order [] said)

-- Trusted: how the lexemes of a line spell output statements with constants, as the grammar of scripts has it.
use Rattle.std.specs.Prelude.{ℕ, ◌≡◌, ◌⊎◌, ◌-◌, ◌≤◌, Bool, true, false, List, [], ◌∷◌, ◌++◌, length, slice_range}
use Rattle.std.specs.Prelude.{Some, None, Ok}
use Rattle.pr_basic.specs.Limits.{byte_limit}
use Rattle.pr_basic.specs.Text.{Text as Line}
use Rattle.pr_basic.specs.declared.statement.Statement.{Statement as Output}
use Rattle.pr_basic.specs.declared.statement.Statement.TheVariants.{CloseFile, Cmd, OpenFile, Print as Printed, PrintTo}
use Rattle.pr_basic.specs.declared.statement.Statement.TheVariants.{Rem}
use Rattle.pr_interpreter.specs.declared.constants.Tens.TheVariants.{Times}
use Rattle.pr_interpreter.specs.declared.lexemes.Lexeme.{Lexeme}
use Rattle.pr_interpreter.specs.declared.lexemes.Word.{Word}
use Rattle.pr_interpreter.specs.declared.lexemes.Word.TheVariants.{Code, Constant, Remark, Text}
use Rattle.pr_interpreter.specs.declared.statements.PlacedStatement.{PlacedStatement}
use Rattle.pr_interpreter.specs.Statements.{statements}
use Rattle.pr_run.specs.Outputs.{no_line}
use Rattle.pr_run.specs.Plain.{LineSays}

abbrev pub lexeme : ℕ → Word → Lexeme
lexeme place word = record { word = word; place = place }

-- the digits of a number
abbrev pub number : ℕ → ℕ → Lexeme
number place n =
    lexeme place (Constant (record { digits = n; more = false; tens = Times 0; roundings = 0; plain = true }))

-- an item of a list, with the places of its lexemes: a semicolon, a string, or CHR$ of a number
pub data Listed : Type 0 where
  Semi : ℕ → Listed
  Quote : ℕ → ℕ → ℕ → Listed
  Character : ℕ → ℕ → ℕ → ℕ → ℕ → Listed

abbrev pub item_lexemes : Listed → List Lexeme
item_lexemes (Semi p) = lexeme p (Code 59) ∷ []
item_lexemes (Quote p start end) = lexeme p (Text start end) ∷ []
item_lexemes (Character p q r s n) = lexeme p (Code 199) ∷ lexeme q (Code 40) ∷ number r n ∷ lexeme s (Code 41) ∷ []

abbrev pub items_lexemes : List Listed → List Lexeme
items_lexemes [] = []
items_lexemes (i ∷ is) = item_lexemes i ++ items_lexemes is

abbrev pub item_bytes : List ℕ → Listed → List ℕ
item_bytes text (Semi p) = []
item_bytes text (Quote p start end) = slice_range text start end
item_bytes text (Character p q r s n) = n ∷ []

abbrev pub items_bytes : List ℕ → List Listed → List ℕ
items_bytes text [] = []
items_bytes text (i ∷ is) = item_bytes text i ++ items_bytes text is

-- a string is in the text, and has at most 255 bytes; a number is at most 255
abbrev pub IsGood : List ℕ → Listed → Type 0
IsGood text (Semi p) = Unit {0}
IsGood text (Quote p start end) = (start ≤ end) × (end ≤ length text) × (end - start ≤ 255)
IsGood text (Character p q r s n) = n ≤ 255

abbrev pub AreGood : List ℕ → List Listed → Type 0
AreGood text [] = Unit {0}
AreGood text (i ∷ is) = IsGood text i × AreGood text is

-- a line ends after its list, unless the last item is a semicolon
abbrev pub ends_after : Bool → List Listed → Bool
ends_after ends [] = ends
ends_after ends (Semi p ∷ is) = ends_after false is
ends_after ends (Quote p start end ∷ is) = ends_after true is
ends_after ends (Character p q r s n ∷ is) = ends_after true is

pub record SpellsList (text : List ℕ) (items : List Listed) (line : Line) : Type 0 where
  pub good : AreGood text items
  pub bytes : line.bytes ≡ items_bytes text items
  pub ends : line.ends ≡ ends_after true items
  pub short : length line.bytes ≤ byte_limit

-- what follows a file's number: nothing, or a comma and a list
abbrev pub SpellsMore : List ℕ → Line → List Lexeme → Type 0
SpellsMore text line ls = ((ls ≡ []) × (line ≡ no_line))
    ⊎ ((p : ℕ) × (items : List Listed) × (ls ≡ lexeme p (Code 44) ∷ items_lexemes items) × SpellsList text items line)

-- the lexemes of an output statement
abbrev pub Spells : List ℕ → Output → List Lexeme → Type 0
Spells text (OpenFile file device None) ls = (p : ℕ) × (q : ℕ) × (r : ℕ) × (s : ℕ)
    × (ls ≡ lexeme p (Code 159) ∷ number q file ∷ lexeme r (Code 44) ∷ number s device ∷ [])
    × (file ≤ 255) × (4 ≤ device) × (device ≤ 30)
Spells text (OpenFile file device (Some second)) ls = (p : ℕ) × (q : ℕ) × (r : ℕ) × (s : ℕ) × (t : ℕ) × (u : ℕ)
    × (ls ≡ lexeme p (Code 159) ∷ number q file ∷ lexeme r (Code 44) ∷ number s device ∷ lexeme t (Code 44)
    ∷ number u second ∷ [])
    × (file ≤ 255) × (4 ≤ device) × (device ≤ 30) × (second ≤ 15)
Spells text (Cmd file line) ls = (p : ℕ) × (q : ℕ) × (more : List Lexeme)
    × (ls ≡ lexeme p (Code 157) ∷ number q file ∷ more) × (file ≤ 255) × SpellsMore text line more
Spells text (PrintTo file line) ls = (p : ℕ) × (q : ℕ) × (more : List Lexeme)
    × (ls ≡ lexeme p (Code 152) ∷ number q file ∷ more) × (file ≤ 255) × SpellsMore text line more
Spells text (Printed line) ls = (p : ℕ) × (items : List Listed)
    × (ls ≡ lexeme p (Code 153) ∷ items_lexemes items) × SpellsList text items line
Spells text (CloseFile file) ls = (p : ℕ) × (q : ℕ) × (ls ≡ lexeme p (Code 160) ∷ number q file ∷ []) × (file ≤ 255)
Spells text Rem ls = ⊥

-- a part of a line: nothing, a remark at a place, or an output statement with its lexemes
pub data LinePart : Type 0 where
  Empty : LinePart
  Remarks : ℕ → LinePart
  Performs : Output → List Lexeme → LinePart

abbrev pub part_lexemes : LinePart → List Lexeme
part_lexemes Empty = []
part_lexemes (Remarks p) = lexeme p Remark ∷ []
part_lexemes (Performs o ls) = ls

abbrev pub IsSpelled : List ℕ → LinePart → Type 0
IsSpelled text Empty = Unit {0}
IsSpelled text (Remarks p) = Unit {0}
IsSpelled text (Performs o ls) = Spells text o ls

abbrev pub AreSpelled : List ℕ → List (LinePart × ℕ) → Type 0
AreSpelled text [] = Unit {0}
AreSpelled text (x ∷ xs) = IsSpelled text x.0 × AreSpelled text xs

-- the lexemes of parts, each but the last with a colon at a place
abbrev pub parts_lexemes : List (LinePart × ℕ) → List Lexeme
parts_lexemes [] = []
parts_lexemes (x ∷ []) = part_lexemes x.0
parts_lexemes (x ∷ y ∷ xs) = part_lexemes x.0 ++ (lexeme x.1 (Code 58) ∷ parts_lexemes (y ∷ xs))

abbrev pub part_said : LinePart → List Output → List Output
part_said Empty os = os
part_said (Remarks p) os = os
part_said (Performs o ls) os = o ∷ os

-- their output statements
abbrev pub parts_said : List (LinePart × ℕ) → List Output
parts_said [] = []
parts_said (x ∷ xs) = part_said x.0 (parts_said xs)

-- the lexemes of a line of such parts are read as statements that say its output statements
abbrev pub LinesAreRead : Type 0
LinesAreRead = (text : List ℕ) (end : ℕ) (parts : List (LinePart × ℕ)) → AreSpelled text parts
    → (ss : List PlacedStatement) × (statements end (parts_lexemes parts) ≡ Ok ss)
    × LineSays text ss (parts_said parts)

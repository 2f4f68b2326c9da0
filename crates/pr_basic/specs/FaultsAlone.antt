-- Linking words: the table of faults without their places. A law says that places change no fault,
-- so that a reader needs only one of the two tables; nothing else needs this one.
use Rattle.std.specs.Prelude.{◌≡◌, ℕ, ◌+◌, ◌-◌, ◌≤◌, ◌<◌, ◌⊎◌, true, false, List, [], ◌∷◌, ◌++◌, length}
use Rattle.std.specs.List.{list_all}
use Rattle.pr_basic.specs.Limits.{byte_limit, line_number_limit, statement_limit}
use Rattle.pr_basic.specs.Lexemes.{AreLexemes, Lexeme, Word, Digits, Quoted, Comma, OpenParen, CloseParen}
use Rattle.pr_basic.specs.Grammar.{Item, AreItems, AreLines, AreParts, HasNumber, is_printable, items_bytes, items_lexemes, parts, without_return}
use Rattle.pr_basic.specs.FaultRules.{AfterDevice, AfterFile, AfterSecond, BeginsStatement, HasList, Lacks, NoNumber, begins_item, begins_statement, takes_file, takes_list}
use Rattle.pr_basic.specs.FaultPlaces.{at_number}
use Rattle.pr_base.specs.Digits.{number_of}
use Rattle.pr_base.specs.Lines.{lines_of}
use Rattle.pr_basic.specs.declared.lexemes.Keyword.{Keyword}
use Rattle.pr_basic.specs.declared.lexemes.Keyword.TheVariants as word
use Rattle.pr_basic.specs.declared.statement.Statement.{Statement}
use Rattle.pr_basic.specs.declared.fault.LineFault.{LineFault}
use Rattle.pr_basic.specs.declared.fault.LineFault.TheVariants.{UnknownWord, BadNumber, BadDevice, BadSecond, BadByte, TooLong, TooMany}
use Rattle.pr_basic.specs.declared.fault.ScriptFault.{ScriptFault}

-- a lexeme that a whole statement does not go on with
abbrev pub GoesTooFarAlone : List Lexeme → Type 0
GoesTooFarAlone part = (l : Lexeme) × (ls : List Lexeme)
    × (AfterSecond part (l ∷ ls)
    ⊎ ((AfterDevice part (l ∷ ls) × (l ≡ Comma → ⊥))
    ⊎ (AfterFile word.Close part (l ∷ ls)
    ⊎ ((k : Keyword) × (takes_list k ≡ true) × AfterFile k part (l ∷ ls) × (l ≡ Comma → ⊥)))))

-- the faults outside lists
abbrev pub IsFaultOutsideListsAlone : LineFault → List Lexeme → Type 0
-- no keyword where a statement must begin; what cannot go on the statement; a comma of CMD or PRINT# with no list after it
IsFaultOutsideListsAlone UnknownWord part =
    ((l : Lexeme) × (ls : List Lexeme) × (part ≡ l ∷ ls) × (begins_statement l ≡ false))
    ⊎ (GoesTooFarAlone part
    ⊎ ((k : Keyword) × (takes_list k ≡ true) × AfterFile k part (Comma ∷ [])))
-- a file that is missing or above 255
IsFaultOutsideListsAlone BadNumber part =
    (k : Keyword) × (ls : List Lexeme) × (part ≡ Word k ∷ ls) × (takes_file k ≡ true) × NoNumber 0 255 ls
-- in OPEN no comma after the file, or no device of 4 to 30 after it
IsFaultOutsideListsAlone BadDevice part = (ls : List Lexeme) × AfterFile word.Open part ls
    × ((rest : List Lexeme) → ls ≡ Comma ∷ rest → NoNumber 4 30 rest)
-- after OPEN's second comma no secondary address of at most 15
IsFaultOutsideListsAlone BadSecond part = (ls : List Lexeme) × AfterDevice part (Comma ∷ ls) × NoNumber 0 15 ls
IsFaultOutsideListsAlone f part = ⊥

-- the faults of a list's next item, after this many bytes of the list
abbrev pub IsItemFaultAlone : LineFault → ℕ → List Lexeme → Type 0
-- what begins no item; a missing parenthesis
IsItemFaultAlone UnknownWord n next =
    ((l : Lexeme) × (rest : List Lexeme) × (next ≡ l ∷ rest) × (begins_item l ≡ false))
    ⊎ (((rest : List Lexeme) × (next ≡ Word word.Chr ∷ rest) × Lacks OpenParen rest)
    ⊎ ((ds : List ℕ) × (rest : List Lexeme) × (next ≡ Word word.Chr ∷ OpenParen ∷ Digits ds ∷ rest)
    × (number_of ds ≤ 255) × Lacks CloseParen rest))
-- no digits in CHR$
IsItemFaultAlone BadNumber n next =
    (rest : List Lexeme) × (next ≡ Word word.Chr ∷ OpenParen ∷ rest) × ((ds : List ℕ) → Lacks (Digits ds) rest)
-- a byte outside 32 to 126 in a string, after at most 255 bytes; a CHR$ of more than 255
IsItemFaultAlone BadByte n next =
    ((good : List ℕ) × (b : ℕ) × (more : List ℕ) × (rest : List Lexeme) × (next ≡ Quoted (good ++ b ∷ more) ∷ rest)
    × (list_all is_printable good ≡ true) × (is_printable b ≡ false) × (n + length good ≤ byte_limit))
    ⊎ ((ds : List ℕ) × (rest : List Lexeme) × (next ≡ Word word.Chr ∷ OpenParen ∷ Digits ds ∷ rest)
    × (255 < number_of ds))
-- the 256th byte: one of a string that may be there, or that of a whole CHR$
IsItemFaultAlone TooLong n next =
    ((good : List ℕ) × (b : ℕ) × (more : List ℕ) × (rest : List Lexeme) × (next ≡ Quoted (good ++ b ∷ more) ∷ rest)
    × (list_all is_printable good ≡ true) × (is_printable b ≡ true) × (n + length good ≡ byte_limit))
    ⊎ ((ds : List ℕ) × (rest : List Lexeme) × (next ≡ Word word.Chr ∷ OpenParen ∷ Digits ds ∷ CloseParen ∷ rest)
    × (number_of ds ≤ 255) × (n ≡ byte_limit))
IsItemFaultAlone f n next = ⊥

-- good items, of at most 255 bytes, and then a fault, in a list of which this many bytes are already
pub record IsListFaultAlone (f : LineFault) (n : ℕ) (list : List Lexeme) : Type 0 where
  pub items : List Item
  pub next : List Lexeme
  pub spelled : list ≡ items_lexemes items ++ next
  pub good : AreItems items
  pub short : n + length (items_bytes items) ≤ byte_limit
  pub fault : IsItemFaultAlone f (n + length (items_bytes items)) next

-- the first fault of a statement
abbrev pub IsStatementFaultAlone : LineFault → List Lexeme → Type 0
IsStatementFaultAlone f part =
    IsFaultOutsideListsAlone f part ⊎ ((list : List Lexeme) × HasList part list × IsListFaultAlone f 0 list)

-- the first fault of a part of a line, where there is room for this many more statements: where there is none, a statement's keyword is one
abbrev pub IsPartFaultAlone : ℕ → LineFault → List Lexeme → Type 0
IsPartFaultAlone room f part = ((f ≡ TooMany) × (room ≡ 0) × BeginsStatement part)
    ⊎ (IsStatementFaultAlone f part × (room ≡ 0 → BeginsStatement part → ⊥))

-- good parts, no more statements than there is room for, and then a part with a fault
pub record ArePartsFaultAlone (room : ℕ) (f : LineFault) (ps : List (List Lexeme)) : Type 0 where
  pub before : List (List Lexeme)
  pub part : List Lexeme
  pub after : List (List Lexeme)
  pub statements : List Statement
  pub cut : ps ≡ before ++ part ∷ after
  pub good : AreParts before statements
  pub few : length statements ≤ room
  pub fault : IsPartFaultAlone (room - length statements) f part

-- the first fault of a line without its end: a line number above 63999, or a fault after the line's number, if there is one
abbrev pub IsLineFaultAlone : ℕ → LineFault → List ℕ → Type 0
IsLineFaultAlone room f line = (lexemes : List Lexeme) × AreLexemes line lexemes
    × (((f ≡ BadNumber) × (ds : List ℕ) × (rest : List Lexeme) × (lexemes ≡ Digits ds ∷ rest)
    × (line_number_limit < number_of ds))
    ⊎ ((rest : List Lexeme) × HasNumber lexemes rest × ArePartsFaultAlone room f (parts rest)))

-- good lines, no more statements than there is room for, and then a line with a fault; the line's place from 0
pub record AreLinesFaultAlone (room : ℕ) (f : LineFault) (place : ℕ) (lines : List (List ℕ)) : Type 0 where
  pub before : List (List ℕ)
  pub line : List ℕ
  pub after : List (List ℕ)
  pub statements : List Statement
  pub cut : lines ≡ before ++ line ∷ after
  pub good : AreLines before statements
  pub few : length statements ≤ room
  pub fault : IsLineFaultAlone (room - length statements) f (without_return line)
  pub at : place ≡ length before

-- this is the first fault of the bytes, with the number of its line from 1
abbrev pub IsFirstFaultAlone : List ℕ → ScriptFault → Type 0
IsFirstFaultAlone bytes fault = (f : LineFault) × (place : ℕ)
    × AreLinesFaultAlone statement_limit f place (lines_of bytes) × (fault ≡ at_number f (place + 1))

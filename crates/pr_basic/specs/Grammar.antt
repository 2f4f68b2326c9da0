-- Trusted: the grammar of scripts: which bytes are a script of which statements. It says nothing of
-- faults, nor of how a script is read.
use Rattle.std.specs.Prelude.{◌≡◌, ⊤, ◌≢◌, IsTrue, ℕ, ◌+◌, ◌≤◌, ◌<◌, ◌⊎◌, ◌&&◌, ◌==◌, Bool, true, false, List, [], ◌∷◌, ◌++◌, length, Some, None, nat_le, if◌then◌else◌}
use Rattle.std.specs.List.{list_all}
use Rattle.pr_base.specs.Digits.{number_of}
use Rattle.pr_base.specs.Lines.{lines_of, onto_first}
use Rattle.pr_basic.specs.Limits.{byte_limit, line_number_limit, statement_limit}
use Rattle.pr_basic.specs.Text.{Text}
use Rattle.pr_basic.specs.Lexemes.{AreLexemes, Lexeme, Word, Remark, Digits, Quoted, Comma, Semicolon, Colon, OpenParen, CloseParen}
use Rattle.pr_basic.specs.declared.lexemes.Keyword.{Keyword}
use Rattle.pr_basic.specs.declared.lexemes.Keyword.TheVariants as word
use Rattle.pr_basic.specs.declared.statement.Statement.{Statement}
use Rattle.pr_basic.specs.declared.statement.Statement.TheVariants.{OpenFile, CloseFile, Cmd, PrintTo, Print, Rem}

-- digits spell this number, which is within bounds
abbrev pub IsNumber : ℕ → ℕ → ℕ → List ℕ → Type 0
IsNumber low high n digits = (number_of digits ≡ n) × (low ≤ n) × (n ≤ high)

-- a byte that a string can have
abbrev pub is_printable : ℕ → Bool
is_printable b = nat_le 32 b && nat_le b 126

-- an item of a list: a semicolon, a string, or a CHR$ of a number
pub data Item : Type 0 where
  Semi : Item
  Quote : List ℕ → Item
  Code : List ℕ → Item

-- the lexemes of an item
abbrev pub item_lexemes : Item → List Lexeme
item_lexemes Semi = Semicolon ∷ []
item_lexemes (Quote s) = Quoted s ∷ []
item_lexemes (Code ds) = Word word.Chr ∷ OpenParen ∷ Digits ds ∷ CloseParen ∷ []

-- the bytes of an item
abbrev pub item_bytes : Item → List ℕ
item_bytes Semi = []
item_bytes (Quote s) = s
item_bytes (Code ds) = number_of ds ∷ []

-- the lexemes of items, one after another
abbrev pub items_lexemes : List Item → List Lexeme
items_lexemes [] = []
items_lexemes (i ∷ is) = item_lexemes i ++ items_lexemes is

-- the bytes of items, one after another
abbrev pub items_bytes : List Item → List ℕ
items_bytes [] = []
items_bytes (i ∷ is) = item_bytes i ++ items_bytes is

-- a string has bytes 32 to 126, a number is at most 255
abbrev pub IsItem : Item → Type 0
IsItem Semi = ⊤
IsItem (Quote s) = IsTrue (list_all is_printable s)
IsItem (Code ds) = number_of ds ≤ 255

-- each is an item as above
abbrev pub AreItems : List Item → Type 0
AreItems [] = ⊤
AreItems (i ∷ is) = IsItem i × AreItems is

-- whether the line ends after a list: exactly if the last item is no semicolon; for no items it is the first argument
abbrev pub ends_after : Bool → List Item → Bool
ends_after ends [] = ends
ends_after ends (Semi ∷ is) = ends_after false is
ends_after ends (Quote s ∷ is) = ends_after true is
ends_after ends (Code ds ∷ is) = ends_after true is

-- the lexemes of a list are those of its items, and its bytes are theirs
pub record IsList (lexemes : List Lexeme) (line : Text) : Type 0 where
  pub items : List Item
  pub spelled : lexemes ≡ items_lexemes items
  pub good : AreItems items
  pub bytes : line.bytes ≡ items_bytes items
  pub ends : line.ends ≡ ends_after true items
  pub short : length line.bytes ≤ byte_limit

-- a keyword, a file, and perhaps a comma and a list that is not empty
abbrev pub IsPrinting : Keyword → ℕ → Text → List Lexeme → Type 0
IsPrinting k file line lexemes = (f : List ℕ) × IsNumber 0 255 file f
    × (((lexemes ≡ Word k ∷ Digits f ∷ []) × (line ≡ record { bytes = []; ends = true }))
    ⊎ ((list : List Lexeme) × (lexemes ≡ Word k ∷ Digits f ∷ Comma ∷ list) × (0 < length list)
    × IsList list line))

-- the lexemes of a statement
abbrev pub IsStatement : Statement → List Lexeme → Type 0
IsStatement (OpenFile file device None) lexemes = (f : List ℕ) × (d : List ℕ)
    × (lexemes ≡ Word word.Open ∷ Digits f ∷ Comma ∷ Digits d ∷ [])
    × IsNumber 0 255 file f × IsNumber 4 30 device d
IsStatement (OpenFile file device (Some second)) lexemes =
    (f : List ℕ) × (d : List ℕ) × (s : List ℕ)
    × (lexemes ≡ Word word.Open ∷ Digits f ∷ Comma ∷ Digits d ∷ Comma ∷ Digits s ∷ [])
    × IsNumber 0 255 file f × IsNumber 4 30 device d × IsNumber 0 15 second s
IsStatement (CloseFile file) lexemes = (f : List ℕ) × (lexemes ≡ Word word.Close ∷ Digits f ∷ [])
    × IsNumber 0 255 file f
IsStatement (Cmd file line) lexemes = IsPrinting word.Cmd file line lexemes
IsStatement (PrintTo file line) lexemes = IsPrinting word.PrintTo file line lexemes
IsStatement (Print line) lexemes = (list : List Lexeme) × (lexemes ≡ Word word.Print ∷ list)
    × IsList list line
IsStatement Rem lexemes = (rest : List Lexeme) × (lexemes ≡ Remark ∷ rest)

-- each part of a line is empty or a statement
abbrev pub AreParts : List (List Lexeme) → List Statement → Type 0
AreParts [] ss = ss ≡ []
AreParts (p ∷ ps) ss = ((p ≡ []) × AreParts ps ss)
    ⊎ ((s : Statement) × (more : List Statement) × IsStatement s p × (ss ≡ s ∷ more)
    × AreParts ps more)

-- the parts of a line between its colons
unfoldable pub parts : List Lexeme → List (List Lexeme)
parts [] = []
parts (Colon ∷ ls) = [] ∷ parts ls
parts (l ∷ ls) = onto_first l (parts ls)

-- what follows a line number of at most 63999 at the front, or the whole line where no digits are at the front
abbrev pub HasNumber : List Lexeme → List Lexeme → Type 0
HasNumber lexemes rest =
    ((lexemes ≡ rest) × ((ds : List ℕ) (more : List Lexeme) → lexemes ≢ Digits ds ∷ more))
    ⊎ ((ds : List ℕ) × (lexemes ≡ Digits ds ∷ rest) × (number_of ds ≤ line_number_limit))

-- a line without its end: perhaps a number, then statements separated by colons
abbrev pub IsLine : List ℕ → List Statement → Type 0
IsLine line ss = (lexemes : List Lexeme) × (rest : List Lexeme)
    × AreLexemes line lexemes × HasNumber lexemes rest × AreParts (parts rest) ss

-- a line without a last byte 13, which belongs to the line's end
abbrev pub without_return : List ℕ → List ℕ
without_return [] = []
without_return (b ∷ []) = if b == 13 then [] else b ∷ []
without_return (b ∷ c ∷ bs) = b ∷ without_return (c ∷ bs)

-- the statements of lines, one line after another
abbrev pub AreLines : List (List ℕ) → List Statement → Type 0
AreLines [] ss = ss ≡ []
AreLines (l ∷ ls) ss = (first : List Statement) × (more : List Statement)
    × IsLine (without_return l) first × (ss ≡ first ++ more) × AreLines ls more

-- the bytes are a script of these statements: those of its lines, no more than the limit
abbrev pub IsScript : List ℕ → List Statement → Type 0
IsScript bytes ss = AreLines (lines_of bytes) ss × (length ss ≤ statement_limit)

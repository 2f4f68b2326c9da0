-- Trusted: the table of faults: the first fault of a part of a line, from the left, and its place
-- among the part's lexemes. What comes before it is as the grammar says.
use Rattle.std.specs.Prelude.{◌≡◌, ◌≢◌, IsTrue, IsFalse, ℕ, ◌+◌, ◌≤◌, ◌<◌, ◌⊎◌, Bool, true, false, List, [], ◌∷◌, ◌++◌, length}
use Rattle.std.specs.List.{list_all}
use Rattle.pr_basic.specs.Limits.{byte_limit}
use Rattle.pr_basic.specs.Lexemes.{Lexeme, Word, Remark, Digits, Quoted, Comma, Semicolon, OpenParen, CloseParen}
use Rattle.pr_basic.specs.Grammar.{Item, AreItems, is_printable, items_bytes, items_lexemes}
use Rattle.pr_base.specs.Digits.{number_of}
use Rattle.pr_basic.specs.declared.lexemes.Keyword.{Keyword}
use Rattle.pr_basic.specs.declared.lexemes.Keyword.TheVariants as word
use Rattle.pr_basic.specs.declared.fault.LineFault.{LineFault}
use Rattle.pr_basic.specs.declared.fault.LineFault.TheVariants.{UnknownWord, BadNumber, BadDevice, BadSecond, BadByte, TooLong, TooMany}

-- a statement begins with this lexeme
abbrev pub begins_statement : Lexeme → Bool
begins_statement (Word word.Chr) = false
begins_statement (Word k) = true
begins_statement Remark = true
begins_statement l = false

-- an item of a list begins with this lexeme
abbrev pub begins_item : Lexeme → Bool
begins_item (Word word.Chr) = true
begins_item (Quoted s) = true
begins_item Semicolon = true
begins_item l = false

-- keywords that need a file after them
abbrev pub takes_file : Keyword → Bool
takes_file word.Print = false
takes_file word.Chr = false
takes_file k = true

-- CMD and PRINT#: after the keyword a file, and perhaps a comma and a list
abbrev pub takes_list : Keyword → Bool
takes_list word.Cmd = true
takes_list word.PrintTo = true
takes_list k = false

-- the next lexeme is not this one
abbrev pub Lacks : Lexeme → List Lexeme → Type 0
Lacks l ls = (rest : List Lexeme) → ls ≢ l ∷ rest

-- the next lexeme is a number within bounds, and these lexemes follow it
abbrev pub Number : ℕ → ℕ → List Lexeme → List Lexeme → Type 0
Number low high ls rest = (ds : List ℕ) × (ls ≡ Digits ds ∷ rest) × (low ≤ number_of ds)
    × (number_of ds ≤ high)

-- the next lexeme is not a number within bounds: there are no digits, or they spell another number
abbrev pub NoNumber : ℕ → ℕ → List Lexeme → Type 0
NoNumber low high ls = (rest : List Lexeme) → ¬ Number low high ls rest

-- the part begins with a keyword and its file, and these lexemes follow them
abbrev pub AfterFile : Keyword → List Lexeme → List Lexeme → Type 0
AfterFile k part rest = (ls : List Lexeme) × (part ≡ Word k ∷ ls) × Number 0 255 ls rest

-- the part begins with OPEN, its file and its device, and these lexemes follow them
abbrev pub AfterDevice : List Lexeme → List Lexeme → Type 0
AfterDevice part rest = (ls : List Lexeme) × AfterFile word.Open part (Comma ∷ ls)
    × Number 4 30 ls rest

-- the part begins with OPEN, its file, its device and its secondary address, and these lexemes follow them
abbrev pub AfterSecond : List Lexeme → List Lexeme → Type 0
AfterSecond part rest = (ls : List Lexeme) × AfterDevice part (Comma ∷ ls) × Number 0 15 ls rest

-- the list of a statement: after PRINT, or after the comma of CMD and PRINT#
abbrev pub HasList : List Lexeme → List Lexeme → Type 0
HasList part list = (part ≡ Word word.Print ∷ list)
    ⊎ ((k : Keyword) × IsTrue (takes_list k) × AfterFile k part (Comma ∷ list))

-- a place in a part of a line: the lexemes from it on, and the number of bytes of the first of them that come before it
pub record Spot : Type 0 where
  pub next : List Lexeme
  pub inside : ℕ

-- a fault and its place in a part
abbrev pub Placed : Type 0
Placed = LineFault × Spot

-- the place where these lexemes begin; where there are none, the end of the part
abbrev pub start_of : List Lexeme → Spot
start_of ls = record { next = ls; inside = 0 }

-- the place after this number of bytes of the first of these lexemes
abbrev pub within : List Lexeme → ℕ → Spot
within ls n = record { next = ls; inside = n }

-- the first of these lexemes fails a test, and the place is where it begins
abbrev pub BeginsWithout : (Lexeme → Bool) → List Lexeme → Spot → Type 0
BeginsWithout passes ls at = (l : Lexeme) × (rest : List Lexeme) × (ls ≡ l ∷ rest)
    × IsFalse (passes l) × (at ≡ start_of ls)

-- the next lexeme is a string with a byte that `is_good` judges; the bytes before that byte are
-- printable, the number of the list's bytes before it fits, and the place is after the quote and
-- the bytes before it
abbrev pub IsByteOfString : (Bool → Type 0) → (ℕ → Type 0) → Spot → ℕ → List Lexeme → Type 0
IsByteOfString is_good fits at n next =
    (good : List ℕ) × (b : ℕ) × (more : List ℕ) × (rest : List Lexeme)
    × (next ≡ Quoted (good ++ b ∷ more) ∷ rest) × IsTrue (list_all is_printable good)
    × is_good (is_printable b) × fits (n + length good) × (at ≡ within next (1 + length good))

-- a statement is whole, and `next` cannot go on with it
abbrev pub GoesTooFar : List Lexeme → List Lexeme → Type 0
GoesTooFar part next = AfterSecond part next
    ⊎ ((AfterDevice part next × Lacks Comma next)
    ⊎ (AfterFile word.Close part next
    ⊎ ((k : Keyword) × IsTrue (takes_list k) × AfterFile k part next × Lacks Comma next)))

-- the faults outside lists, each with its place
abbrev pub IsFaultOutsideLists : Placed → List Lexeme → Type 0
-- no keyword where a statement must begin, at its first lexeme; lexemes after a whole statement, at
-- the first of them; no list after the comma of CMD or PRINT#, at the end
IsFaultOutsideLists (UnknownWord, at) part = BeginsWithout begins_statement part at
    ⊎ (((l : Lexeme) × (ls : List Lexeme) × GoesTooFar part (l ∷ ls) × (at ≡ start_of (l ∷ ls)))
    ⊎ ((k : Keyword) × IsTrue (takes_list k) × AfterFile k part (Comma ∷ []) × (at ≡ start_of [])))
-- a file that is missing or above 255, at its lexeme or where it is missing
IsFaultOutsideLists (BadNumber, at) part =
    (k : Keyword) × (ls : List Lexeme) × (part ≡ Word k ∷ ls) × IsTrue (takes_file k)
    × NoNumber 0 255 ls × (at ≡ start_of ls)
-- in OPEN no comma after the file, where it is missing; or after the comma no device of 4 to 30, at
-- its lexeme or where it is missing
IsFaultOutsideLists (BadDevice, at) part = (ls : List Lexeme)
    × ((AfterFile word.Open part ls × Lacks Comma ls)
    ⊎ (AfterFile word.Open part (Comma ∷ ls) × NoNumber 4 30 ls))
    × (at ≡ start_of ls)
-- after OPEN's second comma no secondary address of at most 15, at its lexeme or where it is missing
IsFaultOutsideLists (BadSecond, at) part = (ls : List Lexeme) × AfterDevice part (Comma ∷ ls)
    × NoNumber 0 15 ls × (at ≡ start_of ls)
IsFaultOutsideLists f part = ⊥

-- the faults of a list's next item, after n bytes of the list, each with its place
abbrev pub IsItemFault : Placed → ℕ → List Lexeme → Type 0
-- a lexeme that begins no item, at that lexeme; a missing parenthesis, where it is missing
IsItemFault (UnknownWord, at) n next = BeginsWithout begins_item next at
    ⊎ (((rest : List Lexeme) × (next ≡ Word word.Chr ∷ rest) × Lacks OpenParen rest
    × (at ≡ start_of rest))
    ⊎ ((ds : List ℕ) × (rest : List Lexeme) × (next ≡ Word word.Chr ∷ OpenParen ∷ Digits ds ∷ rest)
    × (number_of ds ≤ 255) × Lacks CloseParen rest × (at ≡ start_of rest)))
-- no digits in CHR$, where they are missing
IsItemFault (BadNumber, at) n next =
    (rest : List Lexeme) × (next ≡ Word word.Chr ∷ OpenParen ∷ rest)
    × ((ds : List ℕ) → Lacks (Digits ds) rest) × (at ≡ start_of rest)
-- a byte outside 32 to 126 in a string, after at most 255 bytes, at that byte; a CHR$ of more than 255, at its digits
IsItemFault (BadByte, at) n next = IsByteOfString IsFalse (λ m. m ≤ byte_limit) at n next
    ⊎ ((ds : List ℕ) × (rest : List Lexeme) × (next ≡ Word word.Chr ∷ OpenParen ∷ Digits ds ∷ rest)
    × (255 < number_of ds) × (at ≡ start_of (Digits ds ∷ rest)))
-- the 256th byte of a list: a printable byte of a string, at that byte; or a whole CHR$, at its beginning
IsItemFault (TooLong, at) n next = IsByteOfString IsTrue (λ m. m ≡ byte_limit) at n next
    ⊎ ((ds : List ℕ) × (rest : List Lexeme)
    × (next ≡ Word word.Chr ∷ OpenParen ∷ Digits ds ∷ CloseParen ∷ rest)
    × (number_of ds ≤ 255) × (n ≡ byte_limit) × (at ≡ start_of next))
IsItemFault f n next = ⊥

-- good items of at most 255 bytes, and then a fault, in a list after its first n bytes
pub record IsListFault (f : Placed) (n : ℕ) (list : List Lexeme) : Type 0 where
  pub items : List Item
  pub next : List Lexeme
  pub spelled : list ≡ items_lexemes items ++ next
  pub good : AreItems items
  pub short : n + length (items_bytes items) ≤ byte_limit
  pub fault : IsItemFault f (n + length (items_bytes items)) next

-- the first fault of a statement, and its place
abbrev pub IsStatementFault : Placed → List Lexeme → Type 0
IsStatementFault f part = IsFaultOutsideLists f part
    ⊎ ((list : List Lexeme) × HasList part list × IsListFault f 0 list)

-- a part begins with a lexeme that begins a statement
abbrev pub BeginsStatement : List Lexeme → Type 0
BeginsStatement part = (l : Lexeme) × (ls : List Lexeme) × (part ≡ l ∷ ls)
    × IsTrue (begins_statement l)

-- the first fault of a part of a line, with room for this number of further statements: without
-- room, a keyword that begins a statement is a fault
abbrev pub IsPartFault : ℕ → Placed → List Lexeme → Type 0
IsPartFault room f part = ((f ≡ (TooMany, start_of part)) × (room ≡ 0) × BeginsStatement part)
    ⊎ (IsStatementFault f part × (room ≡ 0 → ¬ BeginsStatement part))

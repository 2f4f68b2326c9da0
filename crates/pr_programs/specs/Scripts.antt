-- Trusted: the script of what a run of a program performs: each output statement is a line of it, with the number of
-- the program's line that it came from.
use Rattle.std.specs.Prelude.{ℕ, ◌||◌, Bool, not, List, [], ◌∷◌, ◌++◌, codes, decimal, length, nat_lt, Option, Some, None, if◌then◌else◌}
use Rattle.pr_basic.specs.Grammar.{Item, Semi, Quote, Code}
use Rattle.pr_basic.specs.Text.{Text}
use Rattle.pr_basic.specs.declared.statement.Statement.{Statement}
use Rattle.pr_basic.specs.declared.statement.Statement.TheVariants.{OpenFile, CloseFile, Cmd, PrintTo, Print, Rem}
use Rattle.pr_listing.specs.Listing.{is_held}
use Rattle.pr_run.specs.declared.performed.Performed.{Performed}

-- a byte that a string can have, before the items of the bytes after it: neighbours are one string
abbrev pub onto_string : ℕ → List Item → List Item
onto_string b (Quote s ∷ is) = Quote (b ∷ s) ∷ is
onto_string b is = Quote (b ∷ []) ∷ is

-- the items of some bytes: strings, and CHR$ for each byte that no string can have
unfoldable pub items_of : List ℕ → List Item
items_of [] = []
items_of (b ∷ bs) = if is_held b then onto_string b (items_of bs) else Code (decimal b) ∷ items_of bs

abbrev pub item_text : Item → List ℕ
item_text Semi = 59 ∷ []
item_text (Quote s) = 34 ∷ s ++ 34 ∷ []
item_text (Code digits) = codes "CHR$(" ++ digits ++ codes ")"

-- items with a semicolon between each two
abbrev pub joined : List Item → List ℕ
joined [] = []
joined (i ∷ []) = item_text i
joined (i ∷ j ∷ is) = item_text i ++ 59 ∷ joined (j ∷ is)

-- the list of a statement that prints: a semicolon is at its end where no return follows the bytes
unfoldable pub list_text : Text → List ℕ
list_text line = joined (items_of line.bytes) ++ (if line.ends then [] else 59 ∷ [])

-- a statement has a list where it has bytes, or no return follows
abbrev pub has_list : Text → Bool
has_list line = nat_lt 0 (length line.bytes) || not line.ends

-- a byte and the list of a statement, if it has one
abbrev pub listed : ℕ → Text → List ℕ
listed b line = if has_list line then b ∷ list_text line else []

-- OPEN, with a secondary address or without
abbrev pub open_text : (file device : ℕ) → Option ℕ → List ℕ
open_text file device None = codes "OPEN " ++ decimal file ++ 44 ∷ decimal device
open_text file device (Some second) = codes "OPEN " ++ decimal file ++ 44 ∷ decimal device ++ 44 ∷ decimal second

-- a statement: OPEN 4,4,7 or PRINT#4,"A";CHR$(13)
unfoldable pub statement_text : Statement → List ℕ
statement_text (OpenFile file device second) = open_text file device second
statement_text (CloseFile file) = codes "CLOSE " ++ decimal file
statement_text (Cmd file line) = codes "CMD " ++ decimal file ++ listed 44 line
statement_text (PrintTo file line) = codes "PRINT#" ++ decimal file ++ listed 44 line
statement_text (Print line) = codes "PRINT" ++ listed 32 line
statement_text Rem = codes "REM"

-- a line of the script
unfoldable pub performed_text : Performed → List ℕ
performed_text p = decimal p.line ++ 32 ∷ statement_text p.statement ++ 10 ∷ []

-- the script of what is performed, in order
unfoldable pub script_text : List Performed → List ℕ
script_text [] = []
script_text (p ∷ ps) = performed_text p ++ script_text ps

-- Trusted: which statements a saved program is, by the tokens of its lines.
use Rattle.std.specs.Prelude.{◌≡◌, ℕ, zero, suc, ◌+◌, ◌-◌, ◌≤◌, ◌==◌, List, [], ◌∷◌, ◌++◌, length, map, take, decimal, if◌then◌else◌}
use Rattle.std.specs.List.{prefix_len}
use Rattle.pr_base.specs.Digits.{is_digit}
use Rattle.pr_basic.specs.Grammar.{AreParts, Code, Item, Quote, items_lexemes, parts}
use Rattle.pr_basic.specs.Lexemes.{Lexeme, Word, Remark, Digits, Comma, Semicolon, Colon, OpenParen, CloseParen, Stray, is_no_quote}
use Rattle.pr_basic.specs.Limits.{line_number_limit, statement_limit}
use Rattle.pr_basic.specs.declared.lexemes.Keyword.TheVariants.{Open, Close, Cmd, PrintTo, Print, Chr}
use Rattle.pr_basic.specs.declared.statement.Statement.{Statement}
use Rattle.pr_listing.specs.Keywords.{is_token, keyword_of}
use Rattle.pr_listing.specs.Listing.{is_held}
use Rattle.pr_listing.specs.Program.{IsProgram, Line}

-- the lexeme of a sign; any other byte is stray
abbrev pub sign_lexeme : ℕ → Lexeme
sign_lexeme b =
    if b == 44 then Comma else (if b == 59 then Semicolon else (if b == 58 then Colon
    else (if b == 40 then OpenParen else (if b == 41 then CloseParen else Stray))))

-- the lexemes of a token but that of REM: a keyword of a script is one; of any other keyword each
-- character is
abbrev pub token_lexemes : ℕ → List Lexeme
token_lexemes b =
    if b == 159 then Word Open ∷ [] else (if b == 160 then Word Close ∷ []
    else (if b == 157 then Word Cmd ∷ [] else (if b == 152 then Word PrintTo ∷ []
    else (if b == 153 then Word Print ∷ [] else (if b == 199 then Word Chr ∷ []
    else map sign_lexeme (keyword_of b))))))

-- the lexemes of a byte outside strings and remarks that is no digit: a space has none
abbrev pub byte_lexemes : ℕ → List Lexeme
byte_lexemes b =
    if is_token b then token_lexemes b else (if b == 32 then [] else sign_lexeme b ∷ [])

-- a byte in front of items of which the first is a string
abbrev pub onto_string : ℕ → List Item → List Item
onto_string b (Quote s ∷ items) = Quote (b ∷ s) ∷ items
onto_string b items = Quote (b ∷ []) ∷ items

-- the items that a string's bytes are: strings, and CHR$ of each byte that a script's string does not
-- hold; the bytes of these items are the string's
abbrev pub string_items : List ℕ → List Item
string_items [] = Quote [] ∷ []
string_items (b ∷ bs) =
    if is_held b then onto_string b (string_items bs)
    else Quote [] ∷ Code (decimal b) ∷ string_items bs

-- the lexemes at the front of a line's bytes, and how many bytes they are: digits go on as far as they
-- can, a string ends with its quote or with the line, and REM has the rest of the line
unfoldable pub front_lexemes : ℕ → List ℕ → List Lexeme × ℕ
front_lexemes b bs =
    if is_digit b
    then (Digits (take (prefix_len is_digit (b ∷ bs)) (b ∷ bs)) ∷ [], prefix_len is_digit (b ∷ bs))
    else (if b == 34
    then (items_lexemes (string_items (take (prefix_len is_no_quote bs) bs)), prefix_len is_no_quote bs + 2)
    else (if b == 143 then (Remark ∷ [], suc (length bs)) else (byte_lexemes b, 1)))

-- the lexemes of a line's bytes, after those that belong to the front before them
unfoldable pub lexemes_behind : ℕ → List ℕ → List Lexeme
lexemes_behind skip [] = []
lexemes_behind zero (b ∷ bs) =
    (front_lexemes b bs).0 ++ lexemes_behind ((front_lexemes b bs).1 - 1) bs
lexemes_behind (suc skip) (b ∷ bs) = lexemes_behind skip bs

-- a line is of these statements: its number is one of BASIC's, and its lexemes are theirs
abbrev pub IsProgramLine : Line → List Statement → Type 0
IsProgramLine line ss =
    (line.number ≤ line_number_limit) × AreParts (parts (lexemes_behind 0 line.bytes)) ss

-- lines are of these statements, one line after another
abbrev pub AreProgramLines : List Line → List Statement → Type 0
AreProgramLines [] ss = ss ≡ []
AreProgramLines (l ∷ ls) ss = (first : List Statement) × (more : List Statement)
    × IsProgramLine l first × (ss ≡ first ++ more) × AreProgramLines ls more

-- a file is a saved program of these statements, as many as the limit at most
abbrev pub AreProgramStatements : List ℕ → List Statement → Type 0
AreProgramStatements file ss = (lines : List Line) × IsProgram lines file × AreProgramLines lines ss
    × (length ss ≤ statement_limit)

-- Trusted: the symbols of a line: its keywords, strings and other bytes, as the machine keeps them.
-- A line as typed spells its keywords, and they are found from left to right, at each byte outside strings; a saved
-- line has one byte for each. Places are counted in the text that the line is of.
use Rattle.std.specs.Prelude.{ℕ, zero, suc, ◌+◌, ◌-◌, ◌==◌, ◌&&◌, Bool, true, false, not, List, [], ◌∷◌, ◌++◌, length}
use Rattle.std.specs.Prelude.{drop, nat_lt, if◌then◌else◌, Option, Some, None}
use Rattle.std.specs.Char.{to_ascii_uppercase}
use Rattle.std.specs.List.{position_or_len}
use Rattle.pr_listing.specs.Keywords.{is_token, keyword_of}
use Rattle.pr_interpreter.specs.declared.symbols.Front.{Front}
use Rattle.pr_interpreter.specs.declared.symbols.Keyword.{Keyword}
use Rattle.pr_interpreter.specs.declared.symbols.Stored.{Stored}
use Rattle.pr_interpreter.specs.declared.symbols.Stored.TheVariants.{Code, Items, Remark, Text}
use Rattle.pr_interpreter.specs.declared.symbols.Symbol.{Symbol}
use Rattle.pr_interpreter.specs.declared.symbols.Writing.{Writing}
use Rattle.pr_interpreter.specs.declared.symbols.Writing.TheVariants.{Saved, Typed}

-- a word is at the front of a text, in capitals or small letters
abbrev pub begins : List ℕ → List ℕ → Bool
begins [] text = true
begins (w ∷ ws) [] = false
begins (w ∷ ws) (b ∷ bs) = (to_ascii_uppercase b == w) && begins ws bs

-- the first of so many tokens, from one on, whose keyword is at the front of a text
abbrev pub first_token : ℕ → ℕ → List ℕ → Option ℕ
first_token token zero text = None
first_token token (suc more) text =
    if begins (keyword_of token) text then Some token else first_token (token + 1) more text

-- the first token, from 128 to 203, whose keyword is at the front of a text
unfoldable pub typed_token : List ℕ → Option ℕ
typed_token text = first_token 128 76 text

-- the keyword of a token, spelled
abbrev pub spelled : Option ℕ → Option Keyword
spelled None = None
spelled (Some token) = Some (record { token = token; size = length (keyword_of token) })

-- the keyword at the front of a line's rest; `?` is PRINT
unfoldable pub keyword_at : Writing → List ℕ → Option Keyword
keyword_at writing [] = None
keyword_at Typed (b ∷ bs) =
    if b == 63 then Some (record { token = 153; size = 1 }) else spelled (typed_token (b ∷ bs))
keyword_at Saved (b ∷ bs) = if is_token b then Some (record { token = b; size = 1 }) else None

-- a quote
abbrev pub is_quote : ℕ → Bool
is_quote b = b == 34

-- the byte after this one is in a string
abbrev pub quoted_after : Bool → ℕ → Bool
quoted_after quoted b = if is_quote b then not quoted else quoted

-- how many bytes the items of DATA have: they end before a colon that is in no string
abbrev pub items_size : Bool → List ℕ → ℕ
items_size quoted [] = 0
items_size quoted (b ∷ bs) = if (b == 58) && not quoted then 0 else items_size (quoted_after quoted b) bs + 1

-- a symbol that so many bytes are
abbrev pub stored : Stored → ℕ → Front
stored s size = record { stored = Some s; size = size }

-- a keyword at a place: REM has the rest of the line, and DATA its items
unfoldable pub keyword_front : ℕ → List ℕ → Keyword → Front
keyword_front place text k =
    if k.token == 143 then stored Remark (length text)
    else if k.token == 131
    then
    (let after = k.size + items_size false (drop k.size text) in
    stored (Items (place + k.size) (place + after)) after)
    else stored (Code k.token) k.size

-- a string whose first quote is at a place: it ends with its last quote, or with the line
unfoldable pub string_front : ℕ → List ℕ → Front
string_front place text = let n = position_or_len is_quote text in
    stored (Text (place + 1) (place + 1 + n)) (if nat_lt n (length text) then n + 2 else n + 1)

-- another byte as it is kept: a small letter of a line as typed is a capital, and no text has bytes from 128 on
abbrev pub kept : Writing → ℕ → ℕ
kept Typed b = if nat_lt b 128 then to_ascii_uppercase b else 0
kept Saved b = b

abbrev pub keyword_or_byte : Writing → ℕ → List ℕ → ℕ → Option Keyword → Front
keyword_or_byte writing place text b (Some k) = keyword_front place text k
keyword_or_byte writing place text b None = stored (Code (kept writing b)) 1

-- what is at the front of a line's rest at a place; a blank is no symbol
unfoldable pub front : Writing → ℕ → List ℕ → Front
front writing place [] = record { stored = None; size = 0 }
front writing place (b ∷ bs) =
    if b == 32 then record { stored = None; size = 1 }
    else if is_quote b then string_front place bs
    else keyword_or_byte writing place (b ∷ bs) b (keyword_at writing (b ∷ bs))

-- the code of what is stored; 0 for what has none
abbrev pub code_in : Stored → ℕ
code_in (Code c) = c
code_in (Text start end) = 0
code_in (Items start end) = 0
code_in Remark = 0

abbrev pub code_of : Symbol → ℕ
code_of s = code_in s.stored

-- the code at the front of symbols
abbrev pub first_code : List Symbol → ℕ
first_code [] = 0
first_code (s ∷ ss) = code_of s

-- what is stored, if it is something, and its place
abbrev pub placed : ℕ → Option Stored → List Symbol
placed place None = []
placed place (Some s) = record { stored = s; place = place } ∷ []

-- the symbols of a line's rest at a place, after the bytes of the last one that are left
unfoldable pub symbols : Writing → ℕ → ℕ → List ℕ → List Symbol
symbols writing place skip [] = []
symbols writing place zero (b ∷ bs) =
    placed place (front writing place (b ∷ bs)).stored
    ++ symbols writing (place + 1) ((front writing place (b ∷ bs)).size - 1) bs
symbols writing place (suc skip) (b ∷ bs) = symbols writing (place + 1) skip bs

-- Trusted: the items of the DATA statements of a program, in the order of its lines.
use Rattle.std.specs.Prelude.{ℕ, zero, suc, ◌+◌, ◌-◌, ◌==◌, ◌||◌, Bool, true, false, List, [], ◌∷◌, ◌++◌, length, drop, nat_lt}
use Rattle.std.specs.Prelude.{slice_range, if◌then◌else◌, Option, Some, None}
use Rattle.std.specs.List.{position_or_len, slice_get}
use Rattle.pr_interpreter.specs.declared.lexemes.Lexeme.{Lexeme}
use Rattle.pr_interpreter.specs.declared.lexemes.Word.{Word}
use Rattle.pr_interpreter.specs.declared.lexemes.Word.TheVariants.{Code, Comparison, Constant, Items, Named, Remark}
use Rattle.pr_interpreter.specs.declared.lexemes.Word.TheVariants.{Text}
use Rattle.pr_interpreter.specs.declared.lines.Line.{Line}
use Rattle.pr_interpreter.specs.declared.symbols.Writing.TheVariants.{Typed}
use Rattle.pr_interpreter.specs.Lexemes.{line_lexemes}
use Rattle.pr_interpreter.specs.Lines.{blanks}
use Rattle.pr_interpreter.specs.Reading.{word_code}
use Rattle.pr_interpreter.specs.Symbols.{is_quote}
use Rattle.pr_run.specs.declared.data.DataItem.{DataItem}

-- a comma or a colon ends an item
abbrev pub ends_item : ℕ → Bool
ends_item b = b == 44 || b == 58

-- how many bytes come before that
abbrev pub plain_size : List ℕ → ℕ
plain_size bytes = position_or_len ends_item bytes

-- how many bytes of a string follow its first quote: it ends with its last quote, or with the line
abbrev pub string_size : List ℕ → ℕ
string_size bytes = let n = position_or_len is_quote bytes in if nat_lt n (length bytes) then n + 1 else n

-- how many bytes the item at the front has, which begins with no blank: commas and colons in a string belong to it
unfoldable pub item_size : List ℕ → ℕ
item_size [] = 0
item_size (b ∷ bs) =
    if is_quote b then 1 + string_size bs + plain_size (drop (string_size bs) bs) else plain_size (b ∷ bs)

-- how many bytes it has with the blanks before it
unfoldable pub front_size : List ℕ → ℕ
front_size bytes = blanks bytes + item_size (drop (blanks bytes) bytes)

-- the item of a line at the front of bytes at a place
unfoldable pub front_item : ℕ → ℕ → List ℕ → DataItem
front_item line place bytes =
    record { line = line; start = place + blanks bytes; end = place + front_size bytes }

-- the items after the one of which so many bytes are left: each follows a comma
unfoldable pub more_items : ℕ → ℕ → ℕ → List ℕ → List DataItem
more_items line skip place [] = []
more_items line zero place (b ∷ bs) =
    if b == 44 then front_item line (place + 1) bs ∷ more_items line (front_size bs) (place + 1) bs else []
more_items line (suc skip) place (b ∷ bs) = more_items line skip (place + 1) bs

-- the items of a DATA statement
unfoldable pub items : ℕ → ℕ → List ℕ → List DataItem
items line place bytes = front_item line place bytes ∷ more_items line (front_size bytes) place bytes

-- the items of a word of a line
abbrev pub word_items : List ℕ → ℕ → Word → List DataItem
word_items text line (Items start end) = items line start (slice_range text start end)
word_items text line (Code c) = []
word_items text line (Comparison o) = []
word_items text line (Constant c) = []
word_items text line (Named name) = []
word_items text line (Text start end) = []
word_items text line Remark = []

-- where the last of items ends
abbrev pub end_of : Option DataItem → ℕ
end_of None = 0
end_of (Some i) = i.end

abbrev pub last_end : List DataItem → ℕ
last_end is = end_of (slice_get is (length is - 1))

-- The items of a word end before it does: at a colon in quotes that begin in mid-item. The machine looks for DATA from
-- that colon on, where quotes count the other way, and finds none in the rest of the line.
abbrev pub word_cut : List ℕ → ℕ → Word → Bool
word_cut text line (Items start end) = let bytes = slice_range text start end in
    nat_lt (last_end (items line start bytes)) (start + length bytes)
word_cut text line (Code c) = false
word_cut text line (Comparison o) = false
word_cut text line (Constant c) = false
word_cut text line (Named name) = false
word_cut text line (Text start end) = false
word_cut text line Remark = false

-- the items of lexemes: those of a DATA that begins a statement
abbrev pub lexeme_items : List ℕ → ℕ → Bool → List Lexeme → List DataItem
lexeme_items text line begins [] = []
lexeme_items text line begins (l ∷ ls) =
    if begins
    then word_items text line l.word
    ++ (if word_cut text line l.word then [] else lexeme_items text line (word_code l.word == 58) ls)
    else lexeme_items text line (word_code l.word == 58) ls

-- the items of a line
unfoldable pub line_items : List ℕ → Line → List DataItem
line_items text l = lexeme_items text l.number true (line_lexemes Typed l.start (slice_range text l.start l.end))

-- the items of lines
abbrev pub data_of : List ℕ → List Line → List DataItem
data_of text [] = []
data_of text (l ∷ ls) = line_items text l ++ data_of text ls

-- Linking words: the lexemes of a line, one after another as the reader takes them. The laws of the crate tie them to the grammar's own
-- words. No reader needs to believe them.
use Rattle.std.specs.Prelude.{◌≡◌, ℕ, zero, suc, ◌+◌, ◌-◌, ◌==◌, Bool, List, [], ◌∷◌, ◌++◌, length, take, drop, map, codes, nat_lt, if◌then◌else◌}
use Rattle.std.specs.List.{prefix_len}
use Rattle.std.specs.Str.{bytes_eq}
use Rattle.std.specs.Char.{to_ascii_lowercase}
use Rattle.pr_basic.specs.Lexemes.{Lexeme, Word, Remark, Digits, Quoted, Comma, Semicolon, Colon, OpenParen, CloseParen, Stray, is_no_quote, is_space}
use Rattle.pr_base.specs.Digits.{is_digit}
use Rattle.pr_basic.specs.declared.lexemes.Keyword.TheVariants.{Open, Close, Cmd, PrintTo, Print, Chr}

-- the bytes begin with a word, in either case
abbrev pub begins : List ℕ → List ℕ → Bool
begins bs word = bytes_eq (map to_ascii_lowercase (take (length word) bs)) word

-- a lexeme, and how many bytes it has
abbrev pub Front : Type 0
Front = Lexeme × ℕ

-- the keyword at the front; PRINT# is tried before PRINT
unfoldable pub word_front : List ℕ → Front
word_front bs =
    if begins bs (codes "rem") then (Remark, length bs)
    else (if begins bs (codes "open") then (Word Open, 4)
    else (if begins bs (codes "close") then (Word Close, 5)
    else (if begins bs (codes "cmd") then (Word Cmd, 3)
    else (if begins bs (codes "print#") then (Word PrintTo, 6)
    else (if begins bs (codes "print") then (Word Print, 5)
    else (if begins bs (codes "chr$") then (Word Chr, 4)
    else (Stray, 1)))))))

-- a string ends with its quote, or with the line
unfoldable pub text_front : List ℕ → Front
text_front bs =
    let n = prefix_len is_no_quote bs in
    (Quoted (take n bs), if nat_lt n (length bs) then n + 2 else n + 1)

-- a sign, or else another front
abbrev pub sign_or : ℕ → Front → Front
sign_or b other =
    if b == 44 then (Comma, 1) else (if b == 59 then (Semicolon, 1) else (if b == 58 then (Colon, 1)
    else (if b == 40 then (OpenParen, 1) else (if b == 41 then (CloseParen, 1) else other))))

-- the lexeme at the front of some bytes
unfoldable pub front : List ℕ → Front
front [] = (Stray, 0)
front (b ∷ bs) =
    if is_digit b then (Digits (take (prefix_len is_digit (b ∷ bs)) (b ∷ bs)), prefix_len is_digit (b ∷ bs))
    else (if b == 34 then text_front bs else sign_or b (word_front (b ∷ bs)))

-- the lexemes after the bytes of the last one that are left
unfoldable pub lexemes_after : ℕ → List ℕ → List Lexeme
lexemes_after skip [] = []
lexemes_after zero (b ∷ bs) =
    if is_space b then lexemes_after 0 bs else (front (b ∷ bs)).0 ∷ lexemes_after ((front (b ∷ bs)).1 - 1) bs
lexemes_after (suc skip) (b ∷ bs) = lexemes_after skip bs

-- the lexemes of a line
abbrev pub lexemes_of : List ℕ → List Lexeme
lexemes_of bs = lexemes_after 0 bs

-- the lexemes of the statement at the front: those before a colon
unfoldable pub part_of : List Lexeme → List Lexeme
part_of [] = []
part_of (Colon ∷ ls) = []
part_of (l ∷ ls) = l ∷ part_of ls

-- the lexemes of the statements after it
unfoldable pub after_part : List Lexeme → List Lexeme
after_part [] = []
after_part (Colon ∷ ls) = ls
after_part (l ∷ ls) = after_part ls

-- the lexemes of the statement at the front of some bytes, and those after its colon
abbrev pub here : List ℕ → List Lexeme
here bs = part_of (lexemes_of bs)

-- the lexemes after the first colon of some bytes
abbrev pub later : List ℕ → List Lexeme
later bs = after_part (lexemes_of bs)

-- the bytes from the first one on that is no space
unfoldable pub unspaced : List ℕ → List ℕ
unspaced [] = []
unspaced (b ∷ bs) = if is_space b then unspaced bs else b ∷ bs

-- the bytes after the first lexeme
abbrev pub after_first : List ℕ → List ℕ
after_first bs = drop (front (unspaced bs)).1 (unspaced bs)

-- the bytes after this many lexemes
unfoldable pub past : ℕ → List ℕ → List ℕ
past zero bs = bs
past (suc n) bs = past n (after_first bs)

-- the bytes left after some lexemes of the part at the front, which they go on
pub record IsRest (rest bytes : List ℕ) : Type 0 where
  pub gone : List Lexeme
  pub is : rest ≡ past (length gone) bytes
  pub goes_on : here bytes ≡ gone ++ here rest

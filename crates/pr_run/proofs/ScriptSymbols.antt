use Rattle.std.proofs.Common.{◌≡◌, ℕ, zero, suc, ◌+◌, ◌-◌, ◌<◌, ◌≤◌, ◌==◌, ◌&&◌, Bool, true, false, List}
use Rattle.std.proofs.Common.{[], ◌∷◌, ◌++◌, length, map, take, Some, None, inl, inr, refl, ap, sym, ◌∙◌, arith}
use Rattle.std.proofs.Common.{append_assoc, append-nil, length-append}
use Rattle.std.specs.Prelude.{codes, nat_le, nat_lt, slice_range, Option}
use Rattle.std.specs.Char.{to_ascii_lowercase, to_ascii_uppercase}
use Rattle.std.specs.List.{list_all, position_or_len}
use Rattle.std.proofs.lemmas.Bool.{and_parts, eqb-false, eqb-true, false≢true, le-ltb, leb-true, lt-ltb, ltb-false}
use Rattle.std.proofs.lemmas.Bool.{ltb-true, ne_eqb}
use Rattle.std.proofs.lemmas.List.{drop_at, take_at}
use Rattle.pr_base.specs.Digits.{is_digit}
use Rattle.pr_listing.specs.Keywords.{keyword_of}
use Rattle.pr_basic.specs.Lexemes.{CloseParen, Colon, Comma, Digits, IsLexeme, IsWord, Lexeme, NoHash}
use Rattle.pr_basic.specs.Lexemes.{OpenParen, Quoted, Remark, Semicolon, Spells, Stray, Word, is_no_quote}
use Rattle.pr_basic.specs.declared.lexemes.Keyword.{Keyword}
use Rattle.pr_basic.specs.declared.lexemes.Keyword.TheVariants.{Chr, Close, Cmd, Open, Print, PrintTo}
use Rattle.pr_interpreter.specs.declared.symbols.Stored.{Stored}
use Rattle.pr_interpreter.specs.declared.symbols.Stored.TheVariants.{Code, Remark as RemarkOf, Text}
use Rattle.pr_interpreter.specs.declared.symbols.Symbol.{Symbol}
use Rattle.pr_interpreter.specs.declared.symbols.Writing.TheVariants.{Typed}
use Rattle.pr_interpreter.specs.Symbols.{begins, first_token, front, is_quote, keyword_at, keyword_front, stored}
use Rattle.pr_interpreter.specs.Symbols.{string_front, symbols, typed_token}
use Rattle.pr_run.specs.ScriptTexts.{AreSpaced, is_blank}

-- a symbol at a place
abbrev pub kept : ℕ → Stored → Symbol
kept place s = record { stored = s; place = place }

-- ---- bytes that are no symbols, and bytes that are left

-- bytes are blanks
abbrev pub AreBlank : List ℕ → Type 0
AreBlank [] = Unit {0}
AreBlank (b ∷ bs) = (b ≡ 32) × AreBlank bs

same_place : (m n skip : ℕ) (bs : List ℕ) → m ≡ n → symbols Typed m skip bs ≡ symbols Typed n skip bs
same_place m n skip bs e = ap (λ (p : ℕ). symbols Typed p skip bs) e

-- blanks have no symbols
pub symbols_blank : (place : ℕ) (bs rest : List ℕ) → AreBlank bs
    → symbols Typed place 0 (bs ++ rest) ≡ symbols Typed (place + length bs) 0 rest
unfolding symbols front
symbols_blank place [] rest blank = same_place place (place + 0) 0 rest (omega arith)
symbols_blank place (b ∷ bs) rest blank =
    rw blank.0
    (symbols_blank (place + 1) bs rest blank.1
    ∙ same_place (place + 1 + length bs) (place + length (b ∷ bs)) 0 rest (omega arith))

pub no_symbols : (place skip : ℕ) → symbols Typed place skip [] ≡ []
unfolding symbols
no_symbols place skip = refl

-- the bytes of a symbol are passed
symbols_skip : (bs : List ℕ) (place : ℕ) (rest : List ℕ)
    → symbols Typed place (length bs) (bs ++ rest) ≡ symbols Typed (place + length bs) 0 rest
unfolding symbols
symbols_skip [] place rest = same_place place (place + 0) 0 rest (omega arith)
symbols_skip (b ∷ bs) place rest =
    symbols_skip bs (place + 1) rest
    ∙ same_place (place + 1 + length bs) (place + length (b ∷ bs)) 0 rest (omega arith)

-- a symbol of some bytes
symbol_front : (place b : ℕ) (bs rest : List ℕ) (s : Stored) (n : ℕ)
    → front Typed place (b ∷ (bs ++ rest)) ≡ stored s n → n - 1 ≡ length bs
    → symbols Typed place 0 (b ∷ (bs ++ rest)) ≡ kept place s ∷ symbols Typed (place + length (b ∷ bs)) 0 rest
unfolding symbols
symbol_front place b bs rest s n e h =
    rw (e, h, symbols_skip bs (place + 1) rest)
    (ap (λ (m : ℕ). kept place s ∷ symbols Typed m 0 rest) (omega arith))

-- ---- capitals and small letters

-- the capital of a small letter is that of the letter
upper_lower : (b : ℕ) → to_ascii_uppercase (to_ascii_lowercase b) ≡ to_ascii_uppercase b
upper_lower b = cases (nat_lt b 65) (nat_lt b 91) refl refl
  where
    cases : (sign capital : Bool) → nat_lt b 65 ≡ sign → nat_lt b 91 ≡ capital
        → to_ascii_uppercase (to_ascii_lowercase b) ≡ to_ascii_uppercase b
    cases true capital s c = rw s refl
    cases false false s c = rw (s, c) refl
    cases false true s c =
        let low = ltb-false b 65 s in
        let high = ltb-true b 91 c in
        let first : nat_lt (b + 32) 97 ≡ false = le-ltb (b + 32) 97 (omega arith) in
        let second : nat_lt (b + 32) 123 ≡ true = lt-ltb (b + 32) 123 (omega arith) in
        let third : nat_lt b 97 ≡ true = lt-ltb b 97 (omega arith) in
        rw (s, c, first, second, third) (omega arith)

-- a letter's byte is at least 65
pub letter_low : (b c : ℕ) → to_ascii_lowercase b ≡ c → 97 ≤ c → 65 ≤ b
letter_low b c e h = cases (nat_lt b 65) refl
  where
    cases : (sign : Bool) → nat_lt b 65 ≡ sign → 65 ≤ b
    cases true s =
        let low = ltb-true b 65 s in
        let same : b ≡ c = rw s at e in
        omega arith
    cases false s = ltb-false b 65 s

-- only 35 is 35 as a capital
upper_hash : (b : ℕ) → to_ascii_uppercase b ≡ 35 → b ≡ 35
upper_hash b e = cases (nat_lt b 97) (nat_lt b 123) refl refl
  where
    cases : (low letter : Bool) → nat_lt b 97 ≡ low → nat_lt b 123 ≡ letter → b ≡ 35
    cases true letter s c = rw s at e
    cases false true s c =
        let low = ltb-false b 97 s in
        let same : b - 32 ≡ 35 = rw (s, c) at e in
        omega arith
    cases false false s c = rw (s, c) at e

-- ---- keywords

-- a word is at the front in either case
same_begins : (ws bs rest : List ℕ) → begins ws (bs ++ rest) ≡ begins ws (map to_ascii_lowercase bs ++ rest)
same_begins [] bs rest = refl
same_begins (w ∷ ws) [] rest = refl
same_begins (w ∷ ws) (b ∷ bs) rest = rw (upper_lower b, same_begins ws bs rest) refl

-- so each keyword is found in either case
same_token : (token more : ℕ) (bs rest : List ℕ)
    → first_token token more (bs ++ rest) ≡ first_token token more (map to_ascii_lowercase bs ++ rest)
same_token token zero bs rest = refl
same_token token (suc more) bs rest =
    rw (same_begins (keyword_of token) bs rest, same_token (token + 1) more bs rest) refl

token_cased : (bs rest : List ℕ) → typed_token (bs ++ rest) ≡ typed_token (map to_ascii_lowercase bs ++ rest)
unfolding typed_token
token_cased bs rest = same_token 128 76 bs rest

-- the token of a keyword of scripts
abbrev pub token_of : Keyword → ℕ
token_of Open = 159
token_of Close = 160
token_of Cmd = 157
token_of PrintTo = 152
token_of Print = 153
token_of Chr = 199

abbrev found : ℕ → Option ℕ
found token = Some token

-- each keyword of scripts is found by its token, whatever follows; `#` makes PRINT another
open_token : (rest : List ℕ) → typed_token (codes "open" ++ rest) ≡ found 159
unfolding typed_token keyword_of
open_token rest = refl

close_token : (rest : List ℕ) → typed_token (codes "close" ++ rest) ≡ found 160
unfolding typed_token keyword_of
close_token rest = refl

cmd_token : (rest : List ℕ) → typed_token (codes "cmd" ++ rest) ≡ found 157
unfolding typed_token keyword_of
cmd_token rest = refl

print_to_token : (rest : List ℕ) → typed_token (codes "print#" ++ rest) ≡ found 152
unfolding typed_token keyword_of
print_to_token rest = refl

print_token : (rest : List ℕ) → NoHash rest → typed_token (codes "print" ++ rest) ≡ found 153
unfolding typed_token keyword_of
print_token [] free = refl {a = found 153}
print_token (b ∷ bs) free =
    let other : (to_ascii_uppercase b == 35) ≡ false = ne_eqb (to_ascii_uppercase b) 35 (λ e. free (upper_hash b e)) in
    rw other (refl {a = found 153})

chr_token : (rest : List ℕ) → typed_token (codes "chr$" ++ rest) ≡ found 199
unfolding typed_token keyword_of
chr_token rest = refl

rem_token : (rest : List ℕ) → typed_token (codes "rem" ++ rest) ≡ found 143
unfolding typed_token keyword_of
rem_token rest = refl

-- letters at the front of a line are a word in small letters, of which the first is a letter
pub record IsLetters (letters bytes : List ℕ) (b : ℕ) (bs : List ℕ) : Type 0 where
  pub cut : bytes ≡ b ∷ bs
  pub low : 65 ≤ b
  pub size : length bs + 1 ≡ length letters

-- a word has a first byte, which is a letter
pub letters_cut : (c : ℕ) (cs bytes : List ℕ) → 97 ≤ c → IsWord (c ∷ cs) bytes
    → (b : ℕ) × (bs : List ℕ) × IsLetters (c ∷ cs) bytes b bs
letters_cut c cs [] h e = absurd (let never : [] ≡ c ∷ cs = e in cc)
letters_cut c cs (b ∷ bs) h e =
    let first : to_ascii_lowercase b ≡ c = cc in
    let others : map to_ascii_lowercase bs ≡ cs = cc in
    (b, bs, record { cut = refl; low = letter_low b c first h; size = omega (arith, same_size bs cs others) })
  where
    same_size : (bs cs : List ℕ) → map to_ascii_lowercase bs ≡ cs → length bs ≡ length cs
    same_size [] [] e = refl
    same_size [] (c ∷ cs) e = absurd (let never : [] ≡ c ∷ cs = e in cc)
    same_size (b ∷ bs) [] e = absurd (let never : to_ascii_lowercase b ∷ map to_ascii_lowercase bs ≡ [] = e in cc)
    same_size (b ∷ bs) (c ∷ cs) e =
        let others : map to_ascii_lowercase bs ≡ cs = cc in
        ap suc (same_size bs cs others)

-- a keyword at the front
keyword_found : (place token b : ℕ) (bs rest : List ℕ) → 65 ≤ b → typed_token (b ∷ (bs ++ rest)) ≡ found token
    → front Typed place (b ∷ (bs ++ rest))
    ≡ keyword_front place (b ∷ (bs ++ rest)) (record { token = token; size = length (keyword_of token) })
unfolding front keyword_at
keyword_found place token b bs rest low e =
    let first : (b == 32) ≡ false = ne_eqb b 32 (λ same. omega arith) in
    let second : (b == 34) ≡ false = ne_eqb b 34 (λ same. omega arith) in
    let third : (b == 63) ≡ false = ne_eqb b 63 (λ same. omega arith) in
    rw (first, second, third, e) refl

-- what a keyword with a token is
pub record IsSpelledAs (token : ℕ) (letters rest : List ℕ) : Type 0 where
  pub token_at : typed_token (letters ++ rest) ≡ found token
  pub size : length (keyword_of token) ≡ length letters
  pub no_remark : (token == 143) ≡ false
  pub no_data : (token == 131) ≡ false

-- a keyword of scripts is one symbol
word_symbol : (place token c : ℕ) (cs bytes rest : List ℕ) → 97 ≤ c → IsWord (c ∷ cs) bytes
    → IsSpelledAs token (c ∷ cs) rest
    → symbols Typed place 0 (bytes ++ rest) ≡ kept place (Code token) ∷ symbols Typed (place + length bytes) 0 rest
unfolding keyword_front
word_symbol place token c cs bytes rest h e k =
    let cut = letters_cut c cs bytes h e in
    let b = cut.0 in
    let bs = cut.1 in
    let cased : typed_token (bytes ++ rest) ≡ found token =
    token_cased bytes rest ∙ (ap (λ (w : List ℕ). typed_token (w ++ rest)) e ∙ k.token_at) in
    let here : typed_token (b ∷ (bs ++ rest)) ≡ found token =
    ap (λ (w : List ℕ). typed_token (w ++ rest)) (sym cut.2.cut) ∙ cased in
    let kind : keyword_front place (b ∷ (bs ++ rest)) (record { token = token; size = length (keyword_of token) })
    ≡ stored (Code token) (length (keyword_of token)) = rw (k.no_remark, k.no_data) refl in
    let size = cut.2.size in
    let more : length (keyword_of token) - 1 ≡ length bs = omega (arith, size, k.size) in
    rw cut.2.cut
    (symbol_front place b bs rest (Code token) (length (keyword_of token))
    (keyword_found place token b bs rest cut.2.low here ∙ kind) more)

open_spelled : (rest : List ℕ) → IsSpelledAs 159 (codes "open") rest
unfolding keyword_of
open_spelled rest = record { token_at = open_token rest; size = refl; no_remark = refl; no_data = refl }

close_spelled : (rest : List ℕ) → IsSpelledAs 160 (codes "close") rest
unfolding keyword_of
close_spelled rest = record { token_at = close_token rest; size = refl; no_remark = refl; no_data = refl }

cmd_spelled : (rest : List ℕ) → IsSpelledAs 157 (codes "cmd") rest
unfolding keyword_of
cmd_spelled rest = record { token_at = cmd_token rest; size = refl; no_remark = refl; no_data = refl }

print_to_spelled : (rest : List ℕ) → IsSpelledAs 152 (codes "print#") rest
unfolding keyword_of
print_to_spelled rest = record { token_at = print_to_token rest; size = refl; no_remark = refl; no_data = refl }

print_spelled : (rest : List ℕ) → NoHash rest → IsSpelledAs 153 (codes "print") rest
unfolding keyword_of
print_spelled rest free = record { token_at = print_token rest free; size = refl; no_remark = refl; no_data = refl }

chr_spelled : (rest : List ℕ) → IsSpelledAs 199 (codes "chr$") rest
unfolding keyword_of
chr_spelled rest = record { token_at = chr_token rest; size = refl; no_remark = refl; no_data = refl }

-- a remark is the rest of the line
remark_symbol : (place : ℕ) (word rest : List ℕ) → IsWord (codes "rem") word
    → symbols Typed place 0 (word ++ rest) ≡ kept place RemarkOf ∷ []
unfolding keyword_front
remark_symbol place word rest e =
    let low : 97 ≤ 114 = omega arith in
    let cut = letters_cut 114 (101 ∷ 109 ∷ []) word low e in
    let b = cut.0 in
    let bs = cut.1 in
    let cased : typed_token (word ++ rest) ≡ found 143 =
    token_cased word rest ∙ (ap (λ (w : List ℕ). typed_token (w ++ rest)) e ∙ rem_token rest) in
    let here : typed_token (b ∷ (bs ++ rest)) ≡ found 143 =
    ap (λ (w : List ℕ). typed_token (w ++ rest)) (sym cut.2.cut) ∙ cased in
    let all : front Typed place (b ∷ ((bs ++ rest) ++ [])) ≡ stored RemarkOf (length (b ∷ (bs ++ rest))) =
    rw (append-nil (bs ++ rest)) (keyword_found place 143 b bs rest cut.2.low here) in
    let more : length (b ∷ (bs ++ rest)) - 1 ≡ length (bs ++ rest) = omega arith in
    let whole = symbol_front place b (bs ++ rest) [] RemarkOf (length (b ∷ (bs ++ rest))) all more in
    let none = no_symbols (place + length (b ∷ (bs ++ rest))) 0 in
    rw cut.2.cut
    (ap (λ (t : List ℕ). symbols Typed place 0 (b ∷ t)) (sym (append-nil (bs ++ rest)))
    ∙ (whole ∙ ap (λ (t : List Symbol). kept place RemarkOf ∷ t) none))

-- ---- signs

-- each sign is a symbol of its own
comma_symbol : (place : ℕ) (rest : List ℕ)
    → symbols Typed place 0 (44 ∷ rest) ≡ kept place (Code 44) ∷ symbols Typed (place + 1) 0 rest
unfolding symbols front keyword_at typed_token keyword_of
comma_symbol place rest = refl

semicolon_symbol : (place : ℕ) (rest : List ℕ)
    → symbols Typed place 0 (59 ∷ rest) ≡ kept place (Code 59) ∷ symbols Typed (place + 1) 0 rest
unfolding symbols front keyword_at typed_token keyword_of
semicolon_symbol place rest = refl

colon_symbol : (place : ℕ) (rest : List ℕ)
    → symbols Typed place 0 (58 ∷ rest) ≡ kept place (Code 58) ∷ symbols Typed (place + 1) 0 rest
unfolding symbols front keyword_at typed_token keyword_of
colon_symbol place rest = refl

open_paren_symbol : (place : ℕ) (rest : List ℕ)
    → symbols Typed place 0 (40 ∷ rest) ≡ kept place (Code 40) ∷ symbols Typed (place + 1) 0 rest
unfolding symbols front keyword_at typed_token keyword_of
open_paren_symbol place rest = refl

close_paren_symbol : (place : ℕ) (rest : List ℕ)
    → symbols Typed place 0 (41 ∷ rest) ≡ kept place (Code 41) ∷ symbols Typed (place + 1) 0 rest
unfolding symbols front keyword_at typed_token keyword_of
close_paren_symbol place rest = refl

-- ---- digits

-- digits have a symbol each
abbrev pub digit_symbols : ℕ → List ℕ → List Symbol
digit_symbols place [] = []
digit_symbols place (d ∷ ds) = kept place (Code d) ∷ digit_symbols (place + 1) ds

is_none : Option ℕ → Bool
is_none None = true
is_none (Some token) = false

none_is : (o : Option ℕ) → is_none o ≡ true → o ≡ None
unfolding is_none
none_is None e = refl
none_is (Some token) e = absurd (false≢true e)

-- the first bytes from 48 on begin no keyword
begin_none : ℕ → List ℕ → Bool
begin_none zero rest = true
begin_none (suc n) rest = is_none (typed_token ((48 + n) ∷ rest)) && begin_none n rest

-- no keyword begins with a digit
digits_begin_none : (rest : List ℕ) → begin_none 10 rest ≡ true
unfolding begin_none is_none typed_token keyword_of
digits_begin_none rest = refl

none_at : (n k : ℕ) (rest : List ℕ) → begin_none n rest ≡ true → k < n → typed_token ((48 + k) ∷ rest) ≡ None
unfolding begin_none
none_at zero k rest e h = absurd (omega arith)
none_at (suc n) k rest e h =
    let parts = and_parts (is_none (typed_token ((48 + n) ∷ rest))) (begin_none n rest) e in
    last (k == n) refl parts.0 (λ less. none_at n k rest parts.1 less)
  where
    last : (t : Bool) → (k == n) ≡ t → is_none (typed_token ((48 + n) ∷ rest)) ≡ true
        → (k < n → typed_token ((48 + k) ∷ rest) ≡ None) → typed_token ((48 + k) ∷ rest) ≡ None
    last true same here others =
        let e = eqb-true k n same in
        rw e (none_is (typed_token ((48 + n) ∷ rest)) here)
    last false same here others =
        let less : k < n = omega (arith, eqb-false k n same) in
        others less

digit_bounds : (d : ℕ) → is_digit d ≡ true → (48 ≤ d) × (d ≤ 57)
digit_bounds d e =
    let parts = and_parts (nat_le 48 d) (nat_le d 57) e in (leb-true 48 d parts.0, leb-true d 57 parts.1)

digit_none : (d : ℕ) (rest : List ℕ) → is_digit d ≡ true → typed_token (d ∷ rest) ≡ None
digit_none d rest e =
    let bounds = digit_bounds d e in
    let low = bounds.0 in
    let high = bounds.1 in
    let less : d - 48 < 10 = omega arith in
    let same : 48 + (d - 48) ≡ d = omega arith in
    ap (λ (b : ℕ). typed_token (b ∷ rest)) (sym same) ∙ none_at 10 (d - 48) rest (digits_begin_none rest) less

-- so a digit is kept as it is
digit_symbol : (place d : ℕ) (rest : List ℕ) → is_digit d ≡ true
    → symbols Typed place 0 (d ∷ rest) ≡ kept place (Code d) ∷ symbols Typed (place + 1) 0 rest
unfolding symbols front keyword_at
digit_symbol place d rest e =
    let bounds = digit_bounds d e in
    let low = bounds.0 in
    let high = bounds.1 in
    let first : (d == 32) ≡ false = ne_eqb d 32 (λ same. omega arith) in
    let second : (d == 34) ≡ false = ne_eqb d 34 (λ same. omega arith) in
    let third : (d == 63) ≡ false = ne_eqb d 63 (λ same. omega arith) in
    let small : nat_lt d 128 ≡ true = lt-ltb d 128 (omega arith) in
    let same : nat_lt d 97 ≡ true = lt-ltb d 97 (omega arith) in
    rw (first, second, third, digit_none d rest e, small, same) refl

pub digits_found : (place : ℕ) (ds rest : List ℕ) → list_all is_digit ds ≡ true
    → symbols Typed place 0 (ds ++ rest) ≡ digit_symbols place ds ++ symbols Typed (place + length ds) 0 rest
digits_found place [] rest e = same_place place (place + 0) 0 rest (omega arith)
digits_found place (d ∷ ds) rest e =
    let parts = and_parts (is_digit d) (list_all is_digit ds) e in
    digit_symbol place d (ds ++ rest) parts.0
    ∙ ap (λ (ss : List Symbol). kept place (Code d) ∷ ss)
    (digits_found (place + 1) ds rest parts.1
    ∙ ap (λ (ss : List Symbol). digit_symbols (place + 1) ds ++ ss)
    (same_place (place + 1 + length ds) (place + length (d ∷ ds)) 0 rest (omega arith)))

-- ---- strings

-- a string goes as far as its quote
quote_ends : (s rest : List ℕ) → list_all is_no_quote s ≡ true → position_or_len is_quote (s ++ 34 ∷ rest) ≡ length s
quote_ends [] rest e = refl
quote_ends (b ∷ bs) rest e =
    let parts = and_parts (is_no_quote b) (list_all is_no_quote bs) e in
    rw (parts.0, quote_ends bs rest parts.1) (omega arith)

-- or as far as the line
line_ends : (s : List ℕ) → list_all is_no_quote s ≡ true → position_or_len is_quote s ≡ length s
line_ends [] e = refl
line_ends (b ∷ bs) e =
    let parts = and_parts (is_no_quote b) (list_all is_no_quote bs) e in
    rw (parts.0, line_ends bs parts.1) (omega arith)

-- a string whose first quote is at a place
abbrev string_at : ℕ → List ℕ → Stored
string_at place s = Text (place + 1) (place + 1 + length s)

-- a string with both quotes is one symbol
closed_symbol : (place : ℕ) (s rest : List ℕ) → list_all is_no_quote s ≡ true
    → symbols Typed place 0 (34 ∷ ((s ++ 34 ∷ []) ++ rest))
    ≡ kept place (string_at place s) ∷ symbols Typed (place + length (34 ∷ (s ++ 34 ∷ []))) 0 rest
unfolding front string_front
closed_symbol place s rest e =
    let n = length s in
    let joined : (s ++ 34 ∷ []) ++ rest ≡ s ++ (34 ∷ rest) = append_assoc s (34 ∷ []) rest in
    let ends : position_or_len is_quote ((s ++ 34 ∷ []) ++ rest) ≡ n = rw joined (quote_ends s rest e) in
    let longer : nat_lt n (length ((s ++ 34 ∷ []) ++ rest)) ≡ true =
    lt-ltb n (length ((s ++ 34 ∷ []) ++ rest)) (rw joined (omega (arith, length-append s (34 ∷ rest)))) in
    let is : front Typed place (34 ∷ ((s ++ 34 ∷ []) ++ rest)) ≡ stored (string_at place s) (n + 2) =
    rw (ends, longer) refl in
    let size : n + 2 - 1 ≡ length (s ++ 34 ∷ []) = omega (arith, length-append s (34 ∷ [])) in
    symbol_front place 34 (s ++ 34 ∷ []) rest (string_at place s) (n + 2) is size

-- so is one that ends with the line
open_symbol : (place : ℕ) (s rest : List ℕ) → list_all is_no_quote s ≡ true → rest ≡ []
    → symbols Typed place 0 (34 ∷ (s ++ rest))
    ≡ kept place (string_at place s) ∷ symbols Typed (place + length (34 ∷ s)) 0 rest
unfolding front string_front
open_symbol place s rest e last =
    let n = length s in
    let joined : s ++ rest ≡ s = rw last (append-nil s) in
    let ends : position_or_len is_quote (s ++ rest) ≡ n = rw joined (line_ends s e) in
    let whole : nat_lt n (length (s ++ rest)) ≡ false = le-ltb n (length (s ++ rest)) (rw joined (omega arith)) in
    let is : front Typed place (34 ∷ (s ++ rest)) ≡ stored (string_at place s) (n + 1) = rw (ends, whole) refl in
    let size : n + 1 - 1 ≡ length s = omega arith in
    symbol_front place 34 s rest (string_at place s) (n + 1) is size

-- a part of a text by its places
pub part_at : (front s back : List ℕ) (a b : ℕ) → length front ≡ a → length s ≡ b - a
    → slice_range (front ++ (s ++ back)) a b ≡ s
part_at front s back a b e h =
    ap (λ (t : List ℕ). take (b - a) t) (drop_at front (s ++ back) a e) ∙ take_at s back (b - a) h

-- a string is a part of the text in which it is
string_part : (before s back : List ℕ) (place : ℕ) → place ≡ length before
    → slice_range (before ++ (34 ∷ (s ++ back))) (place + 1) (place + 1 + length s) ≡ s
string_part before s back place e =
    let joined : (before ++ 34 ∷ []) ++ (s ++ back) ≡ before ++ (34 ∷ (s ++ back)) =
    append_assoc before (34 ∷ []) (s ++ back) in
    let size : length (before ++ 34 ∷ []) ≡ place + 1 = omega (arith, length-append before (34 ∷ [])) in
    let same : length s ≡ place + 1 + length s - (place + 1) = omega arith in
    rw (← joined) (part_at (before ++ 34 ∷ []) s back (place + 1) (place + 1 + length s) size same)

-- and in the text
string_within : (before s back : List ℕ) (place : ℕ) → place ≡ length before
    → place + 1 + length s ≤ length (before ++ (34 ∷ (s ++ back)))
string_within before s back place e =
    omega (arith, length-append before (34 ∷ (s ++ back)), length-append s back)

-- ---- lexemes of a line

-- symbols are those of a lexeme
abbrev pub IsPiece : List ℕ → Lexeme → List Symbol → Type 0
IsPiece text (Word k) xs = (p : ℕ) × (xs ≡ kept p (Code (token_of k)) ∷ [])
IsPiece text Remark xs = (p : ℕ) × (xs ≡ kept p RemarkOf ∷ [])
IsPiece text (Digits ds) xs = (p : ℕ) × (xs ≡ digit_symbols p ds) × (0 < length ds) × (list_all is_digit ds ≡ true)
IsPiece text (Quoted s) xs = (p : ℕ) × (a : ℕ) × (b : ℕ) × (xs ≡ kept p (Text a b) ∷ []) × (a ≤ b)
    × (b ≤ length text) × (slice_range text a b ≡ s)
IsPiece text Comma xs = (p : ℕ) × (xs ≡ kept p (Code 44) ∷ [])
IsPiece text Semicolon xs = (p : ℕ) × (xs ≡ kept p (Code 59) ∷ [])
IsPiece text Colon xs = (p : ℕ) × (xs ≡ kept p (Code 58) ∷ [])
IsPiece text OpenParen xs = (p : ℕ) × (xs ≡ kept p (Code 40) ∷ [])
IsPiece text CloseParen xs = (p : ℕ) × (xs ≡ kept p (Code 41) ∷ [])
IsPiece text Stray xs = ⊥

-- the symbols of a lexeme come before those of the bytes after it
abbrev Pieces : List ℕ → ℕ → Lexeme → List ℕ → List ℕ → Type 0
Pieces text place l bytes after = (xs : List Symbol) × IsPiece text l xs
    × (symbols Typed place 0 (bytes ++ after) ≡ xs ++ symbols Typed (place + length bytes) 0 after)

word_piece : (place token c : ℕ) (cs bytes after : List ℕ) → 97 ≤ c → IsWord (c ∷ cs) bytes
    → IsSpelledAs token (c ∷ cs) after
    → (xs : List Symbol) × ((p : ℕ) × (xs ≡ kept p (Code token) ∷ []))
    × (symbols Typed place 0 (bytes ++ after) ≡ xs ++ symbols Typed (place + length bytes) 0 after)
word_piece place token c cs bytes after h e k =
    (kept place (Code token) ∷ [], (place, refl), word_symbol place token c cs bytes after h e k)

-- each lexeme that bytes spell has its symbols
piece_found : (text before back : List ℕ) (place : ℕ) (l : Lexeme) (bytes after : List ℕ) → place ≡ length before
    → text ≡ before ++ (bytes ++ (after ++ back)) → Spells l bytes after → Pieces text place l bytes after
piece_found text before back place (Word Open) bytes after at is e =
    word_piece place 159 111 (112 ∷ 101 ∷ 110 ∷ []) bytes after (omega arith) e (open_spelled after)
piece_found text before back place (Word Close) bytes after at is e =
    word_piece place 160 99 (108 ∷ 111 ∷ 115 ∷ 101 ∷ []) bytes after (omega arith) e (close_spelled after)
piece_found text before back place (Word Cmd) bytes after at is e =
    word_piece place 157 99 (109 ∷ 100 ∷ []) bytes after (omega arith) e (cmd_spelled after)
piece_found text before back place (Word PrintTo) bytes after at is e =
    word_piece place 152 112 (114 ∷ 105 ∷ 110 ∷ 116 ∷ 35 ∷ []) bytes after (omega arith) e (print_to_spelled after)
piece_found text before back place (Word Print) bytes after at is e =
    word_piece place 153 112 (114 ∷ 105 ∷ 110 ∷ 116 ∷ []) bytes after (omega arith) e.0 (print_spelled after e.1)
piece_found text before back place (Word Chr) bytes after at is e =
    word_piece place 199 99 (104 ∷ 114 ∷ 36 ∷ []) bytes after (omega arith) e (chr_spelled after)
piece_found text before back place Remark bytes after at is e =
    let all : symbols Typed place 0 (bytes ++ after) ≡ kept place RemarkOf ∷ [] =
    rw (e.2, append_assoc e.0 e.1 after) (remark_symbol place e.0 (e.1 ++ after) e.3) in
    let none : symbols Typed (place + length bytes) 0 after ≡ [] =
    rw e.4 (no_symbols (place + length bytes) 0) in
    (kept place RemarkOf ∷ [], (place, refl), rw none all)
piece_found text before back place (Digits ds) bytes after at is e =
    (digit_symbols place ds, (place, refl, e.1, e.2), rw e.0 (digits_found place ds after e.2))
piece_found text before back place (Quoted s) bytes after at is (all, inl e) =
    let joined : (s ++ 34 ∷ []) ++ (after ++ back) ≡ s ++ (34 ∷ (after ++ back)) =
    append_assoc s (34 ∷ []) (after ++ back) in
    let whole : text ≡ before ++ (34 ∷ (s ++ (34 ∷ (after ++ back)))) =
    is ∙ rw e (ap (λ (t : List ℕ). before ++ (34 ∷ t)) joined) in
    let order : place + 1 ≤ place + 1 + length s = omega arith in (
      kept place (string_at place s) ∷ [],
      (
        place,
        place + 1,
        place + 1 + length s,
        refl,
        order,
        rw whole (string_within before s (34 ∷ (after ++ back)) place at),
        rw whole (string_part before s (34 ∷ (after ++ back)) place at),
      ),
      rw e (closed_symbol place s after all),
    )
piece_found text before back place (Quoted s) bytes after at is (all, inr e) =
    let whole : text ≡ before ++ (34 ∷ (s ++ (after ++ back))) = is ∙ rw e.0 refl in
    let order : place + 1 ≤ place + 1 + length s = omega arith in (
      kept place (string_at place s) ∷ [],
      (
        place,
        place + 1,
        place + 1 + length s,
        refl,
        order,
        rw whole (string_within before s (after ++ back) place at),
        rw whole (string_part before s (after ++ back) place at),
      ),
      rw e.0 (open_symbol place s after all e.1),
    )
piece_found text before back place Comma bytes after at is e =
    (kept place (Code 44) ∷ [], (place, refl), rw e (comma_symbol place after))
piece_found text before back place Semicolon bytes after at is e =
    (kept place (Code 59) ∷ [], (place, refl), rw e (semicolon_symbol place after))
piece_found text before back place Colon bytes after at is e =
    (kept place (Code 58) ∷ [], (place, refl), rw e (colon_symbol place after))
piece_found text before back place OpenParen bytes after at is e =
    (kept place (Code 40) ∷ [], (place, refl), rw e (open_paren_symbol place after))
piece_found text before back place CloseParen bytes after at is e =
    (kept place (Code 41) ∷ [], (place, refl), rw e (close_paren_symbol place after))
piece_found text before back place Stray bytes after at is e = absurd e

-- ---- the symbols of a line

-- the lexeme is spelled
abbrev pub IsKnown : Lexeme → Type 0
IsKnown l = l ≡ Stray → ⊥

abbrev pub AreKnown : List Lexeme → Type 0
AreKnown [] = Unit {0}
AreKnown (l ∷ ls) = IsKnown l × AreKnown ls

-- symbols are those of lexemes, one after another
abbrev pub AreSymbols : List ℕ → List Lexeme → List Symbol → Type 0
AreSymbols text [] ss = ss ≡ []
AreSymbols text (l ∷ ls) ss = (xs : List Symbol) × (rest : List Symbol) × (ss ≡ xs ++ rest) × IsPiece text l xs
    × AreSymbols text ls rest

-- a lexeme that is no stray byte is spelled
pub spelled_of : (l : Lexeme) (bytes after : List ℕ) → IsKnown l → IsLexeme l bytes after → Spells l bytes after
spelled_of l bytes after known (inl e) = e
spelled_of l bytes after known (inr e) = absurd (known e.0)

-- the test for blanks says so
pub all_blank : (bs : List ℕ) → list_all is_blank bs ≡ true → AreBlank bs
all_blank [] e = tt
all_blank (b ∷ bs) e =
    let p = and_parts (is_blank b) (list_all is_blank bs) e in (eqb-true b 32 p.0, all_blank bs p.1)

-- the symbols of bytes are those of their lexemes
pub symbols_found : (text : List ℕ) (ls : List Lexeme) (line before back : List ℕ) (place : ℕ) → place ≡ length before
    → text ≡ before ++ (line ++ back) → AreKnown ls → AreSpaced line ls
    → AreSymbols text ls (symbols Typed place 0 line)
symbols_found text [] line before back place at is known e =
    ap (λ (t : List ℕ). symbols Typed place 0 t) (sym (append-nil line))
    ∙ (symbols_blank place line [] (all_blank line e) ∙ no_symbols (place + length line) 0)
symbols_found text (l ∷ ls) line before back place at is known e =
    let blanks = e.0 in
    let bytes = e.1 in
    let after = e.2 in
    let cut = e.3 in
    let before_word = before ++ blanks in
    let place_word = place + length blanks in
    let at_word : place_word ≡ length before_word = omega (arith, length-append before blanks) in
    let whole : text ≡ before_word ++ (bytes ++ (after ++ back)) =
    is ∙ rw cut (ap (λ (t : List ℕ). before ++ t) (append_assoc blanks (bytes ++ after) back)
    ∙ (ap (λ (t : List ℕ). before ++ (blanks ++ t)) (append_assoc bytes after back)
    ∙ sym (append_assoc before blanks (bytes ++ (after ++ back))))) in
    let piece = piece_found text before_word back place_word l bytes after at_word whole
    (spelled_of l bytes after known.0 e.5) in
    let at_rest : place_word + length bytes ≡ length (before_word ++ bytes) =
    omega (arith, length-append before_word bytes) in
    let rest_whole : text ≡ (before_word ++ bytes) ++ (after ++ back) =
    whole ∙ sym (append_assoc before_word bytes (after ++ back)) in
    let rest = symbols_found text ls after (before_word ++ bytes) back (place_word + length bytes) at_rest rest_whole
    known.1 e.6 in (
      piece.0,
      symbols Typed (place_word + length bytes) 0 after,
      ap (λ (t : List ℕ). symbols Typed place 0 t) cut
          ∙ (symbols_blank place blanks (bytes ++ after) (all_blank blanks e.4) ∙ piece.2),
      piece.1,
      rest,
    )

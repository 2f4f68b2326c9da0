use Rattle.std.proofs.Common.{◌≡◌, ℕ, suc, ◌+◌, ◌-◌, ◌*◌, ◌≤◌, ◌==◌, true, false, List, [], ◌∷◌, ◌++◌}
use Rattle.std.proofs.Common.{length, refl, ap, arith}
use Rattle.std.specs.Prelude.{nat_le, nat_lt, slice_range}
use Rattle.std.specs.List.{list_all}
use Rattle.std.proofs.lemmas.Bool.{and_parts, le-leb, leb-true, lt-leb, lt-ltb}
use Rattle.std.proofs.lemmas.List.{drop_at}
use Rattle.pr_base.specs.Digits.{is_digit, number_after, number_of}
use Rattle.pr_basic.specs.Lexemes.{CloseParen, Colon, Comma, Digits, Lexeme as Script, OpenParen, Quoted}
use Rattle.pr_basic.specs.Lexemes.{Remark as Remarked, Semicolon, Stray, Word as Keywords}
use Rattle.pr_basic.specs.declared.lexemes.Keyword.TheVariants.{Chr, Close, Cmd, Open, Print, PrintTo}
use Rattle.pr_interpreter.specs.declared.constants.Tens.TheVariants.{Times}
use Rattle.pr_interpreter.specs.declared.lexemes.Lexeme.{Lexeme}
use Rattle.pr_interpreter.specs.declared.lexemes.Word.{Word}
use Rattle.pr_interpreter.specs.declared.lexemes.Word.TheVariants.{Code, Constant, Remark, Text}
use Rattle.pr_interpreter.specs.declared.numerals.Exponent.{Exponent}
use Rattle.pr_interpreter.specs.declared.numerals.Numeral.{Numeral}
use Rattle.pr_interpreter.specs.declared.symbols.Stored.TheVariants.{Code as CodeOf, Remark as RemarkOf, Text as TextOf}
use Rattle.pr_interpreter.specs.declared.symbols.Symbol.{Symbol}
use Rattle.pr_interpreter.specs.Lexemes.{begins_constant, constant_front, is_letter, is_sign, lexemes, word_front}
use Rattle.pr_interpreter.specs.Numerals.{after_code, constant_of, exponent_of, numeral, numeral_size}
use Rattle.pr_interpreter.specs.Numerals.{with_digit}
use Rattle.pr_interpreter.specs.Symbols.{first_code}
use Rattle.pr_run.specs.ScriptTexts.{AreShort}
use Rattle.pr_run.specs.Spelled.{lexeme}
use Rattle.pr_run.proofs.ScriptSymbols.{AreSymbols, IsPiece, digit_symbols, kept, token_of}

-- ---- numbers

-- digits that made a number
abbrev whole : ℕ → Numeral
whole n = record { digits = n; more = false; further = 0; decimals = 0; point = false }

-- what follows does not go on with a number
abbrev NoNumber : List Symbol → Type 0
NoNumber ss = (is_digit (first_code ss) ≡ false) × ((first_code ss == 46) ≡ false) × ((first_code ss == 69) ≡ false)

-- more digits make no smaller number
number_grows : (n : ℕ) (ds : List ℕ) → n ≤ number_after n ds
number_grows n [] = omega arith
number_grows n (d ∷ ds) =
    let more = number_grows (10 * n + (d - 48)) ds in omega arith

-- a numeral ends where no digit follows
numeral_stops : (n : ℕ) (ss : List Symbol) → NoNumber ss → numeral (whole n) ss ≡ whole n
unfolding after_code
numeral_stops n [] stop = refl
numeral_stops n (s ∷ ss) stop = rw (stop.0, stop.1) refl

size_stops : (n : ℕ) (ss : List Symbol) → NoNumber ss → numeral_size (whole n) ss ≡ 0
unfolding after_code
size_stops n [] stop = refl
size_stops n (s ∷ ss) stop = rw (stop.0, stop.1) refl

-- digits are read as their number
numeral_read : (place n : ℕ) (ds : List ℕ) (rest : List Symbol) → list_all is_digit ds ≡ true
    → number_after n ds ≤ 255 → NoNumber rest
    → numeral (whole n) (digit_symbols place ds ++ rest) ≡ whole (number_after n ds)
unfolding after_code with_digit
numeral_read place n [] rest e h stop = numeral_stops n rest stop
numeral_read place n (d ∷ ds) rest e h stop =
    let parts = and_parts (is_digit d) (list_all is_digit ds) e in
    let grown = number_grows n (d ∷ ds) in
    let room : nat_lt n 429496729 ≡ true = lt-ltb n 429496729 (omega arith) in
    let next : n * 10 + (d - 48) ≡ 10 * n + (d - 48) = omega arith in
    rw (parts.0, room, next) (numeral_read (place + 1) (10 * n + (d - 48)) ds rest parts.1 h stop)

-- and all of them are read
size_read : (place n : ℕ) (ds : List ℕ) (rest : List Symbol) → list_all is_digit ds ≡ true
    → number_after n ds ≤ 255 → NoNumber rest
    → numeral_size (whole n) (digit_symbols place ds ++ rest) ≡ length ds
unfolding after_code with_digit
size_read place n [] rest e h stop = size_stops n rest stop
size_read place n (d ∷ ds) rest e h stop =
    let parts = and_parts (is_digit d) (list_all is_digit ds) e in
    let grown = number_grows n (d ∷ ds) in
    let room : nat_lt n 429496729 ≡ true = lt-ltb n 429496729 (omega arith) in
    let next : n * 10 + (d - 48) ≡ 10 * n + (d - 48) = omega arith in
    let more = size_read (place + 1) (10 * n + (d - 48)) ds rest parts.1 h stop in
    rw (parts.0, room, next, more) (omega arith)

digits_length : (place : ℕ) (ds : List ℕ) → length (digit_symbols place ds) ≡ length ds
digits_length place [] = refl
digits_length place (d ∷ ds) = ap suc (digits_length (place + 1) ds)

-- the word of a number
abbrev pub constant : ℕ → Word
constant n = Constant (record { digits = n; more = false; tens = Times 0; roundings = 0; plain = true })

abbrev none_of : Exponent
none_of = record { negative = false; value = 0; size = 0 }

exponent_none : (ss : List Symbol) → (first_code ss == 69) ≡ false → exponent_of ss ≡ none_of
unfolding exponent_of
exponent_none ss e = rw e refl

abbrev read_as : Word → ℕ → Word × ℕ
read_as w n = (w, n)

-- digits are the constant of their number
constant_read : (place : ℕ) (ds : List ℕ) (rest : List Symbol) → list_all is_digit ds ≡ true → number_of ds ≤ 255
    → length ds ≤ 255 → NoNumber rest
    → constant_front (digit_symbols place ds ++ rest) ≡ read_as (constant (number_of ds)) (length ds)
unfolding constant_front constant_of
constant_read place ds rest e h k stop =
    let read = numeral_read place 0 ds rest e h stop in
    let size = size_read place 0 ds rest e h stop in
    let left = drop_at (digit_symbols place ds) rest (length ds) (digits_length place ds) in
    let small : nat_le (length ds) 255 ≡ true = le-leb (length ds) 255 k in
    rw (size, read, left, exponent_none rest stop.2, small)
    (ap (λ (n : ℕ). read_as (constant (number_of ds)) n) (omega arith))

digits_passed : (place : ℕ) (ds : List ℕ) (rest : List Symbol)
    → lexemes (length ds) (digit_symbols place ds ++ rest) ≡ lexemes 0 rest
unfolding lexemes
digits_passed place [] rest = refl
digits_passed place (d ∷ ds) rest = digits_passed (place + 1) ds rest

no_letter : (d : ℕ) → is_digit d ≡ true → is_letter d ≡ false
no_letter d e =
    let parts = and_parts (nat_le 48 d) (nat_le d 57) e in
    let high = leb-true d 57 parts.1 in
    let none : nat_le 65 d ≡ false = lt-leb 65 d (omega arith) in
    rw none refl

-- and one lexeme
number_lexeme : (place d : ℕ) (ds : List ℕ) (rest : List Symbol) → list_all is_digit (d ∷ ds) ≡ true
    → number_of (d ∷ ds) ≤ 255 → length (d ∷ ds) ≤ 255 → NoNumber rest
    → lexemes 0 (digit_symbols place (d ∷ ds) ++ rest)
    ≡ lexeme place (constant (number_of (d ∷ ds))) ∷ lexemes 0 rest
unfolding lexemes word_front
number_lexeme place d ds rest e h k stop =
    let parts = and_parts (is_digit d) (list_all is_digit ds) e in
    let read = constant_read place (d ∷ ds) rest e h k stop in
    let left : length (d ∷ ds) - 1 ≡ length ds = omega arith in
    rw (no_letter d parts.0, parts.0, read, left, digits_passed (place + 1) ds rest) refl

-- ---- other lexemes

-- a code that is no letter, digit or sign of a comparison is a lexeme
code_lexeme : (p c : ℕ) (rest : List Symbol) → is_letter c ≡ false → begins_constant c ≡ false → is_sign c ≡ false
    → lexemes 0 (kept p (CodeOf c) ∷ rest) ≡ lexeme p (Code c) ∷ lexemes 0 rest
unfolding lexemes word_front
code_lexeme p c rest letter digit sign = rw (letter, digit, sign) refl

-- so is a string
text_lexeme : (p a b : ℕ) (rest : List Symbol)
    → lexemes 0 (kept p (TextOf a b) ∷ rest) ≡ lexeme p (Text a b) ∷ lexemes 0 rest
unfolding lexemes word_front
text_lexeme p a b rest = refl

-- and a remark
remark_lexeme : (p : ℕ) (rest : List Symbol) → lexemes 0 (kept p RemarkOf ∷ rest) ≡ lexeme p Remark ∷ lexemes 0 rest
unfolding lexemes word_front
remark_lexeme p rest = refl

-- ---- the lexemes of a line

-- a number is followed by nothing, or by one of these
abbrev pub EndsDigits : Script → Type 0
EndsDigits Comma = Unit {0}
EndsDigits Colon = Unit {0}
EndsDigits CloseParen = Unit {0}
EndsDigits Semicolon = ⊥
EndsDigits OpenParen = ⊥
EndsDigits (Keywords k) = ⊥
EndsDigits Remarked = ⊥
EndsDigits (Digits ds) = ⊥
EndsDigits (Quoted s) = ⊥
EndsDigits Stray = ⊥

-- so it ends
abbrev pub EndsNumber : List Script → Type 0
EndsNumber [] = Unit {0}
EndsNumber (l ∷ ls) = EndsDigits l

-- a lexeme of a statement, with those after it
abbrev pub IsPlain : Script → List Script → Type 0
IsPlain (Digits ds) ls = (number_of ds ≤ 255) × EndsNumber ls
IsPlain Stray ls = ⊥
IsPlain (Keywords k) ls = Unit {0}
IsPlain Remarked ls = Unit {0}
IsPlain (Quoted s) ls = Unit {0}
IsPlain Comma ls = Unit {0}
IsPlain Semicolon ls = Unit {0}
IsPlain Colon ls = Unit {0}
IsPlain OpenParen ls = Unit {0}
IsPlain CloseParen ls = Unit {0}

-- lexemes of statements, one after another
abbrev pub ArePlain : List Script → Type 0
ArePlain [] = Unit {0}
ArePlain (l ∷ ls) = IsPlain l ls × ArePlain ls

-- a word is that of a script's lexeme
abbrev pub Matches : List ℕ → Script → Word → Type 0
Matches text (Keywords k) w = w ≡ Code (token_of k)
Matches text Remarked w = w ≡ Remark
Matches text (Digits ds) w = w ≡ constant (number_of ds)
Matches text (Quoted s) w = (a : ℕ) × (b : ℕ) × (w ≡ Text a b) × (a ≤ b) × (b ≤ length text)
    × (slice_range text a b ≡ s)
Matches text Comma w = w ≡ Code 44
Matches text Semicolon w = w ≡ Code 59
Matches text Colon w = w ≡ Code 58
Matches text OpenParen w = w ≡ Code 40
Matches text CloseParen w = w ≡ Code 41
Matches text Stray w = ⊥

-- lexemes are those of a script, one for one
abbrev pub AllMatch : List ℕ → List Script → List Lexeme → Type 0
AllMatch text [] xs = xs ≡ []
AllMatch text (l ∷ ls) xs = (p : ℕ) × (w : Word) × (rest : List Lexeme) × (xs ≡ lexeme p w ∷ rest)
    × Matches text l w × AllMatch text ls rest

-- symbols before others are a lexeme that is that of a script
abbrev Made : List ℕ → Script → List Symbol → List Symbol → Type 0
Made text l xs rest = (p : ℕ) × (w : Word) × (lexemes 0 (xs ++ rest) ≡ lexeme p w ∷ lexemes 0 rest) × Matches text l w

code_made : (c : ℕ) (xs rest : List Symbol) → is_letter c ≡ false → begins_constant c ≡ false → is_sign c ≡ false
    → (p : ℕ) × (xs ≡ kept p (CodeOf c) ∷ [])
    → (p : ℕ) × (w : Word) × (lexemes 0 (xs ++ rest) ≡ lexeme p w ∷ lexemes 0 rest) × (w ≡ Code c)
code_made c xs rest letter digit sign e =
    (e.0, Code c, rw e.1 (code_lexeme e.0 c rest letter digit sign), refl)

-- a code does not go on with a number
code_ends : (text : List ℕ) (c : ℕ) (ss xs rest : List Symbol) → ss ≡ xs ++ rest → is_digit c ≡ false
    → (c == 46) ≡ false → (c == 69) ≡ false → (p : ℕ) × (xs ≡ kept p (CodeOf c) ∷ []) → NoNumber ss
code_ends text c ss xs rest cut digit point exponent e = rw (cut, e.1) (digit, point, exponent)

-- what follows a number does not go on with it
number_ends : (text : List ℕ) (ls : List Script) (ss : List Symbol) → EndsNumber ls → AreSymbols text ls ss
    → NoNumber ss
number_ends text [] ss ends e = rw e (refl, refl, refl)
number_ends text (Comma ∷ ls) ss ends e = code_ends text 44 ss e.0 e.1 e.2 refl refl refl e.3
number_ends text (Colon ∷ ls) ss ends e = code_ends text 58 ss e.0 e.1 e.2 refl refl refl e.3
number_ends text (CloseParen ∷ ls) ss ends e = code_ends text 41 ss e.0 e.1 e.2 refl refl refl e.3
number_ends text (Semicolon ∷ ls) ss ends e = absurd ends
number_ends text (OpenParen ∷ ls) ss ends e = absurd ends
number_ends text (Keywords k ∷ ls) ss ends e = absurd ends
number_ends text (Remarked ∷ ls) ss ends e = absurd ends
number_ends text (Digits ds ∷ ls) ss ends e = absurd ends
number_ends text (Quoted s ∷ ls) ss ends e = absurd ends
number_ends text (Stray ∷ ls) ss ends e = absurd ends

number_made : (text ds : List ℕ) (xs rest : List Symbol) → IsPiece text (Digits ds) xs → number_of ds ≤ 255
    → length ds ≤ 255 → NoNumber rest → Made text (Digits ds) xs rest
number_made text [] xs rest e h k stop = let some = e.2 in absurd (omega arith)
number_made text (d ∷ ds) xs rest e h k stop =
    (e.0, constant (number_of (d ∷ ds)), rw e.1 (number_lexeme e.0 d ds rest e.3 h k stop), refl)

-- the symbols of each lexeme of a script are one lexeme
piece_made : (text : List ℕ) (l : Script) (ls : List Script) (xs rest : List Symbol) → IsPiece text l xs
    → ArePlain (l ∷ ls) → AreShort (l ∷ ls) → AreSymbols text ls rest → Made text l xs rest
piece_made text (Keywords Open) ls xs rest e plain short others = code_made 159 xs rest refl refl refl e
piece_made text (Keywords Close) ls xs rest e plain short others = code_made 160 xs rest refl refl refl e
piece_made text (Keywords Cmd) ls xs rest e plain short others = code_made 157 xs rest refl refl refl e
piece_made text (Keywords PrintTo) ls xs rest e plain short others = code_made 152 xs rest refl refl refl e
piece_made text (Keywords Print) ls xs rest e plain short others = code_made 153 xs rest refl refl refl e
piece_made text (Keywords Chr) ls xs rest e plain short others = code_made 199 xs rest refl refl refl e
piece_made text Remarked ls xs rest e plain short others =
    (e.0, Remark, rw e.1 (remark_lexeme e.0 rest), refl)
piece_made text (Digits ds) ls xs rest e plain short others =
    number_made text ds xs rest e plain.0.0 short.0 (number_ends text ls rest plain.0.1 others)
piece_made text (Quoted s) ls xs rest e plain short others =
    (e.0, Text e.1 e.2, rw e.3 (text_lexeme e.0 e.1 e.2 rest), (e.1, e.2, refl, e.4, e.5, e.6))
piece_made text Comma ls xs rest e plain short others = code_made 44 xs rest refl refl refl e
piece_made text Semicolon ls xs rest e plain short others = code_made 59 xs rest refl refl refl e
piece_made text Colon ls xs rest e plain short others = code_made 58 xs rest refl refl refl e
piece_made text OpenParen ls xs rest e plain short others = code_made 40 xs rest refl refl refl e
piece_made text CloseParen ls xs rest e plain short others = code_made 41 xs rest refl refl refl e
piece_made text Stray ls xs rest e plain short others = absurd e

no_lexemes : (ss : List Symbol) → ss ≡ [] → lexemes 0 ss ≡ []
unfolding lexemes
no_lexemes ss e = rw e refl

-- the lexemes of symbols are those of a script
pub lexemes_match : (text : List ℕ) (ls : List Script) (ss : List Symbol) → ArePlain ls → AreShort ls
    → AreSymbols text ls ss → AllMatch text ls (lexemes 0 ss)
lexemes_match text [] ss plain short e = no_lexemes ss e
lexemes_match text (l ∷ ls) ss plain short e =
    let m = piece_made text l ls e.0 e.1 e.3 plain short e.4 in
    (m.0, m.1, lexemes 0 e.1, rw e.2 m.2, m.3, lexemes_match text ls e.1 plain.1 short.1 e.4)

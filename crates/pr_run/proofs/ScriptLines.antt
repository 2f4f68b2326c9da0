use Rattle.std.proofs.Common.{◌≡◌, ℕ, ◌+◌, ◌-◌, ◌*◌, ◌<◌, ◌≤◌, ◌==◌, true, false, List, []}
use Rattle.std.proofs.Common.{◌∷◌, ◌++◌, length, take, inl, inr, Some, None, Ok, refl, ap, sym, ◌∙◌, arith, subst}
use Rattle.std.proofs.Common.{append_assoc, append-nil, length-append, Option, Result}
use Rattle.std.specs.Prelude.{nat_lt, slice_range}
use Rattle.std.specs.List.{filter, list_all, position_or_len}
use Rattle.std.proofs.lemmas.Bool.{and_parts, eq-eqb, eqb-true, le-ltb, leb-true, lt-ltb, ne_eqb}
use Rattle.std.proofs.lemmas.List.{nil_from_length, take_at}
use Rattle.pr_base.specs.Digits.{is_digit, number_after, number_of}
use Rattle.pr_basic.specs.Grammar.{AreParts, HasNumber, IsLine, IsPrinting, IsStatement, parts}
use Rattle.pr_basic.specs.LexemeLaws.{LexemesAreFound}
use Rattle.pr_basic.specs.Lexemes.{AreLexemes, CloseParen, Colon, Comma, Digits, IsWord, Lexeme as Script}
use Rattle.pr_basic.specs.Lexemes.{OpenParen, Quoted, Remark as Remarked, Semicolon, Spells, Stray, Word as Keywords}
use Rattle.pr_basic.specs.Lexemes.{is_space}
use Rattle.pr_basic.specs.LineAt.{HasBasicNumber}
use Rattle.pr_basic.specs.Text.{Text as Written}
use Rattle.pr_basic.specs.declared.lexemes.Keyword.{Keyword}
use Rattle.pr_basic.specs.declared.lexemes.Keyword.TheVariants.{Chr, Close, Cmd, Open, Print as PrintWord}
use Rattle.pr_basic.specs.declared.lexemes.Keyword.TheVariants.{PrintTo as PrintToWord}
use Rattle.pr_basic.specs.declared.statement.Statement.{Statement as Output}
use Rattle.pr_basic.specs.declared.statement.Statement.TheVariants as output
use Rattle.pr_interpreter.specs.declared.fault.ProgramFault.{ProgramFault}
use Rattle.pr_interpreter.specs.declared.lexemes.Lexeme.{Lexeme}
use Rattle.pr_interpreter.specs.declared.lines.Line.{Line}
use Rattle.pr_interpreter.specs.declared.program.ProgramLine.{ProgramLine}
use Rattle.pr_interpreter.specs.declared.statements.PlacedStatement.{PlacedStatement}
use Rattle.pr_interpreter.specs.declared.symbols.Symbol.{Symbol}
use Rattle.pr_interpreter.specs.declared.symbols.Writing.TheVariants.{Typed}
use Rattle.pr_interpreter.specs.Lexemes.{lexemes, line_lexemes}
use Rattle.pr_interpreter.specs.Lines.{blanks, front, is_text, line_in, line_number, next_number}
use Rattle.pr_interpreter.specs.Programs.{program_line}
use Rattle.pr_interpreter.specs.Statements.{further, statements}
use Rattle.pr_interpreter.specs.Symbols.{symbols}
use Rattle.pr_run.specs.Plain.{LineSays}
use Rattle.pr_run.specs.ScriptTexts.{AreShort, AreSpaced, IsNumberedLine, is_blank, is_performed}
use Rattle.pr_run.proofs.ScriptLexemes.{lexemes_match}
use Rattle.pr_run.proofs.ScriptParts.{Cut, cut_parts, no_parts, parts_plain, parts_spelled, plain_known, remark_last}
use Rattle.pr_run.proofs.ScriptSymbols.{AreBlank, AreKnown, IsKnown, all_blank, letters_cut, no_symbols, part_at}
use Rattle.pr_run.proofs.ScriptSymbols.{spelled_of, symbols_blank, symbols_found}
use Rattle.pr_run.proofs.SpelledLemmas.{lines_read}

-- ---- lexemes with blanks around them

-- blanks are spaces
blanks_spaces : (bs : List ℕ) → list_all is_blank bs ≡ true → list_all is_space bs ≡ true
blanks_spaces [] e = refl
blanks_spaces (b ∷ bs) e =
    let p = and_parts (is_blank b) (list_all is_blank bs) e in rw (p.0, blanks_spaces bs p.1) refl

-- lexemes with blanks around them are those of the line
spaced_lexemes : (ls : List Script) (line : List ℕ) → AreSpaced line ls → AreLexemes line ls
spaced_lexemes [] line e = blanks_spaces line e
spaced_lexemes (l ∷ ls) line e =
    (e.0, e.1, e.2, e.3, blanks_spaces e.0 e.4, e.5, spaced_lexemes ls e.2 e.6)

-- ---- the statements of a line

abbrev read_all : List PlacedStatement → Result (List PlacedStatement) ProgramFault
read_all ss = Ok ss

-- statements are read from symbols, and say the output statements
abbrev pub AreSaid : List ℕ → ℕ → ℕ → List ℕ → List Output → Type 0
AreSaid text end place line ss = (said : List PlacedStatement)
    × (statements end (lexemes 0 (symbols Typed place 0 line)) ≡ read_all said)
    × LineSays text said (filter is_performed ss)

-- bytes of statements are read as statements that say them
line_said : LexemesAreFound → (text : List ℕ) (rest : List Script) (line before back : List ℕ) (place end : ℕ)
    (ss : List Output) → place ≡ length before → text ≡ before ++ (line ++ back) → AreShort rest → AreSpaced line rest
    → AreParts (parts rest) ss → AreSaid text end place line ss
line_said found text rest line before back place end ss at is short e c =
    let last = remark_last found rest line (spaced_lexemes rest line e) in
    let plain = parts_plain (parts rest) rest ss refl c last in
    let known = plain_known rest plain in
    let all = symbols_found text rest line before back place at is known e in
    let m = lexemes_match text rest (symbols Typed place 0 line) plain short all in
    let p = parts_spelled text (parts rest) rest ss (lexemes 0 (symbols Typed place 0 line)) refl c last m in
    let r = lines_read text end (p.0 ∷ p.1) p.2 in
    let read = ap (λ (xs : List Lexeme). statements end xs) p.3 ∙ r.1 in
    (r.0, read, subst (λ (os : List Output). LineSays text r.0 os) p.4 r.2)

-- ---- where the statements of a line begin

-- the first lexeme is no number
abbrev NoDigits : Script → Type 0
NoDigits l = (ds : List ℕ) → l ≡ Digits ds → ⊥

-- lexemes do not begin with a number
abbrev Starts : List Script → Type 0
Starts [] = Unit {0}
Starts (l ∷ ls) = NoDigits l

word_starts : (k : Keyword) → NoDigits (Keywords k)
word_starts k ds e = cc

printing_starts : (k : Keyword) (file : ℕ) (line : Written) (ls : List Script)
    → IsPrinting k file line ls → Starts ls
printing_starts k file line ls (f, n, inl c) = subst Starts (sym c.0) (word_starts k)
printing_starts k file line ls (f, n, inr c) = subst Starts (sym c.1) (word_starts k)

-- no statement does
statement_starts : (s : Output) (ls : List Script) → IsStatement s ls → Starts ls
statement_starts (output.OpenFile file device None) ls c = subst Starts (sym c.2) (word_starts Open)
statement_starts (output.OpenFile file device (Some second)) ls c = subst Starts (sym c.3) (word_starts Open)
statement_starts (output.CloseFile file) ls c = subst Starts (sym c.1) (word_starts Close)
statement_starts (output.Cmd file line) ls c = printing_starts Cmd file line ls c
statement_starts (output.PrintTo file line) ls c = printing_starts PrintToWord file line ls c
statement_starts (output.Print line) ls c = subst Starts (sym c.1) (word_starts PrintWord)
statement_starts output.Rem ls c = subst Starts (sym c.1) (λ ds e. cc)

starts_joined : (p more : List Script) → Starts p → Starts (p ++ (Colon ∷ more))
starts_joined [] more e = λ ds f. cc
starts_joined (l ∷ p) more e = e

part_starts : (p : List Script) (ps : List (List Script)) (ss : List Output) → AreParts (p ∷ ps) ss → Starts p
part_starts p ps ss (inl c) = subst Starts (sym c.0) tt
part_starts p ps ss (inr c) = statement_starts c.0 p c.2

some_parts : (l : Script) (ls : List Script) → parts (l ∷ ls) ≡ [] → ⊥
some_parts l ls e = let never : l ∷ ls ≡ [] = no_parts (l ∷ ls) e in cc

-- and so no line after its number
parts_start : (ps : List (List Script)) (ls : List Script) (ss : List Output) → parts ls ≡ ps → AreParts ps ss
    → Starts ls
parts_start [] [] ss e c = tt
parts_start [] (l ∷ ls) ss e c = absurd (some_parts l ls e)
parts_start (p ∷ ps) ls ss e c = by (cut_parts ls p ps e)
  where
    by : Cut ls p ps → Starts ls
    by (inl k) = subst Starts (sym k.0) (part_starts p ps ss c)
    by (inr k) = subst Starts (sym k.1) (starts_joined p k.0 (part_starts p ps ss c))

-- a letter is text
text_letter : (b : ℕ) → 65 ≤ b → is_text b ≡ true
text_letter b h =
    let first : (b == 32) ≡ false = ne_eqb b 32 (λ e. omega arith) in
    let second : nat_lt b 48 ≡ false = le-ltb b 48 (omega arith) in
    let third : nat_lt 57 b ≡ true = lt-ltb 57 b (omega arith) in
    rw (first, second, third) refl

-- a text begins with a byte that is neither a blank nor a digit
abbrev BeginsText : List ℕ → Type 0
BeginsText [] = Unit {0}
BeginsText (b ∷ bs) = is_text b ≡ true

word_text : (c : ℕ) (cs bytes after : List ℕ) → 97 ≤ c → IsWord (c ∷ cs) bytes → BeginsText (bytes ++ after)
word_text c cs bytes after h e =
    let cut = letters_cut c cs bytes h e in
    subst (λ (t : List ℕ). BeginsText (t ++ after)) (sym cut.2.cut) (text_letter cut.0 cut.2.low)

-- each lexeme but a number is text
lexeme_text : (l : Script) (bytes after : List ℕ) → NoDigits l → Spells l bytes after → BeginsText (bytes ++ after)
lexeme_text (Keywords Open) bytes after other e =
    word_text 111 (112 ∷ 101 ∷ 110 ∷ []) bytes after (omega arith) e
lexeme_text (Keywords Close) bytes after other e =
    word_text 99 (108 ∷ 111 ∷ 115 ∷ 101 ∷ []) bytes after (omega arith) e
lexeme_text (Keywords Cmd) bytes after other e = word_text 99 (109 ∷ 100 ∷ []) bytes after (omega arith) e
lexeme_text (Keywords PrintToWord) bytes after other e =
    word_text 112 (114 ∷ 105 ∷ 110 ∷ 116 ∷ 35 ∷ []) bytes after (omega arith) e
lexeme_text (Keywords PrintWord) bytes after other e =
    word_text 112 (114 ∷ 105 ∷ 110 ∷ 116 ∷ []) bytes after (omega arith) e.0
lexeme_text (Keywords Chr) bytes after other e = word_text 99 (104 ∷ 114 ∷ 36 ∷ []) bytes after (omega arith) e
lexeme_text Remarked bytes after other e =
    subst (λ (t : List ℕ). BeginsText (t ++ after)) (sym e.2)
    (subst BeginsText (sym (append_assoc e.0 e.1 after))
    (word_text 114 (101 ∷ 109 ∷ []) e.0 (e.1 ++ after) (omega arith) e.3))
lexeme_text (Digits ds) bytes after other e = absurd (other ds refl)
lexeme_text (Quoted s) bytes after other (all, inl e) =
    subst (λ (t : List ℕ). BeginsText (t ++ after)) (sym e) refl
lexeme_text (Quoted s) bytes after other (all, inr e) =
    subst (λ (t : List ℕ). BeginsText (t ++ after)) (sym e.0) refl
lexeme_text Comma bytes after other e = subst (λ (t : List ℕ). BeginsText (t ++ after)) (sym e) refl
lexeme_text Semicolon bytes after other e = subst (λ (t : List ℕ). BeginsText (t ++ after)) (sym e) refl
lexeme_text Colon bytes after other e = subst (λ (t : List ℕ). BeginsText (t ++ after)) (sym e) refl
lexeme_text OpenParen bytes after other e = subst (λ (t : List ℕ). BeginsText (t ++ after)) (sym e) refl
lexeme_text CloseParen bytes after other e = subst (λ (t : List ℕ). BeginsText (t ++ after)) (sym e) refl
lexeme_text Stray bytes after other e = absurd e

-- bytes are blanks and then text that begins with neither a blank nor a digit
record IsCut (bytes spaces body : List ℕ) : Type 0 where
  pub cut : bytes ≡ spaces ++ body
  pub blank : AreBlank spaces
  pub begins : BeginsText body

-- lexemes that do not begin with a number are text after blanks
body_cut : (ls : List Script) (line : List ℕ) → Starts ls → AreKnown ls → AreSpaced line ls
    → (spaces : List ℕ) × (body : List ℕ) × IsCut line spaces body
body_cut [] line starts known e =
    (line, [], record { cut = sym (append-nil line); blank = all_blank line e; begins = tt })
body_cut (l ∷ ls) line starts known e = (
  e.0,
  e.1 ++ e.2,
  record {
    cut = e.3;
    blank = all_blank e.0 e.4;
    begins = lexeme_text l e.1 e.2 starts (spelled_of l e.1 e.2 known.0 e.5);
  },
)

-- ---- the number of a line

-- bytes that are blanks and digits
abbrev AreFront : List ℕ → Type 0
AreFront [] = Unit {0}
AreFront (b ∷ bs) = (is_text b ≡ false) × AreFront bs

-- such bytes joined are such bytes
front_joined : (xs ys : List ℕ) → AreFront xs → AreFront ys → AreFront (xs ++ ys)
front_joined [] ys e f = f
front_joined (x ∷ xs) ys e f = (e.0, front_joined xs ys e.1 f)

blanks_front : (bs : List ℕ) → AreBlank bs → AreFront bs
blanks_front [] e = tt
blanks_front (b ∷ bs) e = (rw e.0 refl, blanks_front bs e.1)

digit_no_text : (d : ℕ) → is_digit d ≡ true → is_text d ≡ false
digit_no_text d e =
    let p = and_parts _ _ e in
    let low = leb-true 48 d p.0 in
    let high = leb-true d 57 p.1 in
    let first : (d == 32) ≡ false = ne_eqb d 32 (λ same. omega arith) in
    let second : nat_lt d 48 ≡ false = le-ltb d 48 (omega arith) in
    let third : nat_lt 57 d ≡ false = le-ltb 57 d (omega arith) in
    rw (first, second, third) refl

digits_front : (ds : List ℕ) → list_all is_digit ds ≡ true → AreFront ds
digits_front [] e = tt
digits_front (d ∷ ds) e =
    let p = and_parts (is_digit d) (list_all is_digit ds) e in (digit_no_text d p.0, digits_front ds p.1)

text_at : (body : List ℕ) → BeginsText body → position_or_len is_text body ≡ 0
text_at [] e = refl
text_at (b ∷ bs) e = rw e refl

-- the front of a row goes as far as they do
front_size : (xs body : List ℕ) → AreFront xs → BeginsText body → front (xs ++ body) ≡ length xs
front_size [] body e f = text_at body f
front_size (x ∷ xs) body e f = rw (e.0, front_size xs body e.1 f) (omega arith)

-- its blanks go as far as its number
blanks_size : (bs rest : List ℕ) (d : ℕ) → AreBlank bs → (d == 32) ≡ false → blanks (bs ++ (d ∷ rest)) ≡ length bs
blanks_size [] rest d e f = rw f refl
blanks_size (b ∷ bs) rest d e f = rw (e.0, blanks_size bs rest d e.1 f) (omega arith)

-- blanks change no number
number_blank : (n : ℕ) (bs rest : List ℕ) → AreBlank bs → line_number n (bs ++ rest) ≡ line_number n rest
number_blank n [] rest e = refl
number_blank n (b ∷ bs) rest e = rw e.0 (number_blank n bs rest e.1)

-- digits make their number
number_digits : (n : ℕ) (ds rest : List ℕ) → list_all is_digit ds ≡ true
    → line_number n (ds ++ rest) ≡ line_number (number_after n ds) rest
number_digits n [] rest e = refl
number_digits n (d ∷ ds) rest e =
    let p = and_parts (is_digit d) (list_all is_digit ds) e in
    let q = and_parts _ _ p.0 in
    let low = leb-true 48 d q.0 in
    let first : (d == 32) ≡ false = ne_eqb d 32 (λ same. omega arith) in
    let next : n * 10 + (d - 48) ≡ 10 * n + (d - 48) = omega arith in
    let grown : next_number n d ≡ 10 * n + (d - 48) = rw first next in
    ap (λ (m : ℕ). line_number m (ds ++ rest)) grown ∙ number_digits (10 * n + (d - 48)) ds rest p.1

number_ends : (n : ℕ) (bs : List ℕ) → AreBlank bs → line_number n bs ≡ n
number_ends n [] e = refl
number_ends n (b ∷ bs) e = rw e.0 (number_ends n bs e.1)

-- a row: blanks, the digits of its number, blanks and the rest
record IsRow (row spaces ds more body : List ℕ) : Type 0 where
  pub cut : row ≡ (spaces ++ (ds ++ more)) ++ body
  pub before : AreBlank spaces
  pub some : 0 < length ds
  pub digits : list_all is_digit ds ≡ true
  pub after : AreBlank more
  pub begins : BeginsText body
  pub small : number_of ds ≤ 63999

abbrev line_at : ℕ → ℕ → ℕ → Line
line_at number start end = record { number = number; start = start; end = end }

abbrev some_line : Line → Result (Option Line) ProgramFault
some_line l = Ok (Some l)

abbrev no_line : Result (Option Line) ProgramFault
no_line = Ok None

-- a row has the number that its digits make
row_number : (row spaces ds more body : List ℕ) → IsRow row spaces ds more body
    → line_number 0 (take (front row) row) ≡ number_of ds
row_number row spaces ds more body c =
    let head = spaces ++ (ds ++ more) in
    let size : front (head ++ body) ≡ length head =
    front_size head body
    (front_joined spaces (ds ++ more) (blanks_front spaces c.before)
    (front_joined ds more (digits_front ds c.digits) (blanks_front more c.after))) c.begins in
    rw (c.cut, size, take_at head body (length head) refl)
    (number_blank 0 spaces (ds ++ more) c.before
    ∙ (number_digits 0 ds more c.digits ∙ number_ends (number_of ds) more c.after))

-- how many bytes come before its text
row_front : (row spaces ds more body : List ℕ) → IsRow row spaces ds more body
    → front row ≡ length spaces + length ds + length more
row_front row spaces ds more body c =
    let head = spaces ++ (ds ++ more) in
    let size : front (head ++ body) ≡ length head =
    front_size head body
    (front_joined spaces (ds ++ more) (blanks_front spaces c.before)
    (front_joined ds more (digits_front ds c.digits) (blanks_front more c.after))) c.begins in
    rw (c.cut, size) (omega (arith, length-append spaces (ds ++ more), length-append ds more))

-- how many blanks it begins with
row_blanks : (row spaces ds more body : List ℕ) → IsRow row spaces ds more body → blanks row ≡ length spaces
row_blanks row spaces [] more body c = let some = c.some in absurd (omega arith)
row_blanks row spaces (d ∷ ds) more body c =
    let p = and_parts (is_digit d) (list_all is_digit ds) c.digits in
    let q = and_parts _ _ p.0 in
    let low = leb-true 48 d q.0 in
    let first : (d == 32) ≡ false = ne_eqb d 32 (λ same. omega arith) in
    rw (c.cut, append_assoc spaces (d ∷ (ds ++ more)) body)
    (blanks_size spaces ((ds ++ more) ++ body) d c.before first)

-- how many bytes it has
row_size : (row spaces ds more body : List ℕ) → IsRow row spaces ds more body
    → length row ≡ length spaces + length ds + length more + length body
row_size row spaces ds more body c =
    rw c.cut
    (omega (
      arith,
      length-append (spaces ++ (ds ++ more)) body,
      length-append spaces (ds ++ more),
      length-append ds more,
    ))

-- a row with a number is a line
row_line : (start : ℕ) (row spaces ds more body : List ℕ) → IsRow row spaces ds more body
    → line_in start row ≡ some_line (line_at (number_of ds) (start + front row) (start + length row))
unfolding line_in
row_line start row spaces ds more body c =
    let some = c.some in
    let small = c.small in
    let f = row_front row spaces ds more body c in
    let b = row_blanks row spaces ds more body c in
    let s = row_size row spaces ds more body c in
    let first : (blanks row == length row) ≡ false = ne_eqb (blanks row) (length row) (λ e. omega arith) in
    let second : (front row == blanks row) ≡ false = ne_eqb (front row) (blanks row) (λ e. omega arith) in
    let third : nat_lt 63999 (number_of ds) ≡ false = le-ltb 63999 (number_of ds) (omega arith) in
    rw (first, second, row_number row spaces ds more body c, third) refl

-- a row of blanks is no line
only_blanks : (bs : List ℕ) → AreBlank bs → blanks bs ≡ length bs
only_blanks [] e = refl
only_blanks (b ∷ bs) e = rw (e.0, only_blanks bs e.1) (omega arith)

same_itself : (n : ℕ) → (n == n) ≡ true
same_itself n = eq-eqb n n refl

-- a row of blanks is none
pub blank_line : (start : ℕ) (row : List ℕ) → list_all is_blank row ≡ true → line_in start row ≡ no_line
unfolding line_in
blank_line start row e = rw (only_blanks row (all_blank row e), same_itself (length row)) refl

-- ---- what a line of a script is in a program

-- no statements are read of nothing
nothing_read : (end place : ℕ) → statements end (lexemes 0 (symbols Typed place 0 [])) ≡ read_all []
unfolding further lexemes
nothing_read end place = rw (no_symbols place 0) refl

abbrev read_line : ℕ → List PlacedStatement → Result ProgramLine ProgramFault
read_line n said = Ok (record { number = n; statements = said })

-- a row is a line of a program that says output statements; with nothing after its number it says nothing
pub record IsLineSaid (text : List ℕ) (place : ℕ) (row : List ℕ) (n : ℕ) (ss : List Output) : Type 0 where
  pub line : Line
  pub is : line_in place row ≡ some_line line
  pub numbered : line.number ≡ n
  pub said : List PlacedStatement
  pub read : program_line text line ≡ read_line n said
  pub says : LineSays text said (filter is_performed ss)
  pub empty : (line.start == line.end) ≡ true → said ≡ []

-- a row of a text, by what it begins with
row_said : LexemesAreFound → (text row spaces ds after before back : List ℕ) (place n : ℕ) (rest : List Script)
    (ss : List Output) → place ≡ length before → text ≡ before ++ (row ++ back) → row ≡ spaces ++ (ds ++ after)
    → AreBlank spaces → 0 < length ds → list_all is_digit ds ≡ true → number_of ds ≡ n → n ≤ 63999
    → AreShort rest → AreSpaced after rest → AreParts (parts rest) ss → IsLineSaid text place row n ss
unfolding program_line line_lexemes
row_said found text row spaces ds after before back place n rest ss at is cut blank some digits number few short e c =
    let last = remark_last found rest after (spaced_lexemes rest after e) in
    let plain = parts_plain (parts rest) rest ss refl c last in
    let known = plain_known rest plain in
    let b = body_cut rest after (parts_start (parts rest) rest ss refl c) known e in
    let more = b.0 in
    let body = b.1 in
    let small : number_of ds ≤ 63999 = omega arith in
    let whole : row ≡ (spaces ++ (ds ++ more)) ++ body =
    cut ∙ (ap (λ (t : List ℕ). spaces ++ (ds ++ t)) b.2.cut
    ∙ (ap (λ (t : List ℕ). spaces ++ t) (sym (append_assoc ds more body))
    ∙ sym (append_assoc spaces (ds ++ more) body))) in
    let r : IsRow row spaces ds more body = record {
      cut = whole;
      before = blank;
      some = some;
      digits = digits;
      after = b.2.blank;
      begins = b.2.begins;
      small = small;
    } in
    let f = row_front row spaces ds more body r in
    let z = row_size row spaces ds more body r in
    let start = place + front row in
    let end = place + length row in
    let l = line_at (number_of ds) start end in
    let head = spaces ++ (ds ++ more) in
    let in_text : text ≡ (before ++ head) ++ (body ++ back) =
    is ∙ (ap (λ (t : List ℕ). before ++ (t ++ back)) whole
    ∙ (ap (λ (t : List ℕ). before ++ t) (append_assoc head body back)
    ∙ sym (append_assoc before head (body ++ back)))) in
    let head_size : length (before ++ head) ≡ start =
    omega (arith, length-append before head, length-append spaces (ds ++ more), length-append ds more) in
    let body_size : length body ≡ end - start = omega arith in
    let part : slice_range text start end ≡ body =
    ap (λ (t : List ℕ). slice_range t start end) in_text
    ∙ part_at (before ++ head) body back start end head_size body_size in
    let rest_text : text ≡ (before ++ (spaces ++ ds)) ++ (after ++ back) =
    is ∙ (ap (λ (t : List ℕ). before ++ (t ++ back)) (cut ∙ sym (append_assoc spaces ds after))
    ∙ (ap (λ (t : List ℕ). before ++ t) (append_assoc (spaces ++ ds) after back)
    ∙ sym (append_assoc before (spaces ++ ds) (after ++ back)))) in
    let rest_place = length (before ++ (spaces ++ ds)) in
    let said = line_said found text rest after (before ++ (spaces ++ ds)) back rest_place end ss refl rest_text short e
    c in
    let same : symbols Typed rest_place 0 after ≡ symbols Typed start 0 body =
    ap (λ (t : List ℕ). symbols Typed rest_place 0 t) b.2.cut
    ∙ (symbols_blank rest_place more body b.2.blank
    ∙ ap (λ (p : ℕ). symbols Typed p 0 body)
    (omega (arith, length-append before (spaces ++ ds), length-append spaces ds))) in
    let in_line : statements end (lexemes 0 (symbols Typed start 0 body)) ≡ read_all said.0 =
    ap (λ (ss : List Symbol). statements end (lexemes 0 ss)) (sym same) ∙ said.1 in
    let read : program_line text l ≡ read_line n said.0 = rw (part, in_line, number) refl in
    let none : (start == end) ≡ true → said.0 ≡ [] = λ t.
    (let equal : start ≡ end = eqb-true start end t in
    let no_body : body ≡ [] = nil_from_length body (omega arith) in
    let nothing : statements end (lexemes 0 (symbols Typed start 0 body)) ≡ read_all [] =
    ap (λ (t : List ℕ). statements end (lexemes 0 (symbols Typed start 0 t))) no_body ∙ nothing_read end start in
    let both : read_all said.0 ≡ read_all [] = sym in_line ∙ nothing in
    cc) in
    record {
      line = l;
      is = row_line place row spaces ds more body r;
      numbered = number;
      said = said.0;
      read = read;
      says = said.2;
      empty = none;
    }

-- the statements after the number of a line
numbered_parts : LexemesAreFound → (row : List ℕ) (n : ℕ) (ss : List Output) (h : IsNumberedLine row n) → IsLine row ss
    → (n ≤ 63999) × AreParts (parts h.rest) ss
numbered_parts found row n ss h c = by c.3
  where
    same : c.0 ≡ Digits h.digits ∷ h.rest
    same = sym (found row c.0 c.2)
        ∙ found row (Digits h.digits ∷ h.rest) (spaced_lexemes (Digits h.digits ∷ h.rest) row h.spelled)

    by : HasNumber c.0 c.1 → (n ≤ 63999) × AreParts (parts h.rest) ss
    by (inl none) = absurd (none.1 h.digits h.rest same)
    by (inr some) =
        let both : Digits some.0 ∷ c.1 ≡ Digits h.digits ∷ h.rest = sym some.1 ∙ same in
        let digits : some.0 ≡ h.digits = cc in
        let rest : c.1 ≡ h.rest = cc in
        let number : number_of some.0 ≡ n = ap number_of digits ∙ h.number in
        let small = some.2 in
        (omega arith, subst (λ (ls : List Script). AreParts (parts ls) ss) rest c.4)

-- the line has its number in scripts
pub numbered_as : LexemesAreFound → (row : List ℕ) (n : ℕ) (ss : List Output) → IsNumberedLine row n → IsLine row ss
    → HasBasicNumber row n
numbered_as found row n ss h c =
    let lexemes = Digits h.digits ∷ h.rest in (
      lexemes,
      spaced_lexemes lexemes row h.spelled,
      h.digits,
      h.rest,
      refl,
      h.number,
      (numbered_parts found row n ss h c).0,
    )

-- a line of a script that has a number says its statements in a program
pub numbered_row : LexemesAreFound → (text row before back : List ℕ) (place n : ℕ) (ss : List Output)
    → place ≡ length before → text ≡ before ++ (row ++ back) → IsNumberedLine row n → IsLine row ss
    → IsLineSaid text place row n ss
numbered_row found text row before back place n ss at is h c =
    let p = numbered_parts found row n ss h c in
    let ds = h.digits in
    let e = h.spelled in
    let never : IsKnown (Digits ds) = λ stray. cc in
    let spelled = spelled_of (Digits ds) e.1 e.2 never e.5 in
    let cut : row ≡ e.0 ++ (ds ++ e.2) = e.3 ∙ ap (λ (t : List ℕ). e.0 ++ (t ++ e.2)) spelled.0 in
    row_said found text row e.0 ds e.2 before back place n h.rest ss at is cut (all_blank e.0 e.4) spelled.1 spelled.2
    h.number p.0 h.short e.6 p.1

-- a row of blanks says nothing
pub blank_said : LexemesAreFound → (row : List ℕ) (ss : List Output) → list_all is_blank row ≡ true → IsLine row ss
    → ss ≡ []
unfolding parts
blank_said found row ss e c = by c.3
  where
    none : c.0 ≡ []
    none = sym (found row c.0 c.2) ∙ found row [] (blanks_spaces row e)

    by : HasNumber c.0 c.1 → ss ≡ []
    by (inl k) = subst (λ (ls : List Script). AreParts (parts ls) ss) (sym k.0 ∙ none) c.4
    by (inr k) = absurd (let never : [] ≡ Digits k.0 ∷ c.1 = sym none ∙ k.1 in cc)

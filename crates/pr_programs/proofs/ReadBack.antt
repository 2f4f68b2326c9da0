-- The script of what is performed is read as that.
use Rattle.std.proofs.Common.{◌≡◌, ℕ, ◌^◌, ◌<◌, ◌≤◌, Bool, true, false, List, [], ◌∷◌, ◌++◌, length, refl, ap, subst, sym, ◌∙◌, arith, append_assoc, append-nil, rules, inl, inr, None, Some}
use Rattle.std.proofs.lemmas.Fmt.{decimal_nonempty, digits_decimal, digits_value-decimal}
use Rattle.std.proofs.lemmas.Grind.{common_steps}
use Rattle.std.proofs.lemmas.Bool.Decides.{nat_tests}
use Rattle.std.proofs.lemmas.List.{length-map}
use Rattle.std.proofs.lemmas.List.Elements.{All-head, All-tail}
use Rattle.std.proofs.lemmas.List.Folds.{list_all-append}
use Rattle.std.proofs.lemmas.Str.Parse.{IsNumeralModel, numerals_by_fold}
use Rattle.std.specs.Prelude.{◌⊎◌, ◌==◌, codes, decimal, map, if◌then◌else◌}
use Rattle.std.specs.List.{All, list_all}
use Rattle.pr_base.specs.Digits.{is_digit, number_after, number_of}
use Rattle.pr_base.specs.Lines.{lines_of, onto_first}
use Rattle.pr_basic.specs.Grammar.{AreItems, AreLines, AreParts, Code, IsItem, IsLine, IsList, IsPrinting, IsStatement, Item, Quote, Semi, ends_after, is_printable, item_bytes, item_lexemes, items_bytes, items_lexemes, parts, without_return}
use Rattle.pr_basic.specs.Lexemes.{AreLexemes, CloseParen, Colon, Comma, Digits, Lexeme, OpenParen, Quoted, Remark, Semicolon, Spells, Stray, Word, is_no_quote}
use Rattle.pr_basic.specs.Text.{Text}
use Rattle.pr_basic.specs.declared.lexemes.Keyword.{Keyword}
use Rattle.pr_basic.specs.declared.lexemes.Keyword.TheVariants as word
use Rattle.pr_basic.specs.declared.statement.Statement.{Statement}
use Rattle.pr_basic.specs.declared.statement.Statement.TheVariants.{OpenFile, CloseFile, Cmd, PrintTo, Print, Rem}
use Rattle.pr_listing.specs.Listing.{is_held}
use Rattle.pr_programs.specs.Scripts.{has_list, item_text, items_of, joined, list_text, listed, onto_string, performed_text, script_text, statement_text}
use Rattle.pr_run.specs.declared.performed.Performed.{Performed}
use Rattle.pr_programs.specs.ScriptLaws.{AreBounded, IsBounded, IsShort, ScriptsReadBack}

-- decimal digits spell their number
own : IsNumeralModel (λ ds. list_all is_digit ds ≡ true) (number_after 0)
own = numerals_by_fold _ (search rules) number_after (search rules)

-- a test of a list holds of its first element and of the others
of_both : {A : Type 0} (p : A → Bool) (x : A) (xs : List A) → list_all p (x ∷ xs) ≡ true
    → (p x ≡ true) × (list_all p xs ≡ true)
of_both p x xs h = (grind (arith, common_steps), grind (arith, common_steps))

-- and of two lists it holds of both together
both_all : {A : Type 0} (p : A → Bool) (xs ys : List A) → list_all p xs ≡ true → list_all p ys ≡ true
    → list_all p (xs ++ ys) ≡ true
both_all p xs ys a b = list_all-append p xs ys ∙ rw (a, b) refl

-- ---- lexemes

-- a lexeme in front of others
lexeme : (l : Lexeme) (bytes after : List ℕ) (ls : List Lexeme) → Spells l bytes after → AreLexemes after ls
    → AreLexemes (bytes ++ after) (l ∷ ls)
lexeme l bytes after ls h more = ([], bytes, after, refl, refl, inl h, more)

-- a space in front of lexemes
spaced : (x : List ℕ) (ls : List Lexeme) → AreLexemes x ls → AreLexemes (32 ∷ x) ls
spaced x [] h = h
spaced x (l ∷ ls) (spaces, bytes, after, cut, blank, is, more) =
    (32 ∷ spaces, bytes, after, ap (λ v. 32 ∷ v) cut, blank, is, more)

-- digits of a number, and what follows with a byte that is none
number : (n b : ℕ) (x : List ℕ) (ls : List Lexeme) → n < 2 ^ 64 → is_digit b ≡ false → AreLexemes (b ∷ x) ls
    → AreLexemes (decimal n ++ b ∷ x) (Digits (decimal n) ∷ ls)
number n b x ls small other more =
    lexeme (Digits (decimal n)) (decimal n) (b ∷ x) ls
    (refl, decimal_nonempty n small, digits_decimal own n small, other) more

-- a comma in front of lexemes
comma : (x : List ℕ) (ls : List Lexeme) → AreLexemes x ls → AreLexemes (44 ∷ x) (Comma ∷ ls)
comma x ls more = lexeme Comma (44 ∷ []) x ls refl more

-- digits of a number at the end
last_number : (n : ℕ) → n < 2 ^ 64 → AreLexemes (decimal n) (Digits (decimal n) ∷ [])
last_number n small =
    subst (λ v. AreLexemes v (Digits (decimal n) ∷ [])) (append-nil (decimal n))
    (lexeme (Digits (decimal n)) (decimal n) [] [] (refl, decimal_nonempty n small, digits_decimal own n small, tt)
    refl)

-- digits of a number, and what a list adds
value : (n : ℕ) → n < 2 ^ 64 → number_of (decimal n) ≡ n
value n small = digits_value-decimal own n small

-- ---- items

-- what is written of items
abbrev items_text : List Item → List ℕ
items_text [] = []
items_text (i ∷ is) = item_text i ++ items_text is

-- an item that is written: a string, or a byte's CHR$
abbrev IsMade : Item → Type 0
IsMade Semi = Unit {0}
IsMade (Quote s) = list_all is_held s ≡ true
IsMade (Code ds) = (0 < length ds) × (list_all is_digit ds ≡ true) × (number_of ds ≤ 255)

abbrev AreMade : List Item → Type 0
AreMade [] = Unit {0}
AreMade (i ∷ is) = IsMade i × AreMade is

-- bytes that a string can have are no quotes
held_no_quote : (s : List ℕ) → list_all is_held s ≡ true → list_all is_no_quote s ≡ true
held_no_quote [] h = refl
held_no_quote (b ∷ s) h =
    let k = of_both is_held b s h in
    let this : is_no_quote b ≡ true = grind (arith, common_steps, k.0) in
    rw (this, held_no_quote s k.1) refl

-- and printable
held_printable : (s : List ℕ) → list_all is_held s ≡ true → list_all is_printable s ≡ true
held_printable [] h = refl
held_printable (b ∷ s) h =
    let k = of_both is_held b s h in
    let this : is_printable b ≡ true = grind (arith, common_steps, k.0) in
    rw (this, held_printable s k.1) refl

-- so are digits
digits_printable : (ds : List ℕ) → list_all is_digit ds ≡ true → list_all is_printable ds ≡ true
digits_printable [] h = refl
digits_printable (d ∷ ds) h =
    let k = of_both is_digit d ds h in
    let this : is_printable d ≡ true = grind (arith, common_steps, k.0) in
    rw (this, digits_printable ds k.1) refl

decimal_printable : (n : ℕ) → n < 2 ^ 64 → list_all is_printable (decimal n) ≡ true
decimal_printable n small = digits_printable (decimal n) (digits_decimal own n small)

-- the lexemes of an item, and of what follows
item_read : (i : Item) (x : List ℕ) (ls : List Lexeme) → IsMade i → AreLexemes x ls
    → AreLexemes (item_text i ++ x) (item_lexemes i ++ ls)
item_read Semi x ls h more = lexeme Semicolon (59 ∷ []) x ls refl more
item_read (Quote s) x ls h more = lexeme (Quoted s) (34 ∷ s ++ 34 ∷ []) x ls (held_no_quote s h, inl refl) more
item_read (Code ds) x ls (some, are, small) more =
    let close : AreLexemes (41 ∷ x) (CloseParen ∷ ls) = lexeme CloseParen (41 ∷ []) x ls refl more in
    let digits : AreLexemes (ds ++ 41 ∷ x) (Digits ds ∷ CloseParen ∷ ls) =
    lexeme (Digits ds) ds (41 ∷ x) (CloseParen ∷ ls) (refl, some, are, refl) close in
    let inner : AreLexemes ((ds ++ 41 ∷ []) ++ x) (Digits ds ∷ CloseParen ∷ ls) =
    subst (λ v. AreLexemes v (Digits ds ∷ CloseParen ∷ ls)) (sym (append_assoc ds (41 ∷ []) x)) digits in
    let opened : AreLexemes (40 ∷ ((ds ++ 41 ∷ []) ++ x)) (OpenParen ∷ Digits ds ∷ CloseParen ∷ ls) =
    lexeme OpenParen (40 ∷ []) ((ds ++ 41 ∷ []) ++ x) (Digits ds ∷ CloseParen ∷ ls) refl inner in
    lexeme (Word word.Chr) (67 ∷ 72 ∷ 82 ∷ 36 ∷ []) (40 ∷ ((ds ++ 41 ∷ []) ++ x))
    (OpenParen ∷ Digits ds ∷ CloseParen ∷ ls) refl opened

-- the lexemes of items
items_read : (is : List Item) → AreMade is → AreLexemes (items_text is) (items_lexemes is)
items_read [] h = refl
items_read (i ∷ is) h = item_read i (items_text is) (items_lexemes is) h.0 (items_read is h.1)

-- what is written of an item is printable
item_printable : (i : Item) → IsMade i → list_all is_printable (item_text i) ≡ true
item_printable Semi h = refl
item_printable (Quote s) h = both_all is_printable s (34 ∷ []) (held_printable s h) refl
item_printable (Code ds) h = both_all is_printable ds (41 ∷ []) (digits_printable ds h.1) refl

items_printable : (is : List Item) → AreMade is → list_all is_printable (items_text is) ≡ true
items_printable [] h = refl
items_printable (i ∷ is) h = both_all is_printable (item_text i) (items_text is) (item_printable i h.0)
    (items_printable is h.1)

-- an item that is written is one of a script
good_item : (i : Item) → IsMade i → IsItem i
good_item Semi h = tt
good_item (Quote s) h = held_printable s h
good_item (Code ds) h = h.2

good_items : (is : List Item) → AreMade is → AreItems is
good_items [] h = tt
good_items (i ∷ is) h = (good_item i h.0, good_items is h.1)

-- ---- the items of bytes

-- no item is a semicolon
abbrev IsNoSemi : Item → Type 0
IsNoSemi Semi = ⊥
IsNoSemi (Quote s) = Unit {0}
IsNoSemi (Code ds) = Unit {0}

-- an item of bytes
abbrev IsOfBytes : Item → Type 0
IsOfBytes i = IsMade i × IsNoSemi i

abbrev AreOfBytes : List Item → Type 0
AreOfBytes [] = Unit {0}
AreOfBytes (i ∷ is) = IsOfBytes i × AreOfBytes is

onto_made : (b : ℕ) (is : List Item) → is_held b ≡ true → AreOfBytes is → AreOfBytes (onto_string b is)
onto_made b [] h k = ((rw h refl, tt), tt)
onto_made b (Semi ∷ is) h k = absurd k.0.1
onto_made b (Quote s ∷ is) h k = ((rw h k.0.0, tt), k.1)
onto_made b (Code ds ∷ is) h k = ((rw h refl, tt), k)

onto_bytes : (b : ℕ) (is : List Item) → items_bytes (onto_string b is) ≡ b ∷ items_bytes is
onto_bytes b [] = refl
onto_bytes b (Semi ∷ is) = refl
onto_bytes b (Quote s ∷ is) = refl
onto_bytes b (Code ds ∷ is) = refl

-- they are written so, and have these bytes
bytes_made : (bs : List ℕ) → All (λ b. b ≤ 255) bs → AreOfBytes (items_of bs) × (items_bytes (items_of bs) ≡ bs)
unfolding items_of
bytes_made [] all = (tt, refl)
bytes_made (b ∷ bs) all =
    step (is_held b) refl (All-head (λ c. c ≤ 255) b bs all) (bytes_made bs (All-tail (λ c. c ≤ 255) b bs all))
  where
    step : (t : Bool) → is_held b ≡ t → b ≤ 255 → AreOfBytes (items_of bs) × (items_bytes (items_of bs) ≡ bs)
        → AreOfBytes (items_of (b ∷ bs)) × (items_bytes (items_of (b ∷ bs)) ≡ b ∷ bs)
    step true e low rest =
        rw e (onto_made b (items_of bs) e rest.0, onto_bytes b (items_of bs) ∙ ap (λ v. b ∷ v) rest.1)
    step false e low rest =
        let fits : b < 2 ^ 64 = omega (arith, low) in
        let known = value b fits in
        let bound : number_of (decimal b) ≤ 255 = omega (arith, known, low) in
        let code : IsOfBytes (Code (decimal b)) = ((decimal_nonempty b fits, digits_decimal own b fits, bound), tt) in
        rw e ((code, rest.0), ap (λ v. v ∷ items_bytes (items_of bs)) known ∙ ap (λ v. b ∷ v) rest.1)

-- ---- items with a semicolon between each two

abbrev between : List Item → List Item
between [] = []
between (i ∷ []) = i ∷ []
between (i ∷ j ∷ is) = i ∷ Semi ∷ between (j ∷ is)

between_text : (is : List Item) → items_text (between is) ≡ joined is
between_text [] = refl
between_text (i ∷ []) = append-nil (item_text i)
between_text (i ∷ j ∷ is) = ap (λ v. item_text i ++ 59 ∷ v) (between_text (j ∷ is))

between_bytes : (is : List Item) → items_bytes (between is) ≡ items_bytes is
between_bytes [] = refl
between_bytes (i ∷ []) = refl
between_bytes (i ∷ j ∷ is) = ap (λ v. item_bytes i ++ v) (between_bytes (j ∷ is))

between_made : (is : List Item) → AreOfBytes is → AreMade (between is)
between_made [] h = tt
between_made (i ∷ []) h = (h.0.0, tt)
between_made (i ∷ j ∷ is) h = (h.0.0, (tt, between_made (j ∷ is) h.1))

-- the line ends after them
between_ends : (e : Bool) (i : Item) (is : List Item) → AreOfBytes (i ∷ is) → ends_after e (between (i ∷ is)) ≡ true
between_ends e Semi is h = absurd h.0.1
between_ends e (Quote s) [] h = refl
between_ends e (Code ds) [] h = refl
between_ends e (Quote s) (j ∷ is) h = between_ends false j is h.1
between_ends e (Code ds) (j ∷ is) h = between_ends false j is h.1

ends_at : (is : List Item) → AreOfBytes is → ends_after true (between is) ≡ true
ends_at [] h = refl
ends_at (i ∷ is) h = between_ends true i is h

-- ---- two lists of items

text_of_both : (is js : List Item) → items_text (is ++ js) ≡ items_text is ++ items_text js
text_of_both [] js = refl
text_of_both (i ∷ is) js = ap (λ v. item_text i ++ v) (text_of_both is js)
    ∙ sym (append_assoc (item_text i) (items_text is) (items_text js))

bytes_of_both : (is js : List Item) → items_bytes (is ++ js) ≡ items_bytes is ++ items_bytes js
bytes_of_both [] js = refl
bytes_of_both (i ∷ is) js = ap (λ v. item_bytes i ++ v) (bytes_of_both is js)
    ∙ sym (append_assoc (item_bytes i) (items_bytes is) (items_bytes js))

made_of_both : (is js : List Item) → AreMade is → AreMade js → AreMade (is ++ js)
made_of_both [] js h k = k
made_of_both (i ∷ is) js h k = (h.0, made_of_both is js h.1 k)

ends_with_semi : (e : Bool) (is : List Item) → ends_after e (is ++ Semi ∷ []) ≡ false
ends_with_semi e [] = refl
ends_with_semi e (Semi ∷ is) = ends_with_semi false is
ends_with_semi e (Quote s ∷ is) = ends_with_semi true is
ends_with_semi e (Code ds ∷ is) = ends_with_semi true is

-- ---- the list of a statement

-- the items of a list
abbrev list_items : Text → List Item
list_items line = between (items_of line.bytes) ++ (if line.ends then [] else Semi ∷ [])

tail_made : (t : Bool) → AreMade (if t then [] else Semi ∷ [])
tail_made true = tt
tail_made false = (tt, tt)

tail_text : (t : Bool) → items_text (if t then [] else Semi ∷ []) ≡ (if t then [] else 59 ∷ [])
tail_text true = refl
tail_text false = refl

tail_bytes : (t : Bool) (bs : List ℕ) → bs ++ items_bytes (if t then [] else Semi ∷ []) ≡ bs
tail_bytes true bs = append-nil bs
tail_bytes false bs = append-nil bs

tail_ends : (t : Bool) (is : List Item) → ends_after true is ≡ true
    → t ≡ ends_after true (is ++ (if t then [] else Semi ∷ []))
tail_ends true is h = sym (ap (ends_after true) (append-nil is) ∙ h)
tail_ends false is h = sym (ends_with_semi true is)

list_made : (line : Text) → IsShort line → AreMade (list_items line)
list_made line h =
    made_of_both (between (items_of line.bytes)) (if line.ends then [] else Semi ∷ [])
    (between_made (items_of line.bytes) (bytes_made line.bytes h.1).0) (tail_made line.ends)

list_written : (line : Text) → items_text (list_items line) ≡ list_text line
unfolding list_text
list_written line =
    text_of_both (between (items_of line.bytes)) (if line.ends then [] else Semi ∷ [])
    ∙ (ap (λ v. v ++ items_text (if line.ends then [] else Semi ∷ [])) (between_text (items_of line.bytes))
    ∙ ap (λ v. joined (items_of line.bytes) ++ v) (tail_text line.ends))

-- it is a list of these bytes
list_is : (line : Text) → IsShort line → IsList (items_lexemes (list_items line)) line
list_is line h =
    let made = bytes_made line.bytes h.1 in
    let all : items_bytes (list_items line) ≡ line.bytes =
    bytes_of_both (between (items_of line.bytes)) (if line.ends then [] else Semi ∷ [])
    ∙ (tail_bytes line.ends (items_bytes (between (items_of line.bytes)))
    ∙ (between_bytes (items_of line.bytes) ∙ made.1)) in
    record {
      items = list_items line;
      spelled = refl;
      good = good_items (list_items line) (list_made line h);
      bytes = sym all;
      ends = tail_ends line.ends (between (items_of line.bytes)) (ends_at (items_of line.bytes) made.0);
      short = h.0;
    }

list_read : (line : Text) → IsShort line → AreLexemes (list_text line) (items_lexemes (list_items line))
list_read line h = subst (λ v. AreLexemes v (items_lexemes (list_items line))) (list_written line)
    (items_read (list_items line) (list_made line h))

list_printable : (line : Text) → IsShort line → list_all is_printable (list_text line) ≡ true
list_printable line h = ap (list_all is_printable) (sym (list_written line))
    ∙ items_printable (list_items line) (list_made line h)

-- ---- lines

-- a printable text is a line up to its end
line_cut : (t rest : List ℕ) → list_all is_printable t ≡ true → lines_of (t ++ 10 ∷ rest) ≡ t ∷ lines_of rest
unfolding lines_of
line_cut [] rest h = refl
line_cut (b ∷ t) rest h =
    let k = of_both is_printable b t h in
    let no : (b == 10) ≡ false = grind (arith, common_steps, k.0) in
    rw (no, line_cut t rest k.1) refl

-- it has no byte 13
no_return : (t : List ℕ) → list_all is_printable t ≡ true → without_return t ≡ t
no_return [] h = refl
no_return (b ∷ []) h =
    let k = of_both is_printable b [] h in
    let no : (b == 13) ≡ false = grind (arith, common_steps, k.0) in
    rw no refl
no_return (b ∷ c ∷ t) h = ap (λ v. b ∷ v) (no_return (c ∷ t) (of_both is_printable b (c ∷ t) h).1)

-- ---- whether a statement has a list

onto_some : (b : ℕ) (is : List Item) → 0 < length (onto_string b is)
onto_some b [] = omega arith
onto_some b (Semi ∷ is) = omega arith
onto_some b (Quote s ∷ is) = omega arith
onto_some b (Code ds ∷ is) = omega arith

-- bytes have items
items_some : (b : ℕ) (bs : List ℕ) → 0 < length (items_of (b ∷ bs))
unfolding items_of
items_some b bs = step (is_held b) refl
  where
    step : (t : Bool) → is_held b ≡ t → 0 < length (items_of (b ∷ bs))
    step true e = rw e (onto_some b (items_of bs))
    step false e = rw e (omega arith)

between_some : (is : List Item) → 0 < length is → 0 < length (between is)
between_some [] h = h
between_some (i ∷ []) h = h
between_some (i ∷ j ∷ is) h = omega arith

-- items have lexemes
lexemes_some : (is : List Item) → 0 < length is → 0 < length (items_lexemes is)
lexemes_some [] h = h
lexemes_some (Semi ∷ is) h = omega arith
lexemes_some (Quote s ∷ is) h = omega arith
lexemes_some (Code ds ∷ is) h = omega arith

front_some : (is js : List Item) → 0 < length is → 0 < length (is ++ js)
front_some [] js h = absurd (omega (arith, h))
front_some (i ∷ is) js h = omega arith

back_some : (is : List Item) (j : Item) → 0 < length (is ++ j ∷ [])
back_some [] j = omega arith
back_some (i ∷ is) j = omega arith

-- a list has lexemes
list_some : (line : Text) → has_list line ≡ true → 0 < length (items_lexemes (list_items line))
list_some line h = lexemes_some (list_items line) (step line.bytes refl line.ends refl)
  where
    step : (bs : List ℕ) → line.bytes ≡ bs → (t : Bool) → line.ends ≡ t → 0 < length (list_items line)
    step bs k false e = rw e (back_some (between (items_of line.bytes)) Semi)
    step [] k true e = let no : false ≡ true = rw (k, e) at h in absurd (cc no)
    step (b ∷ bs) k true e = rw (k, e) (front_some (between (items_of (b ∷ bs))) []
        (between_some (items_of (b ∷ bs)) (items_some b bs)))

-- without one the line is empty, and ends
no_list : (line : Text) → has_list line ≡ false → (line.bytes ≡ []) × (line.ends ≡ true)
no_list line h = step line.bytes refl line.ends refl
  where
    step : (bs : List ℕ) → line.bytes ≡ bs → (t : Bool) → line.ends ≡ t → (line.bytes ≡ []) × (line.ends ≡ true)
    step [] k true e = (k, e)
    step [] k false e = let no : true ≡ false = rw (k, e) at h in absurd (cc no)
    step (b ∷ bs) k t e =
        let none : length line.bytes ≤ 0 = grind (arith, common_steps, nat_tests, h) in
        absurd (omega (arith, none, ap length k))

whole : (line : Text) (bs : List ℕ) (t : Bool) → line.bytes ≡ bs → line.ends ≡ t
    → line ≡ record { bytes = bs; ends = t }
whole line bs t k e = rw (sym k, sym e) refl

-- ---- statements

-- the lexemes after a file
abbrev after_file : Text → List Lexeme
after_file line = if has_list line then Comma ∷ items_lexemes (list_items line) else []

file_read : (n : ℕ) (line : Text) → n < 2 ^ 64 → IsShort line
    → AreLexemes (decimal n ++ listed 44 line) (Digits (decimal n) ∷ after_file line)
file_read n line small h = step (has_list line) refl
  where
    step : (t : Bool) → has_list line ≡ t → AreLexemes (decimal n ++ listed 44 line)
        (Digits (decimal n) ∷ after_file line)
    step true e =
        rw e (number n 44 (list_text line) (Comma ∷ items_lexemes (list_items line)) small refl
        (comma (list_text line) (items_lexemes (list_items line)) (list_read line h)))
    step false e =
        rw e (subst (λ v. AreLexemes v (Digits (decimal n) ∷ [])) (sym (append-nil (decimal n))) (last_number n small))

printing : (k : Keyword) (file : ℕ) (line : Text) → file ≤ 255 → IsShort line
    → IsPrinting k file line (Word k ∷ Digits (decimal file) ∷ after_file line)
printing k file line small h = (
  decimal file,
  (value file (omega (arith, small)), omega arith, small),
  step (has_list line) refl,
)
  where
    step : (t : Bool) → has_list line ≡ t
        → ((Word k ∷ Digits (decimal file) ∷ after_file line ≡ Word k ∷ Digits (decimal file) ∷ [])
        × (line ≡ record { bytes = []; ends = true }))
        ⊎ ((list : List Lexeme) × (Word k ∷ Digits (decimal file) ∷ after_file line ≡ Word k ∷ Digits (decimal file)
        ∷ Comma ∷ list) × (0 < length list) × IsList list line)
    step true e = inr (items_lexemes (list_items line), rw e refl, list_some line e, list_is line h)
    step false e = let n = no_list line e in inl (rw e refl, whole line [] true n.0 n.1)

-- the lexemes of a list of PRINT
abbrev print_list : Text → List Lexeme
print_list line = if has_list line then items_lexemes (list_items line) else []

print_read : (line : Text) → IsShort line → AreLexemes (codes "PRINT" ++ listed 32 line)
    (Word word.Print ∷ print_list line)
print_read line h = step (has_list line) refl
  where
    step : (t : Bool) → has_list line ≡ t → AreLexemes (codes "PRINT" ++ listed 32 line)
        (Word word.Print ∷ print_list line)
    step true e =
        rw e (lexeme (Word word.Print) (codes "PRINT") (32 ∷ list_text line) (items_lexemes (list_items line))
        (refl, λ n. absurd (omega (arith, n)))
        (spaced (list_text line) (items_lexemes (list_items line)) (list_read line h)))
    step false e = rw e (lexeme (Word word.Print) (codes "PRINT") [] [] (refl, tt) refl)

print_is : (line : Text) → IsShort line → IsList (print_list line) line
print_is line h = step (has_list line) refl
  where
    step : (t : Bool) → has_list line ≡ t → IsList (print_list line) line
    step true e = rw e (list_is line h)
    step false e =
        let n = no_list line e in
        rw e (record { items = []; spelled = refl; good = tt; bytes = n.0; ends = n.1; short = h.0 })

-- the lexemes of a statement
abbrev lexemes_in : Statement → List Lexeme
lexemes_in (OpenFile file device None) = Word word.Open ∷ Digits (decimal file) ∷ Comma ∷ Digits (decimal device) ∷ []
lexemes_in (OpenFile file device (Some second)) =
    Word word.Open ∷ Digits (decimal file) ∷ Comma ∷ Digits (decimal device) ∷ Comma ∷ Digits (decimal second) ∷ []
lexemes_in (CloseFile file) = Word word.Close ∷ Digits (decimal file) ∷ []
lexemes_in (Cmd file line) = Word word.Cmd ∷ Digits (decimal file) ∷ after_file line
lexemes_in (PrintTo file line) = Word word.PrintTo ∷ Digits (decimal file) ∷ after_file line
lexemes_in (Print line) = Word word.Print ∷ print_list line
lexemes_in Rem = Remark ∷ []

-- a number below 256 is one that can be written
fits : (n : ℕ) → n ≤ 255 → n < 2 ^ 64
fits n h = omega (arith, h)

reads : (s : Statement) → IsBounded s → AreLexemes (statement_text s) (lexemes_in s)
unfolding statement_text
reads (OpenFile file device None) (f, low, d) =
    let D = Digits (decimal device) ∷ [] in
    let C = Comma ∷ D in
    let F = Digits (decimal file) ∷ C in
    let x = decimal file ++ 44 ∷ decimal device in
    lexeme (Word word.Open) (codes "OPEN") (32 ∷ x) F refl
    (spaced x F
    (number file 44 (decimal device) C (fits file f) refl
    (comma (decimal device) D (last_number device (omega (arith, d))))))
reads (OpenFile file device (Some second)) (f, low, d, s) =
    let S = Digits (decimal second) ∷ [] in
    let D = Digits (decimal device) ∷ Comma ∷ S in
    let F = Digits (decimal file) ∷ Comma ∷ D in
    let y = decimal device ++ 44 ∷ decimal second in
    let x = decimal file ++ 44 ∷ y in
    subst (λ v. AreLexemes (codes "OPEN" ++ 32 ∷ v) (Word word.Open ∷ F))
    (sym (append_assoc (decimal file) (44 ∷ decimal device) (44 ∷ decimal second)))
    (lexeme (Word word.Open) (codes "OPEN") (32 ∷ x) F refl
    (spaced x F
    (number file 44 y (Comma ∷ D) (fits file f) refl
    (comma y D
    (number device 44 (decimal second) (Comma ∷ S) (omega (arith, d)) refl
    (comma (decimal second) S (last_number second (omega (arith, s)))))))))
reads (CloseFile file) f =
    let F = Digits (decimal file) ∷ [] in
    lexeme (Word word.Close) (codes "CLOSE") (32 ∷ decimal file) F refl
    (spaced (decimal file) F (last_number file (fits file f)))
reads (Cmd file line) (f, h) =
    let F = Digits (decimal file) ∷ after_file line in
    let x = decimal file ++ listed 44 line in
    lexeme (Word word.Cmd) (codes "CMD") (32 ∷ x) F refl (spaced x F (file_read file line (fits file f) h))
reads (PrintTo file line) (f, h) =
    lexeme (Word word.PrintTo) (codes "PRINT#") (decimal file ++ listed 44 line)
    (Digits (decimal file) ∷ after_file line) refl
    (file_read file line (fits file f) h)
reads (Print line) h = print_read line h
reads Rem h = lexeme Remark (codes "REM") [] [] (codes "REM", [], refl, refl, refl) refl

is_statement : (s : Statement) → IsBounded s → IsStatement s (lexemes_in s)
is_statement (OpenFile file device None) (f, low, d) = (
  decimal file,
  decimal device,
  refl,
  (value file (fits file f), omega arith, f),
  (value device (omega (arith, d)), low, d),
)
is_statement (OpenFile file device (Some second)) (f, low, d, s) = (
  decimal file,
  decimal device,
  decimal second,
  refl,
  (value file (fits file f), omega arith, f),
  (value device (omega (arith, d)), low, d),
  (value second (omega (arith, s)), omega arith, s),
)
is_statement (CloseFile file) f = (decimal file, refl, (value file (fits file f), omega arith, f))
is_statement (Cmd file line) (f, h) = printing word.Cmd file line f h
is_statement (PrintTo file line) (f, h) = printing word.PrintTo file line f h
is_statement (Print line) h = (print_list line, refl, print_is line h)
is_statement Rem h = ([], refl)

-- ---- what is written is printable

listed_printable : (b : ℕ) (line : Text) → is_printable b ≡ true → IsShort line
    → list_all is_printable (listed b line) ≡ true
listed_printable b line p h = step (has_list line) refl
  where
    step : (t : Bool) → has_list line ≡ t → list_all is_printable (listed b line) ≡ true
    step true e = rw e (both_all is_printable (b ∷ []) (list_text line) (rw p refl) (list_printable line h))
    step false e = rw e refl

pair_printable : (n : ℕ) (xs : List ℕ) → n < 2 ^ 64 → list_all is_printable xs ≡ true
    → list_all is_printable (decimal n ++ xs) ≡ true
pair_printable n xs small h = both_all is_printable (decimal n) xs (decimal_printable n small) h

statement_printable : (s : Statement) → IsBounded s → list_all is_printable (statement_text s) ≡ true
unfolding statement_text
statement_printable (OpenFile file device None) (f, low, d) =
    pair_printable file (44 ∷ decimal device) (fits file f) (decimal_printable device (omega (arith, d)))
statement_printable (OpenFile file device (Some second)) (f, low, d, s) =
    ap (list_all is_printable) (append_assoc (decimal file) (44 ∷ decimal device) (44 ∷ decimal second))
    ∙ pair_printable file (44 ∷ decimal device ++ 44 ∷ decimal second) (fits file f)
    (pair_printable device (44 ∷ decimal second) (omega (arith, d)) (decimal_printable second (omega (arith, s))))
statement_printable (CloseFile file) f = decimal_printable file (fits file f)
statement_printable (Cmd file line) (f, h) = pair_printable file (listed 44 line) (fits file f)
    (listed_printable 44 line refl h)
statement_printable (PrintTo file line) (f, h) = pair_printable file (listed 44 line) (fits file f)
    (listed_printable 44 line refl h)
statement_printable (Print line) h = listed_printable 32 line refl h
statement_printable Rem h = refl

-- ---- no colon

abbrev is_no_colon : Lexeme → Bool
is_no_colon Colon = false
is_no_colon _ = true

items_no_colon : (is : List Item) → list_all is_no_colon (items_lexemes is) ≡ true
items_no_colon [] = refl
items_no_colon (Semi ∷ is) = items_no_colon is
items_no_colon (Quote s ∷ is) = items_no_colon is
items_no_colon (Code ds ∷ is) = items_no_colon is

after_no_colon : (line : Text) → list_all is_no_colon (after_file line) ≡ true
after_no_colon line = step (has_list line) refl
  where
    step : (t : Bool) → has_list line ≡ t → list_all is_no_colon (after_file line) ≡ true
    step true e = rw e (items_no_colon (list_items line))
    step false e = rw e refl

print_no_colon : (line : Text) → list_all is_no_colon (print_list line) ≡ true
print_no_colon line = step (has_list line) refl
  where
    step : (t : Bool) → has_list line ≡ t → list_all is_no_colon (print_list line) ≡ true
    step true e = rw e (items_no_colon (list_items line))
    step false e = rw e refl

first_part : (l : Lexeme) (ls : List Lexeme) → is_no_colon l ≡ true → parts (l ∷ ls) ≡ onto_first l (parts ls)
unfolding parts
first_part (Word k) ls h = refl
first_part Remark ls h = refl
first_part (Digits ds) ls h = refl
first_part (Quoted s) ls h = refl
first_part Comma ls h = refl
first_part Semicolon ls h = refl
first_part Colon ls h = absurd (cc h)
first_part OpenParen ls h = refl
first_part CloseParen ls h = refl
first_part Stray ls h = refl

-- lexemes without a colon are one part
one_part : (l : Lexeme) (ls : List Lexeme) → list_all is_no_colon (l ∷ ls) ≡ true → parts (l ∷ ls) ≡ (l ∷ ls) ∷ []
unfolding parts
one_part l [] h = first_part l [] (of_both is_no_colon l [] h).0
one_part l (m ∷ ls) h =
    let k = of_both is_no_colon l (m ∷ ls) h in
    first_part l (m ∷ ls) k.0 ∙ ap (onto_first l) (one_part m ls k.1)

parts_in : (s : Statement) → parts (lexemes_in s) ≡ lexemes_in s ∷ []
parts_in (OpenFile file device None) = one_part (Word word.Open)
    (Digits (decimal file) ∷ Comma ∷ Digits (decimal device) ∷ []) refl
parts_in (OpenFile file device (Some second)) =
    one_part (Word word.Open) (Digits (decimal file) ∷ Comma ∷ Digits (decimal device) ∷ Comma ∷ Digits (decimal second)
    ∷ []) refl
parts_in (CloseFile file) = one_part (Word word.Close) (Digits (decimal file) ∷ []) refl
parts_in (Cmd file line) = one_part (Word word.Cmd) (Digits (decimal file) ∷ after_file line) (after_no_colon line)
parts_in (PrintTo file line) = one_part (Word word.PrintTo) (Digits (decimal file) ∷ after_file line)
    (after_no_colon line)
parts_in (Print line) = one_part (Word word.Print) (print_list line) (print_no_colon line)
parts_in Rem = one_part Remark [] refl

-- ---- the script

-- a line without its end
abbrev shown : Performed → List ℕ
shown p = decimal p.line ++ 32 ∷ statement_text p.statement

shown_printable : (p : Performed) → p.line < 2 ^ 64 → IsBounded p.statement → list_all is_printable (shown p) ≡ true
shown_printable p small h = pair_printable p.line (32 ∷ statement_text p.statement) small
    (statement_printable p.statement h)

shown_first : (p : Performed) (rest : List ℕ) → list_all is_printable (shown p) ≡ true
    → lines_of (performed_text p ++ rest) ≡ shown p ∷ lines_of rest
unfolding performed_text
shown_first p rest h = ap lines_of (append_assoc (shown p) (10 ∷ []) rest) ∙ line_cut (shown p) rest h

line_is : (p : Performed) → p.line ≤ 63999 → IsBounded p.statement → IsLine (shown p) (p.statement ∷ [])
line_is p n h =
    let s = p.statement in
    let small : p.line < 2 ^ 64 = omega (arith, n) in
    let known = value p.line small in (
      Digits (decimal p.line) ∷ lexemes_in s,
      lexemes_in s,
      number p.line 32 (statement_text s) (lexemes_in s) small refl
          (spaced (statement_text s) (lexemes_in s) (reads s h)),
      inr (decimal p.line, refl, omega (arith, known, n)),
      subst (λ v. AreParts v (s ∷ [])) (sym (parts_in s)) (inr (s, [], is_statement s h, refl, refl)),
    )

lines_are : (ps : List Performed) → AreBounded ps → AreLines (lines_of (script_text ps)) (map (λ p. p.statement) ps)
unfolding lines_of script_text
lines_are [] h = refl
lines_are (p ∷ ps) (n, b, more) =
    let printable = shown_printable p (omega (arith, n)) b in
    let this : IsLine (without_return (shown p)) (p.statement ∷ []) =
    subst (λ v. IsLine v (p.statement ∷ [])) (sym (no_return (shown p) printable)) (line_is p n b) in
    let k : AreLines (shown p ∷ lines_of (script_text ps)) (p.statement ∷ map (λ q. q.statement) ps) =
    (p.statement ∷ [], map (λ q. q.statement) ps, this, refl, lines_are ps more) in
    subst (λ v. AreLines v (p.statement ∷ map (λ q. q.statement) ps)) (sym (shown_first p (script_text ps) printable)) k

pub reads_back : ScriptsReadBack
reads_back ps h short = (lines_are ps h, omega (arith, short, length-map ps (λ p. p.statement)))

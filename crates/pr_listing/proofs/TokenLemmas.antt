-- The lexemes of a saved program's text are those that its tokens say.
use Rattle.std.proofs.Common.{◌≡◌, ℕ, zero, suc, ◌+◌, ◌-◌, ◌^◌, ◌<◌, ◌≤◌, Bool, true, false, List, [], ◌∷◌, ◌++◌, length, take, drop, refl, ap, subst, sym, ◌∙◌, arith, append_assoc, append-nil, length-drop, one-add, rules, inl, inr}
use Rattle.std.proofs.lemmas.Fmt.{decimal_nonempty, digits_decimal, digits_value-decimal}
use Rattle.std.proofs.lemmas.Grind.{common_steps}
use Rattle.std.proofs.lemmas.Bool.Decides.{nat_tests}
use Rattle.std.proofs.lemmas.List.{take-append-drop, take_all, drop_all}
use Rattle.std.proofs.lemmas.List.Folds.{list_all-append}
use Rattle.std.proofs.lemmas.Str.Parse.{IsNumeralModel, numerals_by_fold}
use Rattle.std.specs.Prelude.{◌==◌, codes, decimal, nat_lt}
use Rattle.std.specs.List.{list_all, prefix_len}
use Rattle.pr_base.specs.Digits.{is_digit, number_after}
use Rattle.pr_basic.specs.Grammar.{Code, Item, Quote, Semi, items_bytes, items_lexemes}
use Rattle.pr_basic.specs.LexemeLaws.{LexemesAreFound, LinesHaveLexemes}
use Rattle.pr_basic.specs.Lexemes.{Lexeme, Word, Remark, Digits, Quoted, OpenParen, CloseParen, NoDigit, is_no_quote}
use Rattle.pr_basic.specs.Lexing.{lexemes_after, lexemes_of}
use Rattle.pr_basic.specs.declared.lexemes.Keyword.TheVariants.{Chr}
use Rattle.pr_listing.specs.Keywords.{keyword_of}
use Rattle.pr_listing.specs.Listing.{bytes_text, is_held, mode_after, plain_text, quoted_text, string_text}
use Rattle.pr_listing.specs.Tokens.{byte_lexemes, front_lexemes, lexemes_behind, onto_string, string_items}
use Rattle.pr_listing.specs.declared.line.Mode.TheVariants.{Plain, Quoted as InString, Remark as InRemark}
use Rattle.pr_listing.proofs.LexemeLemmas.{byte_read, first, no_digit}
use Rattle.pr_listing.proofs.Marks.{at_mark, before_mark, no_mark}

-- a byte of a file
abbrev pub is_small : ℕ → Bool
is_small b = nat_lt b 256

-- decimal digits spell their number
pub own : IsNumeralModel (λ ds. list_all is_digit ds ≡ true) (number_after 0)
own = numerals_by_fold _ (search rules) number_after (search rules)

-- a test of a list holds of its first element and of the others
pub of_both : (p : ℕ → Bool) (x : ℕ) (xs : List ℕ) → list_all p (x ∷ xs) ≡ true → (p x ≡ true) × (list_all p xs ≡ true)
of_both p x xs h = (grind (arith, common_steps), grind (arith, common_steps))

-- and of two lists together it holds of each
pub of_parts : (p : ℕ → Bool) (xs ys : List ℕ) → list_all p (xs ++ ys) ≡ true → (list_all p xs ≡ true) × (list_all p ys ≡ true)
of_parts p [] ys h = (refl, h)
of_parts p (x ∷ xs) ys h =
    let k = of_both p x (xs ++ ys) h in
    let m = of_parts p xs ys k.1 in
    (rw (k.0, m.0) refl, m.1)

-- strings

-- the text of a string's bytes
abbrev pub said : List ℕ → List ℕ
said [] = []
said (b ∷ bs) = string_text b ++ said bs

-- bytes in front of items of which the first is a string
abbrev pub with_string : List ℕ → List Item → List Item
with_string h (Quote s ∷ items) = Quote (h ++ s) ∷ items
with_string h items = Quote h ∷ items

-- one byte more in front
with_onto : (h : List ℕ) (c : ℕ) (items : List Item) → with_string h (onto_string c items) ≡ with_string (h ++ c ∷ []) items
with_onto h c [] = refl
with_onto h c (Semi ∷ items) = refl
with_onto h c (Quote s ∷ items) = ap (λ v. Quote v ∷ items) (sym (append_assoc h (c ∷ []) s))
with_onto h c (Code ds ∷ items) = refl

-- no byte in front
with_none : (c : ℕ) (items : List Item) → with_string [] (onto_string c items) ≡ onto_string c items
with_none c [] = refl
with_none c (Semi ∷ items) = refl
with_none c (Quote s ∷ items) = refl
with_none c (Code ds ∷ items) = refl

-- nor in front of a string's
string_with_none : (s : List ℕ) → with_string [] (string_items s) ≡ string_items s
string_with_none [] = refl
string_with_none (c ∷ s) = tests (is_held c) refl
  where
    tests : (t : Bool) → is_held c ≡ t → with_string [] (string_items (c ∷ s)) ≡ string_items (c ∷ s)
    tests true e = rw e (with_none c (string_items s))
    tests false e = rw e refl

-- the bytes of items with one more in front
onto_bytes : (c : ℕ) (items : List Item) → items_bytes (onto_string c items) ≡ c ∷ items_bytes items
onto_bytes c [] = refl
onto_bytes c (Semi ∷ items) = refl
onto_bytes c (Quote s ∷ items) = refl
onto_bytes c (Code ds ∷ items) = refl

-- the items of a string have its bytes
pub string_bytes : (s : List ℕ) → list_all is_small s ≡ true → items_bytes (string_items s) ≡ s
string_bytes [] h = refl
string_bytes (c ∷ s) h = tests (is_held c) refl (string_bytes s (of_both is_small c s h).1)
  where
    small : c < 2 ^ 64
    small = let k = (of_both is_small c s h).0 in let low : c < 256 = grind (arith, common_steps, nat_tests) in omega (arith, low)

    tests : (t : Bool) → is_held c ≡ t → items_bytes (string_items s) ≡ s → items_bytes (string_items (c ∷ s)) ≡ c ∷ s
    tests true e more = rw e (onto_bytes c (string_items s) ∙ ap (λ v. c ∷ v) more)
    tests false e more = rw e (ap (λ n. n ∷ items_bytes (string_items s)) (digits_value-decimal own c small) ∙ ap (λ v. c ∷ v) more)

-- a byte of a string that is no quote
pub quoted_same : (b : ℕ) → (b == 34) ≡ false → quoted_text b ≡ string_text b
quoted_same b h = rw h refl

-- after it the string goes on
quoted_goes_on : (b : ℕ) → (b == 34) ≡ false → mode_after InString b ≡ InString
quoted_goes_on b h = rw h refl

-- the text of a string's bytes, and of what follows it in the string's line
quoted_said : (s rest : List ℕ) → list_all is_no_quote s ≡ true → bytes_text InString (s ++ rest) ≡ said s ++ bytes_text InString rest
quoted_said [] rest h = refl
quoted_said (b ∷ s) rest h =
    let k = of_both is_no_quote b s h in
    let no : (b == 34) ≡ false = grind (arith, common_steps, k.0) in
    ap (λ m. quoted_text b ++ bytes_text m (s ++ rest)) (quoted_goes_on b no)
    ∙ (ap (λ t. t ++ bytes_text InString (s ++ rest)) (quoted_same b no)
    ∙ (ap (λ v. string_text b ++ v) (quoted_said s rest k.1) ∙ sym (append_assoc (string_text b) (said s) (bytes_text InString rest))))

-- bytes that a script's string holds have no quote
held_none : (h : List ℕ) → list_all is_held h ≡ true → list_all is_no_quote h ≡ true
held_none [] k = refl
held_none (b ∷ h) k =
    let both = of_both is_held b h k in
    let no : is_no_quote b ≡ true = grind (arith, common_steps, both.0) in
    rw (no, held_none h both.1) refl

-- one held byte more
held_more : (h : List ℕ) (c : ℕ) → list_all is_held h ≡ true → is_held c ≡ true → list_all is_held (h ++ c ∷ []) ≡ true
held_more h c k e = list_all-append is_held h (c ∷ []) ∙ rw (k, e) refl

-- CHR$ of a byte between two strings
code_first : LinesHaveLexemes → LexemesAreFound → (h : List ℕ) (c : ℕ) (x : List ℕ) → list_all is_held h ≡ true → c < 2 ^ 64
    → lexemes_of (34 ∷ h ++ 34 ∷ 67 ∷ 72 ∷ 82 ∷ 36 ∷ 40 ∷ (decimal c ++ 41 ∷ x)) ≡ Quoted h ∷ Word Chr ∷ OpenParen ∷ Digits (decimal c) ∷ CloseParen ∷ lexemes_of x
code_first all found h c x held small =
    let quoted = first all found (Quoted h) (34 ∷ h ++ 34 ∷ []) (67 ∷ 72 ∷ 82 ∷ 36 ∷ 40 ∷ (decimal c ++ 41 ∷ x)) (held_none h held, inl refl) in
    let chr = first all found (Word Chr) (67 ∷ 72 ∷ 82 ∷ 36 ∷ []) (40 ∷ (decimal c ++ 41 ∷ x)) refl in
    let paren = first all found OpenParen (40 ∷ []) (decimal c ++ 41 ∷ x) refl in
    let digits = first all found (Digits (decimal c)) (decimal c) (41 ∷ x) (refl, decimal_nonempty c small, digits_decimal own c small, refl) in
    let close = first all found CloseParen (41 ∷ []) x refl in
    ap (λ v. lexemes_of (34 ∷ v)) (sym (append_assoc h (34 ∷ []) (67 ∷ 72 ∷ 82 ∷ 36 ∷ 40 ∷ (decimal c ++ 41 ∷ x))))
    ∙ (quoted ∙ ap (λ v. Quoted h ∷ v) (chr ∙ ap (λ v. Word Chr ∷ v) (paren ∙ ap (λ v. OpenParen ∷ v) (digits ∙ ap (λ v. Digits (decimal c) ∷ v) close))))

-- a string and its end: so far its held bytes, which what follows closes
string_read : LinesHaveLexemes → LexemesAreFound → (end : List ℕ) (tail : List Lexeme)
    → ((h : List ℕ) → list_all is_held h ≡ true → lexemes_of (34 ∷ h ++ end) ≡ Quoted h ∷ tail)
    → (s h : List ℕ) → list_all is_small s ≡ true → list_all is_held h ≡ true
    → lexemes_of (34 ∷ h ++ (said s ++ end)) ≡ items_lexemes (with_string h (string_items s)) ++ tail
string_read all found end tail closes [] h small held = closes h held ∙ ap (λ v. Quoted v ∷ tail) (sym (append-nil h))
string_read all found end tail closes (c ∷ s) h small held =
    tests (is_held c) refl (λ g k. string_read all found end tail closes s g (of_both is_small c s small).1 k)
  where
    fits : c < 2 ^ 64
    fits = let k = (of_both is_small c s small).0 in let low : c < 256 = grind (arith, common_steps, nat_tests) in omega (arith, low)

    tests : (t : Bool) → is_held c ≡ t
        → ((g : List ℕ) → list_all is_held g ≡ true → lexemes_of (34 ∷ g ++ (said s ++ end)) ≡ items_lexemes (with_string g (string_items s)) ++ tail)
        → lexemes_of (34 ∷ h ++ (said (c ∷ s) ++ end)) ≡ items_lexemes (with_string h (string_items (c ∷ s))) ++ tail
    tests true e go =
        rw e (ap (λ v. lexemes_of (34 ∷ v)) (sym (append_assoc h (c ∷ []) (said s ++ end)))
        ∙ (go (h ++ c ∷ []) (held_more h c held e) ∙ ap (λ v. items_lexemes v ++ tail) (sym (with_onto h c (string_items s)))))
    tests false e go =
        let shown : (decimal c ++ 41 ∷ 34 ∷ []) ++ (said s ++ end) ≡ decimal c ++ 41 ∷ (34 ∷ (said s ++ end)) = append_assoc (decimal c) (41 ∷ 34 ∷ []) (said s ++ end) in
        let code = code_first all found h c (34 ∷ (said s ++ end)) held fits in
        rw e (ap (λ v. lexemes_of (34 ∷ h ++ 34 ∷ 67 ∷ 72 ∷ 82 ∷ 36 ∷ 40 ∷ v)) (append_assoc (decimal c ++ 41 ∷ 34 ∷ []) (said s) end ∙ shown)
        ∙ (code ∙ (ap (λ v. Quoted h ∷ Word Chr ∷ OpenParen ∷ Digits (decimal c) ∷ CloseParen ∷ v) (go [] refl ∙ ap (λ v. items_lexemes v ++ tail) (string_with_none s))
        ∙ ap (λ v. Quoted v ∷ Word Chr ∷ OpenParen ∷ Digits (decimal c) ∷ CloseParen ∷ (items_lexemes (string_items s) ++ tail)) (sym (append-nil h)))))

-- numbers

-- a digit is as it is
digit_stays : (d : ℕ) → is_digit d ≡ true → (plain_text d ≡ d ∷ []) × (mode_after Plain d ≡ Plain)
digit_stays d h = (grind (arith, common_steps), grind (arith, common_steps))

-- digits are as they are
digits_stay : (ds rest : List ℕ) → list_all is_digit ds ≡ true → bytes_text Plain (ds ++ rest) ≡ ds ++ bytes_text Plain rest
digits_stay [] rest h = refl
digits_stay (d ∷ ds) rest h =
    let k = of_both is_digit d ds h in
    let own_text = digit_stays d k.0 in
    ap (λ t. t ++ bytes_text (mode_after Plain d) (ds ++ rest)) own_text.0
    ∙ (ap (λ m. d ∷ bytes_text m (ds ++ rest)) own_text.1 ∙ ap (λ v. d ∷ v) (digits_stay ds rest k.1))

-- a text begins with a digit only where its bytes do
begins_alike : (bs : List ℕ) → NoDigit bs → NoDigit (bytes_text Plain bs)
begins_alike [] h = tt
begins_alike (b ∷ bs) h = no_digit b (bytes_text (mode_after Plain b) bs) h

-- no digit is after the first digits
behind_digits : (bs : List ℕ) → NoDigit (drop (prefix_len is_digit bs) bs)
behind_digits [] = tt
behind_digits (b ∷ bs) = tests (is_digit b) refl (behind_digits bs)
  where
    tests : (t : Bool) → is_digit b ≡ t → NoDigit (drop (prefix_len is_digit bs) bs) → NoDigit (drop (prefix_len is_digit (b ∷ bs)) (b ∷ bs))
    tests true e k = rw (e, one-add) k
    tests false e k = rw e e

-- lines

-- what belongs to a front is passed
pub passed : (n : ℕ) (bs : List ℕ) → lexemes_behind n bs ≡ lexemes_behind 0 (drop n bs)
unfolding lexemes_behind
passed zero bs = refl
passed (suc n) [] = refl
passed (suc n) (b ∷ bs) = passed n bs

-- the lexemes of a line from its front on
behind_front : (b : ℕ) (bs : List ℕ) (ls : List Lexeme) (m k : ℕ) → front_lexemes b bs ≡ (ls, m) → m ≡ suc k → lexemes_behind 0 (b ∷ bs) ≡ ls ++ lexemes_behind 0 (drop k bs)
unfolding lexemes_behind
behind_front b bs ls m k e s =
    let left : m - 1 ≡ k = omega (arith, s) in
    rw e (ap (λ j. ls ++ lexemes_behind j bs) left ∙ ap (λ v. ls ++ v) (passed k bs))

-- the fronts of a line
digits_front : (b : ℕ) (bs : List ℕ) → is_digit b ≡ true → front_lexemes b bs ≡ (Digits (take (prefix_len is_digit (b ∷ bs)) (b ∷ bs)) ∷ [], prefix_len is_digit (b ∷ bs))
unfolding front_lexemes
digits_front b bs d = rw d refl

string_front : (bs : List ℕ) → front_lexemes 34 bs ≡ (items_lexemes (string_items (take (prefix_len is_no_quote bs) bs)), prefix_len is_no_quote bs + 2)
unfolding front_lexemes
string_front bs = refl

remark_front : (bs : List ℕ) → front_lexemes 143 bs ≡ (Remark ∷ [], suc (length bs))
unfolding front_lexemes
remark_front bs = refl

byte_front : (b : ℕ) (bs : List ℕ) → is_digit b ≡ false → (b == 34) ≡ false → (b == 143) ≡ false → front_lexemes b bs ≡ (byte_lexemes b, 1)
unfolding front_lexemes
byte_front b bs d q r = rw (d, q, r) refl

-- a prefix is within its list
prefix_within : (p : ℕ → Bool) (xs : List ℕ) → prefix_len p xs ≤ length xs
prefix_within p [] = omega arith
prefix_within p (x ∷ xs) = tests (p x) refl (prefix_within p xs)
  where
    tests : (t : Bool) → p x ≡ t → prefix_len p xs ≤ length xs → prefix_len p (x ∷ xs) ≤ length (x ∷ xs)
    tests true e k = rw (e, one-add) (omega (arith, k))
    tests false e k = rw e (omega arith)

-- a test of a list holds of what is left of it
of_rest : (p : ℕ → Bool) (k : ℕ) (xs : List ℕ) → list_all p xs ≡ true → list_all p (drop k xs) ≡ true
of_rest p k xs h = (of_parts p (take k xs) (drop k xs) (ap (list_all p) (take-append-drop k xs) ∙ h)).1

-- and of its front
of_front : (p : ℕ → Bool) (k : ℕ) (xs : List ℕ) → list_all p xs ≡ true → list_all p (take k xs) ≡ true
of_front p k xs h = (of_parts p (take k xs) (drop k xs) (ap (list_all p) (take-append-drop k xs) ∙ h)).0

-- the bytes left of a line have the lexemes of their text
abbrev pub IsSame : List ℕ → Type 0
IsSame bs = lexemes_of (bytes_text Plain bs) ≡ lexemes_behind 0 bs

-- a number at the front
digits_same : LinesHaveLexemes → LexemesAreFound → (b : ℕ) (bs : List ℕ) → is_digit b ≡ true → IsSame (drop (prefix_len is_digit bs) bs) → IsSame (b ∷ bs)
digits_same all found b bs d more =
    let m = prefix_len is_digit (b ∷ bs) in
    let k = prefix_len is_digit bs in
    let ds = take m (b ∷ bs) in
    let size : m ≡ suc k = rw (d, one-add) refl in
    let left : drop m (b ∷ bs) ≡ drop k bs = ap (λ j. drop j (b ∷ bs)) size in
    let digits : list_all is_digit ds ≡ true = before_mark is_digit (b ∷ bs) in
    let some : 0 < length ds = rw (d, one-add) (omega arith) in
    let text : bytes_text Plain (b ∷ bs) ≡ ds ++ bytes_text Plain (drop m (b ∷ bs)) =
    ap (bytes_text Plain) (sym (take-append-drop m (b ∷ bs))) ∙ digits_stay ds (drop m (b ∷ bs)) digits in
    let read = first all found (Digits ds) ds (bytes_text Plain (drop m (b ∷ bs))) (refl, some, digits, begins_alike (drop m (b ∷ bs)) (behind_digits (b ∷ bs))) in
    ap lexemes_of text ∙ (read ∙ (ap (λ v. Digits ds ∷ lexemes_of (bytes_text Plain v)) left
    ∙ (ap (λ v. Digits ds ∷ v) more ∙ sym (behind_front b bs (Digits ds ∷ []) m k (digits_front b bs d) size))))

-- a string at the front that a quote closes
closed_same : LinesHaveLexemes → LexemesAreFound → (s r : List ℕ) → list_all is_small s ≡ true → list_all is_no_quote s ≡ true → IsSame r
    → lexemes_of (34 ∷ bytes_text InString (s ++ 34 ∷ r)) ≡ items_lexemes (string_items s) ++ lexemes_behind 0 r
closed_same all found s r small none more =
    let end : List ℕ = 34 ∷ bytes_text Plain r in
    let closes : (h : List ℕ) → list_all is_held h ≡ true → lexemes_of (34 ∷ h ++ end) ≡ Quoted h ∷ lexemes_of (bytes_text Plain r) = λ h held.
    ap (λ v. lexemes_of (34 ∷ v)) (sym (append_assoc h (34 ∷ []) (bytes_text Plain r)))
    ∙ first all found (Quoted h) (34 ∷ h ++ 34 ∷ []) (bytes_text Plain r) (held_none h held, inl refl) in
    let read = string_read all found end (lexemes_of (bytes_text Plain r)) closes s [] small refl in
    ap (λ v. lexemes_of (34 ∷ v)) (quoted_said s (34 ∷ r) none)
    ∙ (read ∙ (ap (λ v. items_lexemes v ++ lexemes_of (bytes_text Plain r)) (string_with_none s) ∙ ap (λ v. items_lexemes (string_items s) ++ v) more))

-- a string at the front that goes on to the line's end
open_same : LinesHaveLexemes → LexemesAreFound → (s : List ℕ) → list_all is_small s ≡ true → list_all is_no_quote s ≡ true
    → lexemes_of (34 ∷ bytes_text InString s) ≡ items_lexemes (string_items s) ++ []
unfolding lexemes_after
open_same all found s small none =
    let closes : (h : List ℕ) → list_all is_held h ≡ true → lexemes_of (34 ∷ h ++ []) ≡ Quoted h ∷ [] = λ h held.
    first all found (Quoted h) (34 ∷ h) [] (held_none h held, inr (refl, refl)) in
    let read = string_read all found [] [] closes s [] small refl in
    ap (λ v. lexemes_of (34 ∷ bytes_text InString v)) (sym (append-nil s))
    ∙ (ap (λ v. lexemes_of (34 ∷ v)) (quoted_said s [] none) ∙ (read ∙ ap (λ v. items_lexemes v ++ []) (string_with_none s)))

-- any byte that is no quote's is 34
quote_fails : (b : ℕ) → is_no_quote b ≡ false → b ≡ 34
quote_fails b h = grind (arith, common_steps)

-- a string at the front
string_same : LinesHaveLexemes → LexemesAreFound → (bs : List ℕ) → list_all is_small bs ≡ true → ((k : ℕ) → IsSame (drop k bs)) → IsSame (34 ∷ bs)
unfolding lexemes_behind
string_same all found bs small more = tests (nat_lt m (length bs)) refl
  where
    m : ℕ
    m = prefix_len is_no_quote bs

    size : m + 2 ≡ suc (suc m)
    size = omega arith

    told : lexemes_behind 0 (34 ∷ bs) ≡ items_lexemes (string_items (take m bs)) ++ lexemes_behind 0 (drop (suc m) bs)
    told = behind_front 34 bs (items_lexemes (string_items (take m bs))) (m + 2) (suc m) (string_front bs) size

    tests : (t : Bool) → nat_lt m (length bs) ≡ t → IsSame (34 ∷ bs)
    tests true e =
        let less : m < length bs = grind (arith, common_steps, nat_tests) in
        let cut : bs ≡ take m bs ++ 34 ∷ drop (suc m) bs = at_mark is_no_quote 34 quote_fails bs less in
        ap (λ v. lexemes_of (34 ∷ bytes_text InString v)) cut
        ∙ (closed_same all found (take m bs) (drop (suc m) bs) (of_front is_small m bs small) (before_mark is_no_quote bs) (more (suc m)) ∙ sym told)
    tests false e =
        let within : m ≤ length bs = prefix_within is_no_quote bs in
        let most : length bs ≤ m = grind (arith, common_steps, nat_tests) in
        let whole : m ≡ length bs = omega (arith, within, most) in
        let front : take m bs ≡ bs = take_all m bs (omega (arith, whole)) in
        let left : drop (suc m) bs ≡ [] = drop_all (suc m) bs (omega (arith, whole)) in
        open_same all found bs small (no_mark is_no_quote bs whole)
        ∙ (ap (λ v. items_lexemes (string_items v) ++ []) (sym front)
        ∙ (ap (λ v. items_lexemes (string_items (take m bs)) ++ lexemes_behind 0 v) (sym left) ∙ sym told))

-- a remark at the front
remark_same : LinesHaveLexemes → LexemesAreFound → (bs : List ℕ) → IsSame (143 ∷ bs)
unfolding lexemes_behind lexemes_after keyword_of
remark_same all found bs =
    let text : List ℕ = codes "REM" ++ 32 ∷ bytes_text InRemark bs in
    let read : lexemes_of (text ++ []) ≡ Remark ∷ [] = first all found Remark text [] (codes "REM", 32 ∷ bytes_text InRemark bs, refl, refl, refl) in
    let left : drop (length bs) bs ≡ [] = drop_all (length bs) bs (omega arith) in
    let told = behind_front 143 bs (Remark ∷ []) (suc (length bs)) (length bs) (remark_front bs) refl in
    ap lexemes_of (sym (append-nil text)) ∙ (read ∙ (ap (λ v. Remark ∷ lexemes_behind 0 v) (sym left) ∙ sym told))

-- another byte at the front
byte_same : (b : ℕ) (bs : List ℕ) → is_digit b ≡ false → (b == 34) ≡ false → (b == 143) ≡ false → IsSame bs → IsSame (b ∷ bs)
byte_same b bs d q r more =
    let goes_on : mode_after Plain b ≡ Plain = rw (q, r) refl in
    ap (λ v. lexemes_of (plain_text b ++ bytes_text v bs)) goes_on
    ∙ (byte_read b (bytes_text Plain bs) d q r
    ∙ (ap (λ v. byte_lexemes b ++ v) more ∙ sym (behind_front b bs (byte_lexemes b) 1 0 (byte_front b bs d q r) refl)))

-- the lexemes of the text of a line's bytes are those that the bytes say
pub line_same : LinesHaveLexemes → LexemesAreFound → (n : ℕ) (bs : List ℕ) → length bs ≤ n → list_all is_small bs ≡ true → IsSame bs
unfolding lexemes_behind lexemes_after
line_same all found n [] h small = refl
line_same all found zero (b ∷ bs) h small = absurd (omega arith)
line_same all found (suc n) (b ∷ bs) h small =
    tests (is_digit b) refl (b == 34) refl (b == 143) refl
    (λ k. line_same all found n (drop k bs) (omega (arith, length-drop k bs)) (of_rest is_small k bs (of_both is_small b bs small).1))
  where
    tests : (d : Bool) → is_digit b ≡ d → (q : Bool) → (b == 34) ≡ q → (r : Bool) → (b == 143) ≡ r → ((k : ℕ) → IsSame (drop k bs)) → IsSame (b ∷ bs)
    tests true d q eq r er more = digits_same all found b bs d (more (prefix_len is_digit bs))
    tests false d true eq r er more =
        let same : 34 ≡ b = grind (arith, common_steps) in
        subst (λ c. IsSame (c ∷ bs)) same (string_same all found bs (of_both is_small b bs small).1 more)
    tests false d false eq true er more =
        let same : 143 ≡ b = grind (arith, common_steps) in
        subst (λ c. IsSame (c ∷ bs)) same (remark_same all found bs)
    tests false d false eq false er more = byte_same b bs d eq er (more 0)

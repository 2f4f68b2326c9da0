-- A lexeme that is spelled is the one that the reader finds at the front.
use Rattle.std.proofs.Common.{◌≡◌, ℕ, ◌+◌, ◌<◌, ◌≤◌, List, [], ◌∷◌, ◌++◌, length, take, map, codes, refl, ap, sym, ◌∙◌, arith, true, false, append_assoc, append-nil, length-append, ◌⊎◌, inl, inr}
use Rattle.std.specs.Prelude.{nat_lt}
use Rattle.std.specs.List.{list_all, prefix_len}
use Rattle.std.specs.Str.{bytes_eq}
use Rattle.std.specs.Char.{to_ascii_lowercase}
use Rattle.std.proofs.lemmas.Grind.{common_steps}
use Rattle.std.proofs.lemmas.List.{map-append, take-map, length-map, take_all}
use Rattle.std.proofs.Math.Seq.{take-append_seam}
use Rattle.pr_basic.specs.Lexemes.{Lexeme, Word, Remark, Digits, Quoted, Comma, Semicolon, Colon, OpenParen, CloseParen, Stray, is_no_quote, Spells, IsWord, NoDigit, NoHash, NoSpace}
use Rattle.pr_base.specs.Digits.{is_digit}
use Rattle.pr_basic.specs.Lexing.{begins, front, text_front, word_front}
use Rattle.pr_basic.specs.declared.lexemes.Keyword.TheVariants as word

-- how a test for a word computes where another word's letters are
begins_as : (bs rest w v : List ℕ) → map to_ascii_lowercase bs ≡ w → begins (bs ++ rest) v ≡ bytes_eq (take (length v) (w ++ map to_ascii_lowercase rest)) v
begins_as bs rest w v h =
    ap (λ x. bytes_eq x v) (sym (take-map to_ascii_lowercase (length v) (bs ++ rest)) ∙ ap (take (length v)) (map-append to_ascii_lowercase bs rest ∙ ap (λ x. x ++ map to_ascii_lowercase rest) h))

-- a front that is a letter is a word's
is_letter : (a w : ℕ) → to_ascii_lowercase a ≡ w → 97 ≤ w → 65 ≤ a
is_letter a w h low = grind (arith, common_steps)

-- a letter at the front begins a word
front_letter : (a : ℕ) (bs : List ℕ) → 65 ≤ a → front (a ∷ bs) ≡ word_front (a ∷ bs)
unfolding front
front_letter a bs h = grind (arith, common_steps)

-- a token's front
abbrev pub IsFront : Lexeme → List ℕ → List ℕ → Type 0
IsFront t bytes after = (front (bytes ++ after) ≡ (t, length bytes)) × NoSpace (bytes ++ after) × (0 < length bytes)

-- a word that is found is the front
word_token : (t : Lexeme) (bs rest : List ℕ) (w : ℕ) (ws : List ℕ) → map to_ascii_lowercase bs ≡ w ∷ ws → 97 ≤ w → word_front (bs ++ rest) ≡ (t, length (w ∷ ws)) → IsFront t bs rest
word_token t [] rest w ws h low e = absurd (cc)
word_token t (a ∷ bs) rest w ws h low e =
    let first : to_ascii_lowercase a ≡ w = grind arith in
    let size : length (a ∷ bs) ≡ length (w ∷ ws) = sym (length-map (a ∷ bs) to_ascii_lowercase) ∙ ap length h in
    let big : 65 ≤ a = is_letter a w first low in
    (front_letter a (bs ++ rest) big ∙ (e ∙ ap (λ n. (t, n)) (sym size)), grind (arith, common_steps), omega arith)

-- OPEN is found
open_front : (bs rest : List ℕ) → IsWord (codes "open") bs → word_front (bs ++ rest) ≡ (Word word.Open, 4)
unfolding word_front
open_front bs rest h = rw (begins_as bs rest (codes "open") (codes "rem") h, begins_as bs rest (codes "open") (codes "open") h) refl

-- CLOSE is found
close_front : (bs rest : List ℕ) → IsWord (codes "close") bs → word_front (bs ++ rest) ≡ (Word word.Close, 5)
unfolding word_front
close_front bs rest h = rw (begins_as bs rest (codes "close") (codes "rem") h, begins_as bs rest (codes "close") (codes "open") h, begins_as bs rest (codes "close") (codes "close") h) refl

-- CMD is found
cmd_front : (bs rest : List ℕ) → IsWord (codes "cmd") bs → word_front (bs ++ rest) ≡ (Word word.Cmd, 3)
unfolding word_front
cmd_front bs rest h = rw (begins_as bs rest (codes "cmd") (codes "rem") h, begins_as bs rest (codes "cmd") (codes "open") h, begins_as bs rest (codes "cmd") (codes "close") h, begins_as bs rest (codes "cmd") (codes "cmd") h) refl

-- PRINT# is found
print_to_front : (bs rest : List ℕ) → IsWord (codes "print#") bs → word_front (bs ++ rest) ≡ (Word word.PrintTo, 6)
unfolding word_front
print_to_front bs rest h = rw (begins_as bs rest (codes "print#") (codes "rem") h, begins_as bs rest (codes "print#") (codes "open") h, begins_as bs rest (codes "print#") (codes "close") h, begins_as bs rest (codes "print#") (codes "cmd") h, begins_as bs rest (codes "print#") (codes "print#") h) refl

-- CHR$ is found
chr_front : (bs rest : List ℕ) → IsWord (codes "chr$") bs → word_front (bs ++ rest) ≡ (Word word.Chr, 4)
unfolding word_front
chr_front bs rest h = rw (begins_as bs rest (codes "chr$") (codes "rem") h, begins_as bs rest (codes "chr$") (codes "open") h, begins_as bs rest (codes "chr$") (codes "close") h, begins_as bs rest (codes "chr$") (codes "cmd") h, begins_as bs rest (codes "chr$") (codes "print#") h, begins_as bs rest (codes "chr$") (codes "print") h, begins_as bs rest (codes "chr$") (codes "chr$") h) refl

-- REM is found, with the rest of the line
rem_front : (bs rest : List ℕ) → IsWord (codes "rem") bs → word_front (bs ++ rest) ≡ (Remark, length (bs ++ rest))
unfolding word_front
rem_front bs rest h = rw (begins_as bs rest (codes "rem") (codes "rem") h) refl

-- what is no `#` is none in lower case
not_hash : (r : ℕ) → (r ≡ 35 → ⊥) → (to_ascii_lowercase r ≡ 35 → ⊥)
not_hash r h e = h (grind (arith, common_steps))

-- PRINT without a `#` is not PRINT#
no_hash : (rest : List ℕ) → NoHash rest → bytes_eq (take 6 (codes "print" ++ map to_ascii_lowercase rest)) (codes "print#") ≡ false
no_hash [] h = refl
no_hash (r ∷ rs) h = let e : to_ascii_lowercase r ≡ 35 → ⊥ = not_hash r h in grind (arith, common_steps)

-- PRINT without a `#` is found
print_front : (bs rest : List ℕ) → IsWord (codes "print") bs → NoHash rest → word_front (bs ++ rest) ≡ (Word word.Print, 5)
unfolding word_front
print_front bs rest h n = rw (begins_as bs rest (codes "print") (codes "rem") h, begins_as bs rest (codes "print") (codes "open") h, begins_as bs rest (codes "print") (codes "close") h, begins_as bs rest (codes "print") (codes "cmd") h, begins_as bs rest (codes "print") (codes "print#") h, no_hash rest n, begins_as bs rest (codes "print") (codes "print") h) refl

-- a prefix of digits stops where no digit follows
digits_stop : (ds rest : List ℕ) → list_all is_digit ds ≡ true → NoDigit rest → prefix_len is_digit (ds ++ rest) ≡ length ds
digits_stop [] [] h n = refl
digits_stop [] (r ∷ rs) h n = rw n refl
digits_stop (d ∷ ds) rest h n =
    let more : list_all is_digit ds ≡ true = grind (arith, common_steps) in
    let k : prefix_len is_digit (ds ++ rest) ≡ length ds = digits_stop ds rest more n in
    grind (arith, common_steps)

-- a digit at the front begins a number
front_digit : (d : ℕ) (bs : List ℕ) → is_digit d ≡ true → front (d ∷ bs) ≡ (Digits (take (prefix_len is_digit (d ∷ bs)) (d ∷ bs)), prefix_len is_digit (d ∷ bs))
unfolding front
front_digit d bs h = rw h refl

-- digits are the front
digits_front : (ds rest : List ℕ) → 0 < length ds → list_all is_digit ds ≡ true → NoDigit rest → IsFront (Digits ds) ds rest
unfolding front
digits_front [] rest some h n = absurd (omega arith)
digits_front (d ∷ ds) rest some h n =
    let first : is_digit d ≡ true = grind (arith, common_steps) in
    let stop : prefix_len is_digit (d ∷ (ds ++ rest)) ≡ length (d ∷ ds) = digits_stop (d ∷ ds) rest h n in
    let all : front (d ∷ (ds ++ rest)) ≡ (Digits (d ∷ ds), length (d ∷ ds)) =
    front_digit d (ds ++ rest) first
    ∙ (ap (λ n. (Digits (take n (d ∷ (ds ++ rest))), n)) stop ∙ ap (λ v. (Digits v, length (d ∷ ds))) (take-append_seam (d ∷ ds) rest)) in
    (all, grind (arith, common_steps), omega arith)

-- a prefix without a quote stops at the quote or the end
string_stop : (s rest : List ℕ) → list_all is_no_quote s ≡ true → (rest ≡ []) ⊎ ((r : List ℕ) × (rest ≡ 34 ∷ r)) → prefix_len is_no_quote (s ++ rest) ≡ length s
string_stop [] rest h (inl e) = rw e refl
string_stop [] rest h (inr e) = rw e.1 refl
string_stop (b ∷ s) rest h n =
    let more : list_all is_no_quote s ≡ true = grind (arith, common_steps) in
    let k : prefix_len is_no_quote (s ++ rest) ≡ length s = string_stop s rest more n in
    grind (arith, common_steps)

-- a string with its last quote is found
text_closed : (s after : List ℕ) → list_all is_no_quote s ≡ true → text_front (s ++ 34 ∷ after) ≡ (Quoted s, length s + 2)
unfolding text_front
text_closed s after h =
    let stop : prefix_len is_no_quote (s ++ 34 ∷ after) ≡ length s = string_stop s (34 ∷ after) h (inr (after, refl)) in
    let less : nat_lt (length s) (length (s ++ 34 ∷ after)) ≡ true = grind (arith, common_steps, length-append s (34 ∷ after)) in
    rw (stop, less, take-append_seam s (34 ∷ after)) refl

-- a string without its last quote is found
text_open : (s : List ℕ) → list_all is_no_quote s ≡ true → text_front s ≡ (Quoted s, length s + 1)
unfolding text_front
text_open s h =
    let stop : prefix_len is_no_quote s ≡ length s = ap (prefix_len is_no_quote) (sym (append-nil s)) ∙ string_stop s [] h (inl refl) in
    let less : nat_lt (length s) (length s) ≡ false = grind (arith, common_steps) in
    let all : take (length s) s ≡ s = take_all (length s) s (omega arith) in
    rw (stop, less, all) refl

-- a string is the front
quoted_front : (s bytes after : List ℕ) → list_all is_no_quote s ≡ true → (bytes ≡ 34 ∷ s ++ 34 ∷ []) ⊎ ((bytes ≡ 34 ∷ s) × (after ≡ [])) → IsFront (Quoted s) bytes after
unfolding front
quoted_front s bytes after h (inl e) =
    let size : length (34 ∷ s ++ 34 ∷ []) ≡ length s + 2 = omega (arith, length-append s (34 ∷ [])) in
    let one : text_front ((s ++ 34 ∷ []) ++ after) ≡ (Quoted s, length s + 2) = ap text_front (append_assoc s (34 ∷ []) after) ∙ text_closed s after h in
    rw (e, size) (one, refl, omega arith)
quoted_front s bytes after h (inr e) =
    let size : length (34 ∷ s) ≡ length s + 1 = omega arith in
    let one : text_front (s ++ []) ≡ (Quoted s, length s + 1) = ap text_front (append-nil s) ∙ text_open s h in
    rw (e.0, e.1, size) (one, refl, omega arith)

-- a remark is the front
remark_front : (bytes after w rest : List ℕ) → bytes ≡ w ++ rest → IsWord (codes "rem") w → after ≡ [] → IsFront Remark bytes after
remark_front bytes after [] rest e h n = absurd (cc)
remark_front bytes after (a ∷ w) rest e h n =
    let first : to_ascii_lowercase a ≡ 114 = grind arith in
    let big : 65 ≤ a = is_letter a 114 first (omega arith) in
    let word : word_front ((a ∷ w) ++ rest) ≡ (Remark, length ((a ∷ w) ++ rest)) = rem_front (a ∷ w) rest h in
    rw (n, append-nil bytes, e) (front_letter a (w ++ rest) big ∙ word, grind (arith, common_steps), omega arith)

-- a spelled lexeme is the front
pub spelled_front : (t : Lexeme) (bytes after : List ℕ) → Spells t bytes after → IsFront t bytes after
unfolding front
spelled_front (Word word.Open) bytes after h = word_token _ bytes after _ _ h (omega arith) (open_front bytes after h)
spelled_front (Word word.Close) bytes after h = word_token _ bytes after _ _ h (omega arith) (close_front bytes after h)
spelled_front (Word word.Cmd) bytes after h = word_token _ bytes after _ _ h (omega arith) (cmd_front bytes after h)
spelled_front (Word word.PrintTo) bytes after h = word_token _ bytes after _ _ h (omega arith) (print_to_front bytes after h)
spelled_front (Word word.Print) bytes after h = word_token _ bytes after _ _ h.0 (omega arith) (print_front bytes after h.0 h.1)
spelled_front (Word word.Chr) bytes after h = word_token _ bytes after _ _ h (omega arith) (chr_front bytes after h)
spelled_front Remark bytes after h = remark_front bytes after h.0 h.1 h.2 h.3 h.4
spelled_front (Digits ds) bytes after h = rw h.0 (digits_front ds after h.1 h.2 h.3)
spelled_front (Quoted s) bytes after h = quoted_front s bytes after h.0 h.1
spelled_front Comma bytes after h = rw h (refl, refl, omega arith)
spelled_front Semicolon bytes after h = rw h (refl, refl, omega arith)
spelled_front Colon bytes after h = rw h (refl, refl, omega arith)
spelled_front OpenParen bytes after h = rw h (refl, refl, omega arith)
spelled_front CloseParen bytes after h = rw h (refl, refl, omega arith)
spelled_front Stray bytes after h = absurd h

-- A saved program's text is a script of the statements that its tokens are.
use Rattle.std.proofs.Common.{◌≡◌, ℕ, zero, suc, ◌-◌, ◌^◌, ◌<◌, Bool, true, false, List, [], ◌∷◌, ◌++◌, length, take, drop, take-append-drop, refl, ap, subst, sym, ◌∙◌, arith, append_assoc, inl, inr, Option, None, Some}
use Rattle.std.proofs.lemmas.Fmt.{decimal_nonempty, digits_decimal, digits_value-decimal}
use Rattle.std.proofs.lemmas.Grind.{common_steps}
use Rattle.std.proofs.lemmas.Bool.Decides.{nat_tests}
use Rattle.std.proofs.lemmas.List.Elements.{All-head, All-tail}
use Rattle.std.proofs.lemmas.List.Folds.{list_all-append}
use Rattle.std.specs.Prelude.{◌==◌, decimal, slice_index_or, if◌then◌else◌}
use Rattle.std.specs.List.{All, list_all}
use Rattle.pr_base.specs.Digits.{is_digit, number_of}
use Rattle.pr_base.specs.Lines.{lines_of}
use Rattle.pr_basic.specs.Grammar.{AreLines, AreParts, HasNumber, IsLine, is_printable, parts, without_return}
use Rattle.pr_basic.specs.LexemeLaws.{LexemesAreFound, LinesHaveLexemes}
use Rattle.pr_basic.specs.Lexemes.{Lexeme, Digits}
use Rattle.pr_basic.specs.Lexing.{lexemes_of}
use Rattle.pr_basic.specs.declared.statement.Statement.{Statement}
use Rattle.pr_listing.specs.Containers.{entry_count, is_p00, is_t64, offset_at, program_at, program_in, used_from}
use Rattle.pr_listing.specs.Keywords.{is_token, keyword_of, keywords}
use Rattle.pr_listing.specs.Listing.{byte_text, bytes_text, is_held, is_letter, line_text, lines_text, mode_after, or_question, plain_text, string_text}
use Rattle.pr_listing.specs.Program.{BeginsWith, BeginsWithLines, IsProgram, Line}
use Rattle.pr_listing.specs.TokenLaws.{StringsKeepBytes, TokensAreStatements}
use Rattle.pr_listing.specs.Tokens.{AreProgramLines, IsProgramLine, lexemes_behind}
use Rattle.pr_listing.specs.declared.line.Mode.{Mode}
use Rattle.pr_listing.specs.declared.line.Mode.TheVariants.{Plain, Quoted, Remark}
use Rattle.pr_listing.proofs.LexemeLemmas.{first, space_first}
use Rattle.pr_listing.proofs.TokenLemmas.{is_small, line_same, of_both, of_parts, own, quoted_same, string_bytes}

-- printable bytes

-- a list of which all pass a test has such an element at each place, or else another that passes
at_index : (p : List ℕ → Bool) (xs : List (List ℕ)) (i : ℕ) → list_all p xs ≡ true → p [] ≡ true → p (slice_index_or xs i []) ≡ true
at_index p [] i h none = none
at_index p (x ∷ xs) zero h none = grind (arith, common_steps)
at_index p (x ∷ xs) (suc i) h none = at_index p xs i (grind (arith, common_steps)) none

-- a keyword is printable
keyword_printable : (b : ℕ) → list_all is_printable (keyword_of b) ≡ true
unfolding keyword_of
keyword_printable b = tests (is_token b) refl
  where
    tests : (t : Bool) → is_token b ≡ t → list_all is_printable (keyword_of b) ≡ true
    tests true e = rw e (at_index (list_all is_printable) keywords (b - 128) refl refl)
    tests false e = rw e refl

-- two printable texts
both_printable : (xs ys : List ℕ) → list_all is_printable xs ≡ true → list_all is_printable ys ≡ true → list_all is_printable (xs ++ ys) ≡ true
both_printable xs ys a b = list_all-append is_printable xs ys ∙ rw (a, b) refl

-- digits are
digits_printable : (ds : List ℕ) → list_all is_digit ds ≡ true → list_all is_printable ds ≡ true
digits_printable [] h = refl
digits_printable (d ∷ ds) h =
    let k = of_both is_digit d ds h in
    let this : is_printable d ≡ true = grind (arith, common_steps, k.0) in
    rw (this, digits_printable ds k.1) refl

-- a number is
decimal_printable : (n : ℕ) → n < 2 ^ 64 → list_all is_printable (decimal n) ≡ true
decimal_printable n h = digits_printable (decimal n) (digits_decimal own n h)

-- a byte or a question mark is
question_printable : (b : ℕ) → list_all is_printable (or_question b) ≡ true
question_printable b = tests (is_printable b) refl
  where
    tests : (p : Bool) → is_printable b ≡ p → list_all is_printable (or_question b) ≡ true
    tests true e = rw (e, e) refl
    tests false e = rw e refl

-- so is a byte outside strings and remarks
plain_printable : (b : ℕ) → list_all is_printable (plain_text b) ≡ true
plain_printable b = tests (is_token b) refl (is_letter b) refl
  where
    tests : (t : Bool) → is_token b ≡ t → (l : Bool) → is_letter b ≡ l → list_all is_printable (plain_text b) ≡ true
    tests true t l el = rw t (both_printable (keyword_of b) (32 ∷ []) (keyword_printable b) refl)
    tests false t true el = let this : is_printable b ≡ true = grind (arith, common_steps) in rw (t, el, this) refl
    tests false t false el = rw (t, el) (question_printable b)

-- and one of a string
string_printable : (b : ℕ) → b < 2 ^ 64 → list_all is_printable (string_text b) ≡ true
string_printable b h = tests (is_held b) refl
  where
    tests : (t : Bool) → is_held b ≡ t → list_all is_printable (string_text b) ≡ true
    tests true e = let this : is_printable b ≡ true = grind (arith, common_steps) in rw (e, this) refl
    tests false e = rw e (both_printable (decimal b) (41 ∷ 34 ∷ []) (decimal_printable b h) refl)

-- each byte's text is
byte_printable : (mode : Mode) (b : ℕ) → b < 2 ^ 64 → list_all is_printable (byte_text mode b) ≡ true
byte_printable Plain b h = plain_printable b
byte_printable Quoted b h = tests (b == 34) refl
  where
    tests : (q : Bool) → (b == 34) ≡ q → list_all is_printable (byte_text Quoted b) ≡ true
    tests true e = let this : is_printable b ≡ true = grind (arith, common_steps) in rw (e, this) refl
    tests false e = ap (list_all is_printable) (quoted_same b e) ∙ string_printable b h
byte_printable Remark b h = question_printable b

-- and that of all bytes
text_printable : (mode : Mode) (bs : List ℕ) → list_all is_small bs ≡ true → list_all is_printable (bytes_text mode bs) ≡ true
text_printable mode [] h = refl
text_printable mode (b ∷ bs) h =
    let k = of_both is_small b bs h in
    let low : b < 256 = grind (arith, common_steps, nat_tests, k.0) in
    let fits : b < 2 ^ 64 = omega (arith, low) in
    both_printable (byte_text mode b) (bytes_text (mode_after mode b) bs) (byte_printable mode b fits) (text_printable (mode_after mode b) bs k.1)

-- lines

-- a printable text is a line up to its end
line_cut : (t rest : List ℕ) → list_all is_printable t ≡ true → lines_of (t ++ 10 ∷ rest) ≡ t ∷ lines_of rest
unfolding lines_of
line_cut [] rest h = refl
line_cut (b ∷ t) rest h =
    let k = of_both is_printable b t h in
    let no : (b == 10) ≡ false = grind (arith, common_steps, k.0) in
    rw (no, line_cut t rest k.1) refl

-- it has no byte 13
no_return : (t : List ℕ) → list_all is_printable t ≡ true → without_return t ≡ t
no_return [] h = refl
no_return (b ∷ []) h =
    let k = of_both is_printable b [] h in
    let no : (b == 13) ≡ false = grind (arith, common_steps, k.0) in
    rw no refl
no_return (b ∷ c ∷ t) h = ap (λ v. b ∷ v) (no_return (c ∷ t) (of_both is_printable b (c ∷ t) h).1)

-- a line's text without its end
abbrev pub shown : Line → List ℕ
shown l = decimal l.number ++ 32 ∷ bytes_text Plain l.bytes

-- a line's numbers are those of a file
abbrev pub IsFine : Line → Type 0
IsFine l = (l.number < 2 ^ 64) × (list_all is_small l.bytes ≡ true)

-- its text is printable
shown_printable : (l : Line) → IsFine l → list_all is_printable (shown l) ≡ true
shown_printable l h = both_printable (decimal l.number) (32 ∷ bytes_text Plain l.bytes) (decimal_printable l.number h.0) (text_printable Plain l.bytes h.1)

-- it is a line of the text
shown_first : (l : Line) (rest : List ℕ) → IsFine l → lines_of (line_text l ++ rest) ≡ shown l ∷ lines_of rest
shown_first l rest h =
    ap lines_of (append_assoc (shown l) (10 ∷ []) rest) ∙ line_cut (shown l) rest (shown_printable l h)

-- its lexemes are its number and those of its bytes
shown_lexemes : LinesHaveLexemes → LexemesAreFound → (l : Line) → IsFine l → lexemes_of (shown l) ≡ Digits (decimal l.number) ∷ lexemes_behind 0 l.bytes
shown_lexemes all found l h =
    let T = bytes_text Plain l.bytes in
    first all found (Digits (decimal l.number)) (decimal l.number) (32 ∷ T) (refl, decimal_nonempty l.number h.0, digits_decimal own l.number h.0, refl)
    ∙ ap (λ v. Digits (decimal l.number) ∷ v) (space_first T ∙ line_same all found (length l.bytes) l.bytes (omega arith) h.1)

-- a line of a script is one of the program
to_line : LinesHaveLexemes → LexemesAreFound → (l : Line) (ss : List Statement) → IsFine l → IsLine (shown l) ss → IsProgramLine l ss
to_line all found l ss h (lexemes, rest, are, has, good) = cases has
  where
    D : List ℕ
    D = decimal l.number

    L : List Lexeme
    L = lexemes_behind 0 l.bytes

    same : Digits D ∷ L ≡ lexemes
    same = sym (shown_lexemes all found l h) ∙ found (shown l) lexemes are

    cases : HasNumber lexemes rest → IsProgramLine l ss
    cases (inl (e, none)) = absurd (none D L (sym same))
    cases (inr (ds, cut, small)) =
        let both : Digits D ∷ L ≡ Digits ds ∷ rest = same ∙ cut in
        let number : D ≡ ds = cc in
        let left : L ≡ rest = cc in
        let value : number_of D ≡ l.number = digits_value-decimal own l.number h.0 in
        (omega (arith, small, value, ap number_of number), subst (λ v. AreParts (parts v) ss) (sym left) good)

-- and the other way
from_line : LinesHaveLexemes → LexemesAreFound → (l : Line) (ss : List Statement) → IsFine l → IsProgramLine l ss → IsLine (shown l) ss
from_line all found l ss h k =
    let value : number_of (decimal l.number) ≡ l.number = digits_value-decimal own l.number h.0 in
    (lexemes_of (shown l), lexemes_behind 0 l.bytes, all (shown l), inr (decimal l.number, shown_lexemes all found l h, omega (arith, value, k.0)), k.1)

-- all lines are fine
abbrev pub AreFine : List Line → Type 0
AreFine [] = Unit {0}
AreFine (l ∷ ls) = IsFine l × AreFine ls

-- the lines of a script are those of the program
to_lines : LinesHaveLexemes → LexemesAreFound → (ls : List Line) (ss : List Statement) → AreFine ls → AreLines (lines_of (lines_text ls)) ss → AreProgramLines ls ss
unfolding lines_of
to_lines all found [] ss fine h = h
to_lines all found (l ∷ ls) ss fine h =
    let k : AreLines (shown l ∷ lines_of (lines_text ls)) ss = subst (λ v. AreLines v ss) (shown_first l (lines_text ls) fine.0) h in
    let this : IsLine (shown l) k.0 = subst (λ v. IsLine v k.0) (no_return (shown l) (shown_printable l fine.0)) k.2 in
    (k.0, k.1, to_line all found l k.0 fine.0 this, k.3, to_lines all found ls k.1 fine.1 k.4)

-- and the other way
from_lines : LinesHaveLexemes → LexemesAreFound → (ls : List Line) (ss : List Statement) → AreFine ls → AreProgramLines ls ss → AreLines (lines_of (lines_text ls)) ss
unfolding lines_of
from_lines all found [] ss fine h = h
from_lines all found (l ∷ ls) ss fine h =
    let this : IsLine (without_return (shown l)) h.0 =
    subst (λ v. IsLine v h.0) (sym (no_return (shown l) (shown_printable l fine.0))) (from_line all found l h.0 fine.0 h.2) in
    let k : AreLines (shown l ∷ lines_of (lines_text ls)) ss = (h.0, h.1, this, h.3, from_lines all found ls h.1 fine.1 h.4) in
    subst (λ v. AreLines v ss) (sym (shown_first l (lines_text ls) fine.0)) k

-- the bytes of a file make fine lines
line_fine : (l : Line) (bytes after : List ℕ) → BeginsWith l bytes after → list_all is_small bytes ≡ true → IsFine l × (list_all is_small after ≡ true)
line_fine l bytes after h small =
    let cut : list_all is_small (h.link_low ∷ h.link_high ∷ h.low ∷ h.high ∷ (l.bytes ++ 0 ∷ after)) ≡ true = ap (list_all is_small) (sym h.cut) ∙ small in
    let a = of_both is_small h.link_low (h.link_high ∷ h.low ∷ h.high ∷ (l.bytes ++ 0 ∷ after)) cut in
    let b = of_both is_small h.link_high (h.low ∷ h.high ∷ (l.bytes ++ 0 ∷ after)) a.1 in
    let c = of_both is_small h.low (h.high ∷ (l.bytes ++ 0 ∷ after)) b.1 in
    let d = of_both is_small h.high (l.bytes ++ 0 ∷ after) c.1 in
    let e = of_parts is_small l.bytes (0 ∷ after) d.1 in
    let low : h.low < 256 = grind (arith, common_steps, nat_tests, c.0) in
    let high : h.high < 256 = grind (arith, common_steps, nat_tests, d.0) in
    ((omega (arith, h.numbered, low, high), e.0), (of_both is_small 0 after e.1).1)

lines_fine : (ls : List Line) (bytes rest : List ℕ) → BeginsWithLines ls bytes rest → list_all is_small bytes ≡ true → AreFine ls
lines_fine [] bytes rest h small = tt
lines_fine (l ∷ ls) bytes rest h small = let k = line_fine l bytes h.0 h.1 small in (k.0, lines_fine ls h.0 rest h.2 k.1)

-- the bytes of a list pass the test
small_all : (xs : List ℕ) → All (λ b. b < 256) xs → list_all is_small xs ≡ true
small_all [] all = refl
small_all (b ∷ bs) all =
    let k : b < 256 = All-head (λ b. b < 256) b bs all in
    let e : is_small b ≡ true = grind (arith, common_steps, nat_tests) in
    rw (e, small_all bs (All-tail (λ b. b < 256) b bs all)) refl

program_fine : (ls : List Line) (file : List ℕ) → IsProgram ls file → list_all is_small file ≡ true → AreFine ls
program_fine ls file (more, (low, high, bytes, cut, lines), some) small =
    let whole : list_all is_small (low ∷ high ∷ bytes) ≡ true = ap (list_all is_small) (sym cut) ∙ small in
    lines_fine ls bytes (0 ∷ 0 ∷ more) lines (of_both is_small high bytes (of_both is_small low (high ∷ bytes) whole).1).1

-- so do those from a place on
small_drop : (n : ℕ) (xs : List ℕ) → list_all is_small xs ≡ true → list_all is_small (drop n xs) ≡ true
small_drop n xs small = (of_parts is_small (take n xs) (drop n xs) (ap (list_all is_small) (take-append-drop n xs) ∙ small)).1

-- and those up to a place
small_take : (n : ℕ) (xs : List ℕ) → list_all is_small xs ≡ true → list_all is_small (take n xs) ≡ true
small_take n xs small = (of_parts is_small (take n xs) (drop n xs) (ap (list_all is_small) (take-append-drop n xs) ∙ small)).0

-- and those of the program in a file
small_program : (file : List ℕ) → list_all is_small file ≡ true → list_all is_small (program_in file) ≡ true
small_program file small = inside (is_p00 file) (is_t64 file) (used_from file 64 (entry_count file))
  where
    inside : (p t : Bool) (entry : Option ℕ) → list_all is_small (if p then drop 26 file else (if t then program_at file entry else file)) ≡ true
    inside true t entry = small_drop 26 file small
    inside false true None = refl
    inside false true (Some entry) = small_take _ (drop (offset_at file entry - 2) file) (small_drop (offset_at file entry - 2) file small)
    inside false false entry = small

-- a saved program's text is a script of the statements that its tokens are
pub tokens_are_statements : LinesHaveLexemes → LexemesAreFound → TokensAreStatements
tokens_are_statements all found file ss bytes = (
  λ h. (
    h.1.0,
    h.1.1,
    to_lines all found h.1.0 ss (program_fine h.1.0 (program_in file) h.1.1 (small_program file (small_all file bytes))) (subst (λ v. AreLines (lines_of v) ss) h.1.2 h.2.0),
    h.2.1,
  ),
  λ k. (
    lines_text k.0,
    (k.0, k.1, refl),
    (from_lines all found k.0 ss (program_fine k.0 (program_in file) k.1 (small_program file (small_all file bytes))) k.2, k.3),
  ),
)

-- the items of a string have its bytes
pub strings_keep_bytes : StringsKeepBytes
strings_keep_bytes s bytes = string_bytes s (small_all s bytes)

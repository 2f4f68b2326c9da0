-- A text whose lines may have their numbers is the file of the shapes that these make.
use Rattle.std.proofs.Common.{◌≡◌, ℕ, ◌+◌, ◌-◌, ◌*◌, ◌/◌, ◌%◌, ◌<◌, ◌≤◌, Bool, true, false, cond, List, [], ◌++◌, length, get_or, take, Some, None, Result, Ok, Err, refl, sym, ap, ◌∙◌, arith, ◌⊎◌, inl, inr}
use Rattle.std.specs.Prelude.{◌==◌, ◌&&◌, map, nat_lt}
use Rattle.std.specs.List.{list_all, range_with_len}
use Rattle.std.specs.Result.{IsErrAnd}
use Rattle.std.specs.Str.{bytes_eq}
use Rattle.std.proofs.lemmas.Bool.{and_from, and_parts, eq-eqb, eqb-true}
use Rattle.std.proofs.lemmas.Bool.Decides.{nat_tests}
use Rattle.std.proofs.lemmas.Grind.{common_steps}
use Rattle.std.proofs.lemmas.List.{ext_get_or, get_or-take, get_or_append_left, get_or-append_right, length-take, length-take-le}
use Rattle.std.proofs.lemmas.List.FromFn.{get_or-map-range_with_len, length-map-range_with_len}
use Rattle.std.proofs.lemmas.Slice.Eq.{bytes_eq-Decides}
use Rattle.pr_dots.specs.declared.character_sets.Shapes.{Shapes}
use Rattle.pr_characters.specs.declared.fault.CharactersFault.{CharactersFault}
use Rattle.pr_characters.specs.declared.fault.CharactersFault.TheVariants.{BadLine}
use Rattle.pr_characters.specs.File.{AnswersFile, AreFirst, IsBadLine, are_shapes, file_of, is_character, line_of, name_line, sign, text_lines}
use Rattle.pr_characters.specs.Rows.{IsFirstBad, are_signs, bits_of, columns_at, first_bad, is_sign, may_have, pictures_at, row_of, rows_from, shapes_of}
use Rattle.pr_characters.proofs.Elements.{all_at, all_given}
use Rattle.pr_characters.proofs.FirstBad.{all_good, all_there, bad_there, bad_within, good_before, row_at}
use Rattle.pr_characters.proofs.Signs.{columns_fit, row_signs, signs_of}

-- the pictures of both sets, one after the other
pictures_length : (rows : List ℕ) (first : ℕ) → length (pictures_at rows first) ≡ 128
unfolding pictures_at
pictures_length rows first = length-map-range_with_len (columns_at rows) first 128

picture_in : (rows : List ℕ) (first k j : ℕ) → k < 128 → first + k ≡ j → get_or (pictures_at rows first) k [] ≡ columns_at rows j
unfolding pictures_at
picture_in rows first k j within at = get_or-map-range_with_len (columns_at rows) first 128 k j [] within at

picture_of : (rows : List ℕ) (p : ℕ) → p < 256 → get_or (pictures_at rows 0 ++ pictures_at rows 128) p [] ≡ columns_at rows p
picture_of rows p within = by (nat_lt p 128) refl
  where
    by : (b : Bool) → nat_lt p 128 ≡ b → get_or (pictures_at rows 0 ++ pictures_at rows 128) p [] ≡ columns_at rows p
    by true is =
        let few : p < 128 = grind (arith, nat_tests, is) in
        let front : p < length (pictures_at rows 0) = omega (arith, pictures_length rows 0) in
        get_or_append_left (pictures_at rows 0) (pictures_at rows 128) [] p front ∙ picture_in rows 0 p p few (omega arith)
    by false is =
        let many : 128 ≤ p = grind (arith, nat_tests, is) in
        get_or-append_right (pictures_at rows 0) (pictures_at rows 128) 128 p [] (pictures_length rows 0) many
        ∙ picture_in rows 128 (p - 128) p (omega arith) (omega arith)

-- the shapes that rows make
all_fit : (rows : List ℕ) (first : ℕ) → list_all is_character (pictures_at rows first) ≡ true
unfolding pictures_at
all_fit rows first = all_given is_character (columns_at rows) (columns_fit rows) (range_with_len first 128)

set_fits : (rows : List ℕ) (first : ℕ) → (length (pictures_at rows first) == 128 && list_all is_character (pictures_at rows first)) ≡ true
set_fits rows first =
    and_from (length (pictures_at rows first) == 128) (list_all is_character (pictures_at rows first))
    (eq-eqb (length (pictures_at rows first)) 128 (pictures_length rows first)) (all_fit rows first)

pub shapes_fit : (rows : List ℕ) → are_shapes (shapes_of rows) ≡ true
shapes_fit rows =
    and_from (length (pictures_at rows 0) == 128 && list_all is_character (pictures_at rows 0))
    (length (pictures_at rows 128) == 128 && list_all is_character (pictures_at rows 128)) (set_fits rows 0) (set_fits rows 128)

-- a line that may have its number is that of the shapes that it makes
line_is : (rows line : List ℕ) (m : ℕ) → m < 2048 → may_have m line ≡ true → get_or rows m 0 ≡ row_of m line → line_of (shapes_of rows) m ≡ line
line_is rows line m within good is = by (m % 8 == 0) refl good is
  where
    at : m % 8 ≡ 0 → ⊥ → 8 * (m / 8) + 1 + (m % 8 - 1) ≡ m
    at some = omega (arith, some)

    by : (b : Bool) → (m % 8 == 0) ≡ b → cond b (bytes_eq line (name_line (m / 8))) (are_signs line) ≡ true → get_or rows m 0 ≡ cond b 0 (bits_of line)
        → cond b (name_line (m / 8)) (map (sign (m % 8 - 1)) (get_or (pictures_at rows 0 ++ pictures_at rows 128) (m / 8) [])) ≡ line
    by true named same is = sym ((bytes_eq-Decides line (name_line (m / 8))).0 same)
    by false row signs is =
        let some : m % 8 ≡ 0 → ⊥ = λ none. grind (arith, nat_tests, row, none) in
        let here : 8 * (m / 8) + 1 + (m % 8 - 1) ≡ m = omega (arith, some) in
        ap (map (sign (m % 8 - 1))) (picture_of rows (m / 8) (omega arith))
        ∙ row_signs rows line (m / 8) (m % 8 - 1) (omega arith) signs (ap (λ k. get_or rows k 0) here ∙ is)

-- the lines of a file
file_length : (shapes : Shapes) → length (file_of shapes) ≡ 2048
unfolding file_of
file_length shapes = length-map-range_with_len (line_of shapes) 0 2048

pub file_at : (shapes : Shapes) (k : ℕ) → k < 2048 → get_or (file_of shapes) k [] ≡ line_of shapes k
unfolding file_of
file_at shapes k within = get_or-map-range_with_len (line_of shapes) 0 2048 k k [] within (omega arith)

-- a line that is not bad is that of the file of the shapes that all lines make
line_at : (lines : List (List ℕ)) (k : ℕ) → k < 2048 → k < length lines → may_have k (get_or lines k []) ≡ true
    → get_or lines k [] ≡ get_or (file_of (shapes_of (rows_from 0 lines))) k []
line_at lines k within there good =
    sym (line_is (rows_from 0 lines) (get_or lines k []) k within good (row_at 0 k k lines (omega arith) there))
    ∙ sym (file_at (shapes_of (rows_from 0 lines)) k within)

-- where none is bad, the lines are a file
pub whole : (lines : List (List ℕ)) → first_bad 0 lines ≡ None → lines ≡ file_of (shapes_of (rows_from 0 lines))
whole lines none =
    let long : length lines ≡ 2048 = omega (arith, all_there 0 lines none) in
    ext_get_or [] lines (file_of (shapes_of (rows_from 0 lines))) (long ∙ sym (file_length (shapes_of (rows_from 0 lines))))
    (λ k there. line_at lines k (omega arith) there (all_good 0 k k lines none (omega arith) there))

-- the lines before the first bad one are the first of a file
pub front : (lines : List (List ℕ)) (f : ℕ) → first_bad 0 lines ≡ Some f → take f lines ≡ take f (file_of (shapes_of (rows_from 0 lines)))
front lines f is =
    let within = bad_within 0 f lines is (omega arith) in
    let few : f ≤ 2048 = within.0 in
    let there : f ≤ length lines = omega (arith, within.1) in
    let long : length (file_of (shapes_of (rows_from 0 lines))) ≡ 2048 = file_length (shapes_of (rows_from 0 lines)) in
    ext_get_or [] (take f lines) (take f (file_of (shapes_of (rows_from 0 lines))))
    (length-of f lines there ∙ sym (length-of f (file_of (shapes_of (rows_from 0 lines))) (omega arith)))
    (λ k before.
    let early : k < f = omega (arith, length-of f lines there) in
    get_or-take f lines k [] early
    ∙ line_at lines k (omega arith) (omega arith) (good_before 0 f k k lines is (omega arith) early)
    ∙ sym (get_or-take f (file_of (shapes_of (rows_from 0 lines))) k [] early))
  where
    length-of : (n : ℕ) (xs : List (List ℕ)) → n ≤ length xs → length (take n xs) ≡ n
    length-of n xs within = length-take-le n xs within

-- the characters of shapes
pub upper_fits : (shapes : Shapes) → are_shapes shapes ≡ true → (length shapes.upper ≡ 128) × (list_all is_character shapes.upper ≡ true)
upper_fits shapes fit =
    let both = and_parts (length shapes.upper == 128 && list_all is_character shapes.upper) (length shapes.lower == 128 && list_all is_character shapes.lower) fit in
    let parts = and_parts (length shapes.upper == 128) (list_all is_character shapes.upper) both.0 in
    (eqb-true (length shapes.upper) 128 parts.0, parts.1)

pub lower_fits : (shapes : Shapes) → are_shapes shapes ≡ true → (length shapes.lower ≡ 128) × (list_all is_character shapes.lower ≡ true)
lower_fits shapes fit =
    let both = and_parts (length shapes.upper == 128 && list_all is_character shapes.upper) (length shapes.lower == 128 && list_all is_character shapes.lower) fit in
    let parts = and_parts (length shapes.lower == 128) (list_all is_character shapes.lower) both.1 in
    (eqb-true (length shapes.lower) 128 parts.0, parts.1)

pub character_fits : (shapes : Shapes) (p : ℕ) → are_shapes shapes ≡ true → p < 256 → is_character (get_or (shapes.upper ++ shapes.lower) p []) ≡ true
character_fits shapes p fit few = by (nat_lt p 128) refl (upper_fits shapes fit) (lower_fits shapes fit)
  where
    by : (b : Bool) → nat_lt p 128 ≡ b → (length shapes.upper ≡ 128) × (list_all is_character shapes.upper ≡ true)
        → (length shapes.lower ≡ 128) × (list_all is_character shapes.lower ≡ true)
        → is_character (get_or (shapes.upper ++ shapes.lower) p []) ≡ true
    by true is upper lower =
        let front : p < length shapes.upper = grind (arith, nat_tests, is, upper.0) in
        ap is_character (get_or_append_left shapes.upper shapes.lower [] p front) ∙ all_at is_character [] shapes.upper p upper.1 front
    by false is upper lower =
        let many : 128 ≤ p = grind (arith, nat_tests, is) in
        ap is_character (get_or-append_right shapes.upper shapes.lower 128 p [] upper.0 many)
        ∙ all_at is_character [] shapes.lower (p - 128) lower.1 (omega (arith, lower.0))

-- a line of a file may have its number
may_draw : (shapes : Shapes) (m : ℕ) → are_shapes shapes ≡ true → m < 2048 → may_have m (line_of shapes m) ≡ true
may_draw shapes m fit within = by (m % 8 == 0)
  where
    signs : (columns : List ℕ) → is_character columns ≡ true → are_signs (map (sign (m % 8 - 1)) columns) ≡ true
    signs columns fit =
        let six : length columns ≡ 6 = eqb-true (length columns) 6 (and_parts (length columns == 6) (list_all (λ column. nat_lt column 128) columns) fit).0 in
        let long : length (map (sign (m % 8 - 1)) columns) ≡ 6 = grind (arith, common_steps, six) in
        and_from (length (map (sign (m % 8 - 1)) columns) == 6) (list_all is_sign (map (sign (m % 8 - 1)) columns))
        (eq-eqb (length (map (sign (m % 8 - 1)) columns)) 6 long) (signs_of (m % 8 - 1) columns)

    by : (b : Bool)
        → cond b (bytes_eq (cond b (name_line (m / 8)) (map (sign (m % 8 - 1)) (get_or (shapes.upper ++ shapes.lower) (m / 8) []))) (name_line (m / 8)))
        (are_signs (cond b (name_line (m / 8)) (map (sign (m % 8 - 1)) (get_or (shapes.upper ++ shapes.lower) (m / 8) [])))) ≡ true
    by true = (bytes_eq-Decides (name_line (m / 8)) (name_line (m / 8))).1 refl
    by false = signs (get_or (shapes.upper ++ shapes.lower) (m / 8) []) (character_fits shapes (m / 8) fit (omega (arith, within)))

-- with the first bad line they are the first of no file
pub no_front : (lines : List (List ℕ)) (f : ℕ) (shapes : Shapes) → first_bad 0 lines ≡ Some f → are_shapes shapes ≡ true
    → take (f + 1) lines ≡ take (f + 1) (file_of shapes) → ⊥
no_front lines f shapes is fit same = by (bad_there 0 f f lines is (omega arith))
  where
    few : f ≤ 2048
    few = (bad_within 0 f lines is (omega arith)).0

    lengths : length (take (f + 1) lines) ≡ length (take (f + 1) (file_of shapes))
    lengths = ap (λ xs. length xs) same

    long : length (file_of shapes) ≡ 2048
    long = file_length shapes

    short : (n : ℕ) (xs : List (List ℕ)) → length xs ≤ n → length (take n xs) ≡ length xs
    short n xs within = omega (arith, length-take n xs)

    full : (n : ℕ) (xs : List (List ℕ)) → n ≤ length xs → length (take n xs) ≡ n
    full n xs within = length-take-le n xs within

    by : ((length lines ≡ f) × (f ≡ 2048 → ⊥)) ⊎ ((f < length lines) × ((nat_lt f 2048 && may_have f (get_or lines f [])) ≡ false)) → ⊥
    by (inl missing) =
        let before : f < 2048 = omega (arith, few, missing.1) in
        omega (arith, lengths, short (f + 1) lines (omega (arith, missing.0)), full (f + 1) (file_of shapes) (omega (arith, long)), missing.0)
    by (inr there) = last (nat_lt f 2048) refl
      where
        last : (b : Bool) → nat_lt f 2048 ≡ b → ⊥
        last true inside =
            let before : f < 2048 = grind (arith, nat_tests, inside) in
            let line : get_or lines f [] ≡ line_of shapes f =
            sym (get_or-take (f + 1) lines f [] (omega arith)) ∙ ap (λ xs. get_or xs f []) same
            ∙ get_or-take (f + 1) (file_of shapes) f [] (omega arith) ∙ file_at shapes f before in
            let good : may_have f (get_or lines f []) ≡ true = ap (may_have f) line ∙ may_draw shapes f fit before in
            let both : (nat_lt f 2048 && may_have f (get_or lines f [])) ≡ true = and_from (nat_lt f 2048) (may_have f (get_or lines f [])) inside good in
            cc (both, there.1)
        last false outside =
            let after : 2048 ≤ f = grind (arith, nat_tests, outside) in
            omega (arith, lengths, full (f + 1) lines (omega (arith, there.0)), short (f + 1) (file_of shapes) (omega (arith, long)), long, few)

-- the first bad line of a text
pub bad_line : (text : List ℕ) (fault : CharactersFault) → IsFirstBad text fault → IsBadLine text fault
bad_line text (BadLine n) bad =
    let before : n - 1 ≡ bad.0 = omega (arith, bad.1) in
    let first : AreFirst bad.0 text =
    (shapes_of (rows_from 0 (text_lines text)), shapes_fit (rows_from 0 (text_lines text)), front (text_lines text) bad.0 bad.2) in (
      rw before first,
      λ found. no_front (text_lines text) bad.0 found.0 bad.2 found.1
          (ap (λ k. take k (text_lines text)) (sym bad.1) ∙ found.2 ∙ ap (λ k. take k (file_of found.0)) bad.1),
    )

-- the answer to a text
pub answered : (text : List ℕ) (result : Result Shapes CharactersFault) (fault : CharactersFault) → IsFirstBad text fault → IsErrAnd result (λ e. e ≡ fault)
    → AnswersFile text result
answered text (Ok shapes) fault bad same = absurd same
answered text (Err it) fault bad same = rw same (bad_line text fault bad)

pub drawn : (text rows : List ℕ) (shapes : Shapes) → first_bad 0 (text_lines text) ≡ None → rows ≡ rows_from 0 (text_lines text) → shapes ≡ shapes_of rows
    → (are_shapes shapes ≡ true) × (text_lines text ≡ file_of shapes)
drawn text rows shapes none are made =
    let all : shapes ≡ shapes_of (rows_from 0 (text_lines text)) = made ∙ ap shapes_of are in
    rw all (shapes_fit (rows_from 0 (text_lines text)), whole (text_lines text) none)

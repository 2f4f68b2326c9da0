-- Each text has one answer.
use Rattle.std.proofs.Common.{◌≡◌, ℕ, zero, suc, ◌+◌, ◌-◌, ◌*◌, ◌/◌, ◌%◌, ◌^◌, ◌<◌, ◌≤◌, Bool, true, false, cond, List, [], ◌∷◌, ◌++◌, length, get_or, take, Result, Ok, Err, refl, sym, ap, ◌∙◌, arith}
use Rattle.std.specs.Prelude.{◌==◌, map, nat_lt}
use Rattle.std.specs.List.{list_all}
use Rattle.std.proofs.lemmas.Bool.{and_parts, ltb-true}
use Rattle.std.proofs.lemmas.Bool.Decides.{nat_tests}
use Rattle.std.proofs.lemmas.List.{ext_get_or, get_or-append_right, get_or_append_left, take-take}
use Rattle.std.proofs.lemmas.Nat.{mod-pow-add}
use Rattle.pr_dots.specs.declared.character_sets.Shapes.{Shapes}
use Rattle.pr_characters.specs.declared.fault.CharactersFault.{CharactersFault}
use Rattle.pr_characters.specs.declared.fault.CharactersFault.TheVariants.{BadLine}
use Rattle.pr_characters.specs.File.{AnswersFile, AreFirst, IsBadLine, are_shapes, file_of, is_character, line_of, name_line, sign, text_lines}
use Rattle.pr_characters.proofs.Drawn.{character_fits, file_at, lower_fits, upper_fits}

-- numbers with the same low bits
same_low : (y c d : ℕ) → ((k : ℕ) → k < y → c / 2 ^ k % 2 ≡ d / 2 ^ k % 2) → c % 2 ^ y ≡ d % 2 ^ y
same_low zero c d bits = omega arith
same_low (suc y) c d bits =
    let next : suc y ≡ 1 + y = omega arith in
    ap (λ k. c % 2 ^ k) next ∙ mod-pow-add c 1 y
    ∙ sums (c / 2 ^ y % 2) (d / 2 ^ y % 2) (c % 2 ^ y) (d % 2 ^ y) (2 ^ y) (bits y (omega arith)) (same_low y c d (λ k before. bits k (omega arith)))
    ∙ sym (mod-pow-add d 1 y) ∙ sym (ap (λ k. d % 2 ^ k) next)
  where
    sums : (a b p q m : ℕ) → a ≡ b → p ≡ q → a * m + p ≡ b * m + q
    sums a b p q m high low = rw (high, low) refl

-- the sign of a bit
abbrev bit_sign : ℕ → ℕ
bit_sign bit = cond (bit == 1) 35 46

-- columns of seven dots with the same signs
same_bit : (m n : ℕ) → m < 2 → n < 2 → bit_sign m ≡ bit_sign n → m ≡ n
same_bit zero zero lm ln same = refl
same_bit zero (suc zero) lm ln same = absurd (omega (arith, same))
same_bit (suc zero) zero lm ln same = absurd (omega (arith, same))
same_bit (suc zero) (suc zero) lm ln same = refl
same_bit (suc (suc m)) n lm ln same = absurd (omega (arith, lm))
same_bit m (suc (suc n)) lm ln same = absurd (omega (arith, ln))

bit_below : (n : ℕ) → n % 2 < 2
bit_below n = omega arith

same_column : (c d : ℕ) → nat_lt c 128 ≡ true → nat_lt d 128 ≡ true → ((y : ℕ) → y < 7 → sign y c ≡ sign y d) → c ≡ d
same_column c d lc ld same =
    let low : c % 128 ≡ d % 128 =
    same_low 7 c d (λ y few. same_bit (c / 2 ^ y % 2) (d / 2 ^ y % 2) (bit_below (c / 2 ^ y)) (bit_below (d / 2 ^ y)) (same y few)) in
    omega (arith, low, ltb-true c 128 lc, ltb-true d 128 ld)

same_head : (x y : ℕ) (xs ys : List ℕ) → x ∷ xs ≡ y ∷ ys → x ≡ y
same_head x y xs ys same = cc

same_tail : (x y : ℕ) (xs ys : List ℕ) → x ∷ xs ≡ y ∷ ys → xs ≡ ys
same_tail x y xs ys same = cc

same_columns : (cs ds : List ℕ) → list_all (λ column. nat_lt column 128) cs ≡ true → list_all (λ column. nat_lt column 128) ds ≡ true
    → ((y : ℕ) → y < 7 → map (sign y) cs ≡ map (sign y) ds) → cs ≡ ds
same_columns [] [] lc ld same = refl
same_columns [] (d ∷ ds) lc ld same = absurd (let none : [] ≡ sign 0 d ∷ map (sign 0) ds = same 0 (omega arith) in cc)
same_columns (c ∷ cs) [] lc ld same = absurd (let none : sign 0 c ∷ map (sign 0) cs ≡ [] = same 0 (omega arith) in cc)
same_columns (c ∷ cs) (d ∷ ds) lc ld same =
    let pc = and_parts (nat_lt c 128) (list_all (λ column. nat_lt column 128) cs) lc in
    let pd = and_parts (nat_lt d 128) (list_all (λ column. nat_lt column 128) ds) ld in
    both (same_column c d pc.0 pd.0 (λ y few. same_head (sign y c) (sign y d) (map (sign y) cs) (map (sign y) ds) (same y few)))
    (same_columns cs ds pc.1 pd.1 (λ y few. same_tail (sign y c) (sign y d) (map (sign y) cs) (map (sign y) ds) (same y few)))
  where
    both : {a b : ℕ} {u v : List ℕ} → a ≡ b → u ≡ v → a ∷ u ≡ b ∷ v
    both p q = rw (p, q) refl

-- a row of a picture
row_line : (shapes : Shapes) (line p row : ℕ) → line % 8 ≡ row + 1 → line / 8 ≡ p
    → line_of shapes line ≡ map (sign row) (get_or (shapes.upper ++ shapes.lower) p [])
row_line shapes line p row at of = by (line % 8 == 0) (grind (arith, nat_tests, at))
  where
    row_of : (r q : ℕ) → r ≡ row → q ≡ p
        → map (sign r) (get_or (shapes.upper ++ shapes.lower) q []) ≡ map (sign row) (get_or (shapes.upper ++ shapes.lower) p [])
    row_of r q same_row same_picture = rw (same_row, same_picture) refl

    by : (b : Bool) → b ≡ false
        → cond b (name_line (line / 8)) (map (sign (line % 8 - 1)) (get_or (shapes.upper ++ shapes.lower) (line / 8) []))
        ≡ map (sign row) (get_or (shapes.upper ++ shapes.lower) p [])
    by true is = absurd (cc)
    by false is = row_of (line % 8 - 1) (line / 8) (omega (arith, at)) of

-- shapes with the same file have the same pictures
same_picture : (s t : Shapes) (p : ℕ) → are_shapes s ≡ true → are_shapes t ≡ true → file_of s ≡ file_of t → p < 256
    → get_or (s.upper ++ s.lower) p [] ≡ get_or (t.upper ++ t.lower) p []
same_picture s t p fs ft same few =
    same_columns (get_or (s.upper ++ s.lower) p []) (get_or (t.upper ++ t.lower) p [])
    (below (get_or (s.upper ++ s.lower) p []) (character_fits s p fs few)) (below (get_or (t.upper ++ t.lower) p []) (character_fits t p ft few))
    (λ y down.
    sym (row_line s (8 * p + 1 + y) p y (omega (arith, down)) (omega (arith, down)))
    ∙ (sym (file_at s (8 * p + 1 + y) (omega (arith, down, few))) ∙ ap (λ xs. get_or xs (8 * p + 1 + y) []) same
    ∙ file_at t (8 * p + 1 + y) (omega (arith, down, few)))
    ∙ row_line t (8 * p + 1 + y) p y (omega (arith, down)) (omega (arith, down)))
  where
    below : (columns : List ℕ) → is_character columns ≡ true → list_all (λ column. nat_lt column 128) columns ≡ true
    below columns fit = (and_parts (length columns == 6) (list_all (λ column. nat_lt column 128) columns) fit).1

-- shapes of two sets
abbrev shapes_with : List (List ℕ) → List (List ℕ) → Shapes
shapes_with upper lower = record { upper = upper; lower = lower }

-- and are the same
same_shapes : (s t : Shapes) → are_shapes s ≡ true → are_shapes t ≡ true → file_of s ≡ file_of t → s ≡ t
same_shapes s t fs ft same =
    let su = (upper_fits s fs).0 in
    let tu = (upper_fits t ft).0 in
    let sl = (lower_fits s fs).0 in
    let tl = (lower_fits t ft).0 in
    made s.upper t.upper s.lower t.lower
    (ext_get_or [] s.upper t.upper (su ∙ sym tu)
    (λ k before.
    sym (get_or_append_left s.upper s.lower [] k before) ∙ same_picture s t k fs ft same (omega (arith, su))
    ∙ get_or_append_left t.upper t.lower [] k (omega (arith, su, tu))))
    (ext_get_or [] s.lower t.lower (sl ∙ sym tl)
    (λ k before.
    sym (after s.upper s.lower k su) ∙ same_picture s t (k + 128) fs ft same (omega (arith, sl)) ∙ after t.upper t.lower k tu))
  where
    made : (a b c d : List (List ℕ)) → a ≡ b → c ≡ d → shapes_with a c ≡ shapes_with b d
    made a b c d p q = rw (p, q) refl

    back : (k : ℕ) → k + 128 - 128 ≡ k
    back k = omega arith

    after : (xs ys : List (List ℕ)) (k : ℕ) → length xs ≡ 128 → get_or (xs ++ ys) (k + 128) [] ≡ get_or ys k []
    after xs ys k long =
        get_or-append_right xs ys 128 (k + 128) [] long (omega arith) ∙ ap (λ n. get_or ys n []) (back k)

-- fewer first lines are first lines too
fewer : (text : List ℕ) (j n : ℕ) → j ≤ n → AreFirst n text → AreFirst j text
fewer text j n within found =
    (found.0, found.1, sym (take-take j n (text_lines text) within) ∙ ap (take j) found.2 ∙ take-take j n (file_of found.0) within)

-- a text has one first bad line
same_bad : (text : List ℕ) (n m : ℕ) → IsBadLine text (BadLine n) → IsBadLine text (BadLine m) → n ≡ m
same_bad text n m a b = by (nat_lt n m) (nat_lt m n) refl refl
  where
    by : (less more : Bool) → nat_lt n m ≡ less → nat_lt m n ≡ more → n ≡ m
    by true more is not =
        let before : n ≤ m - 1 = omega (arith, ltb-true n m is) in
        absurd (a.1 (fewer text n (m - 1) before b.0))
    by false true is not =
        let before : m ≤ n - 1 = omega (arith, ltb-true m n not) in
        absurd (b.1 (fewer text m (n - 1) before a.0))
    by false false is not = grind (arith, nat_tests, is, not)

pub one_answer : (text : List ℕ) (a b : Result Shapes CharactersFault) → AnswersFile text a → AnswersFile text b → a ≡ b
one_answer text (Ok s) (Ok t) a b = ap Ok (same_shapes s t a.0 b.0 (sym a.1 ∙ b.1))
one_answer text (Ok s) (Err (BadLine n)) a b = absurd (b.1 (s, a.0, ap (take n) a.1))
one_answer text (Err (BadLine n)) (Ok t) a b = absurd (a.1 (t, b.0, ap (take n) b.1))
one_answer text (Err (BadLine n)) (Err (BadLine m)) a b = ap (λ k. Err (BadLine k)) (same_bad text n m a b)

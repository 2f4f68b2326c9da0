-- What the reader finds at the front is spelled there, or is one stray byte.
use Rattle.std.proofs.Common.{◌≡◌, ℕ, suc, ◌+◌, ◌<◌, ◌≤◌, List, [], ◌∷◌, ◌++◌, length, take, drop, map, codes, refl, ap, subst, sym, ◌∙◌, arith, Bool, true, false, cond, ◌⊎◌, inl, inr, one-add, ◌==◌}
use Rattle.std.specs.Prelude.{nat_lt}
use Rattle.std.specs.List.{list_all, prefix_len}
use Rattle.std.specs.Char.{to_ascii_lowercase}
use Rattle.std.proofs.lemmas.Grind.{common_steps}
use Rattle.std.proofs.lemmas.List.{take-append-drop, take_all, drop_all}
use Rattle.std.proofs.lemmas.Slice.Eq.{bytes_eq-Decides}
use Rattle.pr_basic.specs.Lexemes.{Word, Remark, Digits, Quoted, Comma, Semicolon, Colon, OpenParen, CloseParen, Stray, is_no_quote, Spells, NoDigit, NoHash}
use Rattle.pr_base.specs.Digits.{is_digit}
use Rattle.pr_basic.specs.Lexing.{Front, begins, front, sign_or, text_front, word_front}
use Rattle.pr_basic.specs.declared.lexemes.Keyword.TheVariants as word

-- a front is spelled, or it is one stray byte
abbrev pub IsSpelled : List ℕ → Front → Type 0
IsSpelled bs f = ((f ≡ (Stray, 1)) ⊎ Spells f.0 (take f.1 bs) (drop f.1 bs)) × (0 < f.1)

-- a test holds of all of its prefix
passes : (p : ℕ → Bool) (bs : List ℕ) → list_all p (take (prefix_len p bs) bs) ≡ true
passes p [] = refl
passes p (b ∷ bs) = step (p b) refl (passes p bs)
  where
    step : (t : Bool) → p b ≡ t → list_all p (take (prefix_len p bs) bs) ≡ true → list_all p (take (prefix_len p (b ∷ bs)) (b ∷ bs)) ≡ true
    step true e k = rw (e, one-add) (rw (e, k) refl)
    step false e k = rw e refl

-- no digit follows the prefix of digits
stops : (bs : List ℕ) → NoDigit (drop (prefix_len is_digit bs) bs)
stops [] = tt
stops (b ∷ bs) = step (is_digit b) refl (stops bs)
  where
    step : (t : Bool) → is_digit b ≡ t → NoDigit (drop (prefix_len is_digit bs) bs) → NoDigit (drop (prefix_len is_digit (b ∷ bs)) (b ∷ bs))
    step true e k = rw (e, one-add) k
    step false e k = rw e e

-- digits at the front are spelled
digits_spelled : (b : ℕ) (bs : List ℕ) → is_digit b ≡ true → IsSpelled (b ∷ bs) (Digits (take (prefix_len is_digit (b ∷ bs)) (b ∷ bs)), prefix_len is_digit (b ∷ bs))
digits_spelled b bs h =
    let some : 0 < prefix_len is_digit (b ∷ bs) = rw h (omega arith) in
    let size : 0 < length (take (prefix_len is_digit (b ∷ bs)) (b ∷ bs)) = rw (h, one-add) (omega arith) in
    (inr (refl, size, passes is_digit (b ∷ bs), stops (b ∷ bs)), some)

-- a quote follows the prefix without one
quote_at : (bs : List ℕ) → prefix_len is_no_quote bs < length bs → take (suc (prefix_len is_no_quote bs)) bs ≡ take (prefix_len is_no_quote bs) bs ++ 34 ∷ []
quote_at [] h = absurd (omega arith)
quote_at (b ∷ bs) h = step (is_no_quote b) refl (quote_at bs) h
  where
    step : (t : Bool) → is_no_quote b ≡ t → (prefix_len is_no_quote bs < length bs → take (suc (prefix_len is_no_quote bs)) bs ≡ take (prefix_len is_no_quote bs) bs ++ 34 ∷ [])
        → prefix_len is_no_quote (b ∷ bs) < length (b ∷ bs) → take (suc (prefix_len is_no_quote (b ∷ bs))) (b ∷ bs) ≡ take (prefix_len is_no_quote (b ∷ bs)) (b ∷ bs) ++ 34 ∷ []
    step true e k =
        let P : ℕ → Type 0 = λ n. n < length (b ∷ bs) → take (suc n) (b ∷ bs) ≡ take n (b ∷ bs) ++ 34 ∷ [] in
        let n_is : suc (prefix_len is_no_quote bs) ≡ prefix_len is_no_quote (b ∷ bs) = rw (e, one-add) refl in
        subst P n_is (λ l. ap (λ v. b ∷ v) (k (omega arith)))
    step false e k =
        let P : ℕ → Type 0 = λ n. n < length (b ∷ bs) → take (suc n) (b ∷ bs) ≡ take n (b ∷ bs) ++ 34 ∷ [] in
        let n_is : 0 ≡ prefix_len is_no_quote (b ∷ bs) = rw e refl in
        let quote : b ≡ 34 = grind (arith, common_steps) in
        subst P n_is (λ l. ap (λ v. v ∷ []) quote)

-- a string at the front is spelled
text_spelled : (bs : List ℕ) → IsSpelled (34 ∷ bs) (text_front bs)
unfolding text_front
text_spelled bs = cases (nat_lt (prefix_len is_no_quote bs) (length bs)) refl
  where
    cases : (t : Bool) → nat_lt (prefix_len is_no_quote bs) (length bs) ≡ t → IsSpelled (34 ∷ bs) (Quoted (take (prefix_len is_no_quote bs) bs), cond t (prefix_len is_no_quote bs + 2) (prefix_len is_no_quote bs + 1))
    cases true e =
        let less : prefix_len is_no_quote bs < length bs = grind (arith, common_steps) in
        let n : prefix_len is_no_quote bs + 2 ≡ suc (suc (prefix_len is_no_quote bs)) = omega arith in
        (inr (passes is_no_quote bs, inl (rw n (ap (λ v. 34 ∷ v) (quote_at bs less)))), omega arith)
    cases false e =
        let less : length bs ≤ prefix_len is_no_quote bs = grind (arith, common_steps) in
        let n : prefix_len is_no_quote bs + 1 ≡ suc (prefix_len is_no_quote bs) = omega arith in
        (inr (passes is_no_quote bs, inr (rw n refl, rw n (drop_all (prefix_len is_no_quote bs) bs less))), omega arith)

-- where the bytes begin with PRINT and not with PRINT#, no `#` follows
hash_follows_none : (bs : List ℕ) → begins bs (codes "print") ≡ true → begins bs (codes "print#") ≡ false → NoHash (drop 5 bs)
hash_follows_none [] p h = tt
hash_follows_none (a ∷ []) p h = tt
hash_follows_none (a ∷ b ∷ []) p h = tt
hash_follows_none (a ∷ b ∷ c ∷ []) p h = tt
hash_follows_none (a ∷ b ∷ c ∷ d ∷ []) p h = tt
hash_follows_none (a ∷ b ∷ c ∷ d ∷ e ∷ []) p h = tt
hash_follows_none (a ∷ b ∷ c ∷ d ∷ e ∷ f ∷ bs) p h = λ hash.
    let lower : to_ascii_lowercase f ≡ 35 = rw hash refl in
    grind (arith, common_steps)

-- a keyword at the front is spelled, or none is
word_spelled : (bs : List ℕ) → 0 < length bs → IsSpelled bs (word_front bs)
unfolding word_front
word_spelled bs some = tests (begins bs (codes "rem")) refl (begins bs (codes "open")) refl (begins bs (codes "close")) refl (begins bs (codes "cmd")) refl (begins bs (codes "print#")) refl (begins bs (codes "print")) refl (begins bs (codes "chr$")) refl
  where
    is : (w : List ℕ) → begins bs w ≡ true → map to_ascii_lowercase (take (length w) bs) ≡ w
    is w e = (bytes_eq-Decides (map to_ascii_lowercase (take (length w) bs)) w).0 e

    tests : (r : Bool) → begins bs (codes "rem") ≡ r → (o : Bool) → begins bs (codes "open") ≡ o → (c : Bool) → begins bs (codes "close") ≡ c → (m : Bool) → begins bs (codes "cmd") ≡ m
        → (t : Bool) → begins bs (codes "print#") ≡ t → (p : Bool) → begins bs (codes "print") ≡ p → (h : Bool) → begins bs (codes "chr$") ≡ h
        → IsSpelled bs (cond r (Remark, length bs) (cond o (Word word.Open, 4) (cond c (Word word.Close, 5) (cond m (Word word.Cmd, 3) (cond t (Word word.PrintTo, 6) (cond p (Word word.Print, 5) (cond h (Word word.Chr, 4) (Stray, 1))))))))
    tests true e o eo c ec m em t et p ep h eh =
        (inr (take 3 bs, drop 3 bs, take_all (length bs) bs (omega arith) ∙ sym (take-append-drop 3 bs), is (codes "rem") e, drop_all (length bs) bs (omega arith)), some)
    tests false e true eo c ec m em t et p ep h eh = (inr (is (codes "open") eo), omega arith)
    tests false e false eo true ec m em t et p ep h eh = (inr (is (codes "close") ec), omega arith)
    tests false e false eo false ec true em t et p ep h eh = (inr (is (codes "cmd") em), omega arith)
    tests false e false eo false ec false em true et p ep h eh = (inr (is (codes "print#") et), omega arith)
    tests false e false eo false ec false em false et true ep h eh = (inr (is (codes "print") ep, hash_follows_none bs ep et), omega arith)
    tests false e false eo false ec false em false et false ep true eh = (inr (is (codes "chr$") eh), omega arith)
    tests false e false eo false ec false em false et false ep false eh = (inl refl, omega arith)

-- a sign at the front is spelled
sign_spelled : (b : ℕ) (bs : List ℕ) (f : Front) → IsSpelled (b ∷ bs) f → IsSpelled (b ∷ bs) (sign_or b f)
sign_spelled b bs f k = tests (b == 44) refl (b == 59) refl (b == 58) refl (b == 40) refl (b == 41) refl
  where
    is : (n : ℕ) → (b == n) ≡ true → b ∷ [] ≡ n ∷ []
    is n e = let same : b ≡ n = grind (arith, common_steps) in ap (λ v. v ∷ []) same

    tests : (c : Bool) → (b == 44) ≡ c → (s : Bool) → (b == 59) ≡ s → (l : Bool) → (b == 58) ≡ l → (o : Bool) → (b == 40) ≡ o → (q : Bool) → (b == 41) ≡ q
        → IsSpelled (b ∷ bs) (cond c (Comma, 1) (cond s (Semicolon, 1) (cond l (Colon, 1) (cond o (OpenParen, 1) (cond q (CloseParen, 1) f)))))
    tests true ec s es l el o eo q eq = (inr (is 44 ec), omega arith)
    tests false ec true es l el o eo q eq = (inr (is 59 es), omega arith)
    tests false ec false es true el o eo q eq = (inr (is 58 el), omega arith)
    tests false ec false es false el true eo q eq = (inr (is 40 eo), omega arith)
    tests false ec false es false el false eo true eq = (inr (is 41 eq), omega arith)
    tests false ec false es false el false eo false eq = k

-- a front is spelled
pub front_spelled : (b : ℕ) (bs : List ℕ) → IsSpelled (b ∷ bs) (front (b ∷ bs))
unfolding front
front_spelled b bs = tests (is_digit b) refl (b == 34) refl
  where
    tests : (d : Bool) → is_digit b ≡ d → (q : Bool) → (b == 34) ≡ q
        → IsSpelled (b ∷ bs) (cond d (Digits (take (prefix_len is_digit (b ∷ bs)) (b ∷ bs)), prefix_len is_digit (b ∷ bs)) (cond q (text_front bs) (sign_or b (word_front (b ∷ bs)))))
    tests true e q eq = digits_spelled b bs e
    tests false e true eq = let same : 34 ≡ b = grind (arith, common_steps) in let P : ℕ → Type 0 = λ n. IsSpelled (n ∷ bs) (text_front bs) in subst P same (text_spelled bs)
    tests false e false eq = sign_spelled b bs (word_front (b ∷ bs)) (word_spelled (b ∷ bs) (omega arith))

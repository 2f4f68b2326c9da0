-- The lexemes at the front of a saved program's text.
use Rattle.std.proofs.Common.{◌≡◌, ℕ, zero, suc, ◌+◌, ◌<◌, ◌≤◌, Bool, true, false, List, [], ◌∷◌, ◌++◌, refl, ap, subst, sym, ◌∙◌, arith, append_assoc, inl}
use Rattle.std.proofs.lemmas.Grind.{common_steps}
use Rattle.std.proofs.lemmas.Bool.Decides.{nat_tests}
use Rattle.std.specs.Prelude.{◌-◌, ◌==◌, nat_lt, codes}
use Rattle.std.specs.Char.{to_ascii_lowercase}
use Rattle.pr_base.specs.Digits.{is_digit}
use Rattle.pr_basic.specs.Grammar.{is_printable}
use Rattle.pr_basic.specs.LexemeLaws.{LexemesAreFound, LinesHaveLexemes}
use Rattle.pr_basic.specs.Lexemes.{Lexeme, Stray, NoDigit, Spells, is_space}
use Rattle.pr_basic.specs.Lexing.{begins, front, lexemes_after, lexemes_of, sign_or, word_front}
use Rattle.pr_listing.specs.Keywords.{is_token, keyword_of}
use Rattle.pr_listing.specs.Listing.{is_letter, plain_text}
use Rattle.pr_listing.specs.Tokens.{byte_lexemes, sign_lexeme, token_lexemes}

-- a lexeme that is spelled is the first
pub first : LinesHaveLexemes → LexemesAreFound → (l : Lexeme) (bytes after : List ℕ) → Spells l bytes after → lexemes_of (bytes ++ after) ≡ l ∷ lexemes_of after
first all found l bytes after h = found (bytes ++ after) (l ∷ lexemes_of after) ([], bytes, after, refl, refl, inl h, all after)

-- a space is passed
pub space_first : (x : List ℕ) → lexemes_of (32 ∷ x) ≡ lexemes_of x
unfolding lexemes_after
space_first x = refl

-- a token's keyword and the space after it have the token's lexemes, and begin with no digit
abbrev pub IsRead : ℕ → Type 0
IsRead b = (x : List ℕ) → (lexemes_of (keyword_of b ++ 32 ∷ x) ≡ token_lexemes b ++ lexemes_of x) × NoDigit (keyword_of b ++ 32 ∷ x)

-- this many tokens do
abbrev pub AreRead : ℕ → ℕ → Type 0
AreRead b zero = Unit {0}
AreRead b (suc n) = IsRead b × AreRead (suc b) n

-- the tokens before that of REM
low_tokens : AreRead 128 15
unfolding lexemes_after front word_front keyword_of
low_tokens = (
  λ x. (refl, refl),
  (
    λ x. (refl, refl),
    (
      λ x. (refl, refl),
      (
        λ x. (refl, refl),
        (
          λ x. (refl, refl),
          (
            λ x. (refl, refl),
            (
              λ x. (refl, refl),
              (
                λ x. (refl, refl),
                (
                  λ x. (refl, refl),
                  (
                    λ x. (refl, refl),
                    (λ x. (refl, refl), (λ x. (refl, refl), (λ x. (refl, refl), (λ x. (refl, refl), (λ x. (refl, refl), tt))))),
                  ),
                ),
              ),
            ),
          ),
        ),
      ),
    ),
  ),
)

-- the tokens after it
high_tokens : AreRead 144 60
unfolding lexemes_after front word_front keyword_of
high_tokens = (
  λ x. (refl, refl),
  (
    λ x. (refl, refl),
    (
      λ x. (refl, refl),
      (
        λ x. (refl, refl),
        (
          λ x. (refl, refl),
          (
            λ x. (refl, refl),
            (
              λ x. (refl, refl),
              (
                λ x. (refl, refl),
                (
                  λ x. (refl, refl),
                  (
                    λ x. (refl, refl),
                    (
                      λ x. (refl, refl),
                      (
                        λ x. (refl, refl),
                        (
                          λ x. (refl, refl),
                          (
                            λ x. (refl, refl),
                            (
                              λ x. (refl, refl),
                              (
                                λ x. (refl, refl),
                                (
                                  λ x. (refl, refl),
                                  (
                                    λ x. (refl, refl),
                                    (
                                      λ x. (refl, refl),
                                      (
                                        λ x. (refl, refl),
                                        (
                                          λ x. (refl, refl),
                                          (
                                            λ x. (refl, refl),
                                            (
                                              λ x. (refl, refl),
                                              (
                                                λ x. (refl, refl),
                                                (
                                                  λ x. (refl, refl),
                                                  (
                                                    λ x. (refl, refl),
                                                    (
                                                      λ x. (refl, refl),
                                                      (
                                                        λ x. (refl, refl),
                                                        (
                                                          λ x. (refl, refl),
                                                          (
                                                            λ x. (refl, refl),
                                                            (
                                                              λ x. (refl, refl),
                                                              (
                                                                λ x. (refl, refl),
                                                                (
                                                                  λ x. (refl, refl),
                                                                  (
                                                                    λ x. (refl, refl),
                                                                    (
                                                                      λ x. (refl, refl),
                                                                      (
                                                                        λ x. (refl, refl),
                                                                        (
                                                                          λ x. (refl, refl),
                                                                          (
                                                                            λ x. (refl, refl),
                                                                            (
                                                                              λ x. (refl, refl),
                                                                              (
                                                                                λ x. (refl, refl),
                                                                                (
                                                                                  λ x. (refl, refl),
                                                                                  (
                                                                                    λ x. (refl, refl),
                                                                                    (
                                                                                      λ x. (refl, refl),
                                                                                      (
                                                                                        λ x. (refl, refl),
                                                                                        (
                                                                                          λ x. (refl, refl),
                                                                                          (
                                                                                            λ x. (refl, refl),
                                                                                            (
                                                                                              λ x. (refl, refl),
                                                                                              (
                                                                                                λ x. (refl, refl),
                                                                                                (
                                                                                                  λ x. (refl, refl),
                                                                                                  (
                                                                                                    λ x. (refl, refl),
                                                                                                    (
                                                                                                      λ x. (refl, refl),
                                                                                                      (
                                                                                                        λ x. (refl, refl),
                                                                                                        (
                                                                                                          λ x. (refl, refl),
                                                                                                          (
                                                                                                            λ x. (refl, refl),
                                                                                                            (
                                                                                                              λ x. (refl, refl),
                                                                                                              (λ x. (refl, refl), (λ x. (refl, refl), (λ x. (refl, refl), (λ x. (refl, refl), (λ x. (refl, refl), tt))))),
                                                                                                            ),
                                                                                                          ),
                                                                                                        ),
                                                                                                      ),
                                                                                                    ),
                                                                                                  ),
                                                                                                ),
                                                                                              ),
                                                                                            ),
                                                                                          ),
                                                                                        ),
                                                                                      ),
                                                                                    ),
                                                                                  ),
                                                                                ),
                                                                              ),
                                                                            ),
                                                                          ),
                                                                        ),
                                                                      ),
                                                                    ),
                                                                  ),
                                                                ),
                                                              ),
                                                            ),
                                                          ),
                                                        ),
                                                      ),
                                                    ),
                                                  ),
                                                ),
                                              ),
                                            ),
                                          ),
                                        ),
                                      ),
                                    ),
                                  ),
                                ),
                              ),
                            ),
                          ),
                        ),
                      ),
                    ),
                  ),
                ),
              ),
            ),
          ),
        ),
      ),
    ),
  ),
)

-- one of them
one_read : (b n k : ℕ) → k < n → AreRead b n → IsRead (b + k)
one_read b zero k h t = absurd (omega arith)
one_read b (suc n) zero h t = let same : b ≡ b + 0 = omega arith in subst IsRead same t.0
one_read b (suc n) (suc k) h t = let same : suc b + k ≡ b + suc k = omega arith in subst IsRead same (one_read (suc b) n k (omega arith) t.1)

-- a token but that of REM
pub token_read : (b : ℕ) → is_token b ≡ true → (b == 143) ≡ false → IsRead b
token_read b t r = tests (nat_lt b 143) refl
  where
    tests : (low : Bool) → nat_lt b 143 ≡ low → IsRead b
    tests true e =
        let low : 128 ≤ b = grind (arith, common_steps, nat_tests) in
        let high : b < 143 = grind (arith, common_steps, nat_tests) in
        let in_low : b - 128 < 15 = omega (arith, low, high) in
        let same : 128 + (b - 128) ≡ b = omega (arith, low) in
        subst IsRead same (one_read 128 15 (b - 128) in_low low_tokens)
    tests false e =
        let low : 144 ≤ b = grind (arith, common_steps, nat_tests) in
        let high : b ≤ 203 = grind (arith, common_steps, nat_tests) in
        let in_high : b - 144 < 60 = omega (arith, low, high) in
        let same : 144 + (b - 144) ≡ b = omega (arith, low) in
        subst IsRead same (one_read 144 60 (b - 144) in_high high_tokens)

-- a word does not begin with another byte than its first
begins_other : (b w : ℕ) (x ws : List ℕ) → (to_ascii_lowercase b ≡ w → ⊥) → begins (b ∷ x) (w ∷ ws) ≡ false
begins_other b w x ws h = grind (arith, common_steps)

-- nor does it go on with a space
begins_spaced : (b w v : ℕ) (x ws : List ℕ) → (v ≡ 32 → ⊥) → begins (b ∷ 32 ∷ x) (w ∷ v ∷ ws) ≡ false
begins_spaced b w v x ws h = grind (arith, common_steps)

-- a letter and a space begin no word
letter_word : (b : ℕ) (x : List ℕ) → word_front (b ∷ 32 ∷ x) ≡ (Stray, 1)
unfolding word_front
letter_word b x =
    let r : begins (b ∷ 32 ∷ x) (codes "rem") ≡ false = begins_spaced b 114 101 x (codes "m") (λ e. omega (arith, e)) in
    let o : begins (b ∷ 32 ∷ x) (codes "open") ≡ false = begins_spaced b 111 112 x (codes "en") (λ e. omega (arith, e)) in
    let c : begins (b ∷ 32 ∷ x) (codes "close") ≡ false = begins_spaced b 99 108 x (codes "ose") (λ e. omega (arith, e)) in
    let p : begins (b ∷ 32 ∷ x) (codes "print#") ≡ false = begins_spaced b 112 114 x (codes "int#") (λ e. omega (arith, e)) in
    rw (r, o, c, p) refl

-- what is no letter begins no word
other_word : (b : ℕ) (x : List ℕ) → is_letter b ≡ false → word_front (b ∷ x) ≡ (Stray, 1)
unfolding word_front
other_word b x h =
    let r : to_ascii_lowercase b ≡ 114 → ⊥ = λ e. grind (arith, common_steps, nat_tests) in
    let o : to_ascii_lowercase b ≡ 111 → ⊥ = λ e. grind (arith, common_steps, nat_tests) in
    let c : to_ascii_lowercase b ≡ 99 → ⊥ = λ e. grind (arith, common_steps, nat_tests) in
    let p : to_ascii_lowercase b ≡ 112 → ⊥ = λ e. grind (arith, common_steps, nat_tests) in
    let rem : begins (b ∷ x) (codes "rem") ≡ false = begins_other b 114 x (codes "em") r in
    let opens : begins (b ∷ x) (codes "open") ≡ false = begins_other b 111 x (codes "pen") o in
    let closes : begins (b ∷ x) (codes "close") ≡ false = begins_other b 99 x (codes "lose") c in
    let cmd : begins (b ∷ x) (codes "cmd") ≡ false = begins_other b 99 x (codes "md") c in
    let print_to : begins (b ∷ x) (codes "print#") ≡ false = begins_other b 112 x (codes "rint#") p in
    let print : begins (b ∷ x) (codes "print") ≡ false = begins_other b 112 x (codes "rint") p in
    let chr : begins (b ∷ x) (codes "chr$") ≡ false = begins_other b 99 x (codes "hr$") c in
    rw (rem, opens, closes, cmd, print_to, print, chr) refl

-- a front of one byte is the first lexeme
one_first : (b : ℕ) (x : List ℕ) (l : Lexeme) → front (b ∷ x) ≡ (l, 1) → is_space b ≡ false → lexemes_of (b ∷ x) ≡ l ∷ lexemes_of x
unfolding lexemes_after
one_first b x l f s = rw (s, f) refl

-- a letter at the front is looked for among the words
letter_front : (b : ℕ) (x : List ℕ) → 65 ≤ b → front (b ∷ x) ≡ word_front (b ∷ x)
unfolding front
letter_front b x h = grind (arith, common_steps)

-- another byte among the signs, and then the words
other_front : (b : ℕ) (x : List ℕ) → is_digit b ≡ false → (b == 34) ≡ false → front (b ∷ x) ≡ sign_or b (word_front (b ∷ x))
unfolding front
other_front b x d q = rw (d, q) refl

-- a sign is its lexeme
sign_same : (b : ℕ) → sign_or b (Stray, 1) ≡ (sign_lexeme b, 1)
sign_same b = tests (b == 44) refl (b == 59) refl (b == 58) refl (b == 40) refl (b == 41) refl
  where
    tests : (c : Bool) → (b == 44) ≡ c → (s : Bool) → (b == 59) ≡ s → (l : Bool) → (b == 58) ≡ l → (o : Bool) → (b == 40) ≡ o → (q : Bool) → (b == 41) ≡ q
        → sign_or b (Stray, 1) ≡ (sign_lexeme b, 1)
    tests true ec s es l el o eo q eq = rw ec refl
    tests false ec true es l el o eo q eq = rw (ec, es) refl
    tests false ec false es true el o eo q eq = rw (ec, es, el) refl
    tests false ec false es false el true eo q eq = rw (ec, es, el, eo) refl
    tests false ec false es false el false eo true eq = rw (ec, es, el, eo, eq) refl
    tests false ec false es false el false eo false eq = rw (ec, es, el, eo, eq) refl

-- a byte is no sign
no_sign : (b : ℕ) → (b ≡ 44 → ⊥) → (b ≡ 59 → ⊥) → (b ≡ 58 → ⊥) → (b ≡ 40 → ⊥) → (b ≡ 41 → ⊥) → sign_lexeme b ≡ Stray
no_sign b c s l o q = grind (arith, common_steps)

-- a letter with a space after it
letter_read : (b : ℕ) (x : List ℕ) → is_letter b ≡ true → lexemes_of (b ∷ 32 ∷ x) ≡ sign_lexeme b ∷ lexemes_of x
letter_read b x h =
    let low : 65 ≤ b = grind (arith, common_steps, nat_tests) in
    let stray : sign_lexeme b ≡ Stray = no_sign b (λ e. omega (arith, e, low)) (λ e. omega (arith, e, low)) (λ e. omega (arith, e, low)) (λ e. omega (arith, e, low)) (λ e. omega (arith, e, low)) in
    let space : is_space b ≡ false = grind (arith, common_steps) in
    rw stray (one_first b (32 ∷ x) Stray (letter_front b (32 ∷ x) low ∙ letter_word b x) space ∙ ap (λ v. Stray ∷ v) (space_first x))

-- a sign, or a byte that begins nothing
other_read : (b : ℕ) (x : List ℕ) → is_digit b ≡ false → (b == 34) ≡ false → is_letter b ≡ false → is_space b ≡ false → lexemes_of (b ∷ x) ≡ sign_lexeme b ∷ lexemes_of x
other_read b x d q h s =
    one_first b x (sign_lexeme b) (other_front b x d q ∙ (ap (sign_or b) (other_word b x h) ∙ sign_same b)) s

-- a byte outside strings and remarks that is no digit has its lexemes
pub byte_read : (b : ℕ) (x : List ℕ) → is_digit b ≡ false → (b == 34) ≡ false → (b == 143) ≡ false → lexemes_of (plain_text b ++ x) ≡ byte_lexemes b ++ lexemes_of x
byte_read b x d q r = tests (is_token b) refl (is_letter b) refl (is_printable b) refl (b == 32) refl
  where
    tests : (t : Bool) → is_token b ≡ t → (l : Bool) → is_letter b ≡ l → (p : Bool) → is_printable b ≡ p → (s : Bool) → (b == 32) ≡ s
        → lexemes_of (plain_text b ++ x) ≡ byte_lexemes b ++ lexemes_of x
    tests true t l el p ep s es = rw t (ap lexemes_of (append_assoc (keyword_of b) (32 ∷ []) x) ∙ (token_read b t r x).0)
    tests false t true el p ep s es =
        let no : (b == 32) ≡ false = grind (arith, common_steps) in
        rw (t, el, no) (letter_read b x el)
    tests false t false el true ep true es =
        let same : 32 ≡ b = grind (arith, common_steps) in
        let P : ℕ → Type 0 = λ c. lexemes_of (c ∷ x) ≡ lexemes_of x in
        rw (t, el, ep, es) (subst P same (space_first x))
    tests false t false el true ep false es =
        let space : is_space b ≡ false = grind (arith, common_steps) in
        rw (t, el, ep, es) (other_read b x d q el space)
    tests false t false el false ep s es =
        let no : (b == 32) ≡ false = grind (arith, common_steps) in
        let stray : sign_lexeme b ≡ Stray = no_sign b (λ e. grind (arith, common_steps)) (λ e. grind (arith, common_steps)) (λ e. grind (arith, common_steps)) (λ e. grind (arith, common_steps)) (λ e. grind (arith, common_steps)) in
        rw (t, el, ep, no, stray) (other_read 63 x refl refl refl refl)

-- REM begins with no digit
rem_no_digit : (x : List ℕ) → NoDigit (plain_text 143 ++ x)
unfolding keyword_of
rem_no_digit x = refl

-- its text begins with no digit
pub no_digit : (b : ℕ) (x : List ℕ) → is_digit b ≡ false → NoDigit (plain_text b ++ x)
no_digit b x d = tests (is_token b) refl (b == 143) refl (is_letter b) refl (is_printable b) refl
  where
    tests : (t : Bool) → is_token b ≡ t → (r : Bool) → (b == 143) ≡ r → (l : Bool) → is_letter b ≡ l → (p : Bool) → is_printable b ≡ p → NoDigit (plain_text b ++ x)
    tests true t true r l el p ep =
        let same : 143 ≡ b = grind (arith, common_steps) in
        let P : ℕ → Type 0 = λ c. NoDigit (plain_text c ++ x) in
        subst P same (rem_no_digit x)
    tests true t false r l el p ep =
        let P : List ℕ → Type 0 = λ v. NoDigit v in
        rw t (subst P (sym (append_assoc (keyword_of b) (32 ∷ []) x)) (token_read b t r x).1)
    tests false t r er true el p ep = rw (t, el) d
    tests false t r er false el true ep = rw (t, el, ep) d
    tests false t r er false el false ep = rw (t, el, ep) refl

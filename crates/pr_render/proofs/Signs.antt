-- Signs as they are written.
use Rattle.std.proofs.Common.{◌≡◌, ◌≢◌, ℕ, zero, suc, Bool, false, List, [], ◌∷◌, ◌++◌, refl, sym, ap, ◌∙◌, append_assoc}
use Rattle.std.specs.Prelude.{encode_utf8, replicate}
use Rattle.pr_render.specs.Plain.{Sign, sign_of, turned, written}
use Rattle.pr_render.specs.declared.format.Look.{Look}
use Rattle.pr_render.specs.declared.format.Look.TheVariants.{Blocks, Video}

-- reverse video that is off stays so without a sequence
pub stays-off : (look : Look) → turned look false false ≡ []
unfolding turned
stays-off Blocks = refl
stays-off Video = refl

-- a character of ASCII where reverse video is off: a blank, and the end of a line
pub blank-written : (look : Look) (rest : List Sign) → written look false (sign_of 32 ∷ rest) ≡ 32 ∷ written look false rest
unfolding lib.Utf8.encode
blank-written look rest = ap (λ t. (t ++ encode_utf8 32) ++ written look false rest) (stays-off look)

pub end-written : (look : Look) (rest : List Sign) → written look false (sign_of 10 ∷ rest) ≡ 10 ∷ written look false rest
unfolding lib.Utf8.encode
end-written look rest = ap (λ t. (t ++ encode_utf8 10) ++ written look false rest) (stays-off look)

-- blanks where it is off
blanks-written : (look : Look) (n : ℕ) (rest : List Sign)
    → written look false (replicate n (sign_of 32) ++ rest) ≡ replicate n 32 ++ written look false rest
blanks-written look zero rest = refl
blanks-written look (suc n) rest =
    blank-written look (replicate n (sign_of 32) ++ rest) ∙ ap (λ t. 32 ∷ t) (blanks-written look n rest)

-- blanks where it may be on
blanks-turned : (look : Look) (on : Bool) (n : ℕ) (rest : List Sign)
    → written look on (replicate (suc n) (sign_of 32) ++ rest) ≡ turned look on false ++ (replicate (suc n) 32 ++ written look false rest)
unfolding lib.Utf8.encode
blanks-turned look on n rest =
    append_assoc (turned look on false) (encode_utf8 32) (written look false (replicate n (sign_of 32) ++ rest))
    ∙ ap (λ t. turned look on false ++ (32 ∷ t)) (blanks-written look n rest)

-- the same after a text
pub blanks-after : (look : Look) (on : Bool) (n : ℕ) (old turn new : List ℕ) → n ≢ 0 → turn ≡ old ++ turned look on false
    → new ≡ turn ++ replicate n 32 → (rest : List Sign) → new ++ written look false rest ≡ old ++ written look on (replicate n (sign_of 32) ++ rest)
blanks-after look on zero old turn new some to blanks rest = absurd (some refl)
blanks-after look on (suc n) old turn new some to blanks rest =
    ap (λ t. t ++ written look false rest) (blanks ∙ ap (λ t. t ++ replicate (suc n) 32) to)
    ∙ append_assoc (old ++ turned look on false) (replicate (suc n) 32) (written look false rest)
    ∙ append_assoc old (turned look on false) (replicate (suc n) 32 ++ written look false rest)
    ∙ ap (λ t. old ++ t) (sym (blanks-turned look on n rest))

-- a sign in front of others, after a text
pub sign-after : (look : Look) (on : Bool) (s : Sign) (ss : List Sign) (old new : List ℕ)
    → new ≡ old ++ (turned look on s.video ++ encode_utf8 s.code_point) → new ++ written look s.video ss ≡ old ++ written look on (s ∷ ss)
sign-after look on s ss old new sign =
    ap (λ t. t ++ written look s.video ss) sign ∙ append_assoc old (turned look on s.video ++ encode_utf8 s.code_point) (written look s.video ss)

-- signs, the end of their line, and what follows
pub line-written : (look : Look) (on : Bool) (us vs : List Sign)
    → written look on (us ++ sign_of 10 ∷ vs) ≡ written look on us ++ (10 ∷ written look false vs)
unfolding lib.Utf8.encode
line-written look on [] vs = append_assoc (turned look on false) (encode_utf8 10) (written look false vs)
line-written look on (u ∷ us) vs =
    ap (λ t. (turned look on u.video ++ encode_utf8 u.code_point) ++ t) (line-written look u.video us vs)
    ∙ sym (append_assoc (turned look on u.video ++ encode_utf8 u.code_point) (written look u.video us) (10 ∷ written look false vs))

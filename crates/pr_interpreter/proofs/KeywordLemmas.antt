use Rattle.std.proofs.Common.{◌≡◌, ℕ, zero, suc, ◌+◌, ◌-◌, ◌<◌, ◌==◌, ◌&&◌, Bool, true, false, arith, refl, ap, Option}
use Rattle.std.proofs.Common.{Some, None}
use Rattle.std.proofs.lemmas.Bool.{eqb-false, eqb-true, false≢true}
use Rattle.pr_listing.specs.Keywords.{keyword_of}
use Rattle.pr_interpreter.specs.LexemeLaws.{KeywordsAreFound}
use Rattle.pr_interpreter.specs.Symbols.{typed_token}

is_itself : ℕ → Option ℕ → Bool
is_itself token None = false
is_itself token (Some found) = found == token

itself_is : (token : ℕ) (found : Option ℕ) → is_itself token found ≡ true → found ≡ Some token
unfolding is_itself
itself_is token None e = absurd (false≢true e)
itself_is token (Some found) e = ap (λ (t : ℕ). Some t) (eqb-true found token e)

-- so many tokens are found as themselves
are_found : ℕ → Bool
are_found zero = true
are_found (suc n) = is_itself (128 + n) (typed_token (keyword_of (128 + n))) && are_found n

all_found : are_found 76 ≡ true
unfolding are_found is_itself typed_token keyword_of
all_found = refl

both : (a b : Bool) → (a && b) ≡ true → (a ≡ true) × (b ≡ true)
both true b e = (refl, e)
both false b e = absurd (false≢true e)

found_at : (n k : ℕ) → are_found n ≡ true → k < n → typed_token (keyword_of (128 + k)) ≡ Some (128 + k)
unfolding are_found
found_at zero k e h = absurd (omega arith)
found_at (suc n) k e h =
    let parts = both (is_itself (128 + n) (typed_token (keyword_of (128 + n)))) (are_found n) e in
    last (k == n) refl (itself_is (128 + n) (typed_token (keyword_of (128 + n))) parts.0)
    (λ less. found_at n k parts.1 less)
  where
    last : (t : Bool) → (k == n) ≡ t → typed_token (keyword_of (128 + n)) ≡ Some (128 + n)
        → (k < n → typed_token (keyword_of (128 + k)) ≡ Some (128 + k))
        → typed_token (keyword_of (128 + k)) ≡ Some (128 + k)
    last true same here others = rw (eqb-true k n same) here
    last false same here others =
        let other = eqb-false k n same in let less : k < n = omega (arith, other, h) in others less

pub keywords_are_found : KeywordsAreFound
keywords_are_found token low high =
    let at : 128 + (token - 128) ≡ token = omega arith in
    let less : token - 128 < 76 = omega arith in
    rw at at (found_at 76 (token - 128) all_found less)

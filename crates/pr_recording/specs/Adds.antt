-- Linking words, for proofs: what is known of readings, as more of them come, with its laws. They stand here since a
-- ghost item of the code can cite nothing of proofs/. No reader needs to believe them: the prover has proved them.
use Rattle.std.proofs.Common.{ℕ, ◌+◌, ◌≤◌, List, [], ◌++◌, sym, subst, append-nil, append_assoc, arith}
use Rattle.pr_decode.specs.declared.reading.Reading.{Reading}

-- what is known of readings and a state is known of more readings and the next state
abbrev pub Adds : {S : Type 0} → (List Reading → S → Type 0) → List Reading → (old new : S) → Type 0
Adds Has more old new = (given : List Reading) → Has given old → Has (given ++ more) new

-- with no reading more
pub adds_none : {S : Type 0} (Has : List Reading → S → Type 0) (s : S) → Adds Has [] s s
adds_none Has s = λ given h. let P : List Reading → Type 0 = λ l. Has l s in subst P (sym (append-nil given)) h

-- with readings and then others
pub adds_both : {S : Type 0} (Has : List Reading → S → Type 0) (xs ys : List Reading) (a b c : S) → Adds Has xs a b
    → Adds Has ys b c → Adds Has (xs ++ ys) a c
adds_both Has xs ys a b c h k = λ given g.
    let P : List Reading → Type 0 = λ l. Has l c in subst P (append_assoc given xs ys) (k (given ++ xs) (h given g))

-- where more may still come, fewer may
pub fewer_fit : (k n taken most : ℕ) → taken + (k + n) ≤ most → taken + n ≤ most
fewer_fit k n taken most h = omega (arith, h)

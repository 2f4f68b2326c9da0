-- Text that was written in part.
use Rattle.std.proofs.Common.{◌≡◌, ℕ, List, [], ◌++◌, refl, ap, sym, ◌∙◌, append-nil, append_assoc, Option}
use Rattle.std.specs.Io.KnownBytes.{Appends}
use Rattle.std.proofs.KnownBytes.{Appends-nil, Appends-trans}
use Rattle.pr_input.specs.PartlyWritten.{AppendsFront}

-- nothing was written
pub front_none : (a : Option (List ℕ)) (text : List ℕ) → AppendsFront a a text
front_none a text = ([], text, refl, Appends-nil a)

-- a beginning after what was written before
pub front_behind : (a b d : Option (List ℕ)) (xs ys zs rest : List ℕ) → zs ≡ (xs ++ ys) ++ rest → Appends a b xs → AppendsFront b d ys → AppendsFront a d zs
front_behind a b d xs ys zs rest is h k = (
  xs ++ k.0,
  k.1 ++ rest,
  is ∙ (ap (λ t. (xs ++ t) ++ rest) k.2 ∙ (ap (λ t. t ++ rest) (sym (append_assoc xs k.0 k.1)) ∙ append_assoc (xs ++ k.0) k.1 rest)),
  Appends-trans a b d xs k.0 h k.3,
)

-- all after what was written before
pub whole_behind : (a b d : Option (List ℕ)) (xs ys zs : List ℕ) → xs ++ ys ≡ zs → Appends a b xs → Appends b d ys → Appends a d zs
whole_behind a b d xs ys zs is h k = rw (← is) (Appends-trans a b d xs ys h k)

-- A text cut at a mark: its parts.
use Rattle.std.proofs.Common.{◌≡◌, ◌<◌, ◌≤◌, ℕ, List, [], ◌∷◌, Bool, true, false, Some, None, length, get_or, ◌⊎◌, inl, inr, arith, refl, sym, ◌∙◌}
use Rattle.std.specs.Prelude.{◌==◌, MatchBool}
use Rattle.std.specs.List.{after_first, before_first, position_or_len, slice_split}
use Rattle.std.specs.Str.Pattern.{FindsChar}
use Rattle.std.proofs.lemmas.Bool.{cases_lt, eq-eqb, eqb-true}
use Rattle.std.proofs.lemmas.List.{drop_all, take_all}
use Rattle.std.proofs.lemmas.List.Splits.{slice_split_none}
use Rattle.std.proofs.lemmas.List.Sums.{fails_before_first, passes_at_first, prefix_len-le-length}
use Rattle.std.proofs.lemmas.Str.Pattern.{contains_char}

-- a byte is the mark
abbrev pub is_mark : ℕ → ℕ → Bool
is_mark m = λ x. x == m

-- a text has none, or one at a first place
pub place : (m : ℕ) (text : List ℕ) → (position_or_len (is_mark m) text ≡ length text) ⊎ (position_or_len (is_mark m) text < length text)
place m text =
    let most : position_or_len (is_mark m) text ≤ length text = prefix_len-le-length _ text in
    elim (cases_lt (position_or_len (is_mark m) text) (length text)) [ inl h ↦ inr h | inr h ↦ inl (omega arith) ]

-- a text without one is one part
pub record IsOnePart (m : ℕ) (text : List ℕ) : Type 0 where
  pub parts : slice_split (is_mark m) text ≡ text ∷ []
  pub before : before_first (is_mark m) text ≡ text
  pub behind : after_first (is_mark m) text ≡ []

pub one_part : (m : ℕ) (text : List ℕ) → position_or_len (is_mark m) text ≡ length text → IsOnePart m text
one_part m text none = record {
  parts = slice_split_none (is_mark m) text (λ k d within. fails_before_first (is_mark m) text k d (omega arith));
  before = take_all _ text (omega arith);
  behind = drop_all _ text (omega arith);
}

-- nothing comes before or after a mark of an empty text
pub empty_rest : (m : ℕ) (t : List ℕ) → t ≡ [] → (before_first (is_mark m) t ≡ []) × (after_first (is_mark m) t ≡ [])
empty_rest m t e = rw e (refl, refl)

-- what `contains` says of a mark
pub mark_told : (m : ℕ) (text : List ℕ) (r : Bool) → m < 128 → MatchBool r ((i : ℕ) × (j : ℕ) × FindsChar m text (Some (i, j)) × (i ≤ j) × (j ≤ length text)) (FindsChar m text None)
    → MatchBool r (position_or_len (is_mark m) text < length text) (position_or_len (is_mark m) text ≡ length text)
mark_told m text true low h =
    let found = (contains_char m text true h low).0 refl in
    by found.0 found.1 found.2 (place m text)
  where
    by : (k : ℕ) → k < length text → get_or text k 0 ≡ m → (position_or_len (is_mark m) text ≡ length text) ⊎ (position_or_len (is_mark m) text < length text) → position_or_len (is_mark m) text < length text
    by k within is (inr some) = some
    by k within is (inl none) =
        let fails : is_mark m (get_or text k 0) ≡ false = fails_before_first (is_mark m) text k 0 (omega arith) in
        let passes : is_mark m (get_or text k 0) ≡ true = eq-eqb (get_or text k 0) m is in
        absurd (cc (sym passes ∙ fails))
mark_told m text false low h = by (place m text)
  where
    by : (position_or_len (is_mark m) text ≡ length text) ⊎ (position_or_len (is_mark m) text < length text) → position_or_len (is_mark m) text ≡ length text
    by (inl none) = none
    by (inr some) =
        let passes : is_mark m (get_or text (position_or_len (is_mark m) text) 0) ≡ true = passes_at_first (is_mark m) text 0 some in
        let found : false ≡ true = (contains_char m text false h low).1 (position_or_len (is_mark m) text) some (eqb-true (get_or text (position_or_len (is_mark m) text) 0) m passes) in
        absurd (cc found)

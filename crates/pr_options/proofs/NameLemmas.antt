-- The names of a value of --names.
use Rattle.std.proofs.Common.{◌≡◌, ◌<◌, ◌&&◌, ℕ, List, [], ◌∷◌, Bool, false, Option, Some, None, length, map, ◌⊎◌, inl, inr, arith, refl, sym, ap, ◌∙◌}
use Rattle.std.specs.Prelude.{if◌then◌else◌}
use Rattle.std.specs.List.{after_first, before_first, position_or_len, slice_split}
use Rattle.std.specs.Str.{IsTrimAscii}
use Rattle.std.proofs.lemmas.Bool.{and_right}
use Rattle.std.proofs.lemmas.List.Splits.{length-slice_split, slice_split_first}
use Rattle.std.proofs.lemmas.Str.Ascii.{trim_ascii_is}
use Rattle.pr_options.proofs.PartLemmas.{is_mark, one_part, place}
use Rattle.pr_options.specs.SignalNames.{Names, are_names, is_name, names_of, three_names, trimmed, without_front}

-- a comma
abbrev comma : ℕ → Bool
comma = is_mark 44

-- what three names come to, which may be none
abbrev pub named : (a b d : List ℕ) → Option Names
named a b d = if are_names a b d then Some (record { atn = a; clock = b; line = d }) else None

-- the names of some parts
abbrev named_of : List (List ℕ) → Option Names
named_of parts = three_names (map trimmed parts)

-- what std's `trim_ascii` leaves of a text
pub trimmed_is : (text r : List ℕ) → IsTrimAscii text r → r ≡ trimmed text
trimmed_is text r h = trim_ascii_is text r (without_front text) refl h

-- there are no names where the last one is empty
no_last : (a b d : List ℕ) → d ≡ [] → None ≡ named a b (trimmed d)
no_last a b d e =
    let h : is_name (trimmed d) ≡ false = ap (λ t. is_name (trimmed t)) e in
    rw (and_right (is_name a) (is_name b && is_name (trimmed d)) (and_right (is_name b) (is_name (trimmed d)) h)) refl

-- the names of a text of at most three parts
named_parts : (text : List ℕ) → position_or_len comma (after_first comma (after_first comma text)) ≡ length (after_first comma (after_first comma text))
    → names_of text ≡ named (trimmed (before_first comma text)) (trimmed (before_first comma (after_first comma text))) (trimmed (after_first comma (after_first comma text)))
named_parts text third = by (place 44 text) (place 44 (after_first comma text))
  where
    by : (position_or_len comma text ≡ length text) ⊎ (position_or_len comma text < length text)
        → (position_or_len comma (after_first comma text) ≡ length (after_first comma text)) ⊎ (position_or_len comma (after_first comma text) < length (after_first comma text))
        → names_of text ≡ named (trimmed (before_first comma text)) (trimmed (before_first comma (after_first comma text))) (trimmed (after_first comma (after_first comma text)))
    by (inl none) k =
        let one = one_part 44 text none in
        ap named_of one.parts ∙ no_last (trimmed (before_first comma text)) (trimmed (before_first comma (after_first comma text))) (after_first comma (after_first comma text)) (ap (after_first comma) one.behind)
    by (inr some) (inl none) =
        let one = one_part 44 (after_first comma text) none in
        ap named_of (slice_split_first comma text 0 some ∙ ap (λ ls. before_first comma text ∷ ls) one.parts)
        ∙ no_last (trimmed (before_first comma text)) (trimmed (before_first comma (after_first comma text))) (after_first comma (after_first comma text)) one.behind
    by (inr some) (inr more) =
        let one = one_part 44 (after_first comma (after_first comma text)) third in
        ap named_of (slice_split_first comma text 0 some
        ∙ ap (λ ls. before_first comma text ∷ ls) (slice_split_first comma (after_first comma text) 0 more ∙ ap (λ ls. before_first comma (after_first comma text) ∷ ls) one.parts))

-- the same, where the texts were cut and then trimmed
pub names_by : (text a rest b d x y z : List ℕ) → a ≡ before_first comma text → rest ≡ after_first comma text → b ≡ before_first comma rest → d ≡ after_first comma rest
    → x ≡ trimmed a → y ≡ trimmed b → z ≡ trimmed d → position_or_len comma d ≡ length d → names_of text ≡ named x y z
names_by text a rest b d x y z is_a is_rest is_b is_d is_x is_y is_z third =
    let e = ap (after_first comma) is_rest in
    let end : position_or_len comma (after_first comma (after_first comma text)) ≡ length (after_first comma (after_first comma text)) = rw (is_d, e) at third in
    named_parts text end
    ∙ same _ _ _ x y z (ap trimmed (sym is_a) ∙ sym is_x) (ap (λ t. trimmed (before_first comma t)) (sym is_rest) ∙ (ap trimmed (sym is_b) ∙ sym is_y))
    (ap trimmed (sym e) ∙ (ap trimmed (sym is_d) ∙ sym is_z))
  where
    same : (a b d x y z : List ℕ) → a ≡ x → b ≡ y → d ≡ z → named a b d ≡ named x y z
    same a b d x y z h k l = rw (h, k, l) refl

-- four parts or more
four_parts : (a b d : List ℕ) (ls : List (List ℕ)) → 0 < length ls → named_of (a ∷ b ∷ d ∷ ls) ≡ None
four_parts a b d [] h = absurd (omega arith)
four_parts a b d (l ∷ ls) h = refl

-- a comma after two, where the texts were cut
pub no_names : (text rest d : List ℕ) → rest ≡ after_first comma text → d ≡ after_first comma rest → position_or_len comma d < length d → names_of text ≡ None
no_names text rest d y w third =
    let e = ap (after_first comma) y in
    let end : position_or_len comma (after_first comma (after_first comma text)) < length (after_first comma (after_first comma text)) = rw (w, e) at third in
    by (place 44 text) (place 44 (after_first comma text)) end
  where
    by : (position_or_len comma text ≡ length text) ⊎ (position_or_len comma text < length text)
        → (position_or_len comma (after_first comma text) ≡ length (after_first comma text)) ⊎ (position_or_len comma (after_first comma text) < length (after_first comma text))
        → position_or_len comma (after_first comma (after_first comma text)) < length (after_first comma (after_first comma text)) → names_of text ≡ None
    by (inl none) k end =
        let short : length (after_first comma (after_first comma text)) ≡ 0 = ap (λ t. length (after_first comma t)) (one_part 44 text none).behind in
        absurd (omega arith)
    by (inr some) (inl none) end =
        let short : length (after_first comma (after_first comma text)) ≡ 0 = ap length (one_part 44 (after_first comma text) none).behind in
        absurd (omega arith)
    by (inr some) (inr more) end =
        let last = after_first comma (after_first comma (after_first comma text)) in
        ap named_of (slice_split_first comma text 0 some
        ∙ ap (λ ls. before_first comma text ∷ ls) (slice_split_first comma (after_first comma text) 0 more
        ∙ ap (λ ls. before_first comma (after_first comma text) ∷ ls) (slice_split_first comma (after_first comma (after_first comma text)) 0 end)))
        ∙ four_parts (before_first comma text) (before_first comma (after_first comma text)) (before_first comma (after_first comma (after_first comma text))) (slice_split comma last) (omega (arith, length-slice_split comma last))

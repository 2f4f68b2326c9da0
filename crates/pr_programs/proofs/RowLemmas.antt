-- The rows of a text, byte by byte.
use Rattle.std.proofs.Common.{◌≡◌, ℕ, ◌+◌, ◌<◌, ◌≤◌, Bool, false, List, length, get_or, take, drop, min, ap, ◌∙◌, arith}
use Rattle.std.specs.Prelude.{◌==◌}
use Rattle.std.proofs.lemmas.List.{drop_all, drop_more, take_min}
use Rattle.pr_programs.specs.Rows.{row, row_end, row_ends}

-- one byte more
pub row_passed : (front : List ℕ) (i : ℕ) (after : Bool) → i < length front
    → row_ends after (drop i front) ≡ row_end after (get_or front i 0) + row_ends (get_or front i 0 == 13)
    (drop (i + 1) front)
unfolding row_ends
row_passed front i after h = ap (row_ends after) (drop_more front i 0 h)

-- no byte is left
pub rows_counted : (text front : List ℕ) (place end i rows : ℕ) (after : Bool) → end ≡ min place (length text)
    → front ≡ take end text → length front ≤ i → row_ends false front + 1 ≡ rows + row_ends after (drop i front)
    → rows ≡ row text place
unfolding row_ends
rows_counted text front place end i rows after e f h k =
    let none : row_ends after (drop i front) ≡ 0 = ap (row_ends after) (drop_all i front h) in
    let whole : front ≡ take place text = f ∙ (ap (λ n. take n text) e ∙ take_min place text) in
    let same : row_ends false front ≡ row_ends false (take place text) = ap (row_ends false) whole in
    omega arith

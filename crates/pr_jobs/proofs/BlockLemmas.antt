-- Laws of a block that is written from front to back.
use Rattle.std.proofs.Common.{◌≡◌, ℕ, ◌+◌, ◌≤◌, List, ◌++◌, length, take, ap, sym, ◌∙◌, arith, length-take-le, take-add, take-take, take_at, drop_at}
use Rattle.std.proofs.lemmas.Slice.{take-put_mid}
use borrow.Rule.Slice.PartMut.{put_mid}

-- a part of a block was written, and its first n bytes count
pub take_put : (i n k : ℕ) (xs ys : List ℕ) → i ≤ length xs → n ≤ length ys → take (i + n) (put_mid i k xs ys) ≡ take i xs ++ take n ys
take_put i n k xs ys within few =
    let front = length-take-le i xs within in
    sym (take-take (i + n) (i + length ys) (put_mid i k xs ys) (omega arith))
    ∙ ap (take (i + n)) (take-put_mid i k xs ys (i + length ys) (omega arith) within)
    ∙ take-add i n (take i xs ++ ys)
    ∙ (λ j. take_at (take i xs) ys i front j ++ take n (drop_at (take i xs) ys i front j))

-- Laws of a block that is written from front to back, and of blocks one after another.
use Rattle.std.proofs.Common.{◌≡◌, ℕ, ◌+◌, ◌≤◌, List, [], ◌∷◌, ◌++◌, length, take, ap, sym, ◌∙◌, arith, append_assoc, append-nil, length-take-le, take-add, take-take, take_at, drop_at}
use Rattle.std.specs.Prelude.{Vec}
use Rattle.std.specs.Global.{Global}
use Rattle.std.proofs.lemmas.Grind.{flat_map-append}
use Rattle.std.proofs.lemmas.List.Concat.{flat_map-cons}
use Rattle.std.proofs.lemmas.Slice.{take-put_mid}
use borrow.Rule.Slice.PartMut.{put_mid}
use Rattle.pr_render.specs.Sheets.{joined}

-- a part of a block was written, and its first n bytes count
pub take-put : (i n k : ℕ) (xs ys : List ℕ) → i ≤ length xs → n ≤ length ys → take (i + n) (put_mid i k xs ys) ≡ take i xs ++ take n ys
take-put i n k xs ys within few =
    let front = length-take-le i xs within in
    sym (take-take (i + n) (i + length ys) (put_mid i k xs ys) (omega arith))
    ∙ ap (take (i + n)) (take-put_mid i k xs ys (i + length ys) (omega arith) within)
    ∙ take-add i n (take i xs ++ ys)
    ∙ (λ j. take_at (take i xs) ys i front j ++ take n (drop_at (take i xs) ys i front j))

-- a block after others
joined-push : (bs : List (Vec ℕ Global)) (b : Vec ℕ Global) → joined (bs ++ b ∷ []) ≡ joined bs ++ b.items
joined-push bs b =
    flat_map-append (λ b. b.items) bs (b ∷ [])
    ∙ ap (λ t. joined bs ++ t) (flat_map-cons (λ b. b.items) b [] ∙ append-nil b.items)

-- a block, two texts and a block after others
pub blocks-around : (old begun one two all : List (Vec ℕ Global)) (front back : Vec ℕ Global) (f s t b : List ℕ) → begun ≡ old ++ front ∷ []
    → front.items ≡ f → joined one ≡ joined begun ++ s → joined two ≡ joined one ++ t → all ≡ two ++ back ∷ [] → back.items ≡ b
    → joined all ≡ joined old ++ (f ++ s ++ t ++ b)
blocks-around old begun one two all front back f s t b begin front-is one-is two-is end back-is =
    let at-front : joined begun ≡ joined old ++ f =
    ap (λ x. joined x) begin ∙ (joined-push old front ∙ ap (λ x. joined old ++ x) front-is) in
    let at-one : joined one ≡ joined old ++ (f ++ s) = one-is ∙ (ap (λ x. x ++ s) at-front ∙ append_assoc (joined old) f s) in
    let at-two : joined two ≡ joined old ++ (f ++ s ++ t) = two-is ∙ (ap (λ x. x ++ t) at-one ∙ append_assoc (joined old) (f ++ s) t) in
    ap (λ x. joined x) end
    ∙ (joined-push two back
    ∙ (ap (λ x. x ++ back.items) at-two
    ∙ (append_assoc (joined old) (f ++ s ++ t) back.items ∙ ap (λ x. joined old ++ (f ++ s ++ t ++ x)) back-is)))

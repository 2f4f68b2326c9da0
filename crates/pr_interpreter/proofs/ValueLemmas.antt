use Rattle.std.proofs.Common.{◌≡◌, ℕ, ◌+◌, ◌<◌, ◌≤◌, List, length, drop, get_or, arith, refl, add-one, drop-cons}
use Rattle.std.proofs.lemmas.Bool.{le-ltb, lt-ltb}
use Rattle.std.proofs.lemmas.List.{drop_all}
use Rattle.pr_interpreter.specs.Values.{is_greater, is_less, is_same, text_order}

-- the second string ends first
pub order_ends : (a b : List ℕ) (i : ℕ) → i < length a → length b ≤ i → text_order (drop i a) (drop i b) ≡ is_greater
order_ends a b i h k = rw (drop-cons a i 0 h, drop_all i b k) refl

pub order_less : (a b : List ℕ) (i : ℕ) → i < length a → i < length b → get_or a i 0 < get_or b i 0
    → text_order (drop i a) (drop i b) ≡ is_less
order_less a b i h k less = rw (drop-cons a i 0 h, drop-cons b i 0 k, lt-ltb _ _ less) refl

pub order_greater : (a b : List ℕ) (i : ℕ) → i < length a → i < length b → get_or b i 0 < get_or a i 0
    → text_order (drop i a) (drop i b) ≡ is_greater
order_greater a b i h k more =
    let no : get_or b i 0 ≤ get_or a i 0 = omega arith in
    rw (drop-cons a i 0 h, drop-cons b i 0 k, le-ltb _ _ no, lt-ltb _ _ more) refl

-- equal bytes leave the rest
pub order_more : (a b : List ℕ) (i : ℕ) → i < length a → i < length b → get_or b i 0 ≤ get_or a i 0
    → get_or a i 0 ≤ get_or b i 0
    → text_order (drop (i + 1) a) (drop (i + 1) b) ≡ text_order (drop i a) (drop i b)
order_more a b i h k below above =
    rw (drop-cons a i 0 h, drop-cons b i 0 k, le-ltb _ _ below, le-ltb _ _ above, add-one i) refl

-- the first string ends
pub order_short : (a b : List ℕ) (i : ℕ) → length a ≤ i → i < length b → text_order (drop i a) (drop i b) ≡ is_less
order_short a b i h k = rw (drop_all i a h, drop-cons b i 0 k) refl

pub order_same : (a b : List ℕ) (i : ℕ) → length a ≤ i → length b ≤ i → text_order (drop i a) (drop i b) ≡ is_same
order_same a b i h k = rw (drop_all i a h, drop_all i b k) refl

use Rattle.std.proofs.Common.{◌≡◌, ℕ, ◌+◌, ◌*◌, ◌<◌, ◌≤◌, List, [], ◌∷◌, length, drop, get_or, arith, refl, drop-cons}
use Rattle.std.proofs.Common.{add-one}
use Rattle.std.proofs.Math.Nat.{mul-le-mul}
use Rattle.pr_interpreter.specs.declared.names.Kind.{Kind}
use Rattle.pr_interpreter.specs.declared.names.Kind.TheVariants.{Number as Numeric, Text as Letters, Whole as Short}
use Rattle.pr_interpreter.specs.Memory.{array_bytes, element_bytes}
use Rattle.pr_run.specs.Assignments.{element_count}

-- each array has an element
pub count_some : (bs : List ℕ) → 1 ≤ element_count bs
count_some [] = omega arith
count_some (b ∷ bs) =
    let one : 1 ≤ b + 1 = omega arith in
    let product = mul-le-mul one (count_some bs) in omega arith

-- one dimension more is counted
pub count_goes : (bs : List ℕ) (i n count whole : ℕ) → i < length bs → n ≡ get_or bs i 0
    → count * element_count (drop i bs) ≡ whole → count * (n + 1) * element_count (drop (i + 1) bs) ≡ whole
count_goes bs i n count whole h same all =
    let cut : drop i bs ≡ get_or bs i 0 ∷ drop (i + 1) bs = rw add-one (drop-cons bs i 0 h) in
    let front : element_count (drop i bs) ≡ (n + 1) * element_count (drop (i + 1) bs) = rw (cut, same) refl in
    let whole_front : count * ((n + 1) * element_count (drop (i + 1) bs)) ≡ whole = rw front at all in
    omega arith

-- and there may be too many elements
pub count_over : (bs : List ℕ) (i n count whole : ℕ) → i < length bs → n ≡ get_or bs i 0
    → count * element_count (drop i bs) ≡ whole → 30000 < count * (n + 1) → 30000 < whole
count_over bs i n count whole h same all more =
    let goes = count_goes bs i n count whole h same all in
    let some = count_some (drop (i + 1) bs) in
    let enough : 30001 ≤ count * (n + 1) = omega arith in
    let product = mul-le-mul enough some in omega arith

-- ---- bytes of arrays

bytes_some : (kind : Kind) → 2 ≤ element_bytes kind
bytes_some Numeric = omega arith
bytes_some Short = omega arith
bytes_some Letters = omega arith

-- no machine has the memory for so many elements
pub many_elements : (kind : Kind) (dimensions elements : ℕ) → 30000 < elements
    → 38911 < array_bytes kind dimensions elements
many_elements kind dimensions elements many =
    let enough : 30001 ≤ elements = omega arith in
    let product = mul-le-mul (bytes_some kind) enough in omega arith

-- nor for so many dimensions
pub many_dimensions : (kind : Kind) (dimensions elements : ℕ) → 30000 < dimensions
    → 38911 < array_bytes kind dimensions elements
many_dimensions kind dimensions elements many = omega arith

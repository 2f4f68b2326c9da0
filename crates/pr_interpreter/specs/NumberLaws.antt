-- What is certain of calculations: whatever the machine may answer is in the number that is the result.
use Rattle.std.specs.Prelude.{ℕ, ℤ, pos, neg_ℤ, ◌+◌, ◌*◌, ◌^◌, ◌<◌, ◌≤◌, ◌<ℤ◌, ◌≤ℤ◌, ◌≡◌, Bool, true, false, Ok, Some}
use Rattle.std.specs.Prelude.{unsigned_abs}
use Rattle.pr_interpreter.specs.Functions.{square_root}
use Rattle.pr_interpreter.specs.Machine.{HasForm, MayPower, MayProduct, MayQuotient, MayRoot, MaySum, unit_bits}
use Rattle.pr_interpreter.specs.Spans.{IsShort, IsWide, answer}
use Rattle.pr_interpreter.specs.declared.span.Span.{Span}
use Rattle.pr_interpreter.specs.Numbers.{Known, Encloses, absolute, floor, negated, order_of, product, quotient, sum}
use Rattle.pr_interpreter.specs.Numbers.{whole_number}
use Rattle.pr_interpreter.specs.Values.{power}
use Rattle.pr_interpreter.specs.declared.whole_numbers.Whole.{Whole}
use Rattle.pr_interpreter.specs.declared.orders.Order.{Order}

-- a product encloses every answer to a product of values that its factors enclose
abbrev pub ProductsAreCertain : Type 0
ProductsAreCertain = (a b n : Known) (x y r : ℤ)
    → IsShort a.span → IsShort b.span → Encloses a x → Encloses b y → MayProduct x y r → product a b ≡ Ok n
    → Encloses n r

-- so does a quotient
abbrev pub QuotientsAreCertain : Type 0
QuotientsAreCertain = (a b n : Known) (x y r : ℤ)
    → IsShort a.span → IsShort b.span → Encloses a x → Encloses b y → MayQuotient x y r → quotient a b ≡ Ok n
    → Encloses n r

-- so does a sum
abbrev pub SumsAreCertain : Type 0
SumsAreCertain = (a b n : Known) (x y r : ℤ)
    → IsShort a.span → IsShort b.span → Encloses a x → Encloses b y → MaySum x y r → sum a b ≡ Ok n → Encloses n r

-- so does a square root
abbrev pub RootsAreCertain : Type 0
RootsAreCertain = (a n : Known) (x r : ℤ)
    → IsShort a.span → Encloses a x → MayRoot x r → square_root a ≡ Ok n → Encloses n r

-- so does a power
abbrev pub PowersAreCertain : Type 0
PowersAreCertain = (a b n : Known) (x y r : ℤ)
    → IsShort a.span → IsShort b.span → Encloses a x → Encloses b y → MayPower x y r → power a b ≡ Ok n → Encloses n r

-- a value with the other sign is in the number with the other sign
abbrev pub NegationIsCertain : Type 0
NegationIsCertain = (a : Known) (x : ℤ) → Encloses a x → Encloses (negated a) (neg_ℤ x)

-- an order has what is true of two values
pub record Allows (o : Order) (x y : ℤ) : Type 0 where
  pub less : x <ℤ y → o.less ≡ true
  pub equal : x ≡ y → o.equal ≡ true
  pub greater : y <ℤ x → o.greater ≡ true

-- whatever values two numbers enclose, their order has what is true of them
abbrev pub OrdersAreCertain : Type 0
OrdersAreCertain = (a b : Known) (x y : ℤ) → IsShort a.span → IsShort b.span → Encloses a x → Encloses b y
    → Allows (order_of a b) x y

-- the whole number w is the greatest that is not above the value x
abbrev pub IsFloorFor : Bool → ℕ → ℤ → Type 0
IsFloorFor false n x = (pos 0 ≤ℤ x) × (n * 2 ^ unit_bits ≤ unsigned_abs x)
    × (unsigned_abs x < n * 2 ^ unit_bits + 2 ^ unit_bits)
IsFloorFor true n x = (x ≤ℤ pos 0) × (unsigned_abs x ≤ n * 2 ^ unit_bits)
    × (n * 2 ^ unit_bits < unsigned_abs x + 2 ^ unit_bits)

-- the whole number of a number is that of each value that it encloses
abbrev pub WholesAreCertain : Type 0
WholesAreCertain = (a : Known) (x : ℤ) (w : Whole) → Encloses a x → floor a ≡ Some w
    → IsFloorFor w.negative w.magnitude x

-- an exact magnitude that has the form is the answer, and nothing else is
abbrev pub FormsAreKept : Type 0
FormsAreKept = (digits error : ℕ) (s : Span)
    → IsWide s → digits ≤ 40 → s.low ≡ s.high → 0 < s.low → HasForm digits (s.low * 2 ^ s.scale)
    → (t : Span) × (answer digits error s ≡ Ok t) × (t.low ≡ t.high) × (t.low * 2 ^ t.scale ≡ s.low * 2 ^ s.scale)

-- the value of a whole number
abbrev pub whole_value : Bool → ℕ → ℤ
whole_value false magnitude = pos (magnitude * 2 ^ unit_bits)
whole_value true magnitude = neg_ℤ (pos (magnitude * 2 ^ unit_bits))

-- a whole number stands for its value alone, and its value is its own whole number
abbrev pub WholeNumbersAreExact : Type 0
WholeNumbersAreExact = (negative : Bool) (magnitude : ℕ) (x : ℤ)
    → (Encloses (whole_number negative magnitude) x → x ≡ whole_value negative magnitude)
    × (x ≡ whole_value negative magnitude → Encloses (whole_number negative magnitude) x)

-- the magnitude of a value is in the number without its sign
abbrev pub MagnitudesAreCertain : Type 0
MagnitudesAreCertain = (a : Known) (x : ℤ) → Encloses a x → Encloses (absolute a) (pos (unsigned_abs x))

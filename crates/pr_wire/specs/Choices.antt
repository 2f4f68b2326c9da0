-- Trusted: what a contract sees of a party's raw numbers, and which of them are left.
use Rattle.std.specs.Prelude.{ℕ, List, drop}

-- what contracts see of a `Choices`
pub record RawNumbers : Type 0 where
  -- all numbers, taken or not; they never change
  pub numbers : List ℕ
  -- how many of them have been taken, from the first
  pub taken : ℕ

-- the numbers that have not been taken, the next one first
abbrev pub left : RawNumbers → List ℕ
left c = drop c.taken c.numbers

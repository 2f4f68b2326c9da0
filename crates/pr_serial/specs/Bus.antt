-- Trusted: the delay numbers of a bus.
use Rattle.std.specs.Prelude.{ℕ, List}

-- the raw delay numbers of the computer and of the two printers
pub record DelayNumbers : Type 0 where
  pub computer : List ℕ
  pub four : List ℕ
  pub five : List ℕ

-- Trusted: what a contract sees of a line.
use Rattle.std.specs.Prelude.{ℕ, Bool, List}

-- a line's bytes, and whether the line ends after them
pub record Text : Type 0 where
  pub bytes : List ℕ
  pub ends : Bool

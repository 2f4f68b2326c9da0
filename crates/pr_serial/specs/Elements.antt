-- Trusted: what the computer puts on the bus, while it is not yet known which byte is the last one.
use Rattle.std.specs.Prelude.{ℕ, Option}

-- an attention with its first command and perhaps a second, or a byte
pub data Element : Type 0 where
  Attention : ℕ → Option ℕ → Element
  Byte : ℕ → Element

-- Trusted: the limits of a script (profile).
use Rattle.std.specs.Prelude.{ℕ}

-- the most statements of a script
abbrev pub statement_limit : ℕ
statement_limit = 1000000

-- the most bytes of a list
abbrev pub byte_limit : ℕ
byte_limit = 255

-- the greatest line number
abbrev pub line_number_limit : ℕ
line_number_limit = 63999

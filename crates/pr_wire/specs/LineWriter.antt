-- Machine steps: how a line is written in two parts. No reader needs to believe them.
use Rattle.std.specs.Prelude.{ℕ, ◌+◌, ◌/◌, ◌%◌, List, [], ◌∷◌}
use Rattle.pr_wire.specs.declared.Levels.{Levels}
use Rattle.pr_wire.specs.TraceText.{level_digit}

-- three digits of a number below 1000, with leading zeros
abbrev pub three_digits : ℕ → List ℕ
three_digits k = (48 + k / 100) ∷ (48 + k / 10 % 10) ∷ (48 + k % 10) ∷ []

-- what follows a time in its line
abbrev pub levels_line : Levels → List ℕ
levels_line l = 32 ∷ level_digit l.atn ∷ level_digit l.clock ∷ level_digit l.line ∷ 10 ∷ []

-- Linking words: how many statements the first of some lines of a script has. No reader needs to believe them.
use Rattle.std.specs.Prelude.{◌≡◌, ◌≤◌, ℕ, List, ◌∷◌, ◌++◌, length}
use Rattle.pr_base.specs.Lines.{lines_of}
use Rattle.pr_basic.specs.Grammar.{AreLines, IsLine, without_return}
use Rattle.pr_basic.specs.Limits.{statement_limit}
use Rattle.pr_basic.specs.declared.statement.Statement.{Statement}

-- of these statements, this many are those of the line, and the others those of the lines after it
pub record BeginsWithLine (line rest : List ℕ) (statements : List Statement) (count : ℕ) : Type 0 where
  pub own : List Statement
  pub others : List Statement
  pub is_line : IsLine (without_return line) own
  pub all : statements ≡ own ++ others
  pub are_others : AreLines (lines_of rest) others
  pub counted : count ≡ length own

-- whatever statements the line and those after it have, this many are the line's
abbrev pub CountsFirst : (line rest : List ℕ) → (count : ℕ) → Type 0
CountsFirst line rest count =
    (statements : List Statement) → AreLines (line ∷ lines_of rest) statements → length statements ≤ statement_limit
    → BeginsWithLine line rest statements count

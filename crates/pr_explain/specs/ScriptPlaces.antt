-- Trusted: the place that the explanation of a script has: where its first fault is.
use Rattle.std.specs.Prelude.{◌≡◌, ℕ, ◌+◌, ◌-◌, List, Option, Some, None, MatchOption}
use Rattle.pr_basic.specs.declared.fault.ScriptFault.{ScriptFault}
use Rattle.pr_basic.specs.declared.statement.Statement.{Statement}
use Rattle.pr_basic.specs.FaultPlaces.{IsFirstFaultAt}
use Rattle.pr_basic.specs.Grammar.{IsScript}
use Rattle.pr_basic.specs.LineAt.{HasBasicNumber, IsLineAt}
use Rattle.pr_explain.specs.declared.scripts.ScriptPlace.{ScriptPlace}

-- the BASIC number of a line, if it begins with one
abbrev pub IsLabel : (line : List ℕ) → Option ℕ → Type 0
IsLabel line label =
    MatchOption label ((n : ℕ) → HasBasicNumber line n → ⊥) (λ n. HasBasicNumber line n)

-- the place of a text's first fault
pub record IsFaultPlace (text : List ℕ) (p : ScriptPlace) : Type 0 where
  pub fault : ScriptFault
  pub place : ℕ
  pub start : ℕ
  pub line : List ℕ
  pub is_first : IsFirstFaultAt text fault place
  pub is_line : IsLineAt text place start line p.line
  pub column : p.column ≡ place - start + 1
  pub labelled : IsLabel line p.basic_line

-- a script has no fault; every other text has one at its place
abbrev pub IsScriptPlace : (text : List ℕ) → Option ScriptPlace → Type 0
IsScriptPlace text None = (statements : List Statement) × IsScript text statements
IsScriptPlace text (Some p) = IsFaultPlace text p

-- the place of the first fault of a line alone, with the number that is given
abbrev pub IsLinePlace : (number : ℕ) → (line : List ℕ) → Option ScriptPlace → Type 0
IsLinePlace number line None = IsScriptPlace line None
IsLinePlace number line (Some p) = (own : ScriptPlace) × IsFaultPlace line own
    × (p ≡ record own { line = number })

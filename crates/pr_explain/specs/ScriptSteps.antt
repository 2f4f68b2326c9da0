-- Machine steps: the place of a script's fault, or of a line's. No reader needs to believe them.
use Rattle.std.specs.Prelude.{ℕ, List, Option, Some, None}
use Rattle.pr_explain.specs.ScriptPlaces.{IsLinePlace, IsScriptPlace}
use Rattle.pr_explain.specs.declared.scripts.ScriptPlace.{ScriptPlace}

-- a place with the number of its line, where one is given
abbrev pub numbered : ScriptPlace → Option ℕ → ScriptPlace
numbered p None = p
numbered p (Some n) = record p { line = n }

-- the place of a script's fault, or of that of a line with this number
abbrev pub IsNumberedPlace : Option ℕ → List ℕ → Option ScriptPlace → Type 0
IsNumberedPlace None text place = IsScriptPlace text place
IsNumberedPlace (Some n) text place = IsLinePlace n text place

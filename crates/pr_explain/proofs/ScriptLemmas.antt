-- The place of a script's fault, or of a line's.
use Rattle.std.proofs.Common.{◌≡◌, ℕ, List, Option, Some, None, subst, sym}
use Rattle.pr_explain.specs.ScriptPlaces.{IsFaultPlace, IsScriptPlace}
use Rattle.pr_explain.specs.ScriptSteps.{IsNumberedPlace, numbered}
use Rattle.pr_explain.specs.declared.scripts.ScriptPlace.{ScriptPlace}

-- a fault's place, with a line's number where one is given
pub numbered_place : (text : List ℕ) (own placed : ScriptPlace) (number : Option ℕ) → IsFaultPlace text own → placed ≡ numbered own number
    → IsNumberedPlace number text (Some placed)
numbered_place text own placed None h e = subst (λ p. IsFaultPlace text p) (sym e) h
numbered_place text own placed (Some n) h e = (own, h, e)

-- no fault
pub numbered_none : (text : List ℕ) (number : Option ℕ) → IsScriptPlace text None → IsNumberedPlace number text None
numbered_none text None h = h
numbered_none text (Some n) h = h

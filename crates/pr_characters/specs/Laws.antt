-- Laws: what a file of characters says. src/laws.rt proves it.
use Rattle.std.specs.Prelude.{◌≡◌, ℕ, List, Result}
use Rattle.pr_dots.specs.declared.character_sets.Shapes.{Shapes}
use Rattle.pr_characters.specs.declared.fault.CharactersFault.{CharactersFault}
use Rattle.pr_characters.specs.File.{AnswersFile}

-- each text has at most one answer: it is the file of no other shapes, and has no other first bad line
abbrev pub HasOneAnswer : Type 0
HasOneAnswer = (text : List ℕ) (a b : Result Shapes CharactersFault) → AnswersFile text a → AnswersFile text b → a ≡ b

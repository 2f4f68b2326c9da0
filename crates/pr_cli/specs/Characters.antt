-- Trusted: the shapes that the program draws characters in, where words name a file of them.
use Rattle.std.specs.Prelude.{◌≡◌, ℕ, List, Option, Some, None, Result, Ok, Err}
use Rattle.clap.specs.Words.{Text}
use Rattle.pr_dots.specs.Shapes.{own_shapes}
use Rattle.pr_dots.specs.declared.character_sets.Shapes.{Shapes}
use Rattle.pr_jobs.specs.Characters.{AnswersCharacters}
use Rattle.pr_jobs.specs.declared.characters.ShapesFault.{ShapesFault}

-- those of the file that words name, or its fault; or else this project's own shapes
abbrev pub GivenShapes : (name : Option Text) → (file : List ℕ) → Result Shapes ShapesFault → Type 0
GivenShapes None file result = result ≡ Ok own_shapes
GivenShapes (Some name) file result = AnswersCharacters file result

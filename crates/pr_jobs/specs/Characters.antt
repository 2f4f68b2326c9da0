-- Trusted: the shapes that a file of characters has, or why it has none.
use Rattle.std.specs.Prelude.{ℕ, ◌<◌, ◌≤◌, List, length, Result, Ok, Err}
use Rattle.pr_dots.specs.declared.character_sets.Shapes.{Shapes}
use Rattle.pr_characters.specs.File.{AnswersFile}
use Rattle.pr_jobs.specs.declared.characters.ShapesFault.{ShapesFault}
use Rattle.pr_jobs.specs.declared.characters.ShapesFault.TheVariants.{Characters, TooLarge, ReadFailed, NoMemory}

-- the most bytes of a file of characters
abbrev pub characters_limit : ℕ
characters_limit = 65536

-- the answer for a file's bytes; memory can be refused and a read can fail at any time
abbrev pub AnswersCharacters : List ℕ → Result Shapes ShapesFault → Type 0
AnswersCharacters text (Ok shapes) = (length text ≤ characters_limit) × AnswersFile text (Ok shapes)
AnswersCharacters text (Err (Characters fault)) = (length text ≤ characters_limit) × AnswersFile text (Err fault)
AnswersCharacters text (Err TooLarge) = characters_limit < length text
AnswersCharacters text (Err ReadFailed) = Unit {0}
AnswersCharacters text (Err NoMemory) = Unit {0}

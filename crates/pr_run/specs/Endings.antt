-- Linking words: endings of a run. No reader needs to believe them.
use Rattle.std.specs.Prelude.{Bool, true, false}
use Rattle.pr_run.specs.declared.ending.Ending.{Ending}
use Rattle.pr_run.specs.declared.ending.Ending.TheVariants.{Break, End, Error, LastLine, OutOfMemory, Refused}
use Rattle.pr_run.specs.declared.ending.Ending.TheVariants.{TooManySteps}

abbrev pub is_memory : Ending → Bool
is_memory OutOfMemory = true
is_memory LastLine = false
is_memory (End line) = false
is_memory (Break line) = false
is_memory (Error e line) = false
is_memory (Refused r place) = false
is_memory (TooManySteps line) = false

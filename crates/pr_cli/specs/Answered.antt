-- Trusted: what the program writes for the words of a command line, an input and a file of characters, and how it
-- ends.
use Rattle.std.specs.Prelude.{◌≡◌, ◌≢◌, ◌⊎◌, ℕ, true, List, [], Some, Ok, Err, option_map}
use Rattle.std.specs.Str.{IsUtf8}
use Rattle.clap.specs.Words.{Text}
use Rattle.pr_dots.specs.declared.character_sets.Shapes.{Shapes}
use Rattle.pr_options.specs.Jobs.{IsRefused, TaskView, asked, task_view}
use Rattle.pr_options.specs.declared.command_line.JobFault.{JobFault}
use Rattle.pr_options.specs.declared.command_line.JobFault.TheVariants.{NoMemory}
use Rattle.pr_options.specs.declared.command_line.Task.{Task}
use Rattle.pr_cli.specs.Characters.{GivenShapes}
use Rattle.pr_jobs.specs.declared.characters.ShapesFault.{ShapesFault}
use Rattle.pr_cli.specs.Jobs.{EndsWork}
use Rattle.pr_cli.specs.Statuses.{refusal_end, status_of}
use Rattle.pr_cli.specs.declared.statuses.End.{End}
use Rattle.pr_cli.specs.declared.statuses.End.TheVariants.{Characters, Done, Words}
use Rattle.pr_cli.specs.Words.{meant, names_part, words_in}

-- how it ends a task: by its job, with the shapes of its file of characters, and a stopped run with its error and its place; or that
-- file has no shapes, and nothing is written
abbrev pub EndsTask : Task → (input characters : List ℕ) → (output : List ℕ) → End → Type 0
EndsTask task input characters output end =
    ((shapes : Shapes) × GivenShapes (option_map (λ name. name.now) task.characters) characters (Ok shapes)
    × EndsWork true shapes task.before task.job input (Some []) (Some output) end)
    ⊎ ((fault : ShapesFault) × GivenShapes (option_map (λ name. name.now) task.characters) characters (Err fault)
    × (end ≡ Characters fault) × (output ≡ []))

-- memory was refused, and nothing is written
abbrev pub IsUntold : (output : List ℕ) → End → Type 0
IsUntold output end = (status_of end ≡ 3) × (output ≡ [])

-- how it answers words: by the task that they ask for; or they ask for none, and only help and the version are written; or
-- memory was refused, and nothing is written
abbrev pub AnswersWords : List Text → (input characters : List ℕ) → (output : List ℕ) → End → Type 0
AnswersWords words input characters output end =
    ((task : Task) × (asked (meant words) ≡ Some (Ok (task_view task))) × EndsTask task input characters output end)
    ⊎ ((fault : JobFault) × IsRefused (meant words) fault × (end ≡ refusal_end fault) × (end ≢ Done → output ≡ []))
    ⊎ IsUntold output end

-- the same of words as one text; those that are not UTF-8 are refused
abbrev pub AnswersLine : (line input characters : List ℕ) → (output : List ℕ) → End → Type 0
AnswersLine line input characters output end =
    (IsUtf8 line × AnswersWords (words_in line) input characters output end)
    ⊎ ((IsUtf8 line → ⊥) × (end ≡ Words) × (output ≡ []))

-- the names of the files of the task that words ask for; or they ask for none; or memory was refused, and nothing is written
abbrev pub NamesFiles : List Text → (output : List ℕ) → End → Type 0
NamesFiles words output end =
    ((task : TaskView) × (asked (meant words) ≡ Some (Ok task)) × (output ≡ names_part task) × (end ≡ Done))
    ⊎ ((fault : JobFault) × IsRefused (meant words) fault × (fault ≢ NoMemory) × (output ≡ []) × (end ≡ Words))
    ⊎ IsUntold output end

-- the same of words as one text; those that are not UTF-8 ask for none
abbrev pub NamesFilesOfLine : (line : List ℕ) → (output : List ℕ) → End → Type 0
NamesFilesOfLine line output end =
    (IsUtf8 line × NamesFiles (words_in line) output end)
    ⊎ ((IsUtf8 line → ⊥) × (output ≡ []) × (end ≡ Words))

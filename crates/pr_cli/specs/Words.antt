-- Trusted: the words of a command line as the program reads them.
use Rattle.std.specs.Prelude.{◌≡◌, ℕ, Bool, false, ◌==◌, ◌&&◌, not, List, [], ◌∷◌, ◌++◌, length, Option, Some, None, Ok, codes, is_some, if◌then◌else◌}
use Rattle.std.specs.List.{slice_split}
use Rattle.std.specs.Str.{bytes_eq}
use Rattle.clap.specs.Words.{Text}
use Rattle.pr_options.specs.Jobs.{TaskView, asked, job_view}
use Rattle.pr_options.specs.Options.{inverted_of}
use Rattle.pr_options.specs.declared.command_line.Job.{Job}

-- the words of a command line as one text: a byte 0 is between each two
abbrev pub words_in : List ℕ → List Text
words_in bytes = slice_split (λ b. b == 0) bytes

-- a word is `help`
abbrev pub is_help : Text → Bool
is_help word = bytes_eq word (codes "help")

-- lines of the bus are the first of these words
abbrev pub begins_with_lines : List Text → Bool
begins_with_lines [] = false
begins_with_lines (word ∷ words) = not (length word == 0) && is_some (inverted_of word)

-- a word before these: `--invert` that no lines follow is that of all lines, so that a file's name may follow it
abbrev pub word_before : (word : Text) → (rest : List Text) → Text
word_before word rest =
    if bytes_eq word (codes "--invert") && not (begins_with_lines rest) then codes "--invert=ATN,CLOCK,DATA" else word

-- so up to `--`, behind which there are no options
abbrev pub with_lines : List Text → List Text
with_lines [] = []
with_lines (word ∷ words) =
    if bytes_eq word (codes "--") then word ∷ words else word_before word words ∷ with_lines words

-- `help` and `help COMMAND` ask for what `--help` and `COMMAND --help` do
abbrev pub helped : List Text → List Text
helped (program ∷ first ∷ []) = if is_help first then program ∷ codes "--help" ∷ [] else program ∷ first ∷ []
helped (program ∷ first ∷ command ∷ []) =
    if is_help first then program ∷ command ∷ codes "--help" ∷ [] else program ∷ first ∷ command ∷ []
helped words = words

-- the words as they are read
abbrev pub meant : List Text → List Text
meant words = with_lines (helped words)

-- a file's name after a sign (61), or nothing where there is none, and a byte 0
abbrev pub name_part : Option Text → List ℕ
name_part None = 0 ∷ []
name_part (Some name) = 61 ∷ name ++ 0 ∷ []

-- the names of the files that are read and written, and of the file of characters
abbrev pub names_part : TaskView → List ℕ
names_part task = name_part task.input ++ name_part task.output ++ name_part task.characters

-- the job of the task that words ask for
abbrev pub IsJobAsked : List Text → Job → Type 0
IsJobAsked words job = (task : TaskView) × (asked words ≡ Some (Ok task)) × (task.job ≡ job_view job)

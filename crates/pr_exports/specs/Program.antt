-- Trusted: what the program's two calls answer, and what they leave in both buffers. The messages may be any text.
use Rattle.std.specs.Prelude.{◌≡◌, ◌⊎◌, ◌≤◌, ◌<◌, ℕ, List, ◌++◌, length, drop}
use Rattle.pr_cli.specs.Answered.{AnswersLine, NamesFilesOfLine}
use Rattle.pr_cli.specs.Statuses.{status_of}
use Rattle.pr_cli.specs.declared.statuses.End.{End as Ending}
use Rattle.pr_exports.specs.Faults.{numbers_of}
use Rattle.pr_exports.specs.declared.program.End.{End}

-- the output is at the front of its buffer, and the rest is as it was; or the buffer is too small, and it is as it was; or the
-- status is above the greatest with which it is written
abbrev pub FillsBuffer : (output : List ℕ) → (status most : ℕ) → (old new : List ℕ) → End → Type 0
FillsBuffer output status most old new answer =
    ((status ≤ most) × (length output ≤ length old) × (answer.status ≡ status) × (new ≡ output ++ drop (length output) old))
    ⊎ ((status ≤ most) × (length old < length output) × (answer.status ≡ 4) × (new ≡ old))
    ⊎ ((most < status) × (answer.status ≡ status) × (new ≡ old))

-- a text is at the front of its buffer, and the rest is as it was; or the buffer is too small, and it is as it was
abbrev pub IsPut : (text old new : List ℕ) → Type 0
IsPut text old new =
    ((length text ≤ length old) × (new ≡ text ++ drop (length text) old))
    ⊎ ((length old < length text) × (new ≡ old))

-- the answer has both lengths, and the numbers of the fault
pub record HandsTexts
    (output messages : List ℕ) (end : Ending) (most : ℕ) (old new said told : List ℕ) (answer : End) : Type 0 where
  pub has_output : answer.output ≡ length output
  pub has_messages : answer.messages ≡ length messages
  pub has_fault : answer.fault ≡ (numbers_of end).0
  pub has_place : answer.place ≡ (numbers_of end).1
  pub has_column : answer.column ≡ (numbers_of end).2
  pub fills : FillsBuffer output (status_of end) most old new answer
  pub puts : IsPut messages said told

-- what the program writes for words, an input and a file of characters
abbrev pub TellsAnswer : (words input characters : List ℕ) → (most : ℕ) → (old new said told : List ℕ) → End → Type 0
TellsAnswer words input characters most old new said told answer =
    (output messages : List ℕ) × (end : Ending) × AnswersLine words input characters output end
    × HandsTexts output messages end most old new said told answer

-- the names of the files that words name
abbrev pub TellsNames : (words : List ℕ) → (old new said told : List ℕ) → End → Type 0
TellsNames words old new said told answer =
    (output messages : List ℕ) × (end : Ending) × NamesFilesOfLine words output end
    × HandsTexts output messages end 3 old new said told answer

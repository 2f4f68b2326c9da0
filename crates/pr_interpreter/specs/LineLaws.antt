-- What is certain of the lines of a text: they are sorted by their numbers, and of a number the line typed last counts.
use Rattle.std.specs.Prelude.{ℕ, ◌+◌, ◌≤◌, ◌≡◌, ◌==◌, List, [], ◌∷◌, if◌then◌else◌, Option, Some, None, Ok}
use Rattle.pr_interpreter.specs.declared.lines.Line.{Line}
use Rattle.pr_interpreter.specs.Lines.{enter, is_empty, program_lines}

-- the first line has at least a number, and each other more than the one before it
abbrev pub Ascend : ℕ → List Line → Type 0
Ascend least [] = Unit {0}
Ascend least (x ∷ xs) = (least ≤ x.number) × Ascend (x.number + 1) xs

-- the line of a number
abbrev pub line_of : ℕ → List Line → Option Line
line_of number [] = None
line_of number (x ∷ xs) = if x.number == number then Some x else line_of number xs

-- what a line that is typed leaves of its own number
abbrev pub typed_line : Line → Option Line
typed_line l = if is_empty l then None else Some l

-- the lines of every text are sorted, and no two have one number
abbrev pub LinesAscend : Type 0
LinesAscend = (text : List ℕ) (lines : List Line) → program_lines text ≡ Ok lines → Ascend 0 lines

-- a line that is typed is that of its number, and deletes it if it has nothing; the lines of other numbers stay
abbrev pub TypedLinesCount : Type 0
TypedLinesCount = (l : Line) (lines : List Line) (number : ℕ)
    → line_of number (enter l lines) ≡ (if l.number == number then typed_line l else line_of number lines)

-- the places of a line are in a text of so many bytes
pub record IsWithin (size : ℕ) (l : Line) : Type 0 where
  pub order : l.start ≤ l.end
  pub within : l.end ≤ size

abbrev pub AreWithin : ℕ → List Line → Type 0
AreWithin size [] = Unit {0}
AreWithin size (x ∷ xs) = IsWithin size x × AreWithin size xs

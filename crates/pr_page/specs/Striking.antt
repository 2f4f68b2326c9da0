-- Machine steps: what a head does beside a printer that takes the same inputs. No reader needs to believe them.
use Rattle.std.specs.Prelude.{◌≡◌, ◌+◌, ◌≤◌, List, ◌++◌}
use Rattle.pr_page.specs.Acts.{Act}
use Rattle.pr_page.specs.Lines.{line_dots}
use Rattle.pr_page.specs.Marks.{marks_on}
use Rattle.pr_page.specs.Steps.{sheet_after_all, step}
use Rattle.pr_page.specs.declared.carriage.Carriage.{Carriage}
use Rattle.pr_page.specs.declared.carriage.Made.{Made}
use Rattle.pr_page.specs.declared.carriage.MarkOnPaper.{MarkOnPaper}
use Rattle.pr_page.specs.declared.head.Head.{Head}
use Rattle.pr_page.specs.declared.input.Input.{Input}
use Rattle.pr_page.specs.declared.sheet.Sheet.{Sheet}
use Rattle.pr_page.specs.declared.state.PrinterState.{PrinterState}

-- the carriage of a sheet
abbrev pub carriage_of : Sheet → Carriage
carriage_of sheet = record { y = sheet.y; position = sheet.position }

-- the marks of a sheet
abbrev pub marks_of_sheet : Sheet → List MarkOnPaper
marks_of_sheet sheet = marks_on sheet.paper sheet.y

-- the head of a printer
abbrev pub head_of : PrinterState → Head
head_of s = record { settings = s.settings; lower = s.lower; pending = s.pending; carriage = carriage_of s.sheet }

-- a sheet after another one has these marks more, and its carriage is here
pub record Adds (old new : Sheet) (carriage : Carriage) (marks : List MarkOnPaper) : Type 0 where
  pub carriage_is : carriage_of new ≡ carriage
  pub marks_are : marks_of_sheet new ≡ marks_of_sheet old ++ marks

-- a carriage makes these marks where a sheet would get acts
abbrev pub Makes : Carriage → List Act → Carriage → List MarkOnPaper → Type 0
Makes old acts new marks = (sheet : Sheet) → carriage_of sheet ≡ old → Adds sheet (sheet_after_all sheet acts) new marks

-- a head makes these marks where a printer would take an input
abbrev pub StepsWith : Input → Head → Head → List MarkOnPaper → Type 0
StepsWith input old new marks =
    (s : PrinterState) → head_of s ≡ old
    → (head_of (step s input) ≡ new) × (marks_of_sheet (step s input).sheet ≡ marks_of_sheet s.sheet ++ marks)

-- the carriage stays in the line, or goes to the next one
abbrev pub IsWithin : Carriage → Carriage → Type 0
IsWithin old new = (new.position ≤ line_dots) × (new.y ≤ old.y + 21)

-- the marks begin within the line, and are no more than a repeat can ask for
abbrev pub IsInLine : Made → Type 0
IsInLine made = (made.x ≤ line_dots) × (made.count + made.next_count ≤ 255)

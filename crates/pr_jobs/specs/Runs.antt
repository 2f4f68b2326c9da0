-- Trusted: how a run begins, and how it ends.
use Rattle.std.specs.Prelude.{ℕ, Bool, true, false, not, List, count_by, length, nat_lt, Option, Some, None}
use Rattle.pr_page.specs.declared.paper.Mark.{Mark}
use Rattle.pr_page.specs.declared.paper.Mark.TheVariants.{Cell, Dots}
use Rattle.pr_page.specs.declared.paper.Paper.{Paper}
use Rattle.pr_page.specs.declared.paper.Placed.{Placed}
use Rattle.pr_render.specs.Svg.{all_zero}
use Rattle.pr_system.specs.declared.outcome.Outcome.{Outcome}
use Rattle.pr_serial.specs.declared.Present.{Present}
use Rattle.pr_bus.specs.declared.wires.Delays.{Delays}
use Rattle.pr_channels.specs.declared.faults.Stop.{Stop}
use Rattle.pr_basic.specs.declared.session.StatusMode.{StatusMode}
use Rattle.pr_jobs.specs.Formats.{has_rows}
use Rattle.pr_jobs.specs.declared.run.Ending.{Ending}
use Rattle.pr_jobs.specs.declared.run.Ending.TheVariants.{Done, Stopped}
use Rattle.pr_jobs.specs.declared.run.HeldMarks.{HeldMarks}
use Rattle.pr_jobs.specs.declared.run.PagesEnd.{PagesEnd}
use Rattle.pr_jobs.specs.declared.run.PaperEnd.{PaperEnd}
use Rattle.pr_jobs.specs.declared.run.RunEnd.{RunEnd}
use Rattle.pr_jobs.specs.declared.run.RunEnd.TheVariants as run
use Rattle.pr_jobs.specs.declared.run.Start.{Start}

-- a run with these printers present, these delays, and the status going on in this way
abbrev pub start_of : Present → Delays → StatusMode → Start
start_of present delays mode = record { present = present; delays = delays; mode = mode }

-- a run is stopped exactly if there is a stop
abbrev pub ending_of : Option (ℕ × Stop) → Ending
ending_of None = Done
ending_of (Some stop) = Stopped

-- the same with the statement and the error
abbrev pub run_end : Option (ℕ × Stop) → RunEnd
run_end None = run.Done
run_end (Some (statement, stop)) = run.Stopped statement stop

-- whether a run that ends so is stopped
abbrev pub ending_at : RunEnd → Ending
ending_at run.Done = Done
ending_at (run.Stopped statement stop) = Stopped

-- a mark is a character, or else a column of dots
abbrev pub is_character : Mark → Bool
is_character (Cell code lower reverse wide) = true
is_character (Dots column) = false

-- how many marks are of each kind
abbrev pub held_marks : List Placed → HeldMarks
held_marks marks = record {
  characters = count_by (λ placed. is_character placed.mark) marks;
  columns = count_by (λ placed. not (is_character placed.mark)) marks;
}

-- whether a row is printed on a paper, and the marks that its printer holds: those of a line that has not ended
abbrev pub paper_end : Paper → PaperEnd
paper_end paper = record { is_printed = has_rows paper; held = held_marks paper.held }

-- how a run ended, what came of its papers, and whether a byte went to the screen, or a statement called a device that did
-- not answer: its status is not 0
abbrev pub pages_end : Outcome → PagesEnd
pages_end outcome = record {
  run = run_end outcome.stop;
  four = paper_end outcome.paper4;
  five = paper_end outcome.paper5;
  has_screen = nat_lt 0 (length outcome.screen);
  has_unanswered = not (all_zero outcome.statuses);
}

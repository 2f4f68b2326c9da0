-- Trusted: the page text of an outcome: a line for each printer, row and mark, then the statuses,
-- the screen's bytes and the stop.
use Rattle.std.specs.Prelude.{ℕ, Bool, List, [], ◌∷◌, ◌++◌, codes, decimal, flat_map, if◌then◌else◌, Option, Some, None}
use Rattle.pr_page.specs.declared.paper.Placed.{Placed}
use Rattle.pr_page.specs.declared.paper.Row.{Row}
use Rattle.pr_page.specs.declared.paper.Paper.{Paper}
use Rattle.pr_page.specs.declared.paper.Mark.{Mark}
use Rattle.pr_page.specs.declared.paper.Mark.TheVariants.{Cell, Dots}
use Rattle.pr_channels.specs.Stops.{stop_number}
use Rattle.pr_channels.specs.declared.faults.Stop.{Stop}
use Rattle.pr_system.specs.declared.outcome.Outcome.{Outcome}

-- a word, only where a condition holds
abbrev pub word_if : Bool → List ℕ → List ℕ
word_if holds word = if holds then word else []

-- the words of a mark, after its dot column
abbrev pub mark_words : Mark → List ℕ
mark_words (Cell code lower reverse wide) =
    codes " cell " ++ decimal code ++ word_if lower (codes " lower") ++ word_if reverse (codes " reverse")
    ++ word_if wide (codes " wide")
mark_words (Dots value) = codes " dots " ++ decimal value

-- a mark's line
unfoldable pub mark_text : Placed → List ℕ
mark_text p = codes " " ++ decimal p.x ++ mark_words p.mark ++ codes "\n"

-- a row's line, and those of its marks
unfoldable pub row_text : Row → List ℕ
row_text r = codes "row " ++ decimal r.y ++ codes "\n" ++ flat_map mark_text r.marks

-- the marks of a line that has not ended
unfoldable pub held_text : List Placed → List ℕ
held_text [] = []
held_text (m ∷ ms) = codes "held\n" ++ flat_map mark_text (m ∷ ms)

-- the lines of a printer
unfoldable pub paper_text : ℕ → Paper → List ℕ
paper_text device p = codes "printer " ++ decimal device ++ codes "\n" ++ flat_map row_text p.rows ++ held_text p.held

-- a name, and numbers after it
unfoldable pub numbers_text : List ℕ → List ℕ → List ℕ
numbers_text name numbers = name ++ flat_map (λ n. codes " " ++ decimal n) numbers ++ codes "\n"

-- the stop with its place, counted from 1
unfoldable pub stop_text : Option (ℕ × Stop) → List ℕ
stop_text None = []
stop_text (Some stop) = codes "stop " ++ decimal (stop_number stop.1) ++ codes " at " ++ decimal stop.0 ++ codes "\n"

-- the lines after the printers
unfoldable pub end_text : List ℕ → List ℕ → Option (ℕ × Stop) → List ℕ
end_text statuses screen stop =
    numbers_text (codes "status") statuses ++ numbers_text (codes "screen") screen ++ stop_text stop

-- the page text of an outcome
unfoldable pub page_text : Outcome → List ℕ
page_text outcome =
    paper_text 4 outcome.paper4 ++ paper_text 5 outcome.paper5 ++ end_text outcome.statuses outcome.screen outcome.stop

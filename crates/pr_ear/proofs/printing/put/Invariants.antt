use Rattle.std.proofs.Common.{◌≡◌, ◌++◌, List, length, take}
use Rattle.pr_page.specs.Marks.{marks_made}
use Rattle.pr_page.specs.declared.carriage.MarkOnPaper.{MarkOnPaper}
use Rattle.pr_ear.specs.declared.printer_numbers.WireMark.{WireMark}
use Rattle.pr_ear.specs.Printing.{IsLaid}
use Rattle.pr_ear.proofs.printing.put.Given as goal

-- the marks so far are in the buffer
abbrev pub invariant-loop-index : goal.invariant-loop-index
invariant-loop-index l =
    (marks : List MarkOnPaper) (first : List WireMark) → l.at ≡ length marks → IsLaid marks first l.initial.out
    → IsLaid (marks ++ take l.index (marks_made l.made)) first l.out

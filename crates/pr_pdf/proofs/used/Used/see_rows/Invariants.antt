use Rattle.std.proofs.Common.{◌≡◌, List, ◌++◌, take}
use Rattle.pr_page.specs.declared.paper.Mark.{Mark}
use Rattle.pr_pdf.specs.Fonts.{used_of}
use Rattle.pr_pdf.specs.Pdf.{marks_of}
use Rattle.pr_pdf.proofs.used.Used.see_rows.Given as goal

-- what the marks of the rows so far use
abbrev pub invariant-loop-row : goal.invariant-loop-row
invariant-loop-row l = (before : List Mark) → l.fn.self ≡ used_of before → l.self ≡ used_of (before ++ marks_of (take l.row-index l.rows))

use Rattle.std.proofs.Common.{◌≡◌, List, ◌++◌, take}
use Rattle.std.specs.Prelude.{map}
use Rattle.pr_page.specs.declared.paper.Mark.{Mark}
use Rattle.pr_pdf.specs.Fonts.{used_of}
use Rattle.pr_pdf.proofs.used.Used.see_all.Given as goal

-- what the marks so far use
abbrev pub invariant-loop-placed : goal.invariant-loop-placed
invariant-loop-placed l = (before : List Mark) → l.fn.self ≡ used_of before → l.self ≡ used_of (before ++ map (λ p. p.mark) (take l.placed-index l.marks))

use Rattle.std.proofs.Common.{◌≡◌, List, ◌++◌, drop}
use Rattle.pr_page.specs.declared.paper.Mark.{Mark}
use Rattle.pr_render.specs.Defined.{marks_on, new_definitions}
use Rattle.pr_render.proofs.defined.Defined.define_all.Given as goal

-- whatever marks follow: the text so far and the definitions that are still wanted make the whole
abbrev pub invariant-loop-placed : goal.invariant-loop-placed
invariant-loop-placed l =
    (rest : List Mark) → l.text.items ++ new_definitions l.shapes l.self (marks_on (drop l.placed-index l.marks) ++ rest)
    ≡ l.fn.text.items ++ new_definitions l.shapes l.fn.self (marks_on l.marks ++ rest)

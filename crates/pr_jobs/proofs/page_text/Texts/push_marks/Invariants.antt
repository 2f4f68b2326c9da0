use Rattle.std.proofs.Common.{◌≡◌, ◌++◌, length}
use Rattle.std.specs.Prelude.{flat_map}
use Rattle.pr_jobs.specs.PageText.{mark_text}
use Rattle.pr_jobs.proofs.page_text.Texts.push_marks.Given as goal

-- the text so far and that of what is left make the whole
abbrev pub invariant-loop-rest : goal.invariant-loop-rest
invariant-loop-rest l = l.text ++ flat_map mark_text l.rest ≡ l.fn.text ++ flat_map mark_text l.marks

abbrev pub decreases-loop-rest : goal.decreases-loop-rest
decreases-loop-rest l = length l.rest

use Rattle.std.proofs.Common.{◌≡◌, ◌++◌, drop}
use Rattle.std.specs.Prelude.{flat_map}
use Rattle.pr_jobs.specs.PageText.{row_text}
use Rattle.pr_jobs.proofs.page_text.Texts.push_rows.Given as goal

-- the text so far and that of what is left make the whole
abbrev pub invariant-loop-row : goal.invariant-loop-row
invariant-loop-row l = l.text ++ flat_map row_text (drop l.row-index l.rows) ≡ l.fn.text ++ flat_map row_text l.rows

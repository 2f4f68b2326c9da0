use Rattle.std.proofs.Common.{◌≡◌, ◌++◌, length}
use Rattle.std.specs.Prelude.{flat_map}
use Rattle.std.specs.Vec.Iter.{into_iter_items, into_iter_len}
use Rattle.pr_jobs.specs.PageText.{row_text}
use Rattle.pr_jobs.proofs.page_text.Texts.move_rows.Given as goal

-- the text so far and that of the rows left make the whole
abbrev pub invariant-loop-row : goal.invariant-loop-row
invariant-loop-row l = record {
  text : l.text ++ flat_map row_text (into_iter_items l.row-iterator) ≡ l.fn.text ++ flat_map row_text (into_iter_items l.initial.row-iterator);
  count : into_iter_len l.row-iterator ≡ length (into_iter_items l.row-iterator);
}

use Rattle.std.proofs.Common.{◌≡◌, ◌≤◌, ◌++◌, drop}
use Rattle.pr_render.specs.Plain.{rows_text}
use Rattle.pr_render.proofs.plain.push_rows.Given as goal

-- the text so far and that of what is left make the whole
abbrev pub invariant-loop-row : goal.invariant-loop-row
invariant-loop-row l = record {
  text : l.text.items ++ rows_text l.look l.empty (drop l.row-index l.rows) ≡ l.fn.text.items ++ rows_text l.look 0 l.rows;
  within : l.empty ≤ 18446744073709551636;
}

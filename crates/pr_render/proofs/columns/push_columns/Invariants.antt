use Rattle.std.proofs.Common.{◌≡◌, ◌≤◌, ◌++◌, false, drop}
use Rattle.pr_render.specs.Plain.{trimmed, written}
use Rattle.pr_render.proofs.columns.push_columns.Given as goal

-- the text so far and that of what is left make the whole
abbrev pub invariant-loop-column : goal.invariant-loop-column
invariant-loop-column l = record {
  text : l.text.items ++ written l.look l.on (trimmed l.blanks (drop l.column-index l.columns))
      ≡ l.fn.text.items ++ written l.look false (trimmed 0 l.columns);
  few : l.blanks ≤ l.column-index;
}

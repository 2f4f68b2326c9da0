use Rattle.std.proofs.Common.{◌≡◌, ◌+◌, ◌-◌, ◌≤◌, length, take}
use Rattle.std.specs.List.{suffix_len}
use Rattle.pr_interpreter.specs.Lines.{is_in_row}
use Rattle.pr_interpreter.proofs.lines.column_of.Given as goal

abbrev pub invariant-loop-start : goal.invariant-loop-start
invariant-loop-start l = record {
  row :
      suffix_len is_in_row (take l.end l.text)
      ≡ l.end - l.start + suffix_len is_in_row (take l.start l.text);
  order : l.start ≤ l.end;
  within : l.end ≤ length l.text;
}

abbrev pub decreases-loop-start : goal.decreases-loop-start
decreases-loop-start l = l.start

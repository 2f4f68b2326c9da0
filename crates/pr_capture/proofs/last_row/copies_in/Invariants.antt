use Rattle.std.proofs.Common.{◌≡◌, ◌-◌, ◌*◌, ◌<◌, ◌≤◌, length, take}
use Rattle.pr_capture.specs.CsvSteps.{copies}
use Rattle.pr_capture.proofs.last_row.copies_in.Given as goal

-- this number of copies is at the front
abbrev pub invariant-loop-end : goal.invariant-loop-end
invariant-loop-end l = record {
  found : take l.end l.text ≡ copies l.count (take l.len l.text);
  long : l.end ≡ l.count * l.len;
  some : 0 < l.count;
  within : l.end ≤ length l.text;
}

abbrev pub decreases-loop-end : goal.decreases-loop-end
decreases-loop-end l = length l.text - l.end

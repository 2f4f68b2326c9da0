use Rattle.std.proofs.Common.{◌≡◌, ◌^◌, ◌<◌, length}
use Rattle.std.specs.Prelude.{option_copied}
use Rattle.pr_capture.specs.Csv.{is_twice}
use Rattle.pr_capture.specs.CsvSteps.{fields_left}
use Rattle.pr_capture.proofs.csv.is_twice.Given as goal

-- this many fields are left
abbrev pub decreases-loop-left : goal.decreases-loop-left
decreases-loop-left l = length (fields_left l.separator (option_copied l.left))

-- the fields left decide, and there are not too many
abbrev pub invariant-loop-left : goal.invariant-loop-left
invariant-loop-left l = record {
  left : is_twice l.name (fields_left l.separator (option_copied l.left)) ≡ is_twice l.name (fields_left l.separator (option_copied l.fields));
  few : length (fields_left l.separator (option_copied l.left)) < 2 ^ 64;
}

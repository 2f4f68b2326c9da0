use Rattle.std.proofs.Common.{◌≡◌, [], ◌^◌, ◌<◌, length}
use Rattle.std.specs.Prelude.{option_copied}
use Rattle.pr_capture.specs.Csv.{last_of}
use Rattle.pr_capture.specs.CsvSteps.{fields_left}
use Rattle.pr_capture.proofs.csv.last_of.Given as goal

-- this many fields are left
abbrev pub decreases-loop-left : goal.decreases-loop-left
decreases-loop-left l = length (fields_left l.separator (option_copied l.left))

-- the fields left decide, and there are not too many
abbrev pub invariant-loop-left : goal.invariant-loop-left
invariant-loop-left l = record {
  left : last_of l.last (fields_left l.separator (option_copied l.left)) ≡ last_of [] (fields_left l.separator (option_copied l.fields));
  few : length (fields_left l.separator (option_copied l.left)) < 2 ^ 64;
}

use Rattle.std.proofs.Common.{◌≡◌, false}
use Rattle.pr_capture.specs.Csv.{field_at, fields_of}
use Rattle.pr_capture.proofs.csv.field_at.Given as goal

-- this many fields are left to pass
abbrev pub decreases-loop-left : goal.decreases-loop-left
decreases-loop-left l = l.left

-- passing one leaves the field that is looked for
abbrev pub invariant-loop-left : goal.invariant-loop-left
invariant-loop-left l = field_at l.left (fields_of l.separator false l.rest) ≡ field_at l.place (fields_of l.separator false l.line)

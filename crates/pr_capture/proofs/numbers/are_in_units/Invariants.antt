use Rattle.std.proofs.Common.{◌≡◌, drop}
use Rattle.std.specs.List.{list_all}
use Rattle.pr_capture.specs.TableTimes.{is_in_unit}
use Rattle.pr_capture.proofs.numbers.are_in_units.Given as goal

-- the bytes left decide
abbrev pub invariant-loop-b : goal.invariant-loop-b
invariant-loop-b l = list_all is_in_unit (drop l.b-index l.bytes) ≡ list_all is_in_unit l.bytes

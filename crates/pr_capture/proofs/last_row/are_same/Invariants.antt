use Rattle.std.proofs.Common.{◌≡◌, drop}
use Rattle.std.specs.Str.{bytes_eq}
use Rattle.pr_capture.proofs.last_row.are_same.Given as goal

-- the bytes left decide
abbrev pub invariant-loop-i : goal.invariant-loop-i
invariant-loop-i l = bytes_eq (drop l.i l.bytes) (drop l.i l.others) ≡ bytes_eq l.bytes l.others

use Rattle.std.proofs.Common.{◌≡◌, drop}
use Rattle.pr_capture.specs.VcdReading.{bracket_from, bracket_in}
use Rattle.pr_capture.proofs.bits.bracket_in.Given as goal

-- the bytes left decide
abbrev pub invariant-loop-i : goal.invariant-loop-i
invariant-loop-i l = bracket_from l.i l.found (drop l.i l.text) ≡ bracket_in l.text

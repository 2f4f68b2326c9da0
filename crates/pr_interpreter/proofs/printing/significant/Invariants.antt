use Rattle.std.proofs.Common.{◌≡◌, ◌≤◌, take}
use Rattle.pr_interpreter.specs.Printing.{significant}
use Rattle.pr_interpreter.proofs.printing.significant.Given as goal

abbrev pub invariant-loop-i : goal.invariant-loop-i
invariant-loop-i l = (l.count ≡ significant (take l.i l.digits)) × (l.count ≤ l.i)

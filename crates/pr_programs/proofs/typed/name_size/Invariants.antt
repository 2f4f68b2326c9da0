use Rattle.std.proofs.Common.{◌≡◌, ◌+◌, drop}
use Rattle.pr_programs.specs.Typed.{name_size}
use Rattle.pr_programs.proofs.typed.name_size.Given as goal

-- all so far count
abbrev pub invariant-loop-i : goal.invariant-loop-i
invariant-loop-i l = name_size l.bytes ≡ l.i + name_size (drop l.i l.bytes)

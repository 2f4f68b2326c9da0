use Rattle.std.proofs.Common.{◌≡◌, ◌++◌, replicate}
use Rattle.pr_programs.proofs.typed.add_times.Given as goal

-- the byte this many times so far
abbrev pub invariant-loop-time : goal.invariant-loop-time
invariant-loop-time l = l.text.items ≡ l.initial.text.items ++ replicate l._time l.byte

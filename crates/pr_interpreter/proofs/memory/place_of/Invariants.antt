use Rattle.std.proofs.Common.{◌≡◌, ◌<◌, drop}
use Rattle.pr_interpreter.specs.Memory.{place_of}
use Rattle.pr_interpreter.proofs.memory.place_of.Given as goal

abbrev pub invariant-loop-i : goal.invariant-loop-i
invariant-loop-i l = record {
  found : place_of l.place (drop l.i l.bounds) (drop l.i l.indices) ≡ place_of 0 l.bounds l.indices;
  below : l.place < 65536;
}

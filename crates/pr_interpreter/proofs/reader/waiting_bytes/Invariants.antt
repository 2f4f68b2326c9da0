use Rattle.std.proofs.Common.{◌≡◌, ◌+◌, ◌<◌, drop}
use Rattle.pr_interpreter.specs.Expressions.{waiting_bytes}
use Rattle.pr_interpreter.proofs.reader.waiting_bytes.Given as goal

abbrev pub invariant-loop-it : goal.invariant-loop-it
invariant-loop-it l = record {
  all : l.size + waiting_bytes (drop l.it-index l.waiting) ≡ waiting_bytes l.waiting;
  few : l.size < 255;
}

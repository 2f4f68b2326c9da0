use Rattle.std.proofs.Common.{◌≡◌, ◌≤◌, drop, length}
use Rattle.pr_interpreter.specs.Values.{text_order}
use Rattle.pr_interpreter.proofs.values.text_order.Given as goal

abbrev pub invariant-bytes : goal.invariant-bytes
invariant-bytes l = record {
  order : text_order (drop l.i l.a) (drop l.i l.b) ≡ text_order l.a l.b;
  within : l.i ≤ length l.a;
}

use Rattle.std.proofs.Common.{◌≡◌, ◌+◌, ◌-◌, ◌≤◌, ◌++◌, length, max, replicate}
use Rattle.pr_interpreter.specs.Memory.{first_value}
use Rattle.pr_run.proofs.assignments.grow.Given as goal

abbrev pub invariant-grow : goal.invariant-grow
invariant-grow l = record {
  longer : length l.fn.elements.items ≤ length l.elements.items;
  within : length l.elements.items ≤ max (length l.fn.elements.items) (l.place + 1);
  items :
      l.elements.items
      ≡ l.fn.elements.items ++ replicate (length l.elements.items - length l.fn.elements.items) (first_value l.kind);
}

abbrev pub decreases-grow : goal.decreases-grow
decreases-grow l = l.place + 1 - length l.elements.items

use Rattle.std.proofs.Common.{◌≡◌, ◌≤◌, [], drop, length}
use Rattle.pr_basic.specs.Limits.{byte_limit}
use Rattle.pr_run.specs.Lists.{with_parts}
use Rattle.pr_run.specs.Seen.{state_of}
use Rattle.pr_run.proofs.lists.parts_bytes.Given as goal

abbrev pub invariant-each : goal.invariant-each
invariant-each l = record {
  found :
      with_parts l.program l.bytes.items (state_of l.run) (drop l.item-index l.items)
      ≡ with_parts l.program [] (state_of l.fn.run) l.items;
  within : length l.bytes.items ≤ byte_limit;
}

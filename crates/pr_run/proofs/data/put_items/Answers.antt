use Rattle.std.proofs.Common.{◌+◌, arith}
use Rattle.std.proofs.lemmas.List.{length-drop}
use Rattle.pr_run.proofs.DataLemmas.{items_all, items_begin, items_end, items_on, rest_taken}
use Rattle.pr_run.proofs.data.put_items.Goals as goal

pub loop-taken-init : goal.loop-taken-init
loop-taken-init c = record {
  found =
      items_begin c.args.line c.args.place c.front_size-taken.result c.args.bytes.now _ _ c.front_item.result
      c.front_item.ensures c.front_size-taken.ensures.value c.front_size-taken.ensures.within
      c.in_ok-push.ensures.items;
  within = c.front_size-taken.ensures.within;
}

pub loop-taken-preserved : goal.loop-taken-preserved
loop-taken-preserved c = record {
  found =
      items_on c.args.line c.args.place c.loop-taken.taken c.front_size-taken-in-loop-taken.result _ c.args.bytes.now _
      _ _ c.front_item-in-loop-taken.result c.loop-taken-test.true c.if-bytes-taken-eq44.true
      (rw rest_taken at c.front_item-in-loop-taken.ensures)
      (rw rest_taken at c.front_size-taken-in-loop-taken.ensures.value)
      (rw rest_taken at c.front_size-taken-in-loop-taken.ensures.within)
      c.in_ok-push-2.ensures.items c.loop-taken.invariant.found;
  within =
      let size = length-drop (c.loop-taken.taken + 1) c.args.bytes.now in
      let fits = rw rest_taken at c.front_size-taken-in-loop-taken.ensures.within in omega arith;
}

pub returns-else-bytes-taken-eq44 : goal.returns-else-bytes-taken-eq44
returns-else-bytes-taken-eq44 c =
    items_end c.args.line c.args.place c.loop-taken.taken _ c.args.bytes.now _ _ c.loop-taken-test.true
    c.if-bytes-taken-eq44.false c.loop-taken.invariant.found

pub returns-after-loop-taken : goal.returns-after-loop-taken
returns-after-loop-taken c =
    items_all c.args.line c.args.place c.loop-taken.taken c.args.bytes.now _ _ c.loop-taken-test.false
    c.loop-taken.invariant.found

use Rattle.std.proofs.Common.{◌<◌, ◌≤◌, length, arith}
use Rattle.std.proofs.lemmas.Result.{on_ok_weaker}
use Rattle.pr_run.proofs.ArrayLemmas.{array_index, set_found, set_nowhere}
use Rattle.pr_run.proofs.assignments.set_in_list.Goals as goal

pub returns-then-len-index : goal.returns-then-len-index
returns-then-len-index c =
    let place = rw c.as_slice.ensures.value at c.array_place-index.ensures in
    let all : length c.args.list.now.items ≤ array_index c.args.name c.args.list.now.items = omega arith in
    set_nowhere c.args.name c.args.place c.args.value c.args.list.now.items all

pub returns : goal.returns
returns c =
    let place = rw c.as_slice.ensures.value at c.array_place-index.ensures in
    let within : c.array_place-index.result < length c.args.list.now.items = omega arith in
    on_ok_weaker c.set_in_array.result
    (λ set. set_found c.args.name c.args.place c.args.value c.args.list.now.items c.array_place-index.result
    c.index_mut.result.now c.set_in_array.new.array place within c.index_mut.ensures.value set)
    c.set_in_array.ensures

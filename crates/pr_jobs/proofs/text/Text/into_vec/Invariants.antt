use Rattle.std.proofs.Common.{◌≡◌, ◌++◌, length}
use Rattle.std.specs.Vec.Iter.{into_iter_items, into_iter_len}
use Rattle.pr_render.specs.Sheets.{joined}
use Rattle.pr_jobs.proofs.text.Text.into_vec.Given as goal

-- the bytes so far and those of the blocks left make the bytes of all blocks
abbrev pub invariant-loop-block : goal.invariant-loop-block
invariant-loop-block l = record {
  text : l.whole.items ++ joined (into_iter_items l.block-iterator) ≡ joined (into_iter_items l.initial.block-iterator);
  count : into_iter_len l.block-iterator ≡ length (into_iter_items l.block-iterator);
}

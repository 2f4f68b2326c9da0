use Rattle.std.proofs.Common.{◌<◌, arith}
use Rattle.pr_listing.specs.Containers.{entry_count}
use Rattle.pr_listing.proofs.ContainerLemmas.{count-passed}
use Rattle.pr_listing.proofs.containers.tape_files.Goals as goal

pub loop-number-preserved : goal.loop-number-preserved
loop-number-preserved c =
    let within : c.loop-number._number < entry_count c.args.file.now = omega (arith, c.loop-number-test.true, c.entry_count-number-end.ensures.value) in
    record {
      counted = omega (arith, c.loop-number.invariant.counted, c.file_count-count.ensures.value, count-passed c.args.file.now c.loop-number.place _ c.loop-number._number within);
      few = omega (arith, c.loop-number.invariant.few, c.file_count-count.ensures.small);
      at = omega (arith, c.loop-number.invariant.at);
    }

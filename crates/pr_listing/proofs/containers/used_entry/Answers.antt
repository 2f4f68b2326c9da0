use Rattle.std.proofs.Common.{◌<◌, arith, sym, ◌∙◌}
use Rattle.pr_listing.specs.Containers.{entry_count}
use Rattle.pr_listing.proofs.ContainerLemmas.{used-passed}
use Rattle.pr_listing.proofs.containers.used_entry.Goals as goal

pub loop-number-preserved : goal.loop-number-preserved
loop-number-preserved c =
    let within : c.loop-number._number < entry_count c.args.file.now = omega (arith, c.loop-number-test.true, c.entry_count-number-end.ensures.value) in
    record {
      none = sym (used-passed _ _ _ _ within (sym c.is_used.ensures ∙ c.if-is_used.false)) ∙ c.loop-number.invariant.none;
      at = omega (arith, c.loop-number.invariant.at);
    }

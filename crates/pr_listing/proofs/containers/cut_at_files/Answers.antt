use Rattle.std.proofs.Common.{◌<◌, ◌+◌, ◌-◌, arith, ap, sym, ◌∙◌}
use Rattle.pr_listing.specs.Containers.{cut_at_files, entry_count}
use Rattle.pr_listing.proofs.ContainerLemmas.{cut-passed}
use Rattle.pr_listing.proofs.containers.cut_at_files.Goals as goal

pub loop-number-preserved : goal.loop-number-preserved
loop-number-preserved c =
    let within : c.loop-number._number < entry_count c.args.file.now = omega (arith, c.loop-number-test.true, c.entry_count-number-end.ensures.value) in
    record {
      nearest =
          ap (λ v. cut_at_files c.args.file.now c.args.start (c.loop-number.place + 32) v (entry_count c.args.file.now - (c.loop-number._number + 1))) c.nearer_end-stop.ensures
          ∙ (sym (cut-passed _ _ _ _ _ _ within) ∙ c.loop-number.invariant.nearest);
      at = omega (arith, c.loop-number.invariant.at);
    }

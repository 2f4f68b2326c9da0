use Rattle.std.proofs.Common.{◌≡◌, drop}
use Rattle.pr_run.specs.Outputs.{is_open}
use Rattle.pr_run.proofs.outputs.is_open.Given as goal

abbrev pub invariant-loop-other : goal.invariant-loop-other
invariant-loop-other l = is_open l.file (drop l.other-index l.files) ≡ is_open l.file l.files

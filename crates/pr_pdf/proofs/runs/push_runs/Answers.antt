use Rattle.std.proofs.Common.{arith}
use Rattle.std.proofs.lemmas.Grind.{common_steps}
use Rattle.std.proofs.lemmas.Result.{IfOk-equal}
use Rattle.pr_pdf.proofs.RunByRun.{runs_are}
use Rattle.pr_pdf.proofs.runs.push_runs.Goals as goal

pub returns : goal.returns
returns c = IfOk-equal c.push_close-2.result _ _ _ c.push_close-2.ensures (grind (arith, common_steps, runs_are c.args.height c.args.marks.now))

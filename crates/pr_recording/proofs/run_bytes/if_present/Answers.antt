use Rattle.std.proofs.Common.{[]}
use Rattle.pr_recording.proofs.run_bytes.if_present.Goals as goal

pub returns-clause-absent : goal.returns-clause-absent
returns-clause-absent c = λ absent. c.finish.ensures [] c.new.ensures

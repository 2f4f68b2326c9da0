use Rattle.pr_recording.proofs.Judges.{followed_none, judged_none}
use Rattle.pr_recording.proofs.judge.Judge.new.Goals as goal

pub returns-clause-judged : goal.returns-clause-judged
returns-clause-judged c = judged_none c.args.source _ c.new.ensures (followed_none _ c.new-2.ensures.accepted c.new-2.ensures.works)

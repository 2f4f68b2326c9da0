use Rattle.pr_report.proofs.FramesTimed.{told-none}
use Rattle.pr_report.proofs.frame_timer.FrameTimer.new.Goals as goal

pub returns-clause-told : goal.returns-clause-told
returns-clause-told c = told-none _ c.new.ensures.accepted c.new.ensures.works

use Rattle.pr_report.proofs.FramesTimed.{told-all, told-followed}
use Rattle.pr_report.proofs.frame_timer.FrameTimer.finish.Goals as goal

pub returns-clause-told : goal.returns-clause-told
returns-clause-told c = λ edges given h. told-all edges given c.args.self.now h

pub returns-clause-fault : goal.returns-clause-fault
returns-clause-fault c = λ edges given h. c.finish.ensures.fault edges h.frames (told-followed edges given c.args.self.now h)

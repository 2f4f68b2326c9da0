use Rattle.pr_report.proofs.FramesTimed.{refused-ends, told-followed, told-more}
use Rattle.pr_report.proofs.frame_timer.FrameTimer.take.Goals as goal

pub returns-in-Ok-clause-told : goal.returns-in-Ok-clause-told
returns-in-Ok-clause-told c = λ edges given h.
    told-more edges given c.args.self.now _ _ c.args.edge c.in-Ok.frame _ c.in-Ok.ensures.accepted c.in-Ok.ensures.moves c.note.ensures.frame c.note.ensures.look h

pub returns-in-Err-clause-fault : goal.returns-in-Err-clause-fault
returns-in-Err-clause-fault c = λ edges more given h. c.in-Err.ensures.fault edges more h.frames (told-followed edges given c.args.self.now h)

pub returns-in-Err-clause-ends : goal.returns-in-Err-clause-ends
returns-in-Err-clause-ends c = λ edges more given h. refused-ends edges more given c.args.self.now _ c.args.edge c.in-Err.fault c.in-Err.ensures.moves h

use Rattle.std.proofs.Common.{refl}
use Rattle.pr_recording.specs.declared.device_log.Ear.{Ear}
use Rattle.pr_recording.proofs.Logging.{hears_input, hears_no_input, hears_none}
use Rattle.pr_recording.proofs.device_log.DeviceLog.take.Goals as goal

pub returns-in_default : goal.returns-in_default
returns-in_default c = hears_none c.args.self.now c.args.reading c.in_default.ensures

pub returns-in-Some-hear : goal.returns-in-Some-hear
returns-in-Some-hear c =
    let new : Ear = record { listener = c.hear.new.self; log = c.take.new.self } in
    rw (← c.self.view_is) (hears_input c.frames_are_heard_in_turn.ensures.heard c.take.result c.self.inside.ear new c.args.reading c.in-Some.frame c.in-Some-hear.input c.in-Some.ensures
    c.in-Some-hear.ensures.heard c.take.ensures)

pub returns-in-None : goal.returns-in-None
returns-in-None c =
    let new : Ear = record { listener = c.hear.new.self; log = c.self.inside.ear.log } in
    rw (← c.self.view_is) (hears_no_input c.frames_are_heard_in_turn.ensures.heard c.self.inside.ear new c.args.reading c.in-Some.frame c.in-Some.ensures c.in-None.ensures.heard refl)

use Rattle.std.proofs.Common.{Bool, false, not, ◌&&◌, ◌||◌, Option, ap, ◌∙◌}
use Rattle.std.specs.Option.{option_map_or}
use Rattle.pr_wire.specs.declared.Frame.{Frame}
use Rattle.pr_recording.specs.declared.left_out.LeftOutLog.{LeftOutLog}
use Rattle.pr_recording.specs.LeftLogged.{left_with}
use Rattle.pr_recording.specs.LeftOut.{is_call, is_data}
use Rattle.pr_recording.proofs.LeftLogging.{one_left}
use Rattle.pr_recording.proofs.left_out.LeftOutLogTakes.take_reading.Goals as goal

pub returns-clause-taken : goal.returns-clause-taken
returns-clause-taken c =
    let old = c.args.self.now in
    let new : LeftOutLog = record { left = c.left_with-self.result; is_called = c.either-self.result } in
    let early : Option Frame → Bool = λ o. option_map_or is_data o false && not old.is_called in
    let calls : Option Frame → Bool = λ o. option_map_or is_call o false in
    one_left old new c.args.reading.now
    (c.left_with-self.ensures ∙ ap (left_with old.left c.args.reading.now) (c.is_early-early.ensures ∙ ap early c.acknowledged_frame-frame.ensures))
    (c.either-self.ensures ∙ ap (λ b. old.is_called || b) (c.is_call.ensures ∙ ap calls c.acknowledged_frame-frame.ensures))

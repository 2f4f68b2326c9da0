use Rattle.std.proofs.Common.{◌∙◌, sym}
use Rattle.pr_bus.specs.Answers.{answered_frames}
use Rattle.pr_bus.specs.Timed.{trace_from}
use Rattle.pr_bus.proofs.TimedLawful.{timed-spells}
use Rattle.pr_bus.proofs.HeardAsFrames.{HearingLaws, items-heard}
use Rattle.pr_bus.proofs.laws.items_are_heard_on_wires.Goals as goal

laws : (c : goal.After-traces_give_what_is_heard) → HearingLaws
laws c = record {
  listener = c.items_make_listeners.ensures;
  item = c.hearing_is_local.ensures.one_more;
  frame = c.frames_are_heard_in_turn.ensures.heard;
  listening = c.frames_are_heard_in_turn.ensures.listening;
  called = c.frames_are_heard_in_turn.ensures.called;
}

pub returns-clause-frames : goal.returns-clause-frames
returns-clause-frames c = items-heard (laws c)

pub returns-clause-wires : goal.returns-clause-wires
returns-clause-wires c = λ present delays device items a p.
    c.traces_give_what_is_heard.ensures.heard device (trace_from present delays items) (answered_frames present items) (timed-spells c.items_make_listeners.ensures present delays.computer delays.four delays.five items a)
    ∙ sym (items-heard (laws c) present device items a p)

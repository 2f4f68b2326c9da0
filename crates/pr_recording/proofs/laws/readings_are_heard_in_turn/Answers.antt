use Rattle.pr_recording.proofs.Adding.{readings-few, readings-more}
use Rattle.pr_recording.proofs.laws.readings_are_heard_in_turn.Goals as goal

pub returns-clause-more : goal.returns-clause-more
returns-clause-more c = readings-more c.frames_are_heard_in_turn.ensures.heard

pub returns-clause-few : goal.returns-clause-few
returns-clause-few c = readings-few c.frames_are_heard_in_turn.ensures.heard

use Rattle.pr_recording.proofs.ListeningTakes.{both_taken, room_for}
use Rattle.pr_recording.proofs.listening.call.Goals as goal

pub command_if-requires : goal.command_if-requires
command_if-requires g c = record { room = g.met.T.Takes.takes_fewer 1 1 c.args.taker.now c.requires.room }

pub command_if-requires-2 : goal.command_if-requires-2
command_if-requires-2 g c = record { room = c.in_ok-command_if.ensures.room 1 c.requires.room }

pub returns-clause-taken : goal.returns-clause-taken
returns-clause-taken g c =
    both_taken g.T.Takes.takes g.met.T.Takes.takes_both _ _ _ _ _ c.command_if-2.result c.in_ok-command_if.ensures.taken (rw c.is_lower.ensures at c.command_if-2.ensures.taken)

pub returns-clause-room : goal.returns-clause-room
returns-clause-room g c = room_for g.T.Takes.may_take 1 1 _ _ _ c.command_if-2.result c.in_ok-command_if.ensures.room c.command_if-2.ensures.room

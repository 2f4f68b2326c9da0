use Rattle.pr_recording.proofs.ListeningTakes.{both_taken, room_for}
use Rattle.pr_recording.proofs.listening.call_first.Goals as goal

pub call-requires-clause-room : goal.call-requires-clause-room
call-requires-clause-room g c = g.met.T.Takes.takes_fewer 2 2 c.args.taker.now c.requires.room

pub call-requires-2-clause-room : goal.call-requires-2-clause-room
call-requires-2-clause-room g c = c.in_ok-call.ensures.room 2 c.requires.room

pub returns-clause-taken : goal.returns-clause-taken
returns-clause-taken g c =
    both_taken g.T.Takes.takes g.met.T.Takes.takes_both _ _ _ _ _ c.call-2.result c.in_ok-call.ensures.taken c.call-2.ensures.taken

pub returns-clause-room : goal.returns-clause-room
returns-clause-room g c = room_for g.T.Takes.may_take 2 2 _ _ _ c.call-2.result c.in_ok-call.ensures.room c.call-2.ensures.room

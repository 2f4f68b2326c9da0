use Rattle.std.proofs.Common.{sym}
use Rattle.pr_run.proofs.OpenedLemmas.{room_full, room_left, room_taken}
use Rattle.pr_run.proofs.opened.has_room.Goals as goal

pub returns-then-size-gt-STACK : goal.returns-then-size-gt-STACK
returns-then-size-gt-STACK c =
    sym (room_full c.args.more c.args.opened.now c.loop-open.open-index c.loop-open.size c.loop-open.invariant
    c.if-size-gt-STACK.true)

pub loop-open-preserved : goal.loop-open-preserved
loop-open-preserved c =
    room_taken c.args.more c.open-item.result c.args.opened.now c.loop-open.open-index c.loop-open.size
    c.open_size-size.result c.loop-open-test.true c.open-item.is c.open_size-size.ensures c.loop-open.invariant

pub returns : goal.returns
returns c =
    room_left c.args.more c.args.opened.now c.loop-open.open-index c.loop-open.size c.loop-open-test.false
    c.loop-open.invariant

use Rattle.pr_recording.proofs.BusPrinting.{input-more}
use Rattle.pr_recording.proofs.bus_printer.BusPrinter.hear.Goals as goal

pub returns-in-Some-clause-ok : goal.returns-in-Some-clause-ok
returns-in-Some-clause-ok c =
    input-more c.frames_are_heard_in_turn.ensures.heard c.take.result c.args.self.now.listener.device c.args.self.now
    (record { listener = c.hear.new.self; printer = c.take.new.self; got_byte = c.with_input-self.result })
    c.args.frame c.in-Some.input c.in-Some.ensures.heard c.take.ensures.ok c.with_input-self.ensures

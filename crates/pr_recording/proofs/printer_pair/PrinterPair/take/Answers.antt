use Rattle.pr_recording.specs.declared.printer_pair.BusPrinters.{BusPrinters}
use Rattle.pr_recording.proofs.Taken.{frame-more, none-more}
use Rattle.pr_recording.proofs.printer_pair.PrinterPair.take.Goals as goal

pub returns-in_default-clause-taken : goal.returns-in_default-clause-taken
returns-in_default-clause-taken c = none-more c.args.self.now c.args.reading c.in_default.ensures

pub returns-clause-taken : goal.returns-clause-taken
returns-clause-taken c =
    let new : BusPrinters = record { four = c.hear-answer.new.self.four; five = c.hear-answer.new.self.five; failed = c.is_err-self-inside.result } in
    rw (← c.self.view_is) (frame-more c.hear-answer.result c.self.inside.printers new c.args.reading c.in-Some.frame c.in-Some.ensures
    c.is_err-self-inside.ensures.value c.hear-answer.ensures.four c.hear-answer.ensures.five)

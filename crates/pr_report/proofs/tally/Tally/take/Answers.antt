use Rattle.std.proofs.Common.{sym, ◌∙◌}
use Rattle.pr_report.proofs.Tallied.{tallied-more, tallied-none}
use Rattle.pr_report.proofs.tally.Tally.take.Goals as goal

pub returns-in_default : goal.returns-in_default
returns-in_default c = λ b i rs few h. tallied-none b i rs c.args.reading.now c.args.self.now (sym c.length.ensures ∙ c.in_default.is) h

pub returns : goal.returns
returns c = λ b i rs few h.
    tallied-more b i rs c.args.reading.now c.in-Some.length c.args.self.now c.add.new.self few (sym c.length.ensures ∙ c.in-Some.is) c.add.ensures h

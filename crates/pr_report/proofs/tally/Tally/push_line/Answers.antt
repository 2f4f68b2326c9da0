use Rattle.pr_report.proofs.Tallied.{line-told}
use Rattle.pr_report.proofs.tally.Tally.push_line.Goals as goal

pub returns : goal.returns
returns c = λ b i rs small h.
    line-told b i rs c.args.self.now c.args.text.now.items c.extend_from_slice.new.self.items c.push_known.new.text.items c.extend_from_slice-2.new.self.items
    c.name.result.now small h c.name.ensures c.in_ok-extend_from_slice.ensures.items c.in_ok-push_known.ensures c.in_ok-extend_from_slice-2.ensures.items

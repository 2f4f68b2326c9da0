use Rattle.std.proofs.Common.{◌+◌, ◌-◌, ◌^◌, Some, ap, min, ◌∙◌}
use Rattle.pr_report.specs.declared.brief_pulses.PulseCount.{PulseCount}
use Rattle.pr_report.specs.declared.brief_pulses.Turn.{Turn}
use Rattle.pr_report.proofs.PulsesCounted.{pulses-more}
use Rattle.pr_report.proofs.brief_pulses.PulseCount.take.Goals as goal

pub returns : goal.returns
returns c =
    let old = c.args.self.now in
    let new : PulseCount = record { last = Some c.turn_with.result; count = c.saturating_add-self.result } in
    pulses-more old new c.args.edge (c.saturating_add-self.ensures ∙ ap (λ n. min (old.count + n) (2 ^ 64 - 1)) c.brief_with.ensures)
    (ap (λ (t : Turn). Some t) c.turn_with.ensures)

use Rattle.pr_recording.proofs.Noting.{three_parts}
use Rattle.pr_recording.proofs.reading_log.push_summing_up.Goals as goal

pub returns : goal.returns
returns c = λ bounds given h.
    three_parts c.args.text.now.items c.push_summary.new.text.items c.push_conclusion.new.text.items c.push_oddities.new.text.items _ _ _
    (c.in_ok-push_summary.ensures bounds given h) (c.in_ok-push_conclusion.ensures bounds given h) c.in_ok-push_oddities.ensures

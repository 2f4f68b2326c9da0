use Rattle.pr_report.proofs.Parts.{put}
use Rattle.pr_report.proofs.oddities.push_other_signals.Goals as goal

pub returns : goal.returns
returns c =
    let t0 = c.args.text.now.items in
    put t0 c.push_if-2.new.text.items c.push_if-3.new.text.items _ _
    (put t0 c.push_if.new.text.items c.push_if-2.new.text.items _ _ c.in_ok-push_if.ensures c.in_ok-push_if-2.ensures)
    c.in_ok-push_if-3.ensures

use Rattle.pr_report.proofs.Parts.{put}
use Rattle.pr_report.proofs.verdict.push_edge.Goals as goal

pub returns : goal.returns
returns c =
    put c.args.text.now.items c.push_numbered.new.text.items c.extend_from_slice.new.self.items _ _ c.in_ok-push_numbered.ensures c.in_ok-extend_from_slice.ensures.items

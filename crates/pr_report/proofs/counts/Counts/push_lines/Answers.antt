use Rattle.pr_report.proofs.Parts.{put}
use Rattle.pr_report.proofs.counts.Counts.push_lines.Goals as goal

pub returns : goal.returns
returns c =
    let t0 = c.args.text.now.items in
    put t0 c.push_numbered-5.new.text.items c.extend_from_slice.new.self.items _ _
    (put t0 c.push_numbered-4.new.text.items c.push_numbered-5.new.text.items _ _
    (put t0 c.push_numbered-3.new.text.items c.push_numbered-4.new.text.items _ _
    (put t0 c.push_numbered-2.new.text.items c.push_numbered-3.new.text.items _ _
    (put t0 c.push_numbered.new.text.items c.push_numbered-2.new.text.items _ _ c.in_ok-push_numbered.ensures c.in_ok-push_numbered-2.ensures)
    c.in_ok-push_numbered-3.ensures)
    c.in_ok-push_numbered-4.ensures)
    c.in_ok-push_numbered-5.ensures)
    c.in_ok-extend_from_slice.ensures.items

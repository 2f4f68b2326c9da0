use Rattle.std.proofs.Common.{◌++◌, ap, ◌∙◌}
use Rattle.pr_report.specs.JsonText.{json_line, moments_text}
use Rattle.pr_report.proofs.Parts.{put}
use Rattle.pr_report.proofs.json_line.push_json_reading.Goals as goal

pub returns : goal.returns
unfolding json_line
returns c =
    let t0 = c.args.text.now.items in
    let t1 = c.push_what.new.text.items in
    let moments = c.in_ok-push_moments.ensures ∙ ap (λ x. t1 ++ moments_text x) c.transfer_of.ensures in
    put t0 c.push_intervals.new.text.items c.extend_from_slice.new.self.items _ _
    (put t0 c.push_end.new.text.items c.push_intervals.new.text.items _ _
    (put t0 c.push_moments.new.text.items c.push_end.new.text.items _ _
    (put t0 t1 c.push_moments.new.text.items _ _ c.in_ok-push_what.ensures moments)
    c.in_ok-push_end.ensures)
    c.in_ok-push_intervals.ensures)
    c.in_ok-extend_from_slice.ensures.items

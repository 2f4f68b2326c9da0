use Rattle.std.proofs.Common.{ℕ, List, ◌++◌, ap, ◌∙◌}
use Rattle.pr_report.specs.Intervals.{bounds_after}
use Rattle.pr_report.proofs.Parts.{put}
use Rattle.pr_report.proofs.interval.Interval.push_measure.Goals as goal

pub returns : goal.returns
returns c =
    let t0 = c.args.text.now.items in
    let t1 = c.extend_from_slice.new.self.items in
    let t2 = c.push_numbered.new.text.items in
    let t3 = c.push_bounds.new.text.items in
    let name = c.in_ok-extend_from_slice.ensures.items ∙ ap (λ (z : List ℕ). t0 ++ z) c.name.ensures in
    let bounds = c.in_ok-push_bounds.ensures ∙ ap (λ (z : List ℕ). t2 ++ bounds_after z c.args.bounds c.args.self) c.owner_words.ensures in
    put t0 t3 c.extend_from_slice-2.new.self.items _ _
    (put t0 t2 t3 _ _ (put t0 t1 t2 _ _ name c.in_ok-push_numbered.ensures) bounds)
    c.in_ok-extend_from_slice-2.ensures.items

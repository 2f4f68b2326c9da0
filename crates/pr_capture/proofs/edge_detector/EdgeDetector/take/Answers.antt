use Rattle.std.proofs.Common.{ap, ◌∙◌, Some}
use Rattle.pr_wire.specs.declared.Edge.{Edge}
use Rattle.pr_capture.specs.Gathering.{edge_before}
use Rattle.pr_capture.proofs.Gathering.{gathered-more}
use Rattle.pr_capture.proofs.edge_detector.EdgeDetector.take.Goals as goal

pub returns : goal.returns
returns c =
    let old = c.args.self.now in
    let counted = c.counted_from-next.ensures in
    gathered-more old _ c.args.sample _ c.hold.ensures.start (c.hold.ensures.held ∙ ap (λ (e : Edge). Some e) counted) c.hold.ensures.told
    (c.hold.ensures.edge ∙ ap (λ (e : Edge). edge_before old.held old.told e.time) counted)

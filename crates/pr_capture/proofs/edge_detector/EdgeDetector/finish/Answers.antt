use Rattle.pr_capture.proofs.Gathering.{gathered-all}
use Rattle.pr_capture.proofs.edge_detector.EdgeDetector.finish.Goals as goal

pub returns : goal.returns
returns c = gathered-all c.args.self _ c.edge_at_end.ensures

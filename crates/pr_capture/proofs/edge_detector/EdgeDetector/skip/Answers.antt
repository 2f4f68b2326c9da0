use Rattle.std.proofs.Common.{refl}
use Rattle.pr_capture.proofs.Gathering.{gathered-repeats}
use Rattle.pr_capture.proofs.edge_detector.EdgeDetector.skip.Goals as goal

pub returns : goal.returns
returns c = gathered-repeats c.args.self.now _ c.args.last c.counted_from.result c.requires c.counted_from.ensures refl refl refl

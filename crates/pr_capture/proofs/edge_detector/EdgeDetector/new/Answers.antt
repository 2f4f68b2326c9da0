use Rattle.std.proofs.Common.{refl}
use Rattle.pr_capture.proofs.Gathering.{gathered-none}
use Rattle.pr_capture.proofs.edge_detector.EdgeDetector.new.Goals as goal

pub returns : goal.returns
returns c = gathered-none c.args.start _ refl refl refl

use Rattle.std.proofs.Common.{ap}
use Rattle.pr_capture.specs.Recording.{CaptureContents}
use Rattle.pr_capture.specs.CsvSteps as csv
use Rattle.pr_capture.specs.VcdSteps as vcd
use Rattle.pr_capture.proofs.laws.given_samples_come_first.Goals as goal

pub returns-clause-dump : goal.returns-clause-dump
returns-clause-dump c = λ s text more given r h. ((vcd.contents_left r more).samples, ap (λ (t : CaptureContents). t.samples) (h.told more))

pub returns-clause-table : goal.returns-clause-table
returns-clause-table c = λ s rate text more given r h. ((csv.contents_left r more).samples, ap (λ (t : CaptureContents). t.samples) (h.told more))

use Rattle.pr_capture.proofs.Sifting.{steady_first}
use Rattle.pr_capture.proofs.pulse_filter.steady_edges_come_first.Goals as goal

pub returns : goal.returns
returns c = steady_first

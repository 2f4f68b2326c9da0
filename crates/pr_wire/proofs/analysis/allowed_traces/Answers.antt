use Rattle.pr_wire.proofs.Reached.{allowed-reached, reached-allowed, lawful-leads, leads-lawful, spells-comes_by, comes_by-spells, fault-reached, reached-more, reached-count}
use Rattle.pr_wire.proofs.analysis.allowed_traces.Goals as goal

pub returns : goal.returns
returns c = record {
  allowed = λ edges. (allowed-reached edges, reached-allowed edges);
  lawful = λ edges. (lawful-leads edges, leads-lawful edges);
  spelled = λ edges frames. (spells-comes_by edges frames, comes_by-spells edges frames);
  fault = fault-reached;
  step = record { step = reached-more; count = reached-count };
}

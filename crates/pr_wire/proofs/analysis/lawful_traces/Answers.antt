use Rattle.pr_wire.proofs.Lawful.{lawful-of_no_fault, no_fault-of_lawful, spells-one}
use Rattle.pr_wire.proofs.analysis.lawful_traces.Goals as goal

pub returns : goal.returns
returns c = record {
  faultless = λ edges. (λ h. no_fault-of_lawful edges h, λ h. lawful-of_no_fault edges h);
  once = λ edges fs gs h k. spells-one edges fs gs h k;
}

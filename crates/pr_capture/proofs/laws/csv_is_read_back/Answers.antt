use Rattle.pr_capture.proofs.CsvReadBack.{all-in-order, same-edges, samples-back}
use Rattle.pr_capture.proofs.laws.csv_is_read_back.Goals as goal

pub returns : goal.returns
returns c = record {
  samples = samples-back;
  edges = λ p u s rate es h k. samples-back p u s rate es h (all-in-order es k);
  same = same-edges;
}

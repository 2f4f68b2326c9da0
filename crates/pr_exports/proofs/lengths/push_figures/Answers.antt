use Rattle.pr_exports.proofs.Middles.{greatest_is_half}
use Rattle.pr_exports.proofs.lengths.push_figures.Goals as goal

pub middle-requires : goal.middle-requires
middle-requires c = record { all = rw c.greatest-greatest.ensures (greatest_is_half c.args.lengths.now) }

use Rattle.std.proofs.lemmas.List.{take_min}
use Rattle.pr_exports.proofs.settings.first_of.Goals as goal

pub returns : goal.returns
returns c = rw c.min.ensures (take_min 4096 c.args.bytes.now)

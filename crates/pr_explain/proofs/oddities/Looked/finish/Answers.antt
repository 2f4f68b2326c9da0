use Rattle.pr_explain.proofs.OddLemmas.{looked_end}
use Rattle.pr_explain.proofs.oddities.Looked.finish.Goals as goal

pub returns : goal.returns
returns c =
    looked_end c.args.self c.finish-cut.result c.with_byte-has_byte.result c.oddities.result c.finish-cut.ensures.read c.with_byte-has_byte.ensures c.oddities.ensures

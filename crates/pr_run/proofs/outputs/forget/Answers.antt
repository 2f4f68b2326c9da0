use Rattle.std.proofs.Common.{rules, not, ◌==◌}
use Rattle.std.proofs.lemmas.Fn.{filter_same}
use Rattle.pr_run.proofs.outputs.forget.Goals as goal

pub returns : goal.returns
returns c = filter_same _ (λ x. not (x == c.args.file)) _ (λ x b f h. search (rules, h)) _ _ c.retain.ensures.filtered

use Rattle.std.proofs.Common.{rules, not, ◌==◌}
use Rattle.std.proofs.lemmas.Fn.{filter_same}
use Rattle.pr_interpreter.proofs.lines.delete.Goals as goal

pub returns : goal.returns
returns c =
    filter_same _ (λ x. not (x.number == c.args.number)) _ (λ x b f h. search (rules, h)) _ _ c.retain.ensures.filtered

use Rattle.std.proofs.Common.{rules, ap, ◌∙◌, ◌++◌, take, arith, ◌+◌, ◌-◌}
use Rattle.pr_jobs.proofs.BlockLemmas.{take_put}
use Rattle.pr_jobs.proofs.short_text.ShortText.put.Goals as goal

pub returns-clause-text : goal.returns-clause-text
returns-clause-text c =
    take_put c.args.at c.self.inside.len (c.args.at + 16 - c.args.at) c.args.block.now c.copy_from_slice.new.self (omega arith) (search rules)
    ∙ ap (λ l. take c.args.at c.args.block.now ++ l) (search rules)

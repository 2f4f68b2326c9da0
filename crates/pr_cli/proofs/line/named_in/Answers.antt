use Rattle.pr_cli.proofs.line.named_in.Goals as goal

pub returns-in-Ok : goal.returns-in-Ok
returns-in-Ok c = rw (c.answered.ensures.end, c.answered.ensures.output) c.in-Ok.ensures

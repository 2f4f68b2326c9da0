use Rattle.pr_cli.proofs.line.answer_text.Goals as goal

pub returns-in-Ok : goal.returns-in-Ok
returns-in-Ok c = rw (c.as_slice.ensures.value, c.in-Ok.ensures) at c.answer_in_memory.ensures

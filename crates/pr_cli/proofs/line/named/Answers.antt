use Rattle.std.proofs.Common.{inl, refl}
use Rattle.pr_options.specs.Jobs.{task_view}
use Rattle.pr_cli.proofs.line.named.Goals as goal

pub returns-in-Ok : goal.returns-in-Ok
returns-in-Ok c =
    inl (
      task_view c.in-Ok.task,
      rw (c.as_slice-2.ensures.value, c.in_ok-texts.ensures, c.as_slice.ensures.value, c.in_ok-words.ensures) at c.in-Ok.ensures.ok,
      c.in_ok-names_of-in-Ok.ensures,
      refl,
    )

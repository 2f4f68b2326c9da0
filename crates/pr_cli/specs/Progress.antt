-- Words of calls: a reader that shows how many bytes have come.
use Rattle.pr_cli.specs.declared.progress.Progress.{Progress}

-- the reader that it reads from
abbrev pub counted : {T R : Type 0} → Progress T R → R
counted p = p.inner

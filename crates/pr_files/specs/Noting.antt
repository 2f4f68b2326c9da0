-- Words of calls: a reader or a writer that keeps the reason of its last failed call.
use Rattle.pr_files.specs.declared.noting.Noting.{Noting}

-- the reader or writer inside
abbrev pub noted : {T : Type 0} → Noting T → T
noted n = n.inner

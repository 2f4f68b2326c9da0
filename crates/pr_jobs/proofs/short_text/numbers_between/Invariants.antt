use Rattle.std.proofs.Common.{◌≡◌}
use Rattle.std.specs.Prelude.{vec_len}
use Rattle.pr_jobs.specs.Tables.{HasNumbers}
use Rattle.pr_jobs.proofs.short_text.numbers_between.Given as goal

abbrev pub invariant-loop-n : goal.invariant-loop-n
invariant-loop-n l = record {
  count : vec_len l.texts ≡ l.n;
  right : HasNumbers l.texts.items l.n l.before l.after;
}

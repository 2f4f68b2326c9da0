use Rattle.std.proofs.Common.{◌∙◌, ap₂, false, ◌||◌, length}
use Rattle.std.proofs.lemmas.Bool.{lt-ltb}
use Rattle.pr_explain.proofs.RowLemmas.{high_rows}
use Rattle.pr_explain.proofs.rows.after_high.Goals as goal

pub returns-clause-rows : goal.returns-clause-rows
returns-clause-rows c = λ eoi seen bit few e small.
    ap₂ (λ t u. t || (u || false)) (c.by_kind-low.ensures.takes e small) (c.by_kind-high.ensures.takes e small)
    ∙ (rw (c.atn.ensures, c.atn-2.ensures) (high_rows c.args.since e.time c.args.sending eoi seen bit e.levels.atn e.levels.clock e.levels.line (lt-ltb (length seen) 7 few)))

use Rattle.std.proofs.Common.{◌∙◌, ap, false, ◌||◌}
use Rattle.pr_explain.proofs.RowLemmas.{bit_row}
use Rattle.pr_explain.proofs.rows.after_bit.Goals as goal

pub returns-clause-rows : goal.returns-clause-rows
returns-clause-rows c = λ eoi seen e small.
    ap (λ t. t || false) (c.by_kind-row.ensures.takes e small)
    ∙ (rw c.atn.ensures (bit_row c.args.since e.time c.args.sending eoi seen c.args.bit e.levels.atn e.levels.clock e.levels.line))

use Rattle.std.proofs.Common.{ap, refl, ◌∙◌}
use Rattle.pr_explain.specs.TracePlaces.{missed_by}
use Rattle.pr_explain.proofs.EdgeLemmas.{stops_at_edge}
use Rattle.pr_explain.proofs.edges.place_in.Goals as goal

pub returns-in_default : goal.returns-in_default
returns-in_default c = λ edges h. c.place_at_end.ensures c.in_default.is edges h

pub returns : goal.returns
returns c = λ edges h.
    stops_at_edge c.args.is_whole edges c.args.followed.now c.in-Some.refused c.rows_after-expected.result _ c.allowed_traces.ensures.allowed c.in-Some.is h c.rows_after-expected.ensures.rows c.rows_after-expected.ensures.moments c.rows_after-expected.ensures.levels refl refl refl
    (c.missed_by-missed.ensures ∙ ap (λ r. missed_by r c.in-Some.refused.edge.time) c.row_to-row.ensures)

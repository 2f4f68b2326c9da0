use Rattle.pr_explain.proofs.EdgeLemmas.{rows_after_last, rows_at_start}
use Rattle.pr_explain.proofs.edges.rows_after.Goals as goal

pub returns-in-Some-clause-rows : goal.returns-in-Some-clause-rows
returns-in-Some-clause-rows c = λ edges frames h.
    rows_after_last c.allowed_traces.ensures.allowed c.allowed_traces.ensures.step c.rows_behind.result c.in-Some.last edges frames c.args.follower.now c.in-Some.is c.rows_behind.ensures.rows h

pub returns-in-None-clause-rows : goal.returns-in-None-clause-rows
returns-in-None-clause-rows c = λ edges frames h.
    rows_at_start c.allowed_traces.ensures.allowed c.allowed_traces.ensures.step edges frames c.args.follower.now c.in-None.is h

use Rattle.std.proofs.Common.{arith, refl}
use Rattle.std.proofs.lemmas.Grind.{common_steps}
use Rattle.pr_explain.proofs.EdgeLemmas.{goes_on, none_at_end, stops_at_end}
use Rattle.pr_explain.proofs.edges.place_at_end.Goals as goal

pub returns-then-not-is_whole : goal.returns-then-not-is_whole
returns-then-not-is_whole c = λ none edges h. goes_on c.args.is_whole edges c.args.followed.now c.allowed_traces.ensures.allowed (grind (arith, common_steps)) none h

pub returns-in-Ok : goal.returns-in-Ok
returns-in-Ok c = λ none edges h. none_at_end c.args.is_whole edges c.args.followed.now c.finish.result _ (grind (arith, common_steps)) c.in-Ok.is none h c.finish.ensures.fault

pub returns-in-Err : goal.returns-in-Err
returns-in-Err c = λ none edges h.
    stops_at_end c.args.is_whole edges c.args.followed.now c.finish.result c.in-Err.fault c.rows_after-expected.result _ c.allowed_traces.ensures.allowed (grind (arith, common_steps)) c.in-Err.is none h c.finish.ensures.fault
    c.rows_after-expected.ensures.rows c.rows_after-expected.ensures.moments c.rows_after-expected.ensures.levels refl refl refl refl

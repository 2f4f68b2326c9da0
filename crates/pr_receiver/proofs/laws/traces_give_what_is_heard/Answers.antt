use Rattle.pr_receiver.proofs.Ended.{traces-end, traces-give, fronts-end, fronts-of-traces, edges-give}
use Rattle.pr_receiver.proofs.laws.traces_give_what_is_heard.Goals as goal

pub returns-clause-heard : goal.returns-clause-heard
returns-clause-heard c = traces-give c.allowed_traces.ensures.spelled

pub returns-clause-frames : goal.returns-clause-frames
returns-clause-frames c = traces-end c.allowed_traces.ensures.spelled

pub returns-clause-fronts : goal.returns-clause-fronts
returns-clause-fronts c = fronts-end

pub returns-clause-fronts_of_traces : goal.returns-clause-fronts_of_traces
returns-clause-fronts_of_traces c = fronts-of-traces c.allowed_traces.ensures.spelled

pub returns-clause-edges : goal.returns-clause-edges
returns-clause-edges c = edges-give

use Rattle.pr_decode.proofs.PiecesRead.{traces-acknowledged, traces-say, traces-spell}
use Rattle.pr_decode.proofs.laws.traces_are_read.Goals as goal

pub returns-clause-moments : goal.returns-clause-moments
returns-clause-moments c = traces-say

pub returns-clause-spelled : goal.returns-clause-spelled
returns-clause-spelled c = traces-spell

pub returns-clause-acknowledged : goal.returns-clause-acknowledged
returns-clause-acknowledged c = traces-acknowledged

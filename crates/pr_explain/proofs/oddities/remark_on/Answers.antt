use Rattle.pr_explain.specs.declared.oddities.Remarks.{Remarks}
use Rattle.pr_explain.proofs.OddLemmas.{remarks}
use Rattle.pr_explain.proofs.oddities.remark_on.Goals as goal

pub returns : goal.returns
returns c =
    let made : Remarks = record { later = c.first_moment-later.result; oddities = c.in_ok-oddities.oddities } in
    remarks c.args.input c.args.recording.now c.in_ok-said.said.edges.items _ c.in_ok-said.said.fault made c.in_ok-said.ensures.says c.as_slice-edges.ensures.value c.first_moment-later.ensures c.in_ok-oddities.ensures

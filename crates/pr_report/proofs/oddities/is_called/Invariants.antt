use Rattle.std.proofs.Common.{◌≡◌, false, take}
use Rattle.std.specs.List.{list_any}
use Rattle.pr_report.specs.Oddities.{is_attention}
use Rattle.pr_report.proofs.oddities.is_called.Given as goal

-- no edge so far pulls ATN
abbrev pub invariant-loop-edge : goal.invariant-loop-edge
invariant-loop-edge l = list_any is_attention (take l.edge-index l.edges) ≡ false

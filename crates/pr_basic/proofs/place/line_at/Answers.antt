use Rattle.std.proofs.Common.{◌<◌, ◌-◌, arith, length}
use Rattle.pr_basic.proofs.LinesAt.{no_line_found, none_before, one_before}
use Rattle.pr_basic.proofs.place.line_at.Goals as goal

pub loop-rest-init : goal.loop-rest-init
loop-rest-init c = record { lines = none_before _ _; count = omega arith }

pub loop-rest-preserved : goal.loop-rest-preserved
loop-rest-preserved c =
    let some : 0 < length c.loop-rest.rest.now = grind arith in
    record {
      lines = one_before _ _ _ c.loop-rest.rest.now c.cut_line.result.0.now _ c.loop-rest.invariant.lines c.cut_line.ensures.lines some c.cut_line.ensures.size (omega arith);
      count = omega (arith, c.loop-rest.invariant.count, c.cut_line.ensures.less);
    }

pub returns : goal.returns
returns c = no_line_found _ _ _ _ c.loop-rest.invariant.lines (grind arith)

use Rattle.std.proofs.Common.{arith}
use Rattle.pr_explain.proofs.StopLemmas.{line_found, none_left, none_passed, one_passed}
use Rattle.pr_explain.proofs.stops.line_of.Goals as goal

pub loop-line-init : goal.loop-line-init
loop-line-init c = record { lines = none_passed _ _; count = omega arith }

pub loop-line-preserved : goal.loop-line-preserved
loop-line-preserved c = record {
  lines =
      one_passed _ _ _ _ c.loop-line.rest.now c.in_ok-first.first.bytes.now _ c.in_ok-first.first.count c.loop-line.invariant.lines c.in_ok-first.ensures.lines c.in_ok-first.ensures.count
      c.if-left-first.false;
  count = omega (arith, c.loop-line.invariant.count, c.in_ok-first.ensures.less);
}

pub returns-then-left-first : goal.returns-then-left-first
returns-then-left-first c =
    line_found _ _ _ _ c.loop-line.rest.now c.in_ok-first.first.bytes.now _ c.in_ok-first.first.count c.loop-line.invariant.lines c.in_ok-first.ensures.lines c.in_ok-first.ensures.count
    c.if-left-first.true

pub returns : goal.returns
returns c = λ statements is some within. absurd (none_left _ _ _ _ _ c.loop-line.invariant.lines (grind arith) statements is some within)

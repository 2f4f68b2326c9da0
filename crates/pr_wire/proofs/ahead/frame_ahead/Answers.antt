use Rattle.std.proofs.Common.{◌≡◌, arith}
use Rattle.pr_wire.proofs.ahead.frame_ahead.Goals as goal

pub returns-then-len-eq-PLAIN_EDGES-clause-passes : goal.returns-then-len-eq-PLAIN_EDGES-clause-passes
returns-then-len-eq-PLAIN_EDGES-clause-passes c =
    let e : c.args.len ≡ 20 = omega (arith, c.if-len-eq-PLAIN_EDGES.true) in
    rw e c.in_ok-byte.ensures.passes

pub returns-then-len-eq-ANSWERED_EDGES-clause-passes : goal.returns-then-len-eq-ANSWERED_EDGES-clause-passes
returns-then-len-eq-ANSWERED_EDGES-clause-passes c =
    let e : c.args.len ≡ 22 = omega (arith, c.if-len-eq-ANSWERED_EDGES.true) in
    rw e c.in_ok-byte-2.ensures.passes

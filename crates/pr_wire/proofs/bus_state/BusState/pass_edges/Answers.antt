use Rattle.std.proofs.Common.{◌≡◌, arith}
use Rattle.pr_wire.proofs.bus_state.BusState.pass_edges.Goals as goal

pub returns-then-len-eq-BITS_EDGES-clause-sooner : goal.returns-then-len-eq-BITS_EDGES-clause-sooner
returns-then-len-eq-BITS_EDGES-clause-sooner c =
    let e : c.args.len ≡ 17 = omega (arith, c.if-len-eq-BITS_EDGES.true) in
    rw e c.pass_bits.ensures.sooner

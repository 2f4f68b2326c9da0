use Rattle.std.proofs.Common.{arith, ◌∙◌}
use Rattle.pr_wire.proofs.BitPairs.{passes, passes-sooner, not-other}
use Rattle.pr_wire.proofs.bus_state.BusState.pass_bits.Goals as goal

pub returns-clause-passes : goal.returns-clause-passes
returns-clause-passes c =
    passes c.args.last c.args.self.now c.in-Bit.since c.in-Bit.sending c.in-Bit.eoi c.in-Bit.seen c.in-Bit.bit c.atn-2.result c.args.edges.now c.in_ok-byte.byte c.in-Bit.is (omega (arith, c.len.ensures.len, c.if-len-ne0.false)) (omega (arith, c.if-since-last.false)) (not-other _ _ c.if-bit-levels.false) (not-other _ _ c.if-levels-atn.false ∙ c.atn.ensures) c.atn-2.ensures c.in_ok-byte.ensures.brings

pub returns-clause-sooner : goal.returns-clause-sooner
returns-clause-sooner c =
    passes-sooner c.args.last c.args.self.now c.in-Bit.since c.in-Bit.sending c.in-Bit.eoi c.in-Bit.seen c.in-Bit.bit c.args.edges.now c.in_ok-byte.byte c.in-Bit.is (omega (arith, c.len.ensures.len, c.if-len-ne0.false)) (omega (arith, c.if-since-last.false)) (not-other _ _ c.if-bit-levels.false) (not-other _ _ c.if-levels-atn.false ∙ c.atn.ensures) c.in_ok-byte.ensures.brings

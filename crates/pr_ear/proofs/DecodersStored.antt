-- A decoder comes back from its numbers.
use Rattle.std.proofs.Common.{◌≡◌, Option, Some, None, refl, ap}
use Rattle.std.specs.Prelude.{◌==◌}
use Rattle.pr_decode.specs.declared.decoder.Decoder.{Decoder}
use Rattle.pr_decode.specs.declared.reading.Pulse.{Pulse}
use Rattle.pr_decode.specs.declared.reading.Transfer.{Transfer}
use Rattle.pr_decode.specs.declared.clock_phase.ClockPhase.{ClockPhase}
use Rattle.pr_decode.specs.declared.clock_phase.DataTransitions.{DataTransitions}
use Rattle.pr_decode.specs.declared.clock_phase.DataTransitions.TheVariants.{Still, Once, Twice, Thrice, Often}
use Rattle.pr_ear.specs.Decoding.{answer_ended, answered, byte_numbers, eoi_number}
use Rattle.pr_ear.specs.DecoderTaken.{begun_in, byte_from, byte_in, called_in, decoder_by, first_in, last_in, pulse_from, sent_in, stored, stretch_from, transfer_from, turn1, turn2, turn3, turn4, turns_from, turns_in, turns_number}
use Rattle.pr_ear.specs.Hearing.{edge_of}
use Rattle.pr_ear.proofs.Stored.{bit-back, edge-back}

-- turns come back
turns-back : (t : DataTransitions) → turns_from (turns_number t) (edge_of (turn1 t)) (edge_of (turn2 t)) (edge_of (turn3 t)) (edge_of (turn4 t)) ≡ t
turns-back Still = refl
turns-back (Once a) = ap (λ x. Once x) (edge-back a)
turns-back (Twice a b) = rw (edge-back a, edge-back b) refl
turns-back (Thrice a b c) = rw (edge-back a, edge-back b, edge-back c) refl
turns-back (Often a b c d) = rw (edge-back a, edge-back b, edge-back c, edge-back d) refl

-- and a stretch, if there is one
stretch-back : (o : Option ClockPhase)
    → stretch_from (begun_in o) (called_in o == 1) (edge_of (first_in o)) (edge_of (last_in o))
    (turns_from (turns_number (turns_in o)) (edge_of (turn1 (turns_in o))) (edge_of (turn2 (turns_in o))) (edge_of (turn3 (turns_in o))) (edge_of (turn4 (turns_in o)))) ≡ o
stretch-back None = refl
stretch-back (Some s) =
    let a = bit-back s.attention in
    let b = edge-back s.first in
    let c = edge-back s.last in
    let d = turns-back s.turns in
    rw (a, b, c, d) refl

-- and a byte
pulse-back : (p : Option Pulse) → pulse_from (eoi_number p) (answered p) (answer_ended p) ≡ p
pulse-back None = refl
pulse-back (Some p) = refl

byte-back : (t : Transfer) → byte_from (byte_numbers t) ≡ t
byte-back t =
    let a = bit-back t.opening.command in
    let b = pulse-back t.opening.pulse in
    rw (a, b) refl

transfer-back : (o : Option Transfer) → transfer_from (sent_in o) (byte_from (byte_in o)) ≡ o
transfer-back None = refl
transfer-back (Some t) = ap (λ x. Some x) (byte-back t)

-- a decoder comes back from its numbers
pub decoder-back : (d : Decoder) → decoder_by (stored d) ≡ d
decoder-back d =
    let a = stretch-back d.stretch in
    let b = transfer-back d.transfer in
    rw (a, b) refl

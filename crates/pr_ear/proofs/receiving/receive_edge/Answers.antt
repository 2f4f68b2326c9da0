use Rattle.std.proofs.Common.{[], ◌++◌, ◌∷◌, map, refl}
use Rattle.pr_ear.specs.Hearing.{edge_of}
use Rattle.pr_decode.specs.Frames.{acknowledged_frames}
use Rattle.pr_ear.proofs.Receivers.{next-given, received-next, received-on, still-back}
use Rattle.pr_ear.proofs.receiving.receive_edge.Goals as goal

pub returns-in_err-reading-clause-tells : goal.returns-in_err-reading-clause-tells
returns-in_err-reading-clause-tells c = λ device edges h.
    still-back device edges c.args.edge c.from_residual.result c.in_err-reading.field-0.0 c.from_residual.ensures.1
    (c.in_err-reading.ensures.tells edges h.given h.decoded)

pub returns-clause-tells : goal.returns-clause-tells
returns-clause-tells c = λ device edges h.
    let told = c.in_ok-reading.ensures.tells edges h.given h.decoded in
    let came = c.hear-received.ensures device (acknowledged_frames h.given) (next-given device edges c.args.receiver.now c.listener_for-listener.result h c.listener_for-listener.ensures) in (
      received-next device edges (edges ++ c.args.edge ∷ []) h.given c.in_ok-reading.reading c.hear-received.result
          (c.readings_add_up.ensures.given (map edge_of edges) h.given h.decoded.decoder h.decoded.read) told.0 came.0,
      told.1,
    )

pub returns-clause-takes : goal.returns-clause-takes
returns-clause-takes c = λ device edges h.
    let came = c.hear-received.ensures device (acknowledged_frames h.given) (next-given device edges c.args.receiver.now c.listener_for-listener.result h c.listener_for-listener.ensures) in
    received-on device edges c.args.edge c.args.receiver.now _ c.hear-received.new.listener c.in_ok-reading.reading h
    (c.in_ok-reading.ensures.takes edges h.given h.decoded) came.1 refl c.bit-receiver.ensures c.bit-receiver-2.ensures

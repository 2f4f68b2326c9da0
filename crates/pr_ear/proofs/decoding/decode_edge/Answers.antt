use Rattle.std.proofs.Common.{◌≡◌, false, true}
use Rattle.pr_ear.proofs.Decoded.{settled-next, stands-back, takes-on}
use Rattle.pr_ear.proofs.decoding.decode_edge.Goals as goal

pub returns-clause-takes : goal.returns-clause-takes
returns-clause-takes c = λ edges given h.
    takes-on edges given c.args.decoder.now c.store.result c.args.edge c.edge_for.result c.restore-restored.result c.take.new.self c.in_ok-reading.reading h
    c.restore-restored.ensures c.edge_for.ensures c.in_ok-reading.ensures.read c.in_ok-reading.ensures.last c.store.ensures

pub returns-clause-tells : goal.returns-clause-tells
returns-clause-tells c = λ edges given h. (
  settled-next c.readings_add_up.ensures.given edges given c.args.decoder.now c.store.result c.args.edge c.in_ok-reading.reading h
      (returns-clause-takes c edges given h),
  λ b. let x : false ≡ true = c.in_ok-reading.ensures.back.1
      (stands-back edges given c.args.decoder.now c.args.edge c.edge_for.result c.restore-restored.result h c.restore-restored.ensures c.edge_for.ensures b) in cc,
)

use Rattle.std.proofs.Common.{List, [], ◌++◌, ap, ◌∙◌}
use Rattle.pr_decode.specs.declared.reading.Reading.{Reading}
use Rattle.pr_exports.proofs.rows.readings_of.Goals as goal

pub returns : goal.returns
returns c =
    let tapes = c.in_ok-take_all.ensures.taped in
    let end = c.in_ok-end.ensures in
    let is = end.ends c.args.edges.now tapes.later (tapes.tapes [] [] c.new-tape.ensures.taped) in
    let first = tapes.taken ∙ ap (λ (l : List Reading). l ++ tapes.later) c.none-readings.ensures in
    record { stop = is.stop; readings = end.taken ∙ (ap (λ (l : List Reading). l ++ end.later) first ∙ is.readings) }

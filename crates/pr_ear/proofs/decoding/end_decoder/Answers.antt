use Rattle.std.proofs.Common.{map}
use Rattle.pr_ear.specs.Hearing.{edge_of}
use Rattle.pr_ear.proofs.Decoded.{read-back}
use Rattle.pr_ear.proofs.decoding.end_decoder.Goals as goal

pub returns : goal.returns
returns c = λ edges given h.
    let read = read-back edges given c.args.decoder.now c.restore.result h c.restore.ensures in
    (c.finish.ensures.settled (map edge_of edges) given read, c.finish.ensures.read (map edge_of edges) given read)

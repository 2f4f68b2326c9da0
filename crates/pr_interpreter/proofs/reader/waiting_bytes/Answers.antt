use Rattle.std.proofs.Common.{◌+◌}
use Rattle.pr_interpreter.proofs.ReaderLemmas.{bytes_left, bytes_many, bytes_taken}
use Rattle.pr_interpreter.proofs.reader.waiting_bytes.Goals as goal

pub returns-then-size-ge255 : goal.returns-then-size-ge255
returns-then-size-ge255 c =
    bytes_many c.args.waiting.now (c.loop-it.size + c.pending_bytes-size.result) _
    (bytes_taken _ c.args.waiting.now c.loop-it.it-index c.loop-it.size c.pending_bytes-size.result
    c.loop-it-test.true c.pending_bytes-size.ensures.value c.loop-it.invariant.all) c.if-size-ge255.true

pub returns : goal.returns
returns c =
    bytes_left c.args.waiting.now c.loop-it.it-index c.loop-it.size c.loop-it-test.false c.loop-it.invariant.all
    c.loop-it.invariant.few

use Rattle.std.proofs.Common.{rules, ◌+◌, ◌++◌, [], drop}
use Rattle.std.proofs.KnownBytes.{Appends-kept}
use Rattle.pr_render.specs.Sheets.{joined}
use Rattle.pr_input.specs.PartlyWritten.{AppendsFront}
use Rattle.pr_jobs.proofs.PieceLemmas.{written_more, written_front, written_all, block_next, block_last, on_err}
use Rattle.pr_jobs.proofs.TraceSteps.{whole_front}
use Rattle.pr_jobs.proofs.text.Text.write_to.Goals as goal

pub returns-in_err-write_piece-clause-err : goal.returns-in_err-write_piece-clause-err
returns-in_err-write_piece-clause-err g c =
    let full = c.self.inside.full.items in
    let last = c.self.inside.last.items in
    let i = c.loop-block.block-index in
    let old = g.W.Write.contents c.args.output.now.inner in
    let now = g.W.Write.contents c.loop-block.output.inner in
    let new = g.W.Write.contents c.write_piece.new.output.inner in
    let next = block_next c.as_slice-block-items.result.now full i c.block-item.result c.as_slice.result.now last
    c.as_slice-block-items.ensures.value c.loop-block-test.true c.block-item.is c.as_slice.ensures.value in
    rw (← c.self.view_is) (on_err c.from_residual.result (AppendsFront old new (joined full ++ last))
    (written_front old now new (joined full ++ last) (joined (drop i full) ++ last) c.as_slice.result.now (joined (drop (i + 1) full) ++ last) next c.loop-block.invariant.written c.in_err-write_piece.ensures.err))

pub loop-block-preserved : goal.loop-block-preserved
loop-block-preserved g c =
    let full = c.self.inside.full.items in
    let last = c.self.inside.last.items in
    let i = c.loop-block.block-index in
    let old = g.W.Write.contents c.args.output.now.inner in
    let now = g.W.Write.contents c.loop-block.output.inner in
    let new = g.W.Write.contents c.write_piece.new.output.inner in
    let next = block_next c.as_slice-block-items.result.now full i c.block-item.result c.as_slice.result.now last
    c.as_slice-block-items.ensures.value c.loop-block-test.true c.block-item.is c.as_slice.ensures.value in
    record {
      written = written_more old now new (joined full ++ last) (joined (drop i full) ++ last) c.as_slice.result.now (joined (drop (i + 1) full) ++ last) next c.loop-block.invariant.written c.in_ok-write_piece.ensures.ok;
      fresh = search rules;
    }

pub returns-in_err-write_piece-2-clause-err : goal.returns-in_err-write_piece-2-clause-err
returns-in_err-write_piece-2-clause-err g c =
    let full = c.self.inside.full.items in
    let last = c.self.inside.last.items in
    let i = c.loop-block.block-index in
    let old = g.W.Write.contents c.args.output.now.inner in
    let now = g.W.Write.contents c.loop-block.output.inner in
    let new = g.W.Write.contents c.write_piece-2.new.output.inner in
    let next = block_last c.as_slice-block-items.result.now full i c.as_slice-2.result.now last
    c.as_slice-block-items.ensures.value c.loop-block-test.false c.as_slice-2.ensures.value in
    rw (← c.self.view_is) (on_err c.from_residual-in_err-write_piece-2.result (AppendsFront old new (joined full ++ last))
    (written_front old now new (joined full ++ last) (joined (drop i full) ++ last) c.as_slice-2.result.now [] next c.loop-block.invariant.written c.in_err-write_piece-2.ensures.err))

pub returns-clause-err : goal.returns-clause-err
returns-clause-err g c =
    let full = c.self.inside.full.items in
    let last = c.self.inside.last.items in
    let i = c.loop-block.block-index in
    let old = g.W.Write.contents c.args.output.now.inner in
    let now = g.W.Write.contents c.loop-block.output.inner in
    let wrote = g.W.Write.contents c.write_piece-2.new.output.inner in
    let new = g.W.Write.contents c.flush.new.output.inner in
    let next = block_last c.as_slice-block-items.result.now full i c.as_slice-2.result.now last
    c.as_slice-block-items.ensures.value c.loop-block-test.false c.as_slice-2.ensures.value in
    let all = written_all old wrote (joined full ++ last) (written_more old now wrote (joined full ++ last) (joined (drop i full) ++ last) c.as_slice-2.result.now [] next c.loop-block.invariant.written c.in_ok-write_piece-2.ensures.ok) in
    rw (← c.self.view_is) (on_err c.flush.result (AppendsFront old new (joined full ++ last))
    (whole_front old new (joined full ++ last) (Appends-kept old wrote new (joined full ++ last) all c.flush.ensures.kept)))

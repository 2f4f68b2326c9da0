use Rattle.std.proofs.Common.{◌≡◌, ◌++◌, drop, false}
use Rattle.pr_render.specs.Sheets.{joined}
use Rattle.pr_jobs.proofs.PieceLemmas.{HasWritten}
use Rattle.pr_jobs.proofs.text.Text.write_to.Given as goal

-- all was written but the blocks left and the last one, and nothing has failed
abbrev pub invariant-loop-block : goal.invariant-loop-block
invariant-loop-block g l = record {
  written : HasWritten (g.W.Write.contents l.fn.output.inner) (g.W.Write.contents l.output.inner) (joined l.self-inside.full.items ++ l.self-inside.last.items) (joined (drop l.block-index l.self-inside.full.items) ++ l.self-inside.last.items);
  fresh : l.output.failed ≡ false;
}

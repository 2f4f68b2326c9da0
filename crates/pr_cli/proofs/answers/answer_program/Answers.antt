use Rattle.std.proofs.Common.{List, ℕ}
use Rattle.pr_cli.specs.Jobs.{EndsProgram}
use Rattle.pr_cli.proofs.FirstBytes.{read_whole}
use Rattle.pr_cli.proofs.answers.answer_program.Goals as goal

pub returns-in-Ok : goal.returns-in-Ok
returns-in-Ok g c =
    let Ends : List ℕ → Type 0 = λ whole. EndsProgram c.args.work.is_located c.args.work.shapes.now c.args.work.job
    c.args.steps whole (g.W.Write.contents c.args.writer) (g.W.Write.contents c.run_program.result.1) c.run_program.result.0 in
    read_whole (g.R.Read.remaining c.args.reader) c.read_bytes.result c.in-Ok.bytes c.as_slice.result.now Ends
    (g.W.Write.contents c.args.writer) (g.W.Write.contents c.run_program.result.1) c.run_program.result.0 c.read_bytes.ensures
    c.in-Ok.is c.as_slice.ensures.value c.run_program.ensures

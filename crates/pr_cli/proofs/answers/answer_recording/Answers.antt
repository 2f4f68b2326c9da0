use Rattle.std.proofs.Common.{◌≡◌, inl, subst, List, ℕ, take}
use Rattle.pr_options.specs.declared.command_line.Job.{Job}
use Rattle.pr_cli.specs.Jobs.{EndsJob, EndsRecording, first_bytes, found_job, started_job}
use Rattle.pr_cli.proofs.FirstBytes.{of_whole}
use Rattle.pr_cli.proofs.answers.answer_recording.Goals as goal

pub returns-in-Ok : goal.returns-in-Ok
returns-in-Ok g c =
    let P : List ℕ → Type 0 = λ bytes. c.in-Ok.work.job ≡ started_job c.args.work.before bytes (found_job (take first_bytes bytes) c.args.work.job) in
    let E : List ℕ → Job → Type 0 = λ text job. EndsJob c.args.work.is_located c.args.work.shapes.now job text (g.W.Write.contents c.args.writer) (g.W.Write.contents c.run_job.result.1) c.run_job.result.0 in
    let Q : List ℕ → Type 0 = λ text. E text c.in-Ok.work.job in
    let R : List ℕ → Type 0 = λ bytes. EndsRecording c.args.work.is_located c.args.work.shapes.now c.args.work.before c.args.work.job bytes (g.W.Write.contents c.args.writer) (g.W.Write.contents c.run_job.result.1) c.run_job.result.0 in
    let taken = rw (c.new-input.ensures.inner, c.new.ensures) at c.in-Ok.ensures.taken in
    let started = rw (c.new-input.ensures.inner, c.new.ensures) at c.in-Ok.ensures.work in
    let known = rw (c.into_inner.ensures, c.as_slice.ensures.value) at c.chain-whole.ensures.bytes in
    let ends = rw (c.in-Ok.ensures.shapes, c.in-Ok.ensures.located) at c.run_job.ensures in
    of_whole _ _ _ c.in-Ok.first.items P Q R taken known started ends (λ bytes is done. inl (subst (E bytes) is done))

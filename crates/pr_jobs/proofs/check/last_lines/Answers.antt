use Rattle.std.proofs.Common.{◌++◌, ap, codes, ◌∙◌}
use Rattle.pr_jobs.proofs.CheckLemmas.{told_lines, told_fault}
use Rattle.pr_jobs.proofs.check.last_lines.Goals as goal

pub returns-in_err-last-clause-lines : goal.returns-in_err-last-clause-lines
returns-in_err-last-clause-lines c = λ limit text h t.
    told_fault limit text _ _ c.in_err-last.field-0.0 c.from_residual.result h t (c.in_err-last.ensures.answer text t.frames t.checked) c.from_residual.ensures.1

pub returns-clause-lines : goal.returns-clause-lines
returns-clause-lines c = λ limit text h t.
    let k = told_lines text c.args.lines.items c.extend_from_slice.new.self.items c.args.checker c.in_ok-last.last t (c.in_ok-last.ensures.answer text t.frames t.checked)
    (c.in_ok-extend_from_slice.ensures.items ∙ ap (λ l. l ++ codes "lawful\n") c.in_ok-push_if_some.ensures) in
    (k.0, h, k.1, k.2)

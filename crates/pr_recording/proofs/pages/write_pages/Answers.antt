use Rattle.std.proofs.Common.{◌≡◌, ap, sym, ◌∙◌, Ok}
use Rattle.pr_jobs.specs.Formats.{text_in}
use Rattle.pr_recording.specs.Writes.{text_of_pages}
use Rattle.pr_recording.proofs.pages.write_pages.Goals as goal

pub returns-in-Err-clause-written : goal.returns-in-Err-clause-written
returns-in-Err-clause-written g c =
    let e : text_of_pages c.args.shapes.now c.args.format c.args.pages ≡ Ok c.in_ok-text.text =
    sym (ap (λ o. text_in c.args.shapes.now c.args.format c.args.pages.present o) c.papers_alone-outcome.ensures) ∙ c.in_ok-text.ensures in
    (c.in_ok-text.text, e, c.in-Err.ensures.err)

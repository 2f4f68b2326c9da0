use Rattle.std.proofs.Common.{◌∙◌, sym}
use Rattle.pr_cli.proofs.answers.choose_form.Goals as goal

pub returns-in-Some : goal.returns-in-Some
returns-in-Some g c = rw c.in-Some.is (rw c.in-Some.is at c.answer_recording.ensures)

pub returns-then-is_to_find : goal.returns-then-is_to_find
returns-then-is_to_find g c =
    let finds = sym c.is_to_find.ensures ∙ c.if-is_to_find.true in
    rw (c.in_default.is, finds) (rw c.in_default.is at c.answer_recording-then-is_to_find.ensures)

pub returns-in-Either : goal.returns-in-Either
returns-in-Either g c =
    let plain = sym c.is_to_find.ensures ∙ c.if-is_to_find.false in
    let form = sym c.form_of.ensures ∙ c.in-Either.is in
    rw (c.in_default.is, plain, form) c.answer_either.ensures

use Rattle.std.proofs.Common.{◌≡◌, ◌⊎◌, ◌∙◌, sym, subst}
use Rattle.pr_listing.specs.Found.{found_form}
use Rattle.pr_listing.specs.declared.form.ListingForm.TheVariants.{Program as Saved}
use Rattle.pr_programs.specs.declared.fault.BasicFault.{BasicFault}
use Rattle.pr_programs.specs.declared.fault.BasicFault.TheVariants.{NoMemory}
use Rattle.pr_programs.specs.Saved.{IsUnsaved}
use Rattle.pr_programs.proofs.SavedLemmas.{unsaved_is}
use Rattle.pr_programs.proofs.saved.typed_program.Goals as goal

pub returns-in-Ok-clause-ok : goal.returns-in-Ok-clause-ok
returns-in-Ok-clause-ok c =
    let is : found_form c.args.bytes.now ≡ Saved = sym c.found_form.ensures ∙ c.in-Program.is in
    let saved = rw c.program_in.ensures at c.in-Ok.ensures.ok in
    (is, rw c.from_vec.ensures saved)

pub returns-in-Err-clause-err : goal.returns-in-Err-clause-err
returns-in-Err-clause-err c =
    let is : found_form c.args.bytes.now ≡ Saved = sym c.found_form.ensures ∙ c.in-Program.is in
    let P : BasicFault → Type 0 = λ f. (f ≡ NoMemory) ⊎ IsUnsaved c.args.bytes.now f in
    subst P (sym c.unsaved.ensures) (unsaved_is c.args.bytes.now c.in-Err.fault is
    (rw c.program_in.ensures at c.in-Err.ensures.err))

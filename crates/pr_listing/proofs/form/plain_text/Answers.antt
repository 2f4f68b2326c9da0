use Rattle.std.proofs.Common.{◌≡◌, ◌⊎◌, sym, subst, List, ℕ, IfErr, IfOk}
use Rattle.pr_listing.specs.Containers.{program_in}
use Rattle.pr_listing.specs.Forms.{HasNoPlainText, HasPlainText}
use Rattle.pr_listing.specs.Listing.{IsProgramText}
use Rattle.pr_listing.specs.Program.{IsProgramFault}
use Rattle.pr_listing.specs.Typed.{IsTypedText}
use Rattle.pr_listing.specs.declared.fault.ListingFault.TheVariants.{NoMemory}
use Rattle.pr_listing.specs.declared.form.ListingForm.{ListingForm}
use Rattle.pr_listing.specs.declared.form.ListingForm.TheVariants.{Magazine, Petcat}
use Rattle.pr_listing.specs.declared.names.Spelling.TheVariants as spelling
use Rattle.pr_listing.proofs.FormLemmas.{complete, complete_program}
use Rattle.pr_listing.proofs.form.plain_text.Goals as goal

pub returns-in-Program-clause-ok : goal.returns-in-Program-clause-ok
returns-in-Program-clause-ok c =
    subst (λ (f : ListingForm). IfOk c.program_text.result (λ t. HasPlainText f c.args.bytes.items t.items)) (sym c.in-Program.is)
    (subst (λ (v : List ℕ). IfOk c.program_text.result (λ t. IsProgramText (program_in v) t.items)) c.deref.ensures.value
    (subst (λ (v : List ℕ). IfOk c.program_text.result (λ t. IsProgramText v t.items)) c.program_in.ensures c.program_text.ensures.ok))

pub returns-in-Program-clause-err : goal.returns-in-Program-clause-err
returns-in-Program-clause-err c =
    subst (λ (f : ListingForm). IfErr c.program_text.result (λ e. (e ≡ NoMemory) ⊎ HasNoPlainText f c.args.bytes.items e)) (sym c.in-Program.is)
    (subst (λ (v : List ℕ). IfErr c.program_text.result (λ e. (e ≡ NoMemory) ⊎ IsProgramFault (program_in v) e)) c.deref.ensures.value
    (subst (λ (v : List ℕ). IfErr c.program_text.result (λ e. (e ≡ NoMemory) ⊎ IsProgramFault v e)) c.program_in.ensures c.program_text.ensures.err))

pub returns-in-Program-clause-complete : goal.returns-in-Program-clause-complete
returns-in-Program-clause-complete c text has =
    complete_program (λ t. t.items) c.deref.result.now c.program_in.result.now text c.program_text.result c.program_in.ensures c.program_text.ensures.ok c.program_text.ensures.err
    (subst (λ (v : List ℕ). IsProgramText (program_in v) text) (sym c.deref.ensures.value) (subst (λ (f : ListingForm). HasPlainText f c.args.bytes.items text) c.in-Program.is has))

pub returns-in-Petcat-clause-complete : goal.returns-in-Petcat-clause-complete
returns-in-Petcat-clause-complete c text has =
    complete (λ t. t.items) Petcat c.deref-in-Petcat.result.now text c.typed_text.result c.typed_text.ensures.ok c.typed_text.ensures.err
    (subst (λ (v : List ℕ). IsTypedText spelling.Petcat v text) (sym c.deref-in-Petcat.ensures.value) (subst (λ (f : ListingForm). HasPlainText f c.args.bytes.items text) c.in-Petcat.is has))

pub returns-in-Magazine-clause-complete : goal.returns-in-Magazine-clause-complete
returns-in-Magazine-clause-complete c text has =
    complete (λ t. t.items) Magazine c.deref-in-Magazine.result.now text c.typed_text-in-Magazine.result c.typed_text-in-Magazine.ensures.ok c.typed_text-in-Magazine.ensures.err
    (subst (λ (v : List ℕ). IsTypedText spelling.Magazine v text) (sym c.deref-in-Magazine.ensures.value) (subst (λ (f : ListingForm). HasPlainText f c.args.bytes.items text) c.in-Magazine.is has))

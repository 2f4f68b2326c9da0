use Rattle.std.proofs.Common.{◌≡◌, ◌⊎◌, subst, List, ℕ}
use Rattle.std.specs.Prelude.{IfErr, IfOk, MatchResult}
use Rattle.pr_listing.specs.Forms.{HasNoPlainText, HasPlainText, plain_form}
use Rattle.pr_listing.specs.declared.fault.ListingFault.TheVariants.{NoMemory}
use Rattle.pr_listing.specs.declared.form.ListingForm.{ListingForm}
use Rattle.pr_listing.proofs.form.script_text.Goals as goal

pub returns-clause-ok : goal.returns-clause-ok
returns-clause-ok c =
    subst (λ (v : List ℕ). IfOk c.plain_text.result (λ t. HasPlainText (plain_form c.args.form v) c.args.bytes.items t.items)) c.deref.ensures.value
    (subst (λ (f : ListingForm). IfOk c.plain_text.result (λ t. HasPlainText f c.args.bytes.items t.items)) c.plain_form-plain.ensures c.plain_text.ensures.ok)

pub returns-clause-err : goal.returns-clause-err
returns-clause-err c =
    subst (λ (v : List ℕ). IfErr c.plain_text.result (λ e. (e ≡ NoMemory) ⊎ HasNoPlainText (plain_form c.args.form v) c.args.bytes.items e)) c.deref.ensures.value
    (subst (λ (f : ListingForm). IfErr c.plain_text.result (λ e. (e ≡ NoMemory) ⊎ HasNoPlainText f c.args.bytes.items e)) c.plain_form-plain.ensures c.plain_text.ensures.err)

pub returns-clause-complete : goal.returns-clause-complete
returns-clause-complete c =
    subst (λ (v : List ℕ). (text : List ℕ) → HasPlainText (plain_form c.args.form v) c.args.bytes.items text → MatchResult c.plain_text.result (λ t. t.items ≡ text) (λ e. e ≡ NoMemory)) c.deref.ensures.value
    (subst (λ (f : ListingForm). (text : List ℕ) → HasPlainText f c.args.bytes.items text → MatchResult c.plain_text.result (λ t. t.items ≡ text) (λ e. e ≡ NoMemory)) c.plain_form-plain.ensures c.plain_text.ensures.complete)

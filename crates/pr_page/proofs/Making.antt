-- A head goes along with a printer that takes the same inputs.
use Rattle.std.proofs.Common.{◌≡◌, ℕ, Bool, List, [], ◌∷◌, ◌++◌, length, refl, sym, ap, ◌∙◌, subst, arith, ◌+◌, length-append}
use Rattle.std.proofs.lemmas.List.{append-nil}
use Rattle.pr_page.specs.Making.{HasMade}
use Rattle.pr_page.specs.Marks.{marks_on}
use Rattle.pr_page.specs.Page.{IsPage}
use Rattle.pr_page.specs.Steps.{acts_of_tokens, pending_after, settings_of_tokens, start, state_after, step, tokens_by}
use Rattle.pr_page.specs.Striking.{IsWithin, Makes, StepsWith, carriage_of, head_of, marks_of_sheet}
use Rattle.pr_page.specs.declared.carriage.Carriage.{Carriage}
use Rattle.pr_page.specs.declared.carriage.MarkOnPaper.{MarkOnPaper}
use Rattle.pr_page.specs.declared.head.Head.{Head}
use Rattle.pr_page.specs.declared.input.Input.{Input}
use Rattle.pr_page.specs.declared.input.Input.TheVariants.{Select, Byte}
use Rattle.pr_page.specs.declared.paper.Paper.{Paper}
use Rattle.pr_page.specs.declared.pending.Pending.{Pending}
use Rattle.pr_page.specs.declared.settings.Settings.{Settings}
use Rattle.pr_page.specs.declared.state.PrinterState.{PrinterState}
use Rattle.pr_page.proofs.Parts.{after_tokens-parts}
use Rattle.pr_page.proofs.Refines.{state_after-page, state_after-push}
use Rattle.pr_page.proofs.Unique.{IsPage-unique}

-- a head by its parts
abbrev head_from : Settings → Bool → Pending → Carriage → Head
head_from settings lower pending carriage = record { settings = settings; lower = lower; pending = pending; carriage = carriage }

-- a byte
pub steps-byte : (b : ℕ) (old : Head) (settings : Settings) (pending : Pending) (carriage : Carriage) (marks : List MarkOnPaper) →
    ((lower : Bool) → settings ≡ settings_of_tokens old.settings (tokens_by old.pending lower b)) → pending ≡ pending_after old.pending b →
    Makes old.carriage (acts_of_tokens old.settings (tokens_by old.pending old.lower b)) carriage marks →
    StepsWith (Byte b) old (head_from settings old.lower pending carriage) marks
steps-byte b old settings pending carriage marks hs hp makes s e =
    let from : ((lower : Bool) → settings ≡ settings_of_tokens s.settings (tokens_by s.pending lower b)) → pending ≡ pending_after s.pending b →
    Makes (carriage_of s.sheet) (acts_of_tokens s.settings (tokens_by s.pending s.lower b)) carriage marks →
    (head_of (step s (Byte b)) ≡ head_from settings s.lower pending carriage) × (marks_of_sheet (step s (Byte b)).sheet ≡ marks_of_sheet s.sheet ++ marks) =
    λ hs hp makes.
    let tokens = tokens_by s.pending s.lower b in
    let parts = after_tokens-parts s tokens in
    let adds = makes s.sheet refl in (
      ap (λ (t : PrinterState). head_from t.settings t.lower (pending_after s.pending b) (carriage_of t.sheet)) parts
          ∙ ap (head_from (settings_of_tokens s.settings tokens) s.lower (pending_after s.pending b)) adds.carriage_is
          ∙ ap (λ settings. head_from settings s.lower (pending_after s.pending b) carriage) (sym (hs s.lower))
          ∙ ap (λ pending. head_from settings s.lower pending carriage) (sym hp),
      ap (λ (t : PrinterState). marks_of_sheet t.sheet) parts ∙ adds.marks_are,
    ) in
    subst (λ (old : Head). ((lower : Bool) → settings ≡ settings_of_tokens old.settings (tokens_by old.pending lower b)) → pending ≡ pending_after old.pending b →
    Makes old.carriage (acts_of_tokens old.settings (tokens_by old.pending old.lower b)) carriage marks →
    (head_of (step s (Byte b)) ≡ head_from settings old.lower pending carriage) × (marks_of_sheet (step s (Byte b)).sheet ≡ marks_of_sheet s.sheet ++ marks))
    e from hs hp makes

-- a selection
pub steps-select : (lower : Bool) (old : Head) → StepsWith (Select lower) old (head_from old.settings lower old.pending old.carriage) []
steps-select lower old s e =
    (ap (λ (old : Head). head_from old.settings lower old.pending old.carriage) e, sym (append-nil (marks_of_sheet s.sheet)))

-- one more input
pub HasMade-push : (inputs : List Input) (marks : List MarkOnPaper) (input : Input) (old new : Head) (more : List MarkOnPaper) →
    StepsWith input old new more → IsWithin old.carriage new.carriage → HasMade inputs marks old → HasMade (inputs ++ input ∷ []) (marks ++ more) new
HasMade-push inputs marks input old new more steps within h =
    let s = state_after start inputs in
    let pushed = state_after-push start inputs input in
    let both = steps s (sym h.head_is) in
    let longer : length (inputs ++ input ∷ []) ≡ length inputs + 1 = length-append inputs (input ∷ []) in
    record {
      head_is = sym both.0 ∙ ap head_of (sym pushed);
      marks_are = ap (λ marks. marks ++ more) h.marks_are ∙ sym both.1 ∙ ap (λ (s : PrinterState). marks_of_sheet s.sheet) (sym pushed);
      y = omega (arith, longer, within.1, h.y);
      position = within.0;
    }

-- the marks are those of the page
pub HasMade-page : (inputs : List Input) (marks : List MarkOnPaper) (head : Head) (paper : Paper) →
    HasMade inputs marks head → IsPage inputs paper → marks ≡ marks_on paper head.carriage.y
HasMade-page inputs marks head paper h page =
    let s = state_after start inputs in
    let one : s.sheet.paper ≡ paper = IsPage-unique inputs s.sheet.paper paper (state_after-page inputs) page in
    h.marks_are ∙ ap (λ paper. marks_on paper s.sheet.y) one ∙ ap (λ (head : Head). marks_on paper head.carriage.y) (sym h.head_is)

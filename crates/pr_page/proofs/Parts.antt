-- What tokens do, by its parts: the settings that they leave, and their acts on the sheet.
use Rattle.std.proofs.Common.{◌≡◌, List, [], ◌∷◌, ◌++◌, refl, sym, ap, ◌∙◌}
use Rattle.pr_page.specs.Token.{Token}
use Rattle.pr_page.specs.Acts.{Act, acts_in}
use Rattle.pr_page.specs.Modes.{modes_after}
use Rattle.pr_page.specs.Steps.{acts_of_tokens, settings_of_tokens, sheet_after, sheet_after_all, state_after_token, state_after_tokens}
use Rattle.pr_page.specs.declared.settings.Settings.{Settings}
use Rattle.pr_page.specs.declared.sheet.Sheet.{Sheet}
use Rattle.pr_page.specs.declared.state.PrinterState.{PrinterState}

-- acts after acts
pub sheet_after_all-append : (s : Sheet) (acts more : List Act) → sheet_after_all s (acts ++ more) ≡ sheet_after_all (sheet_after_all s acts) more
sheet_after_all-append s [] more = refl
sheet_after_all-append s (a ∷ acts) more = sheet_after_all-append (sheet_after s a) acts more

-- a state with other settings and another sheet
abbrev pub with_parts : PrinterState → Settings → Sheet → PrinterState
with_parts s settings sheet = record s { settings = settings; sheet = sheet }

-- the state after tokens
pub after_tokens-parts : (s : PrinterState) (tokens : List Token) →
    state_after_tokens s tokens ≡ with_parts s (settings_of_tokens s.settings tokens) (sheet_after_all s.sheet (acts_of_tokens s.settings tokens))
after_tokens-parts s [] = refl
after_tokens-parts s (t ∷ []) = refl
after_tokens-parts s (t ∷ u ∷ tokens) =
    after_tokens-parts (state_after_token s t) (u ∷ tokens)
    ∙ ap (with_parts s (settings_of_tokens s.settings (t ∷ u ∷ tokens)))
    (sym (sheet_after_all-append s.sheet (acts_in s.settings t) (acts_of_tokens (modes_after s.settings t) (u ∷ tokens))))

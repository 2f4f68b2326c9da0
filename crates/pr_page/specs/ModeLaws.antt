-- Laws: the modes at a token, looked up in the tokens before it. `modes_look_back` proves them.
use Rattle.std.specs.Prelude.{◌≡◌, ℕ, Bool, true, false, List, [], ◌∷◌, Some, None, ◌==◌, ◌||◌, ◌&&◌, not, if◌then◌else◌}
use Rattle.pr_page.specs.Modes.{modes_at}
use Rattle.pr_page.specs.Token.{Token, Plain}
use Rattle.pr_page.specs.declared.settings.Settings.{Settings}

-- the last byte by itself that counts after the tokens before it, or 0; the newest token is the first
abbrev pub last_byte : (List Token → ℕ → Bool) → List Token → ℕ
last_byte counts [] = 0
last_byte counts (Plain lower b ∷ before) = if counts before b then b else last_byte counts before
last_byte counts (t ∷ before) = last_byte counts before

-- the last of 8, 14 and 15
abbrev pub last_mode : List Token → ℕ
last_mode before = last_byte (λ earlier b. b == 8 || (b == 14 || b == 15)) before

-- the last of 14 and 15
abbrev pub last_width : List Token → ℕ
last_width before = last_byte (λ earlier b. b == 14 || b == 15) before

-- the last of 13, 18, and 146 outside graphic mode
abbrev pub last_reverse : List Token → ℕ
last_reverse before = last_byte (λ earlier b. b == 13 || (b == 18 || (b == 146 && not (last_mode earlier == 8)))) before

-- the last of 13, 17, and 145 outside graphic mode
abbrev pub last_set : List Token → ℕ
last_set before = last_byte (λ earlier b. b == 13 || (b == 17 || (b == 145 && not (last_mode earlier == 8)))) before

-- the modes that such bytes make: 8 is graphic mode, 14 double width, 18 reverse printing, 17 the lower/upper case set
-- and 145 the graphic/upper case set
abbrev pub modes_of : (mode width reverse set : ℕ) → Settings
modes_of mode width reverse set = record {
  graphic = mode == 8;
  wide = width == 14;
  reverse = reverse == 18;
  override_set = if set == 17 then Some true else (if set == 145 then Some false else None);
}

-- a law: the last code decides each mode
abbrev pub ModesLookBack : Type 0
ModesLookBack =
    (before : List Token) →
    modes_at before ≡ modes_of (last_mode before) (last_width before) (last_reverse before) (last_set before)

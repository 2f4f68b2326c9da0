-- Trusted: the control codes of the printer, a row for each (VIC-1525 User's Manual, "Control codes").
use Rattle.std.specs.Prelude.{ℕ, Bool, true, false, List, [], Some, None, ◌==◌, codes, if◌then◌else◌}
use Rattle.pr_page.specs.declared.settings.Settings.{Settings}

-- a control code: its name, whether it ends the line, and what it sets where it comes by itself
pub record Code : Type 0 where
  pub name : List ℕ
  pub ends_line : Bool
  pub sets : Settings → Settings

-- a row of the table
abbrev pub row : (name : List ℕ) → (ends_line : Bool) → (Settings → Settings) → Code
row name ends_line sets = record { name = name; ends_line = ends_line; sets = sets }

-- the row of a byte; one that is no code has no name, ends no line and sets nothing. 145 and 146 are columns of dots in
-- graphic mode
unfoldable pub code_of : ℕ → Code
code_of b =
    if b == 8 then row (codes "graphic mode") false (λ m. record m { graphic = true })
    else (if b == 10 then row (codes "line feed") true (λ m. m)
    else (if b == 13 then row (codes "return") true (λ m. record m { reverse = false; override_set = None })
    else (if b == 14 then row (codes "double width") false (λ m. record m { graphic = false; wide = true })
    else (if b == 15 then row (codes "standard width") false (λ m. record m { graphic = false; wide = false })
    else (if b == 16 then row (codes "column") false (λ m. m)
    else (if b == 17 then row (codes "lower case") false (λ m. record m { override_set = Some true })
    else (if b == 18 then row (codes "reverse on") false (λ m. record m { reverse = true })
    else (if b == 26 then row (codes "repeat") false (λ m. m)
    else (if b == 27 then row (codes "escape") false (λ m. m)
    else (if b == 145 then row (codes "upper case") false
    (λ m. if m.graphic then m else record m { override_set = Some false })
    else (if b == 146 then row (codes "reverse off") false (λ m. if m.graphic then m else record m { reverse = false })
    else row [] false (λ m. m))))))))))))

-- Laws: what follows from the definition of the script of what is performed. `scripts_read_back` proves them.
use Rattle.std.specs.Prelude.{◌≤◌, List, [], ◌∷◌, length, map, Some, None}
use Rattle.std.specs.List.{All}
use Rattle.pr_basic.specs.Grammar.{IsScript}
use Rattle.pr_basic.specs.Limits.{byte_limit, line_number_limit, statement_limit}
use Rattle.pr_basic.specs.Text.{Text}
use Rattle.pr_basic.specs.declared.statement.Statement.{Statement}
use Rattle.pr_basic.specs.declared.statement.Statement.TheVariants.{OpenFile, CloseFile, Cmd, PrintTo, Print, Rem}
use Rattle.pr_programs.specs.Scripts.{script_text}
use Rattle.pr_run.specs.declared.performed.Performed.{Performed}

-- the bytes of a list that a script can have
abbrev pub IsShort : Text → Type 0
IsShort line = (length line.bytes ≤ byte_limit) × All (λ b. b ≤ 255) line.bytes

-- a statement whose numbers are within the bounds of a script's
abbrev pub IsBounded : Statement → Type 0
IsBounded (OpenFile file device None) = (file ≤ 255) × (4 ≤ device) × (device ≤ 30)
IsBounded (OpenFile file device (Some second)) = (file ≤ 255) × (4 ≤ device) × (device ≤ 30) × (second ≤ 15)
IsBounded (CloseFile file) = file ≤ 255
IsBounded (Cmd file line) = (file ≤ 255) × IsShort line
IsBounded (PrintTo file line) = (file ≤ 255) × IsShort line
IsBounded (Print line) = IsShort line
IsBounded Rem = Unit {0}

abbrev pub AreBounded : List Performed → Type 0
AreBounded [] = Unit {0}
AreBounded (p ∷ ps) = (p.line ≤ line_number_limit) × IsBounded p.statement × AreBounded ps

-- the script of what is performed is read as just these statements
abbrev pub ScriptsReadBack : Type 0
ScriptsReadBack =
    (ps : List Performed) → AreBounded ps → length ps ≤ statement_limit
    → IsScript (script_text ps) (map (λ p. p.statement) ps)

-- Trusted: what a text is where nobody says whether it is a script or a program.
use Rattle.std.specs.Prelude.{ℕ, ◌≡◌, List, Ok}
use Rattle.pr_basic.specs.Grammar.{IsScript}
use Rattle.pr_basic.specs.declared.statement.Statement.{Statement}
use Rattle.pr_programs.specs.Typed.{typed}
use Rattle.pr_run.specs.declared.programs.Program.{Program}
use Rattle.pr_run.specs.Runs.{program_of}

-- a text that is no script, and reads as a program, with the names of keys in its strings: it is run
abbrev pub IsRun : List ℕ → Type 0
IsRun text = ((statements : List Statement) → IsScript text statements → ⊥)
    × ((bytes : List ℕ) × (program : Program) × (typed text ≡ Ok bytes) × (program_of bytes ≡ Ok program))

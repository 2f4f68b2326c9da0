-- Linking words: what a reader of parts gives, for the code's functions. No reader needs to believe them.
use Rattle.std.specs.Prelude.{◌≡◌, ◌⊎◌, ℕ, ◌+◌, Bool, List, [], ◌∷◌, ◌++◌, drop, Option, Some, None, Result, Ok, Err}
use Rattle.pr_interpreter.specs.declared.fault.ProgramFault.{ProgramFault}
use Rattle.pr_interpreter.specs.declared.fault.ProgramFault.TheVariants.{OutOfMemory}
use Rattle.pr_interpreter.specs.declared.lexemes.Lexeme.{Lexeme}
use Rattle.pr_interpreter.specs.declared.lines.Line.{Line}
use Rattle.pr_interpreter.specs.declared.program.ProgramLine.{ProgramLine}
use Rattle.pr_interpreter.specs.declared.statements.PlacedStatement.{PlacedStatement}
use Rattle.pr_interpreter.specs.Programs.{each_line}
use Rattle.pr_interpreter.specs.Reading.{Read, repeated}
use Rattle.pr_interpreter.specs.Statements.{flaw_of}

-- memory ran out, or the fault is that of a definition
abbrev pub FaultsAs : {A : Type 0} → ProgramFault → Result A ProgramFault → Type 0
FaultsAs fault wanted = (fault ≡ OutOfMemory) ⊎ (wanted ≡ Err fault)

-- items and the lexemes after the last of them lead on as others do
abbrev pub LeadsOn : {A : Type 0} → (List Lexeme → Bool) → (List Lexeme → Read A) → List A → List A → ℕ → List Lexeme
    → Type 0
LeadsOn more item old new n ls =
    (taken : ℕ) → repeated more item new (taken + n) 0 (drop n ls) ≡ repeated more item old taken 0 ls

-- statements follow others, and so many lexemes were read, as a definition has it
abbrev pub ReadsAs : List PlacedStatement → List PlacedStatement → ℕ → Read (List PlacedStatement) → Type 0
ReadsAs old new n (Ok r) = (new ≡ old ++ r.0) × (n ≡ r.1)
ReadsAs old new n (Err fault) = ⊥

abbrev pub FollowsIn : List PlacedStatement → List PlacedStatement → Option PlacedStatement → Type 0
FollowsIn old new None = ⊥
FollowsIn old new (Some s) = new ≡ old ++ s ∷ []

-- what stands in place of a statement that cannot be read follows others
abbrev pub Stands : List PlacedStatement → List PlacedStatement → ProgramFault → Type 0
Stands old new fault = FollowsIn old new (flaw_of fault)

-- lines with what follows lead on as others do before a line
abbrev pub LineLeads : List ℕ → Line → List ProgramLine → List ProgramLine → Type 0
LineLeads text l old new = (ls : List Line) → each_line text new ls ≡ each_line text old (l ∷ ls)

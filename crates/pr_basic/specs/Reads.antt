-- Linking words: what a function of the reader answered is what the reading words say, unless memory ran out. No reader needs to believe
-- it.
use Rattle.std.specs.Prelude.{◌≡◌, ◌∷◌, ◌++◌, ◌≤◌, length, ℕ, List, [], Option, Some, None, Result, Ok, Err}
use Rattle.std.specs.Borrow.{Bor}
use Rattle.pr_basic.specs.Text.{Text}
use Rattle.pr_basic.specs.Lexemes.{Lexeme}
use Rattle.pr_basic.specs.Lexing.{IsRest, here, later, lexemes_of, past}
use Rattle.pr_basic.specs.Grammar.{parts}
use Rattle.pr_basic.specs.FaultRules.{Placed, within}
use Rattle.pr_basic.specs.Reading.{line_in}
use Rattle.pr_basic.specs.ReadingScripts.{Passed, ScriptError, statements_in}
use Rattle.pr_basic.specs.declared.statement.Statement.{Statement}
use Rattle.pr_basic.specs.declared.fault.Flaw.{Flaw}
use Rattle.pr_basic.specs.declared.fault.LineFault.{LineFault}
use Rattle.pr_basic.specs.declared.fault.LineFault.TheVariants.{UnknownWord, BadNumber, BadDevice, BadSecond, BadByte, TooLong, TooMany, NoMemory}

-- a fault of the reader, placed among the lexemes of its part
abbrev pub placed : Flaw → Placed
placed e = (e.fault, within (here e.rest.now) e.inside)

-- a value and the bytes after it stand for that value and the lexemes after it, in the same part
abbrev pub Reads : {X : Type 0} → Result (X × Bor (List ℕ)) Flaw → Result (X × List Lexeme) Placed → List Lexeme
    → Type 0
Reads (Ok p) said more = (said ≡ Ok (p.0, here p.1.now)) × (later p.1.now ≡ more)
Reads (Err e) said more = said ≡ Err (placed e)

-- the bytes after a comma stand for the lexemes after it, in the same part
abbrev pub Passes : Result (Bor (List ℕ)) Flaw → Result (List Lexeme) Placed → List Lexeme → Type 0
Passes (Ok rest) said more = (said ≡ Ok (here rest.now)) × (later rest.now ≡ more)
Passes (Err e) said more = said ≡ Err (placed e)

-- a whole part
abbrev pub ReadsAll : {X : Type 0} → Result (X × Bor (List ℕ)) Flaw → Result X Placed → List Lexeme → Type 0
ReadsAll (Ok p) said more = (said ≡ Ok p.0) × (here p.1.now ≡ []) × (later p.1.now ≡ more)
ReadsAll (Err e) said more = said ≡ Err (placed e)

-- what holds unless memory ran out
abbrev pub UnlessMemory : LineFault → Type 0 → Type 0
UnlessMemory NoMemory said = Unit {0}
UnlessMemory UnknownWord said = said
UnlessMemory BadNumber said = said
UnlessMemory BadDevice said = said
UnlessMemory BadSecond said = said
UnlessMemory BadByte said = said
UnlessMemory TooLong said = said
UnlessMemory TooMany said = said

-- a fault but for lack of memory is the grammar's
abbrev pub Fails : {Y : Type 0} → Flaw → Result Y Placed → Type 0
Fails e said = UnlessMemory e.fault (said ≡ Err (placed e))

-- what was read, and what is left where a fault is, are in the same part of the same line
abbrev pub ReadsOn : {X : Type 0} → Result (X × Bor (List ℕ)) Flaw → List ℕ → Type 0
ReadsOn (Ok p) bytes = IsRest p.1.now bytes
ReadsOn (Err e) bytes = IsRest e.rest.now bytes

-- the list that went on with a lexeme and the bytes after it goes on with the rest
abbrev pub TakesItem : Text → Text → Lexeme → List ℕ → Bor (List ℕ) → Type 0
TakesItem old new l bytes rest =
    (line_in old.bytes old.ends (l ∷ here bytes) ≡ line_in new.bytes new.ends (here rest.now))
    × (later rest.now ≡ later bytes) × (length rest.now ≤ length bytes)

-- a whole part, of which a list was read
abbrev pub ReadsLine : Result (Text × Bor (List ℕ)) Flaw → Result Text Placed → List Lexeme → Type 0
ReadsLine (Ok p) said more = (said ≡ Ok p.0) × (here p.1.now ≡ []) × (later p.1.now ≡ more)
ReadsLine (Err e) said more = Fails e said

-- a whole part; a remark has the rest of its line
abbrev pub ReadsStatement : {X : Type 0} → Result (X × Bor (List ℕ)) Flaw → Result X Placed → List Lexeme → Type 0
ReadsStatement (Ok p) said more = (said ≡ Ok p.0) × (later p.1.now ≡ more)
ReadsStatement (Err e) said more = Fails e said

-- a fault is in a line: what is left there are the bytes after the lexemes before its place
pub record StandsIn {Y : Type 0} (f : LineFault) (rest : List ℕ) (inside : ℕ) (line : List ℕ)
    (said : Result Y (LineFault × Passed)) : Type 0 where
  pub done : List Lexeme
  pub told : said ≡ Err (f, record { done = done; inside = inside })
  pub left : rest ≡ past (length done) line

-- a fault but for lack of memory is the line's
abbrev pub FailsIn : {Y : Type 0} → Flaw → List ℕ → Result Y (LineFault × Passed) → Type 0
FailsIn e line said = UnlessMemory e.fault (StandsIn e.fault e.rest.now e.inside line said)

-- statements before those that were read
abbrev pub with_front : {E : Type 0} → List Statement → Result (List Statement) E → Result (List Statement) E
with_front front (Ok more) = Ok (front ++ more)
with_front front (Err e) = Err e

-- the statements of what is left of a line
abbrev pub still : ℕ → Option (Bor (List ℕ)) → Result (List Statement) (LineFault × Passed)
still room None = Ok []
still room (Some rest) = statements_in room (parts (lexemes_of rest.now))

-- a fault with a line's number and a place is the script's, but for lack of memory
abbrev pub FailsScript : {X : Type 0} → LineFault → ℕ → ℕ → Result X ScriptError → Type 0
FailsScript f n place said = UnlessMemory f (said ≡ Err (record { fault = f; number = n; place = place }))

-- What the reader of whole scripts answers, in the words of the grammar and of the table of faults.
use Rattle.std.proofs.Common.{◌≡◌, ℕ, List, refl, ap, sym, ◌∙◌, Result, Ok, Err, ◌⊎◌, inl, inr}
use Rattle.pr_basic.specs.Grammar.{IsScript}
use Rattle.pr_basic.specs.FaultPlaces.{IsFirstFaultAt, at_number}
use Rattle.pr_basic.specs.Faults.{IsFirstFault}
use Rattle.pr_basic.specs.ReadingScripts.{ScriptError, script_of}
use Rattle.pr_basic.specs.Reads.{FailsScript}
use Rattle.pr_basic.specs.declared.fault.LineFault.{LineFault}
use Rattle.pr_basic.specs.declared.fault.LineFault.TheVariants as line
use Rattle.pr_basic.specs.declared.fault.ScriptFault.{ScriptFault}
use Rattle.pr_basic.specs.declared.fault.ScriptFault.TheVariants.{NoMemory}
use Rattle.pr_basic.specs.declared.statement.Statement.{Statement}
use Rattle.pr_basic.proofs.ListFaults.{err_is}
use Rattle.pr_basic.proofs.ScriptsAgree.{script_complete, script_sound}
use Rattle.pr_basic.proofs.ScriptFaults.{first_fault_read, script_fails}

-- what is read of a whole script
abbrev Whole : Type 0
Whole = Result (List Statement) ScriptError

-- a fault but for lack of memory is the first one
pub refused : (bytes : List ℕ) (f : LineFault) (n place : ℕ) → FailsScript f n place (script_of bytes) → (at_number f n ≡ NoMemory) ⊎ IsFirstFaultAt bytes (at_number f n) place
refused bytes line.UnknownWord n place h = inr (script_fails bytes line.UnknownWord n place h)
refused bytes line.BadNumber n place h = inr (script_fails bytes line.BadNumber n place h)
refused bytes line.BadDevice n place h = inr (script_fails bytes line.BadDevice n place h)
refused bytes line.BadSecond n place h = inr (script_fails bytes line.BadSecond n place h)
refused bytes line.BadByte n place h = inr (script_fails bytes line.BadByte n place h)
refused bytes line.TooLong n place h = inr (script_fails bytes line.TooLong n place h)
refused bytes line.TooMany n place h = inr (script_fails bytes line.TooMany n place h)
refused bytes line.NoMemory n place h = inl refl

-- no text is a script and has a fault at a place
not_at : (bytes : List ℕ) (ss : List Statement) (fault : ScriptFault) (place : ℕ) → IsScript bytes ss → IsFirstFaultAt bytes fault place → ⊥
not_at bytes ss fault place h g =
    let r = first_fault_read bytes fault place g in
    let good : script_of bytes ≡ Ok ss = script_complete bytes ss h in
    let bad = r.1 in
    absurd (cc)

-- no text is a script and has a fault
pub not_both : (bytes : List ℕ) (ss : List Statement) (fault : ScriptFault) → IsScript bytes ss → IsFirstFault bytes fault → ⊥
not_both bytes ss fault h g = not_at bytes ss fault g.0 h g.1

-- where a script is refused, memory was
pub only_memory : (bytes : List ℕ) (f : LineFault) (n place : ℕ) (ss : List Statement) → FailsScript f n place (script_of bytes) → IsScript bytes ss → at_number f n ≡ NoMemory
only_memory bytes f n place ss h s = elim (refused bytes f n place h) [
  | inl e ↦ e
  | inr g ↦ absurd (not_at bytes ss (at_number f n) place s g)
]

-- a text is a script of one list
pub one_list : (bytes : List ℕ) (ss others : List Statement) → IsScript bytes ss → IsScript bytes others → ss ≡ others
one_list bytes ss others h k =
    let good : Whole = Ok ss in
    let said : good ≡ Ok others = sym (script_complete bytes ss h) ∙ script_complete bytes others k in
    cc

-- a text has one first fault at one place
pub one_place : (bytes : List ℕ) (fault other : ScriptFault) (place elsewhere : ℕ) → IsFirstFaultAt bytes fault place → IsFirstFaultAt bytes other elsewhere → (fault ≡ other) × (place ≡ elsewhere)
one_place bytes fault other place elsewhere h k =
    let r = first_fault_read bytes fault place h in
    let s = first_fault_read bytes other elsewhere k in
    let told : ScriptError = record { fault = h.0; number = r.0; place = place } in
    let same : told ≡ record { fault = k.0; number = s.0; place = elsewhere } = err_is told (record { fault = k.0; number = s.0; place = elsewhere }) (script_of bytes) r.1 s.1 in
    (r.2 ∙ (ap (λ (t : ScriptError). at_number t.fault t.number) same ∙ sym s.2), ap (λ (t : ScriptError). t.place) same)

-- a text has one first fault
pub one_fault : (bytes : List ℕ) (fault other : ScriptFault) → IsFirstFault bytes fault → IsFirstFault bytes other → fault ≡ other
one_fault bytes fault other h k = (one_place bytes fault other h.0 k.0 h.1 k.1).0

-- a text is a script, or it has a first fault
pub one_of_both : (bytes : List ℕ) → ((ss : List Statement) × IsScript bytes ss) ⊎ ((fault : ScriptFault) × IsFirstFault bytes fault)
one_of_both bytes = cases (script_of bytes) refl
  where
    cases : (r : Whole) → script_of bytes ≡ r → ((ss : List Statement) × IsScript bytes ss) ⊎ ((fault : ScriptFault) × IsFirstFault bytes fault)
    cases (Ok ss) h = inl (ss, script_sound bytes ss h)
    cases (Err e) h = inr (at_number e.fault e.number, (e.place, script_fails bytes e.fault e.number e.place h))

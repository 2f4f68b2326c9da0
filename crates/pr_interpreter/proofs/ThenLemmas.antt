use Rattle.std.proofs.Common.{◌≡◌, inl, inr, ℕ, ◌+◌, List, drop, refl, Ok, Err}
use Rattle.pr_interpreter.specs.Faults.{FaultsAs}
use Rattle.pr_interpreter.specs.Reading.{Read, and_then}
use Rattle.pr_interpreter.specs.declared.fault.ProgramFault.{ProgramFault}
use Rattle.pr_interpreter.specs.declared.lexemes.Lexeme.{Lexeme}

-- one part is read, and then the other
pub then_ok : {A B : Type 0} (first : Read A) (ls : List Lexeme) (more : A → List Lexeme → Read B) (a : A) (n : ℕ)
    (b : B) (m : ℕ) → first ≡ Ok (a, n) → more a (drop n ls) ≡ Ok (b, m) → and_then first ls more ≡ Ok (b, n + m)
unfolding and_then
then_ok first ls more a n b m e is = rw (e, is) refl

-- the first part is refused
pub first_refused : {A B : Type 0} (first : Read A) (ls : List Lexeme) (more : A → List Lexeme → Read B)
    (fault : ProgramFault) → first ≡ Err fault → and_then first ls more ≡ Err fault
unfolding and_then
first_refused first ls more fault e = rw e refl

-- the second part is refused
pub second_refused : {A B : Type 0} (first : Read A) (ls : List Lexeme) (more : A → List Lexeme → Read B) (a : A)
    (n : ℕ) (fault : ProgramFault) → first ≡ Ok (a, n) → more a (drop n ls) ≡ Err fault
    → and_then first ls more ≡ Err fault
unfolding and_then
second_refused first ls more a n fault e is = rw (e, is) refl

-- the same, of what is known of a fault
pub first_faults : {A B : Type 0} (first : Read A) (ls : List Lexeme) (more : A → List Lexeme → Read B)
    (fault : ProgramFault) → FaultsAs fault first → FaultsAs fault (and_then first ls more)
first_faults first ls more fault (inl none) = inl none
first_faults first ls more fault (inr e) = inr (first_refused first ls more fault e)

pub second_faults : {A B : Type 0} (first : Read A) (ls : List Lexeme) (more : A → List Lexeme → Read B) (a : A)
    (n : ℕ) (fault : ProgramFault) → first ≡ Ok (a, n) → FaultsAs fault (more a (drop n ls))
    → FaultsAs fault (and_then first ls more)
second_faults first ls more a n fault e (inl none) = inl none
second_faults first ls more a n fault e (inr is) = inr (second_refused first ls more a n fault e is)

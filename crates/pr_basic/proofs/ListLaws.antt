-- Laws of lists.
use Rattle.std.proofs.Common.{◌≡◌, ℕ, List, [], ◌∷◌, refl, subst, ◌∙◌, arith, Bool, true, Result, Ok, Err}
use Rattle.std.proofs.lemmas.Grind.{common_steps}
use Rattle.pr_base.specs.Digits.{number_of}
use Rattle.pr_basic.specs.Lexemes.{CloseParen, Digits, Lexeme, OpenParen, Word}
use Rattle.pr_basic.specs.FaultRules.{Placed}
use Rattle.pr_basic.specs.Reading.{byte_added, chr_added, chr_in, closed_in, line_in, number_in, ◌>>=◌}
use Rattle.pr_basic.specs.Reads.{Fails, UnlessMemory, placed}
use Rattle.pr_basic.specs.declared.lexemes.Keyword.TheVariants.{Chr}
use Rattle.pr_basic.specs.declared.fault.Flaw.{Flaw}
use Rattle.pr_basic.specs.declared.fault.LineFault.{LineFault}
use Rattle.pr_basic.specs.declared.fault.LineFault.TheVariants.{UnknownWord, BadNumber, BadDevice, BadSecond, BadByte, TooLong, TooMany, NoMemory}
use Rattle.pr_basic.specs.Text.{Text}

-- bytes, and the lexemes after them
abbrev and_rest : List Lexeme → List ℕ → Result (List ℕ × List Lexeme) Placed
and_rest ls more = Ok (more, ls)

-- a list goes on with the lexemes after its bytes
abbrev goes_on : List ℕ × List Lexeme → Result Text Placed
goes_on p = line_in p.0 true p.1

-- a byte that is added, and the list after it
after_byte : (r : Result (List ℕ) Placed) (ls : List Lexeme) → (r >>= λ more. line_in more true ls) ≡ (r >>= and_rest ls >>= goes_on)
after_byte (Ok bs) ls = refl
after_byte (Err e) ls = refl

-- a CHR$ with what is in its parentheses, and the list after it
pub chr_step : (bytes : List ℕ) (ends : Bool) (ls : List Lexeme) → line_in bytes ends (Word Chr ∷ ls) ≡ (chr_added (Word Chr ∷ ls) bytes ls >>= λ p. line_in p.0 true p.1)
unfolding line_in chr_added chr_in closed_in number_in
chr_step bytes ends [] = refl
chr_step bytes ends (OpenParen ∷ []) = refl
chr_step bytes ends (OpenParen ∷ Digits ds ∷ []) = grind (arith, common_steps)
chr_step bytes ends (OpenParen ∷ Digits ds ∷ CloseParen ∷ ls) = grind (arith, common_steps, after_byte (byte_added (Word Chr ∷ OpenParen ∷ Digits ds ∷ CloseParen ∷ ls) bytes (number_of ds)) ls)
chr_step bytes ends (OpenParen ∷ Digits ds ∷ l ∷ ls) = grind (arith, common_steps)
chr_step bytes ends (OpenParen ∷ l ∷ ls) = refl
chr_step bytes ends (l ∷ ls) = refl

-- what holds also holds unless memory ran out
pub unless_of : (f : LineFault) (P : Type 0) → P → UnlessMemory f P
unless_of NoMemory P h = tt
unless_of UnknownWord P h = h
unless_of BadNumber P h = h
unless_of BadDevice P h = h
unless_of BadSecond P h = h
unless_of BadByte P h = h
unless_of TooLong P h = h
unless_of TooMany P h = h

-- what follows from what holds unless memory ran out
pub unless_then : (f : LineFault) (P Q : Type 0) → (P → Q) → UnlessMemory f P → UnlessMemory f Q
unless_then NoMemory P Q k h = tt
unless_then UnknownWord P Q k h = k h
unless_then BadNumber P Q k h = k h
unless_then BadDevice P Q k h = k h
unless_then BadSecond P Q k h = k h
unless_then BadByte P Q k h = k h
unless_then TooLong P Q k h = k h
unless_then TooMany P Q k h = k h

-- a fault is reported
pub fails_of : {Y : Type 0} (e : Flaw) (said : Result Y Placed) → said ≡ Err (placed e) → Fails e said
fails_of e said h = unless_of e.fault _ h

-- what fails here fails the whole
pub fails_along : {X Y : Type 0} (f : LineFault) (x : Placed) (a : Result X Placed) (b : Result Y Placed) → (a ≡ Err x → b ≡ Err x) → UnlessMemory f (a ≡ Err x) → UnlessMemory f (b ≡ Err x)
fails_along f x a b k h = unless_then f _ _ k h

-- a CHR$ that fails fails the list
pub chr_fails : (bytes : List ℕ) (ends : Bool) (l : Lexeme) (ls : List Lexeme) (f : LineFault) (x : Placed) → l ≡ Word Chr → UnlessMemory f (chr_added (l ∷ ls) bytes ls ≡ Err x) → UnlessMemory f (line_in bytes ends (l ∷ ls) ≡ Err x)
chr_fails bytes ends l ls f x is h =
    let P : Lexeme → Type 0 = λ v. UnlessMemory f (chr_added (v ∷ ls) bytes ls ≡ Err x) in
    rw is (fails_along f x (chr_added (Word Chr ∷ ls) bytes ls) _ (λ k. chr_step bytes ends ls ∙ rw k refl) (subst P is h))

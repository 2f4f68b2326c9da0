use Rattle.std.proofs.Common.{◌≡◌, ◌<◌, ◌≤◌, ◌==◌, ◌||◌, ◌&&◌, Bool, true, false, List, [], ◌∷◌, arith, refl}
use Rattle.std.proofs.lemmas.Bool.{eqb-false, false≢true, leb-true}
use Rattle.std.specs.Prelude.{nat_le}
use Rattle.pr_base.specs.Digits.{is_digit}
use Rattle.pr_interpreter.specs.Lexemes.{begins_constant, comparison_size, is_sign, no_sign, with_sign}
use Rattle.pr_interpreter.specs.Numerals.{after_code, no_digits, numeral_size}
use Rattle.pr_interpreter.specs.Symbols.{code_of, first_code}
use Rattle.pr_interpreter.specs.declared.symbols.Symbol.{Symbol}

-- a constant that begins with a digit or a point has a symbol
pub numeral_some : (ss : List Symbol) → begins_constant (first_code ss) ≡ true → 0 < numeral_size no_digits ss
unfolding after_code
numeral_some [] e = absurd (false≢true e)
numeral_some (s ∷ ss) e = cases (is_digit (code_of s)) (code_of s == 46) refl refl e
  where
    cases : (digit point : Bool) → is_digit (code_of s) ≡ digit → (code_of s == 46) ≡ point → (digit || point) ≡ true
        → 0 < numeral_size no_digits (s ∷ ss)
    cases true point d p k = rw d (omega arith)
    cases false true d p k = rw (d, p) (omega arith)
    cases false false d p k = absurd (false≢true k)

both : (a b : Bool) → (a && b) ≡ true → (a ≡ true) × (b ≡ true)
both true b e = (refl, e)
both false b e = absurd (false≢true e)

-- a comparison has a sign
pub comparison_some : (ss : List Symbol) → is_sign (first_code ss) ≡ true → 0 < comparison_size no_sign ss
unfolding with_sign
comparison_some [] e = absurd (false≢true e)
comparison_some (s ∷ ss) e = cases (code_of s == 177) (code_of s == 178) (code_of s == 179) refl refl refl
  where
    cases : (greater equal less : Bool) → (code_of s == 177) ≡ greater → (code_of s == 178) ≡ equal
        → (code_of s == 179) ≡ less → 0 < comparison_size no_sign (s ∷ ss)
    cases true equal less g f l = rw g (omega arith)
    cases false true less g f l = rw (g, f) (omega arith)
    cases false false true g f l = rw (g, f, l) (omega arith)
    cases false false false g f l =
        let first = eqb-false (code_of s) 177 g in
        let second = eqb-false (code_of s) 178 f in
        let third = eqb-false (code_of s) 179 l in
        let within = both (nat_le 177 (code_of s)) (nat_le (code_of s) 179) e in
        let low : 177 ≤ code_of s = leb-true 177 (code_of s) within.0 in
        let high : code_of s ≤ 179 = leb-true (code_of s) 179 within.1 in
        absurd (omega (arith, first, second, third))

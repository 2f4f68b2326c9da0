-- Trusted: the lexemes of a line: the names, constants and comparisons of its symbols, and each other symbol.
use Rattle.std.specs.Prelude.{ℕ, zero, suc, ◌+◌, ◌-◌, ◌==◌, ◌||◌, ◌&&◌, Bool, true, false, not, List, [], ◌∷◌, drop}
use Rattle.std.specs.Prelude.{nat_le, nat_lt, if◌then◌else◌, Option, Some, None}
use Rattle.std.specs.List.{prefix_len}
use Rattle.pr_base.specs.Digits.{is_digit}
use Rattle.pr_interpreter.specs.declared.names.Kind.{Kind}
use Rattle.pr_interpreter.specs.declared.names.Kind.TheVariants.{Number, Text as Letters, Whole}
use Rattle.pr_interpreter.specs.declared.names.Name.{Name}
use Rattle.pr_interpreter.specs.declared.numerals.Exponent.{Exponent}
use Rattle.pr_interpreter.specs.declared.numerals.Numeral.{Numeral}
use Rattle.pr_interpreter.specs.declared.orders.Order.{Order}
use Rattle.pr_interpreter.specs.declared.symbols.Stored.{Stored}
use Rattle.pr_interpreter.specs.declared.symbols.Stored.TheVariants.{Code as CodeOf, Items as ItemsOf}
use Rattle.pr_interpreter.specs.declared.symbols.Stored.TheVariants.{Remark as RemarkOf, Text as TextOf}
use Rattle.pr_interpreter.specs.declared.symbols.Symbol.{Symbol}
use Rattle.pr_interpreter.specs.declared.symbols.Writing.{Writing}
use Rattle.pr_interpreter.specs.declared.lexemes.Lexeme.{Lexeme}
use Rattle.pr_interpreter.specs.declared.lexemes.Word.{Word}
use Rattle.pr_interpreter.specs.declared.lexemes.Word.TheVariants.{Code, Comparison, Constant, Items, Named, Remark}
use Rattle.pr_interpreter.specs.declared.lexemes.Word.TheVariants.{Text}
use Rattle.pr_interpreter.specs.Numerals.{constant_of, exponent_of, no_digits, numeral, numeral_size}
use Rattle.pr_interpreter.specs.Symbols.{code_of, first_code, symbols}

-- a letter
abbrev pub is_letter : ℕ → Bool
is_letter c = nat_le 65 c && nat_le c 90

-- a letter or a digit
abbrev pub is_in_name : ℕ → Bool
is_in_name c = is_letter c || is_digit c

-- how many letters and digits are at the front
abbrev pub name_size : List Symbol → ℕ
name_size ss = prefix_len (λ s. is_in_name (code_of s)) ss

-- the character at the front of what follows the first of a name, if it belongs to the name
abbrev pub second_of : ℕ → Option ℕ
second_of c = if is_in_name c then Some c else None

-- the kind of value that a name stands for, by the sign after its letters and digits
abbrev pub kind_of : ℕ → Kind
kind_of c = if c == 36 then Letters else if c == 37 then Whole else Number

-- how many symbols that sign has
abbrev pub kind_size : Kind → ℕ
kind_size Number = 0
kind_size Letters = 1
kind_size Whole = 1

-- the kind of the name of which these symbols follow the first character
abbrev pub kind_after : List Symbol → Kind
kind_after ss = kind_of (first_code (drop (name_size ss) ss))

-- the name at the front, by its first character and what follows that; two characters count
abbrev pub name_front : ℕ → List Symbol → Name
name_front first ss = record { first = first; second = second_of (first_code ss); kind = kind_after ss }

-- how many symbols the name has
abbrev pub whole_name_size : List Symbol → ℕ
whole_name_size ss = 1 + name_size ss + kind_size (kind_after ss)

-- a constant begins with a digit or a point
abbrev pub begins_constant : ℕ → Bool
begins_constant c = is_digit c || (c == 46)

-- a constant, and how many symbols it has; of more than 255 symbols, or with an exponent from 100 on, it is none
abbrev pub constant_or_none : Numeral → Exponent → ℕ → Word × ℕ
constant_or_none r e size =
    (if nat_le size 255 && nat_lt e.value 100 then Constant (constant_of r e) else Code 0, size + e.size)

-- the constant at the front of symbols
unfoldable pub constant_front : List Symbol → Word × ℕ
constant_front ss = let size = numeral_size no_digits ss in
    constant_or_none (numeral no_digits ss) (exponent_of (drop size ss)) size

-- what a comparison accepts with the sign of a code too: the tokens of >, = and <, each once
unfoldable pub with_sign : Order → ℕ → Option Order
with_sign o c =
    if (c == 177) && not o.greater then Some (record o { greater = true })
    else if (c == 178) && not o.equal then Some (record o { equal = true })
    else if (c == 179) && not o.less then Some (record o { less = true })
    else None

abbrev pub or_done : {A : Type 0} → Option Order → A → (Order → A) → A
or_done None done more = done
or_done (Some o) done more = more o

-- what the comparison at the front accepts
abbrev pub comparison : Order → List Symbol → Order
comparison o [] = o
comparison o (s ∷ ss) = or_done (with_sign o (code_of s)) o (λ more. comparison more ss)

-- how many symbols it has
abbrev pub comparison_size : Order → List Symbol → ℕ
comparison_size o [] = 0
comparison_size o (s ∷ ss) = or_done (with_sign o (code_of s)) 0 (λ more. comparison_size more ss + 1)

-- no sign yet
abbrev pub no_sign : Order
no_sign = record { less = false; equal = false; greater = false }

-- a sign of a comparison
abbrev pub is_sign : ℕ → Bool
is_sign c = nat_le 177 c && nat_le c 179

-- the word of a symbol that begins nothing longer
abbrev pub other_word : Stored → Word
other_word (CodeOf c) = Code c
other_word (TextOf start end) = Text start end
other_word (ItemsOf start end) = Items start end
other_word RemarkOf = Remark

-- the word at the front of symbols, and how many symbols it has
unfoldable pub word_front : Symbol → List Symbol → Word × ℕ
word_front s ss =
    if is_letter (code_of s) then (Named (name_front (code_of s) ss), whole_name_size ss)
    else if begins_constant (code_of s) then constant_front (s ∷ ss)
    else if is_sign (code_of s) then (Comparison (comparison no_sign (s ∷ ss)), comparison_size no_sign (s ∷ ss))
    else (other_word s.stored, 1)

-- the same, of symbols that are not none
abbrev pub word_at : List Symbol → Word × ℕ
word_at [] = (Code 0, 0)
word_at (s ∷ ss) = word_front s ss

-- the lexemes of symbols, after the symbols of the last one that are left
unfoldable pub lexemes : ℕ → List Symbol → List Lexeme
lexemes skip [] = []
lexemes zero (s ∷ ss) =
    record { word = (word_front s ss).0; place = s.place } ∷ lexemes ((word_front s ss).1 - 1) ss
lexemes (suc skip) (s ∷ ss) = lexemes skip ss

-- the lexemes of a line whose first byte is at a place
unfoldable pub line_lexemes : Writing → ℕ → List ℕ → List Lexeme
line_lexemes writing place line = lexemes 0 (symbols writing place 0 line)

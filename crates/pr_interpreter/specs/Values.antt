-- Trusted: values of BASIC, and what operators give of them.
use Rattle.std.specs.Prelude.{ℕ, ◌+◌, ◌-◌, ◌%◌, ◌||◌, ◌&&◌, Bool, true, false, not, List, [], ◌∷◌, ◌++◌, length, nat_le}
use Rattle.std.specs.Prelude.{nat_lt, bit_and, bit_or, if◌then◌else◌, Option, Some, None, Result, Ok, Err}
use Rattle.pr_interpreter.specs.declared.expressions.Operator.{Operator}
use Rattle.pr_interpreter.specs.declared.expressions.Operator.TheVariants.{And, Compare, Minus, Negate, Not, Or, Over}
use Rattle.pr_interpreter.specs.declared.expressions.Operator.TheVariants.{Plus, Power, Times}
use Rattle.pr_interpreter.specs.declared.fault.NumberFault.{NumberFault}
use Rattle.pr_interpreter.specs.declared.fault.NumberFault.TheVariants.{DivisionByZero, NotCertain, Overflow}
use Rattle.pr_interpreter.specs.declared.orders.Order.{Order}
use Rattle.pr_interpreter.specs.declared.values.BasicError.TheVariants.{IllegalQuantity, StringTooLong, TypeMismatch}
use Rattle.pr_interpreter.specs.declared.values.BasicError.TheVariants.{DivisionByZero as DividesByZero}
use Rattle.pr_interpreter.specs.declared.values.BasicError.TheVariants.{Overflow as Overflows}
use Rattle.pr_interpreter.specs.declared.values.Stop.{Stop}
use Rattle.pr_interpreter.specs.declared.values.Stop.TheVariants.{Error, NotCertain as Uncertain}
use Rattle.pr_interpreter.specs.declared.values.Value.{Value}
use Rattle.pr_interpreter.specs.declared.values.Value.TheVariants.{Number, Text}
use Rattle.pr_interpreter.specs.declared.whole_numbers.Whole.{Whole}
use Rattle.pr_interpreter.specs.Numbers.{Known, floor, is_zero, negated, order_of, product, quotient, sum, whole_number}
use Rattle.pr_interpreter.specs.Numbers.{zero_number}
use Rattle.pr_interpreter.specs.Powers.{whole_power}

-- why there is no result
abbrev pub stop_of : NumberFault → Stop
stop_of NotCertain = Uncertain
stop_of Overflow = Error Overflows
stop_of DivisionByZero = Error DividesByZero

abbrev pub calculated : Result Known NumberFault → Result Known Stop
calculated (Ok n) = Ok n
calculated (Err fault) = Err (stop_of fault)

-- ---- comparisons

-- an order that may be is accepted; one that may be is not
abbrev pub hits : Order → Order → Bool
hits wanted o = (wanted.less && o.less) || (wanted.equal && o.equal) || (wanted.greater && o.greater)

abbrev pub misses : Order → Order → Bool
misses wanted o =
    (not wanted.less && o.less) || (not wanted.equal && o.equal) || (not wanted.greater && o.greater)

-- true is -1 and false is 0, if that is so for every order that may be
unfoldable pub truth : Order → Order → Result Known Stop
truth wanted o =
    if hits wanted o then (if misses wanted o then Err Uncertain else Ok (whole_number true 1)) else Ok zero_number

-- ---- AND, OR and NOT

-- the 16 binary digits of a whole number from -32768 to 32767
abbrev pub word_in : Option Whole → Result ℕ Stop
word_in None = Err Uncertain
word_in (Some w) =
    if w.negative
    then (if nat_le w.magnitude 32768 then Ok ((65536 - w.magnitude) % 65536) else Err (Error IllegalQuantity))
    else (if nat_le w.magnitude 32767 then Ok w.magnitude else Err (Error IllegalQuantity))

unfoldable pub word_of : Known → Result ℕ Stop
word_of a = word_in (floor a)

-- the number that 16 binary digits are
abbrev pub from_word : ℕ → Known
from_word w = if nat_lt w 32768 then whole_number false w else whole_number true (65536 - w)

abbrev pub with_word : Result ℕ Stop → (ℕ → Result Known Stop) → Result Known Stop
with_word (Ok w) more = more w
with_word (Err stop) more = Err stop

-- ---- powers

-- nothing else than equal may be
abbrev pub is_equal_alone : Order → Bool
is_equal_alone o = o.equal && not o.less && not o.greater

-- every value is below
abbrev pub is_below : Order → Bool
is_below o = o.less && not o.equal && not o.greater

-- every value is above
abbrev pub is_above : Order → Bool
is_above o = o.greater && not o.less && not o.equal

-- A power of which this is the whole part of the exponent: it is certain where that is the exponent, from -255 to 255.
-- What is below 0 has no power with an exponent that is not whole.
abbrev pub powered : Known → Known → Option Whole → Result Known Stop
powered a b None = Err Uncertain
powered a b (Some w) =
    let o = order_of b (whole_number w.negative w.magnitude) in
    if nat_lt 255 w.magnitude then Err Uncertain
    else if is_equal_alone o && nat_lt 0 w.magnitude then calculated (whole_power a w.negative w.magnitude)
    else if is_below (order_of a zero_number) && not o.equal then Err (Error IllegalQuantity)
    else Err Uncertain

-- x ^ 0 is 1, and 0 ^ x is 0 for x above 0
unfoldable pub power : Known → Known → Result Known Stop
power a b =
    if is_zero b then Ok (whole_number false 1)
    else if is_zero a then (if is_above (order_of b zero_number) then Ok zero_number else Err Uncertain)
    else powered a b (floor b)

-- ---- numbers

-- what an operator gives of two numbers; one that takes one number takes the second
unfoldable pub of_numbers : Operator → Known → Known → Result Known Stop
of_numbers Plus a b = calculated (sum a b)
of_numbers Minus a b = calculated (sum a (negated b))
of_numbers Times a b = calculated (product a b)
of_numbers Over a b = calculated (quotient a b)
of_numbers Power a b = power a b
of_numbers (Compare wanted) a b = truth wanted (order_of a b)
of_numbers And a b = with_word (word_of a) (λ v. with_word (word_of b) (λ w. Ok (from_word (bit_and v w))))
of_numbers Or a b = with_word (word_of a) (λ v. with_word (word_of b) (λ w. Ok (from_word (bit_or v w))))
of_numbers Negate a b = Ok (negated b)
of_numbers Not a b = with_word (word_of b) (λ w. Ok (from_word (65535 - w)))

-- ---- strings

-- one order alone
abbrev pub is_less : Order
is_less = record { less = true; equal = false; greater = false }

abbrev pub is_same : Order
is_same = record { less = false; equal = true; greater = false }

abbrev pub is_greater : Order
is_greater = record { less = false; equal = false; greater = true }

-- strings are compared byte by byte; a string is less than one that goes on
abbrev pub text_order : List ℕ → List ℕ → Order
text_order [] [] = is_same
text_order [] (b ∷ bs) = is_less
text_order (a ∷ xs) [] = is_greater
text_order (a ∷ xs) (b ∷ bs) =
    if nat_lt a b then is_less else if nat_lt b a then is_greater else text_order xs bs

-- two strings joined, if they have at most 255 bytes
abbrev pub joined : List ℕ → List ℕ → Result Value Stop
joined s t = if nat_le (length s + length t) 255 then Ok (Text (s ++ t)) else Err (Error StringTooLong)

abbrev pub number_value : Result Known Stop → Result Value Stop
number_value (Ok n) = Ok (Number n)
number_value (Err stop) = Err stop

-- what an operator gives of two strings: they are joined or compared
unfoldable pub of_texts : Operator → List ℕ → List ℕ → Result Value Stop
of_texts Plus s t = joined s t
of_texts (Compare wanted) s t = number_value (truth wanted (text_order s t))
of_texts Minus s t = Err (Error TypeMismatch)
of_texts Times s t = Err (Error TypeMismatch)
of_texts Over s t = Err (Error TypeMismatch)
of_texts Power s t = Err (Error TypeMismatch)
of_texts And s t = Err (Error TypeMismatch)
of_texts Or s t = Err (Error TypeMismatch)
of_texts Negate s t = Err (Error TypeMismatch)
of_texts Not s t = Err (Error TypeMismatch)

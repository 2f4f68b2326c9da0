-- Trusted: the functions of BASIC.
use Rattle.std.specs.Prelude.{ℕ, ◌+◌, ◌-◌, ◌^◌, ◌==◌, ◌&&◌, ◌||◌, Bool, true, false, not, List, [], ◌∷◌}
use Rattle.std.specs.Prelude.{length, take, drop, map, nat_le, nat_lt, if◌then◌else◌, Option, Some, None, Result, Ok}
use Rattle.std.specs.Prelude.{Err}
use Rattle.std.specs.List.{filter}
use Rattle.pr_interpreter.specs.declared.decimals.Decimal.{Decimal}
use Rattle.pr_interpreter.specs.declared.lexemes.Word.{Word}
use Rattle.pr_interpreter.specs.declared.lexemes.Word.TheVariants.{Code, Comparison, Constant, Items, Named, Remark}
use Rattle.pr_interpreter.specs.declared.lexemes.Word.TheVariants.{Text}
use Rattle.pr_interpreter.specs.declared.number.Sign.{Sign}
use Rattle.pr_interpreter.specs.declared.number.Sign.TheVariants.{Either, Minus, Plus}
use Rattle.pr_interpreter.specs.declared.orders.Order.{Order}
use Rattle.pr_interpreter.specs.declared.symbols.Stored.TheVariants.{Code as Kept}
use Rattle.pr_interpreter.specs.declared.symbols.Symbol.{Symbol}
use Rattle.pr_interpreter.specs.declared.values.BasicError.TheVariants.{IllegalQuantity}
use Rattle.pr_interpreter.specs.declared.values.Stop.{Stop}
use Rattle.pr_interpreter.specs.declared.values.Stop.TheVariants.{Error, NotCertain as Uncertain}
use Rattle.pr_interpreter.specs.declared.whole_numbers.Whole.{Whole}
use Rattle.pr_interpreter.specs.Constants.{value_of}
use Rattle.pr_interpreter.specs.Decimals.{decimal_of}
use Rattle.pr_interpreter.specs.Lexemes.{constant_front}
use Rattle.pr_interpreter.specs.Numbers.{Known, floor, is_zero, negated, order_of, whole_number, zero_number}
use Rattle.pr_interpreter.specs.Powers.{root_of}
use Rattle.pr_interpreter.specs.Printing.{decimal_text}
use Rattle.pr_interpreter.specs.Spans.{bit_length}
use Rattle.pr_interpreter.specs.Values.{calculated, is_below}

-- ---- whole numbers

-- the whole number, which is to be at most a greatest one
abbrev pub whole_within : ℕ → Option Whole → Result ℕ Stop
whole_within greatest None = Err Uncertain
whole_within greatest (Some w) =
    if w.negative then Err Uncertain
    else if nat_le w.magnitude greatest then Ok w.magnitude else Err (Error IllegalQuantity)

-- The whole number from 0 to a greatest one that a number gives, as an index, a column or a character's code: it is the
-- same for all values; if all are below 0, or too large, ILLEGAL QUANTITY.
unfoldable pub whole_to : ℕ → Known → Result ℕ Stop
whole_to greatest n =
    if is_below (order_of n zero_number) || not (order_of n (whole_number false (greatest + 1))).less
    then Err (Error IllegalQuantity) else whole_within greatest (floor n)

abbrev pub with_whole : {A : Type 0} → Result ℕ Stop → (ℕ → Result A Stop) → Result A Stop
with_whole (Ok k) more = more k
with_whole (Err stop) more = Err stop

-- ---- functions of a number that give a number

-- SGN: -1, 0 or 1, if it is so for all values
unfoldable pub sign_number : Order → Result Known Stop
sign_number o =
    if o.less then (if o.equal || o.greater then Err Uncertain else Ok (whole_number true 1))
    else if o.greater then (if o.equal then Err Uncertain else Ok (whole_number false 1))
    else Ok zero_number

abbrev pub whole_or : Option Whole → Result Known Stop
whole_or None = Err Uncertain
whole_or (Some w) = if nat_lt w.magnitude (2 ^ 32) then Ok (whole_number w.negative w.magnitude) else Err Uncertain

-- one magnitude from 2 ^ 32 on, so it is whole
abbrev pub is_large : Known → Bool
is_large n = n.span.low == n.span.high && nat_lt 288 (bit_length n.span.high + n.span.scale)

-- INT: the greatest whole number that is not above the value
unfoldable pub integer_part : Known → Result Known Stop
integer_part n = if is_large n then Ok n else whole_or (floor n)

abbrev pub is_plus : Sign → Bool
is_plus Plus = true
is_plus Minus = false
is_plus Either = false

-- SQR: of 0 it is 0; other roots are not exact
unfoldable pub square_root : Known → Result Known Stop
square_root n =
    if is_zero n then Ok zero_number
    else if is_below (order_of n zero_number) then Err (Error IllegalQuantity)
    else if is_plus n.sign then calculated (root_of n) else Err Uncertain

-- ---- functions of a number that give a string

abbrev pub text_of_decimal : Option Decimal → Result (List ℕ) Stop
text_of_decimal None = Err Uncertain
text_of_decimal (Some d) = Ok (decimal_text d)

-- STR$, and what PRINT writes of a number without what follows it
unfoldable pub number_text : Known → Result (List ℕ) Stop
number_text n = text_of_decimal (decimal_of n)

-- CHR$
unfoldable pub character : Known → Result (List ℕ) Stop
character n = with_whole (whole_to 255 n) (λ k. Ok (k ∷ []))

-- ---- functions of a string that give a number

-- LEN: no string has more than 255 bytes
abbrev pub length_of : List ℕ → Result Known Stop
length_of s = if nat_le (length s) 255 then Ok (whole_number false (length s)) else Err Uncertain

-- ASC
abbrev pub first_byte : List ℕ → Result Known Stop
first_byte [] = Err (Error IllegalQuantity)
first_byte (b ∷ bs) = Ok (whole_number false b)

-- a string's bytes as those of a line are kept: the signs + and - as tokens
abbrev pub symbol_of : ℕ → Symbol
symbol_of b = record { stored = Kept (if b == 43 then 170 else if b == 45 then 171 else b); place = 0 }

abbrev pub constant_number : Word → Result Known Stop
constant_number (Constant c) = calculated (value_of c)
constant_number (Code c) = Err Uncertain
constant_number (Comparison o) = Err Uncertain
constant_number (Named name) = Err Uncertain
constant_number (Text start end) = Err Uncertain
constant_number (Items start end) = Err Uncertain
constant_number Remark = Err Uncertain

abbrev pub is_solid : ℕ → Bool
is_solid b = not (b == 32)

-- the constant at the front of bytes
unfoldable pub constant_in : List ℕ → Word × ℕ
constant_in bs = constant_front (map symbol_of bs)

abbrev pub negated_if : Bool → Result Known Stop → Result Known Stop
negated_if negative (Ok n) = Ok (if negative then negated n else n)
negated_if negative (Err stop) = Err stop

-- the first byte; 0 if there is none
abbrev pub front_byte : List ℕ → ℕ
front_byte [] = 0
front_byte (b ∷ bs) = b

-- bytes without the sign at their front
abbrev pub without_sign : List ℕ → List ℕ
without_sign bs = if (front_byte bs == 43) || (front_byte bs == 45) then drop 1 bs else bs

-- the number at the front of bytes without blanks
unfoldable pub signed_number : List ℕ → Result Known Stop
signed_number bs = negated_if (front_byte bs == 45) (constant_number (constant_in (without_sign bs)).0)

-- VAL: the number at the front of a string, in which blanks count for nothing; 0 if there is none
unfoldable pub number_at_front : List ℕ → Result Known Stop
number_at_front s = signed_number (filter is_solid s)

-- ---- parts of strings

-- LEFT$, RIGHT$ and MID$ by their token: with a number
unfoldable pub part_of : ℕ → List ℕ → ℕ → Result (List ℕ) Stop
part_of f s k =
    if f == 200 then Ok (take k s) else if f == 201 then Ok (drop (length s - k) s)
    else if k == 0 then Err (Error IllegalQuantity) else Ok (drop (k - 1) s)

-- MID$ with the place of the first byte, counted from 1, and how many there are
unfoldable pub middle : List ℕ → ℕ → ℕ → Result (List ℕ) Stop
middle s first count = if first == 0 then Err (Error IllegalQuantity) else Ok (take count (drop (first - 1) s))

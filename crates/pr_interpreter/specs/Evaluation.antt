-- Trusted: the value of an expression. Its nodes are worked out from left to right: each takes the last of what was
-- given before it, and gives something itself. What stops an operand stops what takes it, in the order in which the
-- machine looks at its operands.
use Rattle.std.specs.Prelude.{ℕ, zero, suc, ◌+◌, ◌-◌, ◌==◌, ◌&&◌, ◌||◌, Bool, true, false, not, List, [], ◌∷◌}
use Rattle.std.specs.Prelude.{◌++◌, length, take, drop, count_by, slice_index_or, slice_range, nat_le, nat_lt}
use Rattle.std.specs.Prelude.{if◌then◌else◌, Option, Some, None, Result, Ok, Err}
use Rattle.pr_interpreter.specs.declared.given.Given.{Given}
use Rattle.pr_interpreter.specs.declared.given.Given.TheVariants.{Kept, Made, Number, Stopped}
use Rattle.pr_interpreter.specs.declared.expressions.Callee.TheVariants.{Array as Element, Function as Builtin, Own}
use Rattle.pr_interpreter.specs.declared.expressions.Node.{Node}
use Rattle.pr_interpreter.specs.declared.expressions.Node.TheVariants.{Apply, Call, Number as Constant, Text as Quoted}
use Rattle.pr_interpreter.specs.declared.expressions.Node.TheVariants.{Variable as Named}
use Rattle.pr_interpreter.specs.declared.expressions.Operator.{Operator}
use Rattle.pr_interpreter.specs.declared.expressions.Operator.TheVariants.{And, Compare, Minus, Negate, Not, Or, Over}
use Rattle.pr_interpreter.specs.declared.expressions.Operator.TheVariants.{Plus, Power, Times}
use Rattle.pr_interpreter.specs.declared.expressions.Placed.{Placed}
use Rattle.pr_interpreter.specs.declared.memory.Array.{Array}
use Rattle.pr_interpreter.specs.declared.memory.Arrays.{Arrays}
use Rattle.pr_interpreter.specs.declared.memory.Function.{Function}
use Rattle.pr_interpreter.specs.declared.memory.Parameter.{Parameter}
use Rattle.pr_interpreter.specs.declared.memory.Variable.{Variable}
use Rattle.pr_interpreter.specs.declared.names.Name.{Name}
use Rattle.pr_interpreter.specs.declared.values.BasicError.TheVariants.{BadSubscript, FormulaTooComplex, Syntax}
use Rattle.pr_interpreter.specs.declared.values.BasicError.TheVariants.{TypeMismatch, UndefinedFunction}
use Rattle.pr_interpreter.specs.declared.values.Halt.{Halt}
use Rattle.pr_interpreter.specs.declared.values.Halt.TheVariants.{Error, FullMemory, FullStack, NotCertain, NotTaken}
use Rattle.pr_interpreter.specs.declared.values.Halt.TheVariants.{OutOfMemory}
use Rattle.pr_interpreter.specs.declared.values.Stop.{Stop}
use Rattle.pr_interpreter.specs.declared.values.Stop.TheVariants.{Error as Reported, NotCertain as Uncertain}
use Rattle.pr_interpreter.specs.declared.values.Stop.TheVariants.{OutOfMemory as NoMemory}
use Rattle.pr_interpreter.specs.declared.values.Value.{Value}
use Rattle.pr_interpreter.specs.declared.values.Value.TheVariants.{Number as NumberValue, Text as TextValue}
use Rattle.pr_interpreter.specs.Constants.{value_of}
use Rattle.pr_interpreter.specs.ExpressionLaws.{operands}
use Rattle.pr_interpreter.specs.Functions.{character, first_byte, integer_part, length_of, middle, number_at_front}
use Rattle.pr_interpreter.specs.Functions.{number_text, part_of, sign_number, square_root, whole_to, with_whole}
use Rattle.pr_interpreter.specs.Memory.{array_of, element_at, function_of, is_clock, is_status, parameter}
use Rattle.pr_interpreter.specs.Memory.{parameter_of, place_of, undimensioned, undimensioned_bytes, variable_value}
use Rattle.pr_interpreter.specs.Memory.{with_array}
use Rattle.pr_interpreter.specs.Numbers.{Known, absolute, order_of, whole_number, zero_number}
use Rattle.pr_interpreter.specs.Values.{calculated, of_numbers, of_texts}

-- what the values of an expression come from: the program's text, and what the machine keeps; and how many bytes there
-- surely are of memory for arrays, and of the machine's stack
pub record Scope : Type 0 where
  pub text : List ℕ
  pub parameters : List Parameter
  pub variables : List Variable
  pub functions : List Function
  pub column : Option ℕ
  pub has_sent : Bool
  pub memory : ℕ
  pub stack : ℕ

-- The arrays, which reading an element may make; what was given and is not taken yet, the last at the end; and how many
-- strings the machine keeps for the expression itself.
pub record Working : Type 0 where
  pub arrays : Arrays
  pub given : List Given
  pub strings : ℕ

-- ---- what is given

-- nothing: an expression that was read never comes to it
abbrev pub nothing : Given
nothing = Stopped (Error Syntax)

abbrev pub mismatch : Halt
mismatch = Error TypeMismatch

-- why there is no value at a place
abbrev pub halt_at : ℕ → Stop → Halt
halt_at place NoMemory = OutOfMemory
halt_at place Uncertain = NotCertain place
halt_at place (Reported error) = Error error

abbrev pub number_or : ℕ → Result Known Stop → Given
number_or place (Ok n) = Number n
number_or place (Err stop) = Stopped (halt_at place stop)

abbrev pub string_or : ℕ → Result (List ℕ) Stop → Given
string_or place (Ok s) = Made s
string_or place (Err stop) = Stopped (halt_at place stop)

abbrev pub made : Value → Given
made (NumberValue n) = Number n
made (TextValue s) = Made s

abbrev pub value_or : ℕ → Result Value Stop → Given
value_or place (Ok v) = made v
value_or place (Err stop) = Stopped (halt_at place stop)

-- a value that a variable or an element has
abbrev pub kept : Value → Given
kept (NumberValue n) = Number n
kept (TextValue s) = Kept s

-- what has to be a number
abbrev pub number_in : Given → Result Known Halt
number_in (Number n) = Ok n
number_in (Made s) = Err mismatch
number_in (Kept s) = Err mismatch
number_in (Stopped halt) = Err halt

-- what has to be a string
abbrev pub string_in : Given → Result (List ℕ) Halt
string_in (Number n) = Err mismatch
string_in (Made s) = Ok s
string_in (Kept s) = Ok s
string_in (Stopped halt) = Err halt

abbrev pub with_it : {A : Type 0} → Result A Halt → (A → Given) → Given
with_it (Ok a) more = more a
with_it (Err halt) more = Stopped halt

-- ---- operators

-- operators that take two strings; others refuse a string before they look at the second operand
abbrev pub takes_strings : Operator → Bool
takes_strings Plus = true
takes_strings (Compare accepts) = true
takes_strings Power = false
takes_strings Negate = false
takes_strings Times = false
takes_strings Over = false
takes_strings Minus = false
takes_strings Not = false
takes_strings And = false
takes_strings Or = false

abbrev pub of_strings : Operator → ℕ → List ℕ → Given → Given
of_strings op place s b =
    if takes_strings op then with_it (string_in b) (λ t. value_or place (of_texts op s t)) else Stopped mismatch

abbrev pub of_two : Operator → ℕ → Given → Given → Given
of_two op place (Number m) b = with_it (number_in b) (λ n. number_or place (of_numbers op m n))
of_two op place (Made s) b = of_strings op place s b
of_two op place (Kept s) b = of_strings op place s b
of_two op place (Stopped halt) b = Stopped halt

-- what an operator gives of its operands
unfoldable pub applied : Operator → ℕ → List Given → Given
applied op place [] = nothing
applied op place (a ∷ []) = with_it (number_in a) (λ n. number_or place (of_numbers op zero_number n))
applied op place (a ∷ b ∷ []) = of_two op place a b
applied op place (a ∷ b ∷ c ∷ more) = nothing

-- ---- functions

-- USR, FRE, RND, LOG, EXP, COS, SIN, TAN, ATN and PEEK
abbrev pub is_not_taken : ℕ → Bool
is_not_taken f = (f == 183) || (f == 184) || (nat_le 187 f && nat_le f 194)

-- SGN, INT, ABS and SQR
unfoldable pub number_of_number : ℕ → Known → Result Known Stop
number_of_number f n =
    if f == 180 then sign_number (order_of n zero_number) else if f == 181 then integer_part n
    else if f == 182 then Ok (absolute n) else square_root n

-- LEN, VAL and ASC
unfoldable pub number_of_string : ℕ → List ℕ → Result Known Stop
number_of_string f s =
    if f == 195 then length_of s else if f == 197 then number_at_front s else first_byte s

-- STR$ and CHR$
unfoldable pub string_of_number : ℕ → Known → Result (List ℕ) Stop
string_of_number f n = if f == 196 then number_text n else character n

-- POS: the screen's column, whatever it is of; of a string it is not taken
abbrev pub column_or : ℕ → Option ℕ → Given
column_or place None = Stopped (NotCertain place)
column_or place (Some c) = Number (whole_number false c)

abbrev pub position_for : ℕ → Option ℕ → Given → Given
position_for place column (Number n) = column_or place column
position_for place column (Made s) = Stopped (NotTaken place)
position_for place column (Kept s) = Stopped (NotTaken place)
position_for place column (Stopped halt) = Stopped halt

-- what is not taken, unless its argument stopped before
abbrev pub refused_for : ℕ → Given → Given
refused_for place (Number n) = Stopped (NotTaken place)
refused_for place (Made s) = Stopped (NotTaken place)
refused_for place (Kept s) = Stopped (NotTaken place)
refused_for place (Stopped halt) = Stopped halt

unfoldable pub of_one_argument : ℕ → ℕ → Option ℕ → Given → Given
of_one_argument f place column a =
    if is_not_taken f then refused_for place a
    else if f == 185 then position_for place column a
    else if nat_le f 186 then with_it (number_in a) (λ n. number_or place (number_of_number f n))
    else if (f == 196) || (f == 199) then with_it (number_in a) (λ n. string_or place (string_of_number f n))
    else with_it (string_in a) (λ s. number_or place (number_of_string f s))

-- LEFT$, RIGHT$ and MID$ with a number
unfoldable pub of_two_arguments : ℕ → ℕ → Given → Given → Given
of_two_arguments f place a b =
    with_it (string_in a) (λ s. with_it (number_in b)
    (λ n. string_or place (with_whole (whole_to 255 n) (λ k. part_of f s k))))

abbrev pub at_place : {A : Type 0} → ℕ → Result A Stop → Result A Halt
at_place place (Ok a) = Ok a
at_place place (Err stop) = Err (halt_at place stop)

-- MID$ with two numbers: the machine works the second out when the first is one that it takes
abbrev pub middle_by : ℕ → List ℕ → ℕ → Given → Given
middle_by place s first c =
    with_it (number_in c) (λ m. string_or place (with_whole (whole_to 255 m) (λ count. middle s first count)))

unfoldable pub of_three_arguments : ℕ → Given → Given → Given → Given
of_three_arguments place a b c =
    with_it (string_in a) (λ s. with_it (number_in b) (λ n. with_it (at_place place (whole_to 255 n))
    (λ first. middle_by place s first c)))

-- what a function of the language gives of its arguments
unfoldable pub called : ℕ → ℕ → Option ℕ → List Given → Given
called f place column [] = nothing
called f place column (a ∷ []) = of_one_argument f place column a
called f place column (a ∷ b ∷ []) = of_two_arguments f place a b
called f place column (a ∷ b ∷ c ∷ []) = of_three_arguments place a b c
called f place column (a ∷ b ∷ c ∷ d ∷ more) = nothing

-- ---- constants, strings and variables

unfoldable pub literal : ℕ → List ℕ → ℕ → ℕ → Given
literal place text start end =
    if nat_le start end && nat_le end (length text) && nat_le (end - start) 255
    then Made (slice_range text start end) else Stopped (NotTaken place)

-- the variable of a function hides the one of its name
abbrev pub named : Option Known → Value → Given
named (Some n) v = Number n
named None v = kept v

unfoldable pub variable : Scope → ℕ → Name → Given
variable scope place name =
    if is_clock name then Stopped (NotTaken place)
    else if is_status name then (if scope.has_sent then Stopped (NotTaken place) else Number zero_number)
    else named (parameter_of name scope.parameters) (variable_value name scope.variables)

-- ---- what is taken and given

abbrev pub is_made : Given → Bool
is_made (Number n) = false
is_made (Made s) = true
is_made (Kept s) = false
is_made (Stopped halt) = false

-- the last so many of what is given
abbrev pub arguments : ℕ → Working → List Given
arguments n w = drop (length w.given - n) w.given

-- what is left when they are taken
unfoldable pub without : ℕ → Working → Working
without n w = record w {
  given = take (length w.given - n) w.given;
  strings = w.strings - count_by is_made (arguments n w);
}

abbrev pub put : Given → Working → Working
put g w = record w { given = w.given ++ g ∷ [] }

-- something more is given; the machine keeps at most three strings for an expression
unfoldable pub give : Given → Working → Working
give g w =
    if is_made g && not (nat_lt w.strings 3) then put (Stopped (Error FormulaTooComplex)) w
    else put g (record w { strings = if is_made g then w.strings + 1 else w.strings })

-- what is given last
abbrev pub last_given : List Given → Given
last_given gs = slice_index_or gs (length gs - 1) nothing

-- ---- elements of arrays

abbrev pub in_turn : {A B : Type 0} → Result A Halt → (A → Result B Halt) → Result B Halt
in_turn (Ok a) more = more a
in_turn (Err halt) more = Err halt

-- an index
unfoldable pub index : ℕ → Given → Result ℕ Halt
index place g = in_turn (number_in g) (λ n. at_place place (whole_to 32767 n))

-- the indices after others
abbrev pub indices : ℕ → List ℕ → List Given → Result (List ℕ) Halt
indices place found [] = Ok found
indices place found (g ∷ gs) = in_turn (index place g) (λ i. indices place (found ++ i ∷ []) gs)

abbrev pub element_or : Array → Option ℕ → Given
element_or a None = Stopped (Error BadSubscript)
element_or a (Some n) = kept (element_at a n)

-- an element of an array
unfoldable pub element : Array → List ℕ → Given
element a is = element_or a (place_of 0 a.bounds is)

-- with one more array
abbrev pub in_new : ℕ → Array → List ℕ → Working → Option Arrays → Working
in_new place a is w None = give (Stopped (FullMemory place)) w
in_new place a is w (Some arrays) = give (element a is) (record w { arrays = arrays })

-- an array that is used before DIM is made
unfoldable pub in_array : ℕ → ℕ → Name → List ℕ → Working → Option Array → Working
in_array room place name is w (Some a) = give (element a is) w
in_array room place name is w None =
    let a = undimensioned name (length is) in
    in_new place a is w (with_array room a (undimensioned_bytes name.kind (length is)) w.arrays)

abbrev pub indexed : ℕ → ℕ → Name → Working → Result (List ℕ) Halt → Working
indexed room place name w (Err halt) = give (Stopped halt) w
indexed room place name w (Ok is) = in_array room place name is w (array_of name w.arrays.list)

-- ---- functions of the program

-- how nodes are worked out, for a call at a place
abbrev pub Worker : Type 0
Worker = ℕ → Scope → Working → List Placed → Working

-- after the nodes of a function as much is given as before, and then what they gave last, which has to be a number
unfoldable pub ended : ℕ → ℕ → Working → Working
ended count strings after = record {
  arrays = after.arrays;
  given = take count after.given ++ with_it (number_in (last_given after.given)) (λ n. Number n) ∷ [];
  strings = strings;
}

abbrev pub returned : Working → Working → Working
returned before after = ended (length before.given) before.strings after

-- how many bytes of the machine's stack a function of the program takes while it is worked out
abbrev pub function_bytes : ℕ
function_bytes = 16

-- in a function its variable has a value, and the stack has so many bytes less
abbrev pub inside : Name → Known → ℕ → Scope → Scope
inside name n taken scope =
    record scope { parameters = parameter name n ∷ scope.parameters; stack = scope.stack - taken }

abbrev pub entered : Worker → ℕ → ℕ → Scope → Working → Known → Function → Working
entered worker place taken scope w n f =
    if nat_le taken scope.stack then returned w (worker place (inside f.variable n taken scope) w f.value)
    else give (Stopped (FullStack place)) w

abbrev pub defined : Worker → ℕ → ℕ → Scope → Working → Known → Option Function → Working
defined worker place stacked scope w n None = give (Stopped (Error UndefinedFunction)) w
defined worker place stacked scope w n (Some f) = entered worker place (stacked + function_bytes) scope w n f

-- a function's variable has the value of the argument as long as the function is worked out
abbrev pub own : Worker → ℕ → ℕ → Scope → Working → Name → Result Known Halt → Working
own worker place stacked scope w name (Err halt) = give (Stopped halt) w
own worker place stacked scope w name (Ok n) =
    defined worker place stacked scope w n (function_of name scope.functions)

-- ---- nodes

-- a number, a string or a variable, if the machine's stack surely has the bytes that what waits for it takes
abbrev pub operand : Scope → ℕ → ℕ → Given → Given
operand scope place stacked g = if nat_le stacked scope.stack then g else Stopped (FullStack place)

-- what a node takes and gives, where so many bytes of the stack are taken
unfoldable pub after : Worker → Scope → Working → ℕ → ℕ → Node → Working
after worker scope w place stacked (Constant c) =
    give (operand scope place stacked (number_or place (calculated (value_of c)))) w
after worker scope w place stacked (Quoted start end) =
    give (operand scope place stacked (literal place scope.text start end)) w
after worker scope w place stacked (Named name) = give (operand scope place stacked (variable scope place name)) w
after worker scope w place stacked (Apply op) =
    give (applied op place (arguments (operands op) w)) (without (operands op) w)
after worker scope w place stacked (Call (Builtin f) count) =
    give (called f place scope.column (arguments count w)) (without count w)
after worker scope w place stacked (Call (Element name) count) =
    indexed scope.memory place name (without count w) (indices place [] (arguments count w))
after worker scope w place stacked (Call (Own name) count) =
    own worker place stacked scope (without 1 w) name (number_in (last_given w.given))

abbrev pub through : Worker → Scope → Working → List Placed → Working
through worker scope w [] = w
through worker scope w (p ∷ ps) = through worker scope (after worker scope w p.place p.stacked p.node) ps

-- Nodes from left to right, where functions call others at most so many deep: no stack has room for more than 15.
abbrev pub worked : ℕ → Worker
worked zero place scope w nodes = give (Stopped (FullStack place)) w
worked (suc depth) place scope w nodes = through (worked depth) scope w nodes

-- ---- the value

abbrev pub value_in : Given → Result Value Halt
value_in (Number n) = Ok (NumberValue n)
value_in (Made s) = Ok (TextValue s)
value_in (Kept s) = Ok (TextValue s)
value_in (Stopped halt) = Err halt

-- what an expression gives, and the arrays after it
pub record Evaluation : Type 0 where
  pub value : Result Value Halt
  pub arrays : Arrays

abbrev pub evaluation_in : Working → Evaluation
evaluation_in w = record { value = value_in (last_given w.given); arrays = w.arrays }

-- the value of an expression
unfoldable pub evaluation : Scope → Arrays → List Placed → Evaluation
evaluation scope arrays nodes =
    evaluation_in (worked 16 0 scope (record { arrays = arrays; given = []; strings = 0 }) nodes)

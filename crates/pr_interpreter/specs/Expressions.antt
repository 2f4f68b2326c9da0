-- Trusted: how an expression is read from lexemes. Its nodes come in the order in which the machine works them out:
-- operands before what takes them. As the machine does, the reader keeps what waits for its operands to end: operators,
-- parentheses and calls, the last first.
use Rattle.std.specs.Prelude.{ℕ, ◌+◌, ◌*◌, ◌==◌, ◌&&◌, Bool, false, List, [], ◌∷◌, ◌++◌, min, nat_le, nat_lt}
use Rattle.std.specs.Prelude.{if◌then◌else◌, Option, Some, None, Result, Ok, Err}
use Rattle.pr_interpreter.specs.declared.expressions.Callee.{Callee}
use Rattle.pr_interpreter.specs.declared.expressions.Callee.TheVariants.{Array, Function, Own}
use Rattle.pr_interpreter.specs.declared.expressions.Node.{Node}
use Rattle.pr_interpreter.specs.declared.expressions.Node.TheVariants.{Apply, Call, Number, Text, Variable}
use Rattle.pr_interpreter.specs.declared.expressions.Operator.{Operator}
use Rattle.pr_interpreter.specs.declared.expressions.Operator.TheVariants.{And, Compare, Minus, Negate, Not, Or, Over}
use Rattle.pr_interpreter.specs.declared.expressions.Operator.TheVariants.{Plus, Power, Times}
use Rattle.pr_interpreter.specs.declared.expressions.Placed.{Placed}
use Rattle.pr_interpreter.specs.declared.fault.ProgramFault.{ProgramFault}
use Rattle.pr_interpreter.specs.declared.fault.ProgramFault.TheVariants.{NoExpression}
use Rattle.pr_interpreter.specs.declared.lexemes.Lexeme.{Lexeme}
use Rattle.pr_interpreter.specs.declared.lexemes.Word.{Word}
use Rattle.pr_interpreter.specs.declared.lexemes.Word.TheVariants.{Code, Comparison, Constant, Items, Named, Remark}
use Rattle.pr_interpreter.specs.declared.lexemes.Word.TheVariants.{Text as Quoted}
use Rattle.pr_interpreter.specs.declared.names.Name.{Name}
use Rattle.pr_interpreter.specs.declared.reader.Expected.{Expected}
use Rattle.pr_interpreter.specs.declared.reader.Expected.TheVariants.{NameEnd, Opening, Operand, OperandEnd, OwnName}
use Rattle.pr_interpreter.specs.declared.reader.Pending.{Pending}
use Rattle.pr_interpreter.specs.declared.reader.Pending.TheVariants.{Applies, Calls, Group}
use Rattle.pr_interpreter.specs.declared.reader.Waiting.{Waiting}

-- how tightly an operator binds
abbrev pub precedence : Operator → ℕ
precedence Power = 8
precedence Negate = 7
precedence Times = 6
precedence Over = 6
precedence Plus = 5
precedence Minus = 5
precedence (Compare accepts) = 4
precedence Not = 3
precedence And = 2
precedence Or = 1

-- the operator between two operands that has a token
abbrev pub operator_of : ℕ → Option Operator
operator_of c =
    if c == 170 then Some Plus else if c == 171 then Some Minus else if c == 172 then Some Times
    else if c == 173 then Some Over else if c == 174 then Some Power else if c == 175 then Some And
    else if c == 176 then Some Or else None

-- how many arguments a call has at least
abbrev pub least_count : Callee → ℕ
least_count (Function f) = if nat_lt f 200 then 1 else 2
least_count (Array name) = 1
least_count (Own name) = 1

-- and at most: MID$ has two or three
abbrev pub greatest_count : Callee → ℕ
greatest_count (Function f) = if nat_lt f 200 then 1 else if nat_lt f 202 then 2 else 3
greatest_count (Array name) = 255
greatest_count (Own name) = 1

-- the nodes that are placed, and what waits, the last first
pub record Stacks : Type 0 where
  pub nodes : List Placed
  pub waiting : List Waiting

-- how many bytes of the machine's stack something takes while it waits, at most; a call takes more for each argument
-- that has begun
abbrev pub call_bytes : Callee → ℕ → ℕ
call_bytes (Function f) count = 4 + 4 * count
call_bytes (Array name) count = 12 + 2 * count
call_bytes (Own name) count = 9

abbrev pub pending_bytes : Pending → ℕ
pending_bytes (Applies op) = 13
pending_bytes Group = 5
pending_bytes (Calls callee count) = call_bytes callee count

-- how many all take
abbrev pub waiting_bytes : List Waiting → ℕ
waiting_bytes [] = 0
waiting_bytes (w ∷ ws) = pending_bytes w.pending + waiting_bytes ws

-- a node, while other things wait: from 255 bytes on, which no stack has, they are not counted
abbrev pub node_at : List Waiting → Node → ℕ → Placed
node_at waiting node place = record { node = node; place = place; stacked = min (waiting_bytes waiting) 255 }

-- one more node
abbrev pub with_node : Stacks → Node → ℕ → Stacks
with_node s node place = record s { nodes = s.nodes ++ node_at s.waiting node place ∷ [] }

-- one more that waits
abbrev pub with_waiting : Stacks → Pending → ℕ → Stacks
with_waiting s pending place = record s { waiting = record { pending = pending; place = place } ∷ s.waiting }

-- the operator that waits, if it binds at least so tightly
abbrev pub bound : ℕ → Pending → Option Operator
bound least (Applies op) = if nat_le least (precedence op) then Some op else None
bound least Group = None
bound least (Calls callee count) = None

abbrev pub or_stay : Option Operator → Stacks → (Operator → Stacks) → Stacks
or_stay None stay go = stay
or_stay (Some op) stay go = go op

-- the operators that wait last are applied, as far as they bind at least so tightly
abbrev pub settled : ℕ → List Placed → List Waiting → Stacks
settled least nodes [] = record { nodes = nodes; waiting = [] }
settled least nodes (w ∷ ws) =
    or_stay (bound least w.pending) (record { nodes = nodes; waiting = w ∷ ws })
    (λ op. settled least (nodes ++ node_at ws (Apply op) w.place ∷ []) ws)

unfoldable pub settle : ℕ → Stacks → Stacks
settle least s = settled least s.nodes s.waiting

-- what a lexeme does to the reading: it goes on, it has ended before the lexeme, or nothing can be read
pub data Turn : Type 0 where
  Next : Stacks → Expected → Turn
  Done : List Placed → Turn
  Refused : Turn

-- the functions with a token, from SGN to MID$
abbrev pub is_function : ℕ → Bool
is_function c = nat_le 180 c && nat_le c 202

-- the token of a function where an operand begins
abbrev pub function_turn : Stacks → ℕ → ℕ → Turn
function_turn s c place = if is_function c then Next s (Opening (Function c) place) else Refused

-- a sign or a keyword where an operand begins: + is skipped
unfoldable pub operand_code : Stacks → ℕ → ℕ → Turn
operand_code s c place =
    if c == 40 then Next (with_waiting s Group place) Operand
    else if c == 170 then Next s Operand
    else if c == 171 then Next (with_waiting s (Applies Negate) place) Operand
    else if c == 168 then Next (with_waiting s (Applies Not) place) Operand
    else if c == 165 then Next s (OwnName place)
    else function_turn s c place

-- a word where an operand begins
abbrev pub operand_turn : Stacks → Word → ℕ → Turn
operand_turn s (Constant c) place = Next (with_node s (Number c) place) OperandEnd
operand_turn s (Quoted start end) place = Next (with_node s (Text start end) place) OperandEnd
operand_turn s (Named name) place = Next s (NameEnd name place)
operand_turn s (Code c) place = operand_code s c place
operand_turn s (Comparison accepts) place = Refused
operand_turn s (Items start end) place = Refused
operand_turn s Remark place = Refused

-- the word is a parenthesis that opens
abbrev pub opens : Word → Bool
opens (Code c) = c == 40
opens (Constant c) = false
opens (Quoted start end) = false
opens (Named name) = false
opens (Comparison accepts) = false
opens (Items start end) = false
opens Remark = false

-- a parenthesis has to open the arguments of a call
abbrev pub opening_turn : Stacks → Callee → ℕ → Word → Turn
opening_turn s callee place word = if opens word then Next (with_waiting s (Calls callee 1) place) Operand else Refused

-- a name has to follow FN
abbrev pub own_turn : Stacks → ℕ → Word → Turn
own_turn s place (Named name) = Next s (Opening (Own name) place)
own_turn s place (Constant c) = Refused
own_turn s place (Quoted start end) = Refused
own_turn s place (Code c) = Refused
own_turn s place (Comparison accepts) = Refused
own_turn s place (Items start end) = Refused
own_turn s place Remark = Refused

-- an operator after an operand: those that bind at least as tightly go first
abbrev pub operator_turn : Stacks → Operator → ℕ → Turn
operator_turn s op place = Next (with_waiting (settle (precedence op) s) (Applies op) place) Operand

-- one more argument of what waits last
abbrev pub comma_pending : Stacks → Pending → ℕ → Turn
comma_pending s Group place = Refused
comma_pending s (Applies op) place = Refused
comma_pending s (Calls callee count) place =
    if nat_lt count (greatest_count callee) then Next (with_waiting s (Calls callee (count + 1)) place) Operand
    else Refused

-- what waits last ends
abbrev pub close_pending : Stacks → Pending → ℕ → Turn
close_pending s Group place = Next s OperandEnd
close_pending s (Applies op) place = Refused
close_pending s (Calls callee count) place =
    if nat_le (least_count callee) count then Next (with_node s (Call callee count) place) OperandEnd
    else Refused

-- a comma after all operators are applied
abbrev pub comma_turn : List Placed → List Waiting → Turn
comma_turn nodes [] = Done nodes
comma_turn nodes (w ∷ ws) = comma_pending (record { nodes = nodes; waiting = ws }) w.pending w.place

-- a parenthesis that closes
abbrev pub close_turn : List Placed → List Waiting → Turn
close_turn nodes [] = Done nodes
close_turn nodes (w ∷ ws) = close_pending (record { nodes = nodes; waiting = ws }) w.pending w.place

-- a word of no expression
abbrev pub end_turn : List Placed → List Waiting → Turn
end_turn nodes [] = Done nodes
end_turn nodes (w ∷ ws) = Refused

-- a sign or a keyword that is no operator
unfoldable pub closing_code : Stacks → ℕ → Turn
closing_code s c = let t = settle 0 s in
    if c == 44 then comma_turn t.nodes t.waiting
    else if c == 41 then close_turn t.nodes t.waiting
    else end_turn t.nodes t.waiting

abbrev pub operator_or : Option Operator → Stacks → ℕ → ℕ → Turn
operator_or (Some op) s c place = operator_turn s op place
operator_or None s c place = closing_code s c

-- a word after an operand
abbrev pub end_of_operand : Stacks → Word → ℕ → Turn
end_of_operand s (Comparison accepts) place = operator_turn s (Compare accepts) place
end_of_operand s (Code c) place = operator_or (operator_of c) s c place
end_of_operand s (Constant c) place = closing_code s 0
end_of_operand s (Quoted start end) place = closing_code s 0
end_of_operand s (Named name) place = closing_code s 0
end_of_operand s (Items start end) place = closing_code s 0
end_of_operand s Remark place = closing_code s 0

-- a word after a name at a place: the name is that of an array if a parenthesis opens
abbrev pub name_end : Stacks → Name → ℕ → Word → ℕ → Turn
name_end s name at word place =
    if opens word then opening_turn s (Array name) at word
    else end_of_operand (with_node s (Variable name) at) word place

-- a word by what is expected
unfoldable pub turn : Stacks → Expected → Word → ℕ → Turn
turn s Operand word place = operand_turn s word place
turn s OperandEnd word place = end_of_operand s word place
turn s (OwnName at) word place = own_turn s at word
turn s (Opening callee at) word place = opening_turn s callee at word
turn s (NameEnd name at) word place = name_end s name at word place

-- the reading goes on after a turn of a lexeme at a place, of which so many come before it
abbrev pub after_turn : Turn → ℕ → ℕ → (Stacks → Expected → Result (List Placed × ℕ) ProgramFault)
    → Result (List Placed × ℕ) ProgramFault
after_turn (Next s expected) taken place more = more s expected
after_turn (Done nodes) taken place more = Ok (nodes, taken)
after_turn Refused taken place more = Err (NoExpression place)

-- the nodes of the expression that goes on with lexemes, and how many lexemes it has; what follows a line's last
-- lexeme is at its end
abbrev pub reading : Stacks → Expected → ℕ → ℕ → List Lexeme → Result (List Placed × ℕ) ProgramFault
reading s expected taken end [] =
    after_turn (turn s expected (Code 0) end) taken end (λ t next. Err (NoExpression end))
reading s expected taken end (l ∷ ls) =
    after_turn (turn s expected l.word l.place) taken l.place (λ t next. reading t next (taken + 1) end ls)

-- nothing is read
abbrev pub nothing : Stacks
nothing = record { nodes = []; waiting = [] }

-- the nodes of the expression at the front of lexemes, and how many lexemes it has
unfoldable pub expression : ℕ → List Lexeme → Result (List Placed × ℕ) ProgramFault
expression end ls = reading nothing Operand 0 end ls

-- What is certain of expressions: worked out from left to right, their nodes find the values that they take, and
-- leave one.
use Rattle.std.specs.Prelude.{ℕ, ◌+◌, ◌-◌, ◌≡◌, List, [], ◌∷◌, nat_le, if◌then◌else◌, Option, Some, None, Ok}
use Rattle.pr_interpreter.specs.declared.expressions.Node.{Node}
use Rattle.pr_interpreter.specs.declared.expressions.Node.TheVariants.{Apply, Call, Number, Text, Variable}
use Rattle.pr_interpreter.specs.declared.expressions.Operator.{Operator}
use Rattle.pr_interpreter.specs.declared.expressions.Operator.TheVariants.{And, Compare, Minus, Negate, Not, Or, Over}
use Rattle.pr_interpreter.specs.declared.expressions.Operator.TheVariants.{Plus, Power, Times}
use Rattle.pr_interpreter.specs.declared.expressions.Placed.{Placed}
use Rattle.pr_interpreter.specs.declared.lexemes.Lexeme.{Lexeme}
use Rattle.pr_interpreter.specs.Expressions.{expression}

-- how many values an operator takes
abbrev pub operands : Operator → ℕ
operands Power = 2
operands Negate = 1
operands Times = 2
operands Over = 2
operands Plus = 2
operands Minus = 2
operands (Compare accepts) = 2
operands Not = 1
operands And = 2
operands Or = 2

-- how many a node takes; it leaves one
abbrev pub takes : Node → ℕ
takes (Number c) = 0
takes (Text start end) = 0
takes (Variable name) = 0
takes (Apply op) = operands op
takes (Call callee count) = count

-- how many values there are after nodes, where there were n before them; none if a node takes more than there are
abbrev pub values_after : ℕ → List Placed → Option ℕ
values_after n [] = Some n
values_after n (p ∷ ps) = if nat_le (takes p.node) n then values_after (n - takes p.node + 1) ps else None

-- the nodes of an expression find the values that they take, and leave one
abbrev pub ExpressionsAreWhole : Type 0
ExpressionsAreWhole = (end : ℕ) (ls : List Lexeme) (nodes : List Placed) (n : ℕ)
    → expression end ls ≡ Ok (nodes, n) → values_after 0 nodes ≡ Some 1

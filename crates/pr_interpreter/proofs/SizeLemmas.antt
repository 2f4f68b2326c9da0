use Rattle.std.proofs.Common.{◌≡◌, ℕ, ◌+◌, ◌<◌, ◌≤◌, Bool, true, false, List, [], ◌∷◌, arith, ap, ◌==◌, Result, Ok, Err}
use Rattle.std.proofs.Common.{if◌then◌else◌}
use Rattle.pr_interpreter.specs.Expressions.{Done, Next, Refused, Stacks, Turn, after_turn, expression, function_turn}
use Rattle.pr_interpreter.specs.Expressions.{is_function, nothing, operand_code, reading, turn, with_waiting}
use Rattle.pr_interpreter.specs.declared.expressions.Callee.TheVariants.{Function}
use Rattle.pr_interpreter.specs.declared.expressions.Operator.TheVariants.{Negate, Not}
use Rattle.pr_interpreter.specs.declared.expressions.Placed.{Placed}
use Rattle.pr_interpreter.specs.declared.fault.ProgramFault.{ProgramFault}
use Rattle.pr_interpreter.specs.declared.lexemes.Lexeme.{Lexeme}
use Rattle.pr_interpreter.specs.declared.lexemes.Word.{Word}
use Rattle.pr_interpreter.specs.declared.lexemes.Word.TheVariants.{Code, Comparison, Constant, Items, Named, Remark}
use Rattle.pr_interpreter.specs.declared.lexemes.Word.TheVariants.{Text}
use Rattle.pr_interpreter.specs.declared.reader.Expected.{Expected}
use Rattle.pr_interpreter.specs.declared.reader.Expected.TheVariants.{Opening, Operand, OwnName}
use Rattle.pr_interpreter.specs.declared.reader.Pending.TheVariants.{Applies, Group}

abbrev pub read_ok : List Placed → ℕ → Result (List Placed × ℕ) ProgramFault
read_ok nodes n = Ok (nodes, n)

abbrev size_in : Result (List Placed × ℕ) ProgramFault → ℕ
size_in (Ok r) = r.1
size_in (Err fault) = 0

-- a reading takes at least the lexemes that it has taken
after_most : (t : Turn) (taken place : ℕ) (more : Stacks → Expected → Result (List Placed × ℕ) ProgramFault)
    (nodes : List Placed) (n : ℕ) → ((u : Stacks) (next : Expected) → more u next ≡ read_ok nodes n → taken ≤ n)
    → after_turn t taken place more ≡ read_ok nodes n → taken ≤ n
after_most (Next u next) taken place more nodes n h e = h u next e
after_most (Done ns) taken place more nodes n h e =
    let same : taken ≡ n = ap size_in e in omega arith
after_most Refused taken place more nodes n h e = absurd (cc)

none_read : (place n : ℕ) (nodes : List Placed) (fault : ProgramFault) → Err fault ≡ read_ok nodes n → ⊥
none_read place n nodes fault e = cc

reading_most : (s : Stacks) (next : Expected) (taken end : ℕ) (ls : List Lexeme) (nodes : List Placed) (n : ℕ)
    → reading s next taken end ls ≡ read_ok nodes n → taken ≤ n
reading_most s next taken end [] nodes n e =
    after_most (turn s next (Code 0) end) taken end _ nodes n (λ u v is. absurd (none_read end n nodes _ is)) e
reading_most s next taken end (l ∷ ls) nodes n e =
    after_most (turn s next l.word l.place) taken l.place _ nodes n
    (λ u v is. (let most = reading_most u v (taken + 1) end ls nodes n is in omega arith)) e

-- where an operand begins, nothing ends
abbrev GoesOn : Turn → Type 0
GoesOn (Next s next) = Unit {0}
GoesOn (Done nodes) = ⊥
GoesOn Refused = Unit {0}

either_goes_on : (b : Bool) (x y : Turn) → GoesOn x → GoesOn y → GoesOn (if b then x else y)
either_goes_on true x y h k = h
either_goes_on false x y h k = k

function_goes_on : (s : Stacks) (c place : ℕ) → GoesOn (function_turn s c place)
function_goes_on s c place = either_goes_on (is_function c) (Next s (Opening (Function c) place)) Refused tt tt

abbrev own_code : Stacks → ℕ → ℕ → Turn
own_code s c place = if c == 165 then Next s (OwnName place) else function_turn s c place

abbrev not_code : Stacks → ℕ → ℕ → Turn
not_code s c place = if c == 168 then Next (with_waiting s (Applies Not) place) Operand else own_code s c place

abbrev minus_code : Stacks → ℕ → ℕ → Turn
minus_code s c place =
    if c == 171 then Next (with_waiting s (Applies Negate) place) Operand else not_code s c place

abbrev plus_code : Stacks → ℕ → ℕ → Turn
plus_code s c place = if c == 170 then Next s Operand else minus_code s c place

code_goes_on : (s : Stacks) (c place : ℕ) → GoesOn (operand_code s c place)
unfolding operand_code
code_goes_on s c place =
    let own = either_goes_on (c == 165) (Next s (OwnName place)) (function_turn s c place) tt
    (function_goes_on s c place) in
    let no = either_goes_on (c == 168) (Next (with_waiting s (Applies Not) place) Operand) (own_code s c place) tt
    own in
    let minus = either_goes_on (c == 171) (Next (with_waiting s (Applies Negate) place) Operand) (not_code s c place)
    tt no in
    let plus = either_goes_on (c == 170) (Next s Operand) (minus_code s c place) tt minus in
    either_goes_on (c == 40) (Next (with_waiting s Group place) Operand) (plus_code s c place) tt plus

operand_goes_on : (s : Stacks) (word : Word) (place : ℕ) → GoesOn (turn s Operand word place)
unfolding turn
operand_goes_on s (Code c) place = code_goes_on s c place
operand_goes_on s (Constant c) place = tt
operand_goes_on s (Text start end) place = tt
operand_goes_on s (Named name) place = tt
operand_goes_on s (Comparison accepts) place = tt
operand_goes_on s (Items start end) place = tt
operand_goes_on s Remark place = tt

after_some : (t : Turn) (taken place : ℕ) (more : Stacks → Expected → Result (List Placed × ℕ) ProgramFault)
    (nodes : List Placed) (n : ℕ) → GoesOn t
    → ((u : Stacks) (next : Expected) → more u next ≡ read_ok nodes n → taken < n)
    → after_turn t taken place more ≡ read_ok nodes n → taken < n
after_some (Next u next) taken place more nodes n goes h e = h u next e
after_some (Done ns) taken place more nodes n goes h e = absurd goes
after_some Refused taken place more nodes n goes h e = absurd (cc)

-- an expression has a lexeme
pub expression_some : (end : ℕ) (ls : List Lexeme) (nodes : List Placed) (n : ℕ)
    → expression end ls ≡ read_ok nodes n → 0 < n
unfolding expression
expression_some end [] nodes n e =
    after_some (turn nothing Operand (Code 0) end) 0 end _ nodes n (operand_goes_on nothing (Code 0) end)
    (λ u v is. absurd (none_read end n nodes _ is)) e
expression_some end (l ∷ ls) nodes n e =
    after_some (turn nothing Operand l.word l.place) 0 l.place _ nodes n (operand_goes_on nothing l.word l.place)
    (λ u v is. (let most = reading_most u v (0 + 1) end ls nodes n is in omega arith)) e

use Rattle.std.proofs.Common.{◌≡◌, ℕ, ◌+◌, ◌-◌, ◌≤◌, ◌==◌, Bool, true, false, List, [], ◌∷◌, ◌++◌, if◌then◌else◌, arith}
use Rattle.std.proofs.Common.{sym, refl, ap, ◌∙◌, Option, Some, None, Result, Ok, Err}
use Rattle.std.proofs.lemmas.Bool.{false≢true, le-leb}
use Rattle.std.specs.Option.{is_some, unwrap_or}
use Rattle.std.specs.Prelude.{nat_le, nat_lt}
use Rattle.std.specs.Result.{is_ok}
use Rattle.pr_interpreter.specs.ExpressionLaws.{ExpressionsAreWhole, operands, takes, values_after}
use Rattle.pr_interpreter.specs.Expressions.{Done, Next, Refused, Stacks, Turn, after_turn, bound, close_pending}
use Rattle.pr_interpreter.specs.Expressions.{close_turn, closing_code, comma_pending, comma_turn, end_of_operand}
use Rattle.pr_interpreter.specs.Expressions.{end_turn, expression, function_turn, greatest_count, is_function}
use Rattle.pr_interpreter.specs.Expressions.{least_count, node_at, nothing, opening_turn, opens, operand_code, operand_turn}
use Rattle.pr_interpreter.specs.Expressions.{operator_of, operator_or, operator_turn, own_turn, precedence, reading}
use Rattle.pr_interpreter.specs.Expressions.{settle, settled, turn, with_node, with_waiting}
use Rattle.pr_interpreter.specs.declared.expressions.Callee.{Callee}
use Rattle.pr_interpreter.specs.declared.expressions.Callee.TheVariants.{Array, Function}
use Rattle.pr_interpreter.specs.declared.expressions.Node.{Node}
use Rattle.pr_interpreter.specs.declared.expressions.Node.TheVariants.{Apply, Call, Number, Text, Variable}
use Rattle.pr_interpreter.specs.declared.expressions.Operator.{Operator}
use Rattle.pr_interpreter.specs.declared.expressions.Operator.TheVariants.{And, Compare, Minus, Negate, Not, Or, Over}
use Rattle.pr_interpreter.specs.declared.expressions.Operator.TheVariants.{Plus, Power, Times}
use Rattle.pr_interpreter.specs.declared.expressions.Placed.{Placed}
use Rattle.pr_interpreter.specs.declared.fault.ProgramFault.{ProgramFault}
use Rattle.pr_interpreter.specs.declared.fault.ProgramFault.TheVariants.{NoExpression}
use Rattle.pr_interpreter.specs.declared.lexemes.Lexeme.{Lexeme}
use Rattle.pr_interpreter.specs.declared.lexemes.Word.{Word}
use Rattle.pr_interpreter.specs.declared.lexemes.Word.TheVariants.{Code, Comparison, Constant, Items, Named, Remark}
use Rattle.pr_interpreter.specs.declared.lexemes.Word.TheVariants.{Text as Quoted}
use Rattle.pr_interpreter.specs.declared.reader.Expected.{Expected}
use Rattle.pr_interpreter.specs.declared.reader.Expected.TheVariants.{NameEnd, Opening, Operand, OperandEnd, OwnName}
use Rattle.pr_interpreter.specs.declared.reader.Pending.{Pending}
use Rattle.pr_interpreter.specs.declared.reader.Pending.TheVariants.{Applies, Calls, Group}
use Rattle.pr_interpreter.specs.declared.reader.Waiting.{Waiting}

abbrev pub some : ℕ → Option ℕ
some n = Some n

abbrev pub no_value : Option ℕ
no_value = None

no_some : (n : ℕ) → no_value ≡ some n → ⊥
no_some n e = false≢true (ap is_some e)

same_some : (m n : ℕ) → some m ≡ some n → m ≡ n
same_some m n e = ap (λ (o : Option ℕ). unwrap_or o 0) e

-- ---- one more node

pub values_more : (m n : ℕ) (ps : List Placed) (p : Placed) → values_after m ps ≡ some n → takes p.node ≤ n
    → values_after m (ps ++ p ∷ []) ≡ some (n - takes p.node + 1)
values_more m n [] p e h =
    let same = same_some m n e in
    let enough : nat_le (takes p.node) m ≡ true = le-leb (takes p.node) m (omega (arith, same, h)) in
    rw enough (ap (λ (k : ℕ). some (k - takes p.node + 1)) same)
values_more m n (q ∷ ps) p e h =
    cases (nat_le (takes q.node) m) refl (λ more. values_more (m - takes q.node + 1) n ps p more h) e
  where
    cases : (t : Bool) → nat_le (takes q.node) m ≡ t
        → (values_after (m - takes q.node + 1) ps ≡ some n
        → values_after (m - takes q.node + 1) (ps ++ p ∷ []) ≡ some (n - takes p.node + 1))
        → (if t then values_after (m - takes q.node + 1) ps else None) ≡ some n
        → values_after m (q ∷ ps ++ p ∷ []) ≡ some (n - takes p.node + 1)
    cases true test more k = rw test (more k)
    cases false test more k = absurd (no_some n k)

-- ---- what the nodes so far leave

-- how many of the values what waits has already, and that a call has begun an argument
abbrev pub holds : Pending → ℕ
holds Group = 0
holds (Applies op) = operands op - 1
holds (Calls callee count) = count - 1

abbrev pub Begun : Pending → Type 0
Begun Group = Unit {0}
Begun (Applies op) = Unit {0}
Begun (Calls callee count) = 1 ≤ count

abbrev pub held : List Waiting → ℕ
held [] = 0
held (w ∷ ws) = holds w.pending + held ws

abbrev pub AllBegun : List Waiting → Type 0
AllBegun [] = Unit {0}
AllBegun (w ∷ ws) = Begun w.pending × AllBegun ws

-- there are as many values as what waits has, and so many more
pub record Leaves (s : Stacks) (more : ℕ) : Type 0 where
  pub values : values_after 0 s.nodes ≡ some (held s.waiting + more)
  pub begun : AllBegun s.waiting

operands_some : (op : Operator) → 1 ≤ operands op
operands_some Power = omega arith
operands_some Negate = omega arith
operands_some Times = omega arith
operands_some Over = omega arith
operands_some Plus = omega arith
operands_some Minus = omega arith
operands_some (Compare accepts) = omega arith
operands_some Not = omega arith
operands_some And = omega arith
operands_some Or = omega arith

-- a node takes its values and leaves one
node_leaves : (s : Stacks) (node : Node) (place n : ℕ) → AllBegun s.waiting
    → values_after 0 s.nodes ≡ some n → takes node ≤ n → n - takes node ≡ held s.waiting
    → Leaves (with_node s node place) 1
node_leaves s node place n begun e h left = record {
  values = values_more 0 n s.nodes (node_at s.waiting node place) e h ∙ ap (λ (k : ℕ). some (k + 1)) left;
  begun = begun;
}

-- something waits that has some of the values
waiting_leaves : (s : Stacks) (p : Pending) (place n m : ℕ) → Begun p → holds p + m ≡ n → Leaves s n
    → Leaves (with_waiting s p place) m
waiting_leaves s p place n m begun e h = record {
  values = h.values ∙ ap (λ (k : ℕ). some k) (omega (arith, e));
  begun = (begun, h.begun);
}

settled_leaves : (least : ℕ) (nodes : List Placed) (ws : List Waiting)
    → Leaves (record { nodes = nodes; waiting = ws }) 1 → Leaves (settled least nodes ws) 1
settled_leaves least nodes [] h = h
settled_leaves least nodes (w ∷ ws) h = cases w.pending refl (λ more k. settled_leaves least more ws k)
  where
    stays : bound least w.pending ≡ None → Leaves (settled least nodes (w ∷ ws)) 1
    stays none = rw none h

    goes : (op : Operator) → w.pending ≡ Applies op → bound least w.pending ≡ Some op
        → ((more : List Placed) → Leaves (record { nodes = more; waiting = ws }) 1 → Leaves (settled least more ws) 1)
        → Leaves (settled least nodes (w ∷ ws)) 1
    goes op is found go =
        let has = ap holds is in
        let least_one = operands_some op in
        let enough : takes (Apply op) ≤ held (w ∷ ws) + 1 = omega (arith, has, least_one) in
        let left : held (w ∷ ws) + 1 - takes (Apply op) ≡ held ws = omega (arith, has, least_one) in
        rw found (go (nodes ++ node_at ws (Apply op) w.place ∷ [])
        (node_leaves (record { nodes = nodes; waiting = ws }) (Apply op) w.place (held (w ∷ ws) + 1) h.begun.1 h.values
        enough left))

    tests : (op : Operator) (t : Bool) → nat_le least (precedence op) ≡ t → w.pending ≡ Applies op
        → ((more : List Placed) → Leaves (record { nodes = more; waiting = ws }) 1 → Leaves (settled least more ws) 1)
        → Leaves (settled least nodes (w ∷ ws)) 1
    tests op true test is go = goes op is (rw (is, test) refl) go
    tests op false test is go = stays (rw (is, test) refl)

    cases : (p : Pending) → w.pending ≡ p
        → ((more : List Placed) → Leaves (record { nodes = more; waiting = ws }) 1 → Leaves (settled least more ws) 1)
        → Leaves (settled least nodes (w ∷ ws)) 1
    cases Group is go = stays (rw is refl)
    cases (Applies op) is go = tests op (nat_le least (precedence op)) refl is go
    cases (Calls callee count) is go = stays (rw is refl)

settle_leaves : (least : ℕ) (s : Stacks) → Leaves s 1 → Leaves (settle least s) 1
unfolding settle
settle_leaves least s h = settled_leaves least s.nodes s.waiting h

-- ---- a turn

abbrev pub has : Expected → ℕ
has Operand = 0
has (OwnName place) = 0
has (Opening callee place) = 0
has (NameEnd name place) = 0
has OperandEnd = 1

abbrev pub Keeps : Turn → Type 0
Keeps (Next s expected) = Leaves s (has expected)
Keeps (Done nodes) = values_after 0 nodes ≡ some 1
Keeps Refused = Unit {0}

either : (t : Bool) (x y : Turn) → Keeps x → Keeps y → Keeps (if t then x else y)
either true x y h k = h
either false x y h k = k

leaf_leaves : (s : Stacks) (node : Node) (place : ℕ) → takes node ≡ 0 → Leaves s 0 → Leaves (with_node s node place) 1
leaf_leaves s node place none h =
    node_leaves s node place (held s.waiting + 0) h.begun h.values (omega (arith, none)) (omega (arith, none))

operand_code_keeps : (s : Stacks) (c place : ℕ) → Leaves s 0 → Keeps (operand_code s c place)
unfolding operand_code
operand_code_keeps s c place h =
    let group = with_waiting s Group place in
    let negated = with_waiting s (Applies Negate) place in
    let inverted = with_waiting s (Applies Not) place in
    let t5 : Turn = function_turn s c place in
    let t4 : Turn = if c == 165 then Next s (OwnName place) else t5 in
    let t3 : Turn = if c == 168 then Next inverted Operand else t4 in
    let t2 : Turn = if c == 171 then Next negated Operand else t3 in
    let t1 : Turn = if c == 170 then Next s Operand else t2 in
    let k5 : Keeps t5 = either (is_function c) (Next s (Opening (Function c) place)) Refused h tt in
    let k4 : Keeps t4 = either (c == 165) (Next s (OwnName place)) t5 h k5 in
    let k3 : Keeps t3 =
    either (c == 168) (Next inverted Operand) t4 (waiting_leaves s (Applies Not) place 0 0 tt (omega arith) h) k4 in
    let k2 : Keeps t2 =
    either (c == 171) (Next negated Operand) t3 (waiting_leaves s (Applies Negate) place 0 0 tt (omega arith) h) k3 in
    let k1 : Keeps t1 = either (c == 170) (Next s Operand) t2 h k2 in
    either (c == 40) (Next group Operand) t1 (waiting_leaves s Group place 0 0 tt (omega arith) h) k1

operand_keeps : (s : Stacks) (word : Word) (place : ℕ) → Leaves s 0 → Keeps (operand_turn s word place)
operand_keeps s (Constant c) place h = leaf_leaves s (Number c) place refl h
operand_keeps s (Quoted start end) place h = leaf_leaves s (Text start end) place refl h
operand_keeps s (Named name) place h = h
operand_keeps s (Code c) place h = operand_code_keeps s c place h
operand_keeps s (Comparison accepts) place h = tt
operand_keeps s (Items start end) place h = tt
operand_keeps s Remark place h = tt

opening_keeps : (s : Stacks) (callee : Callee) (place : ℕ) (word : Word) → Leaves s 0
    → Keeps (opening_turn s callee place word)
opening_keeps s callee place word h =
    either (opens word) (Next (with_waiting s (Calls callee 1) place) Operand) Refused
    (waiting_leaves s (Calls callee 1) place 0 0 (omega arith) (omega arith) h) tt

own_keeps : (s : Stacks) (place : ℕ) (word : Word) → Leaves s 0 → Keeps (own_turn s place word)
own_keeps s place (Named name) h = h
own_keeps s place (Constant c) h = tt
own_keeps s place (Quoted start end) h = tt
own_keeps s place (Code c) h = tt
own_keeps s place (Comparison accepts) h = tt
own_keeps s place (Items start end) h = tt
own_keeps s place Remark h = tt

operator_keeps : (s : Stacks) (op : Operator) (place : ℕ) → operands op ≡ 2 → Leaves s 1
    → Keeps (operator_turn s op place)
operator_keeps s op place two h =
    waiting_leaves (settle (precedence op) s) (Applies op) place 1 0 tt (omega (arith, two))
    (settle_leaves (precedence op) s h)

pending_comma : (s : Stacks) (p : Pending) (place : ℕ) → Begun p → AllBegun s.waiting
    → values_after 0 s.nodes ≡ some (holds p + held s.waiting + 1) → Keeps (comma_pending s p place)
pending_comma s Group place begun all e = tt
pending_comma s (Applies op) place begun all e = tt
pending_comma s (Calls callee count) place begun all e =
    let next = with_waiting s (Calls callee (count + 1)) place in
    let leaves : Leaves next 0 =
    record { values = e ∙ ap (λ (k : ℕ). some k) (omega (arith, begun)); begun = (omega arith, all) } in
    either (nat_lt count (greatest_count callee)) (Next next Operand) Refused leaves tt

pending_close : (s : Stacks) (p : Pending) (place : ℕ) → Begun p → AllBegun s.waiting
    → values_after 0 s.nodes ≡ some (holds p + held s.waiting + 1) → Keeps (close_pending s p place)
pending_close s Group place begun all e = record { values = e ∙ ap (λ (k : ℕ). some k) (omega arith); begun = all }
pending_close s (Applies op) place begun all e = tt
pending_close s (Calls callee count) place begun all e =
    either (nat_le (least_count callee) count) (Next (with_node s (Call callee count) place) OperandEnd) Refused
    (node_leaves s (Call callee count) place (count - 1 + held s.waiting + 1) all e (omega (arith, begun))
    (omega (arith, begun))) tt

comma_keeps : (nodes : List Placed) (ws : List Waiting) → Leaves (record { nodes = nodes; waiting = ws }) 1
    → Keeps (comma_turn nodes ws)
comma_keeps nodes [] h = h.values
comma_keeps nodes (w ∷ ws) h =
    pending_comma (record { nodes = nodes; waiting = ws }) w.pending w.place h.begun.0 h.begun.1 h.values

close_keeps : (nodes : List Placed) (ws : List Waiting) → Leaves (record { nodes = nodes; waiting = ws }) 1
    → Keeps (close_turn nodes ws)
close_keeps nodes [] h = h.values
close_keeps nodes (w ∷ ws) h =
    pending_close (record { nodes = nodes; waiting = ws }) w.pending w.place h.begun.0 h.begun.1 h.values

end_keeps : (nodes : List Placed) (ws : List Waiting) → Leaves (record { nodes = nodes; waiting = ws }) 1
    → Keeps (end_turn nodes ws)
end_keeps nodes [] h = h.values
end_keeps nodes (w ∷ ws) h = tt

closing_keeps : (s : Stacks) (c : ℕ) → Leaves s 1 → Keeps (closing_code s c)
unfolding closing_code
closing_keeps s c h =
    let k = settle_leaves 0 s h in
    let t = settle 0 s in
    let closed : Turn = if c == 41 then close_turn t.nodes t.waiting else end_turn t.nodes t.waiting in
    let rest : Keeps closed =
    either (c == 41) (close_turn t.nodes t.waiting) (end_turn t.nodes t.waiting) (close_keeps t.nodes t.waiting k)
    (end_keeps t.nodes t.waiting k) in
    either (c == 44) (comma_turn t.nodes t.waiting) closed (comma_keeps t.nodes t.waiting k) rest

-- an operator between two operands, or none
abbrev pub TakesTwo : Option Operator → Type 0
TakesTwo None = Unit {0}
TakesTwo (Some op) = operands op ≡ 2

either_two : (t : Bool) (x y : Option Operator) → TakesTwo x → TakesTwo y → TakesTwo (if t then x else y)
either_two true x y h k = h
either_two false x y h k = k

operators_take_two : (c : ℕ) → TakesTwo (operator_of c)
operators_take_two c =
    let o6 : Option Operator = if c == 176 then Some Or else None in
    let o5 : Option Operator = if c == 175 then Some And else o6 in
    let o4 : Option Operator = if c == 174 then Some Power else o5 in
    let o3 : Option Operator = if c == 173 then Some Over else o4 in
    let o2 : Option Operator = if c == 172 then Some Times else o3 in
    let o1 : Option Operator = if c == 171 then Some Minus else o2 in
    either_two (c == 170) (Some Plus) o1 refl (either_two (c == 171) (Some Minus) o2 refl
    (either_two (c == 172) (Some Times) o3 refl (either_two (c == 173) (Some Over) o4 refl
    (either_two (c == 174) (Some Power) o5 refl (either_two (c == 175) (Some And) o6 refl
    (either_two (c == 176) (Some Or) None refl tt))))))

operator_or_keeps : (o : Option Operator) (s : Stacks) (c place : ℕ) → TakesTwo o → Leaves s 1
    → Keeps (operator_or o s c place)
operator_or_keeps None s c place two h = closing_keeps s c h
operator_or_keeps (Some op) s c place two h = operator_keeps s op place two h

operand_end_keeps : (s : Stacks) (word : Word) (place : ℕ) → Leaves s 1 → Keeps (end_of_operand s word place)
operand_end_keeps s (Comparison accepts) place h = operator_keeps s (Compare accepts) place refl h
operand_end_keeps s (Code c) place h = operator_or_keeps (operator_of c) s c place (operators_take_two c) h
operand_end_keeps s (Constant c) place h = closing_keeps s 0 h
operand_end_keeps s (Quoted start end) place h = closing_keeps s 0 h
operand_end_keeps s (Named name) place h = closing_keeps s 0 h
operand_end_keeps s (Items start end) place h = closing_keeps s 0 h
operand_end_keeps s Remark place h = closing_keeps s 0 h

turn_keeps : (s : Stacks) (expected : Expected) (word : Word) (place : ℕ) → Leaves s (has expected)
    → Keeps (turn s expected word place)
unfolding turn
turn_keeps s Operand word place h = operand_keeps s word place h
turn_keeps s OperandEnd word place h = operand_end_keeps s word place h
turn_keeps s (OwnName at) word place h = own_keeps s at word h
turn_keeps s (Opening callee at) word place h = opening_keeps s callee at word h
turn_keeps s (NameEnd name at) word place h =
    either (opens word) (opening_turn s (Array name) at word)
    (end_of_operand (with_node s (Variable name) at) word place) (opening_keeps s (Array name) at word h)
    (operand_end_keeps (with_node s (Variable name) at) word place (leaf_leaves s (Variable name) at refl h))

-- ---- the whole

abbrev pub answered : List Placed → ℕ → Result (List Placed × ℕ) ProgramFault
answered nodes n = Ok (nodes, n)

abbrev pub refused : ProgramFault → Result (List Placed × ℕ) ProgramFault
refused fault = Err fault

nodes_in : Result (List Placed × ℕ) ProgramFault → List Placed
nodes_in (Ok p) = p.0
nodes_in (Err fault) = []

not_refused : (fault : ProgramFault) (nodes : List Placed) (n : ℕ) → refused fault ≡ answered nodes n → ⊥
not_refused fault nodes n e = false≢true (ap is_ok e)

same_nodes : (xs ys : List Placed) (m n : ℕ) → answered xs m ≡ answered ys n → xs ≡ ys
unfolding nodes_in
same_nodes xs ys m n e = ap nodes_in e

after_keeps : (t : Turn) (taken place : ℕ) (more : Stacks → Expected → Result (List Placed × ℕ) ProgramFault)
    (nodes : List Placed) (n : ℕ) → Keeps t → after_turn t taken place more ≡ answered nodes n
    → ((s : Stacks) (expected : Expected) → Leaves s (has expected) → more s expected ≡ answered nodes n
    → values_after 0 nodes ≡ some 1)
    → values_after 0 nodes ≡ some 1
after_keeps (Next s expected) taken place more nodes n h e go = go s expected h e
after_keeps (Done ns) taken place more nodes n h e go =
    ap (λ (ps : List Placed). values_after 0 ps) (sym (same_nodes ns nodes taken n e)) ∙ h
after_keeps Refused taken place more nodes n h e go = absurd (not_refused (NoExpression place) nodes n e)

reading_keeps : (ls : List Lexeme) (s : Stacks) (expected : Expected) (taken end : ℕ) (nodes : List Placed) (n : ℕ)
    → Leaves s (has expected) → reading s expected taken end ls ≡ answered nodes n → values_after 0 nodes ≡ some 1
reading_keeps [] s expected taken end nodes n h e =
    after_keeps (turn s expected (Code 0) end) taken end _ nodes n (turn_keeps s expected (Code 0) end h) e
    (λ t next k no. absurd (not_refused (NoExpression end) nodes n no))
reading_keeps (l ∷ ls) s expected taken end nodes n h e =
    after_keeps (turn s expected l.word l.place) taken l.place _ nodes n (turn_keeps s expected l.word l.place h) e
    (λ t next k all. reading_keeps ls t next (taken + 1) end nodes n k all)

pub expressions_are_whole : ExpressionsAreWhole
unfolding expression
expressions_are_whole end ls nodes n e =
    reading_keeps ls nothing Operand 0 end nodes n (record { values = refl; begun = tt }) e

use Rattle.std.proofs.Common.{◌≡◌, ℕ, ◌+◌, ◌<◌, ◌≤◌, List, [], ◌∷◌, ◌++◌, length, drop, get_or, min, reverse, arith}
use Rattle.std.proofs.Common.{sym, refl, ap, ◌∙◌, Option, Some, None, add-one, drop-cons}
use Rattle.std.proofs.lemmas.List.{drop_all, reverse-append}
use Rattle.pr_interpreter.specs.Expressions.{Done, Refused, Stacks, Turn, bound, close_pending, close_turn}
use Rattle.pr_interpreter.specs.Expressions.{comma_pending, comma_turn, end_turn, node_at, pending_bytes, settle}
use Rattle.pr_interpreter.specs.Expressions.{settled, waiting_bytes, with_node, with_waiting}
use Rattle.pr_interpreter.specs.declared.expressions.Node.TheVariants.{Apply}
use Rattle.pr_interpreter.specs.declared.expressions.Operator.{Operator}
use Rattle.pr_interpreter.specs.declared.expressions.Placed.{Placed}
use Rattle.pr_interpreter.specs.declared.reader.Waiting.{Waiting}

abbrev pub some_of : Operator → Option Operator
some_of op = Some op

abbrev pub none_of : Option Operator
none_of = None

abbrev pub stacks_of : List Placed → List Waiting → Stacks
stacks_of nodes waiting = record { nodes = nodes; waiting = waiting }

-- the operator that waits last is applied
pub settle_goes : (least : ℕ) (s t next : Stacks) (w : Waiting) (op : Operator) → t.nodes ≡ s.nodes
    → s.waiting ≡ w ∷ t.waiting → some_of op ≡ bound least w.pending → next ≡ with_node t (Apply op) w.place
    → settle least next ≡ settle least s
unfolding settle
settle_goes least s t next w op nodes waiting some e =
    ap (λ (u : Stacks). settled least u.nodes u.waiting) e
    ∙ (ap (λ (ps : List Placed). settled least (ps ++ node_at t.waiting (Apply op) w.place ∷ []) t.waiting) nodes
    ∙ (back ∙ ap (λ (ws : List Waiting). settled least s.nodes ws) (sym waiting)))
  where
    back : settled least (s.nodes ++ node_at t.waiting (Apply op) w.place ∷ []) t.waiting
        ≡ settled least s.nodes (w ∷ t.waiting)
    back = rw (sym some) refl

-- then less waits
pub less_waits : (s t next : Stacks) (w : Waiting) (op : Operator) → s.waiting ≡ w ∷ t.waiting
    → next ≡ with_node t (Apply op) w.place → length next.waiting < length s.waiting
less_waits s t next w op waiting e =
    let before = ap (λ (ws : List Waiting). length ws) waiting in
    let after = ap (λ (u : Stacks). length u.waiting) e in
    omega (arith, before, after)

-- what waits last stays
pub settle_stays : (least : ℕ) (s t next : Stacks) (w : Waiting) → t.nodes ≡ s.nodes → s.waiting ≡ w ∷ t.waiting
    → none_of ≡ bound least w.pending → next ≡ with_waiting t w.pending w.place → next ≡ settle least s
unfolding settle
settle_stays least s t next w nodes waiting none e =
    e ∙ (ap (λ (ps : List Placed). stacks_of ps (w ∷ t.waiting)) nodes
    ∙ (back ∙ ap (λ (ws : List Waiting). settled least s.nodes ws) (sym waiting)))
  where
    back : stacks_of s.nodes (w ∷ t.waiting) ≡ settled least s.nodes (w ∷ t.waiting)
    back = rw (sym none) refl

-- nothing waits
pub settle_none : (least : ℕ) (s t : Stacks) → t.nodes ≡ s.nodes → s.waiting ≡ [] → t.waiting ≡ [] → t ≡ settle least s
unfolding settle
settle_none least s t nodes before after =
    ap (λ (ps : List Placed). stacks_of ps t.waiting) nodes
    ∙ (ap (λ (ws : List Waiting). stacks_of s.nodes ws) after
    ∙ ap (λ (ws : List Waiting). settled least s.nodes ws) (sym before))

-- ---- what follows an operand

pub comma_on : (s t : Stacks) (w : Waiting) (r : Turn) → t.nodes ≡ s.nodes → s.waiting ≡ w ∷ t.waiting
    → r ≡ comma_pending t w.pending w.place → r ≡ comma_turn s.nodes s.waiting
comma_on s t w r nodes waiting e =
    e ∙ (ap (λ (ps : List Placed). comma_pending (stacks_of ps t.waiting) w.pending w.place) nodes
    ∙ ap (λ (ws : List Waiting). comma_turn s.nodes ws) (sym waiting))

pub comma_none : (s t : Stacks) → t.nodes ≡ s.nodes → s.waiting ≡ [] → Done t.nodes ≡ comma_turn s.nodes s.waiting
comma_none s t nodes waiting =
    ap (λ (ps : List Placed). Done ps) nodes ∙ ap (λ (ws : List Waiting). comma_turn s.nodes ws) (sym waiting)

pub close_on : (s t : Stacks) (w : Waiting) (r : Turn) → t.nodes ≡ s.nodes → s.waiting ≡ w ∷ t.waiting
    → r ≡ close_pending t w.pending w.place → r ≡ close_turn s.nodes s.waiting
close_on s t w r nodes waiting e =
    e ∙ (ap (λ (ps : List Placed). close_pending (stacks_of ps t.waiting) w.pending w.place) nodes
    ∙ ap (λ (ws : List Waiting). close_turn s.nodes ws) (sym waiting))

pub close_none : (s t : Stacks) → t.nodes ≡ s.nodes → s.waiting ≡ [] → Done t.nodes ≡ close_turn s.nodes s.waiting
close_none s t nodes waiting =
    ap (λ (ps : List Placed). Done ps) nodes ∙ ap (λ (ws : List Waiting). close_turn s.nodes ws) (sym waiting)

pub end_on : (s t : Stacks) (w : Waiting) → s.waiting ≡ w ∷ t.waiting → Refused ≡ end_turn s.nodes s.waiting
end_on s t w waiting = ap (λ (ws : List Waiting). end_turn s.nodes ws) (sym waiting)

pub end_none : (s t : Stacks) → t.nodes ≡ s.nodes → s.waiting ≡ [] → Done t.nodes ≡ end_turn s.nodes s.waiting
end_none s t nodes waiting =
    ap (λ (ps : List Placed). Done ps) nodes ∙ ap (λ (ws : List Waiting). end_turn s.nodes ws) (sym waiting)

-- ---- the machine's stack

waiting_append : (xs ys : List Waiting) → waiting_bytes (xs ++ ys) ≡ waiting_bytes xs + waiting_bytes ys
waiting_append [] ys = omega arith
waiting_append (x ∷ xs) ys = let e = waiting_append xs ys in omega arith

waiting_reverse : (xs : List Waiting) → waiting_bytes (reverse xs) ≡ waiting_bytes xs
waiting_reverse [] = refl
waiting_reverse (x ∷ xs) =
    let e = waiting_reverse xs in
    let both : waiting_bytes (reverse (x ∷ xs)) ≡ waiting_bytes (reverse xs) + waiting_bytes (x ∷ []) =
    rw (reverse-append (x ∷ []) xs) (waiting_append (reverse xs) (x ∷ [])) in
    omega arith

-- what something takes that waits is counted
pub bytes_taken : (d : Waiting) (xs : List Waiting) (i size n : ℕ) → i < length xs
    → n ≡ pending_bytes (get_or xs i d).pending → size + waiting_bytes (drop i xs) ≡ waiting_bytes xs
    → size + n + waiting_bytes (drop (i + 1) xs) ≡ waiting_bytes xs
bytes_taken d xs i size n h taken all =
    let cut : drop i xs ≡ get_or xs i d ∷ drop (i + 1) xs = rw add-one (drop-cons xs i d h) in
    let sizes : waiting_bytes (drop i xs) ≡ pending_bytes (get_or xs i d).pending + waiting_bytes (drop (i + 1) xs) =
    rw cut refl in
    omega arith

-- there are more than are counted
pub bytes_many : (xs : List Waiting) (size rest : ℕ) → size + rest ≡ waiting_bytes xs → 255 ≤ size
    → 255 ≡ min (waiting_bytes (reverse xs)) 255
bytes_many xs size rest all many = let back = waiting_reverse xs in omega arith

-- all are counted
pub bytes_left : (xs : List Waiting) (i size : ℕ) → length xs ≤ i → size + waiting_bytes (drop i xs) ≡ waiting_bytes xs
    → size < 255 → size ≡ min (waiting_bytes (reverse xs)) 255
bytes_left xs i size h all few =
    let none : waiting_bytes (drop i xs) ≡ 0 = rw (drop_all i xs h) refl in
    let back = waiting_reverse xs in
    omega arith

use Rattle.std.proofs.Common.{◌≡◌, ℕ, zero, suc, ◌+◌, ◌&&◌, Bool, true, false, List, [], ◌∷◌, ◌++◌, refl, length, not}
use Rattle.std.proofs.Common.{nat_le, nat_lt, if◌then◌else◌, Option, Some, None, Result, Ok, Err}
use Rattle.pr_interpreter.specs.declared.expressions.Callee.TheVariants.{Array as Element, Function as Builtin, Own}
use Rattle.pr_interpreter.specs.declared.expressions.Node.{Node}
use Rattle.pr_interpreter.specs.declared.expressions.Node.TheVariants.{Apply, Call, Number as Constant, Text as Quoted}
use Rattle.pr_interpreter.specs.declared.expressions.Node.TheVariants.{Variable as Named}
use Rattle.pr_interpreter.specs.declared.expressions.Placed.{Placed}
use Rattle.pr_interpreter.specs.declared.given.Given.{Given}
use Rattle.pr_interpreter.specs.declared.given.Given.TheVariants.{Stopped}
use Rattle.pr_interpreter.specs.declared.memory.Array.{Array}
use Rattle.pr_interpreter.specs.declared.memory.Arrays.{Arrays}
use Rattle.pr_interpreter.specs.declared.memory.Function.{Function}
use Rattle.pr_interpreter.specs.declared.names.Name.{Name}
use Rattle.pr_interpreter.specs.declared.values.BasicError.TheVariants.{FormulaTooComplex, UndefinedFunction}
use Rattle.pr_interpreter.specs.declared.values.Halt.{Halt}
use Rattle.pr_interpreter.specs.declared.values.Halt.TheVariants.{Error, FullStack}
use Rattle.pr_interpreter.specs.Evaluation.{Scope, Worker, Working, after, arguments, defined, element, ended, entered}
use Rattle.pr_interpreter.specs.Evaluation.{evaluation, function_bytes, give, in_array, in_new, indexed, indices}
use Rattle.pr_interpreter.specs.Evaluation.{inside, is_made, last_given, number_in, own, put, returned, through}
use Rattle.pr_interpreter.specs.Evaluation.{without, worked}
use Rattle.pr_interpreter.specs.Memory.{added, array_of, function_of, undimensioned, undimensioned_bytes, with_array}
use Rattle.pr_interpreter.specs.Numbers.{Known}

-- arrays, if they are made
abbrev pub IfMade : (List Array → Type 0) → Option Arrays → Type 0
IfMade Q None = Unit {0}
IfMade Q (Some arrays) = Q arrays.list

-- what is true of arrays also when one without elements is added
abbrev pub StaysTrue : (List Array → Type 0) → Type 0
StaysTrue Q = (a : Array) (list : List Array) → a.elements ≡ [] → Q list → Q (list ++ a ∷ [])

module _ (Q : List Array → Type 0) (stays : StaysTrue Q) where
  if_made : (b : Bool) (arrays : Arrays) → Q arrays.list → IfMade Q (if b then Some arrays else None)
  if_made true arrays h = h
  if_made false arrays h = tt

  pub made_stays : (room : ℕ) (a : Array) (bytes : ℕ) (arrays : Arrays) → a.elements ≡ [] → Q arrays.list
      → IfMade Q (with_array room a bytes arrays)
  made_stays room a bytes arrays e h =
      if_made (nat_le (arrays.bytes + bytes) room) (added a (arrays.bytes + bytes) arrays)
      (stays a arrays.list e h)

  -- ---- the arrays where an expression is worked out

  abbrev Held : Working → Type 0
  Held w = Q w.arrays.list

  if_held : (b : Bool) (x y : Working) → Held x → Held y → Held (if b then x else y)
  if_held true x y hx hy = hx
  if_held false x y hx hy = hy

  give_held : (g : Given) (w : Working) → Held w → Held (give g w)
  unfolding give
  give_held g w h =
      if_held (is_made g && not (nat_lt w.strings 3)) (put (Stopped (Error FormulaTooComplex)) w)
      (put g (record w { strings = if is_made g then w.strings + 1 else w.strings })) h h

  without_held : (n : ℕ) (w : Working) → Held w → Held (without n w)
  unfolding without
  without_held n w h = h

  new_held : (place : ℕ) (a : Array) (is : List ℕ) (w : Working) (made : Option Arrays) → Held w → IfMade Q made
      → Held (in_new place a is w made)
  new_held place a is w None h made = give_held _ w h
  new_held place a is w (Some arrays) h made = give_held (element a is) (record w { arrays = arrays }) made

  array_held : (room place : ℕ) (name : Name) (is : List ℕ) (w : Working) (found : Option Array) → Held w
      → Held (in_array room place name is w found)
  unfolding in_array
  array_held room place name is w (Some a) h = give_held (element a is) w h
  array_held room place name is w None h =
      let a = undimensioned name (length is) in
      let bytes = undimensioned_bytes name.kind (length is) in
      new_held place a is w (with_array room a bytes w.arrays) h (made_stays room a bytes w.arrays refl h)

  indexed_held : (room place : ℕ) (name : Name) (w : Working) (is : Result (List ℕ) Halt) → Held w
      → Held (indexed room place name w is)
  indexed_held room place name w (Err halt) h = give_held (Stopped halt) w h
  indexed_held room place name w (Ok is) h = array_held room place name is w (array_of name w.arrays.list) h

  abbrev Holds : Worker → Type 0
  Holds worker = (place : ℕ) (scope : Scope) (w : Working) (nodes : List Placed) → Held w
      → Held (worker place scope w nodes)

  returned_held : (before after : Working) → Held after → Held (returned before after)
  unfolding ended
  returned_held before after h = h

  entered_held : (worker : Worker) → Holds worker → (place taken : ℕ) (scope : Scope) (w : Working) (n : Known)
      (f : Function) → Held w → Held (entered worker place taken scope w n f)
  entered_held worker holds place taken scope w n f h =
      let body = worker place (inside f.variable n taken scope) w f.value in
      if_held (nat_le taken scope.stack) (returned w body) (give (Stopped (FullStack place)) w)
      (returned_held w body (holds place (inside f.variable n taken scope) w f.value h))
      (give_held (Stopped (FullStack place)) w h)

  defined_held : (worker : Worker) → Holds worker → (place stacked : ℕ) (scope : Scope) (w : Working) (n : Known)
      (found : Option Function) → Held w → Held (defined worker place stacked scope w n found)
  defined_held worker holds place stacked scope w n None h = give_held (Stopped (Error UndefinedFunction)) w h
  defined_held worker holds place stacked scope w n (Some f) h =
      entered_held worker holds place (stacked + function_bytes) scope w n f h

  own_held : (worker : Worker) → Holds worker → (place stacked : ℕ) (scope : Scope) (w : Working) (name : Name)
      (n : Result Known Halt) → Held w → Held (own worker place stacked scope w name n)
  own_held worker holds place stacked scope w name (Err halt) h = give_held (Stopped halt) w h
  own_held worker holds place stacked scope w name (Ok n) h =
      defined_held worker holds place stacked scope w n (function_of name scope.functions) h

  node_held : (worker : Worker) → Holds worker → (scope : Scope) (w : Working) (place stacked : ℕ) (node : Node)
      → Held w → Held (after worker scope w place stacked node)
  unfolding after
  node_held worker holds scope w place stacked (Constant c) h = give_held _ w h
  node_held worker holds scope w place stacked (Quoted start end) h = give_held _ w h
  node_held worker holds scope w place stacked (Named name) h = give_held _ w h
  node_held worker holds scope w place stacked (Apply op) h = give_held _ (without _ w) (without_held _ w h)
  node_held worker holds scope w place stacked (Call (Builtin f) count) h =
      give_held _ (without count w) (without_held count w h)
  node_held worker holds scope w place stacked (Call (Element name) count) h =
      indexed_held scope.memory place name (without count w) (indices place [] (arguments count w))
      (without_held count w h)
  node_held worker holds scope w place stacked (Call (Own name) count) h =
      own_held worker holds place stacked scope (without 1 w) name (number_in (last_given w.given))
      (without_held 1 w h)

  nodes_held : (worker : Worker) → Holds worker → (scope : Scope) (w : Working) (nodes : List Placed) → Held w
      → Held (through worker scope w nodes)
  nodes_held worker holds scope w [] h = h
  nodes_held worker holds scope w (p ∷ ps) h =
      nodes_held worker holds scope (after worker scope w p.place p.stacked p.node) ps
      (node_held worker holds scope w p.place p.stacked p.node h)

  worker_holds : (depth : ℕ) → Holds (worked depth)
  worker_holds zero place scope w nodes h = give_held (Stopped (FullStack place)) w h
  worker_holds (suc depth) place scope w nodes h = nodes_held (worked depth) (worker_holds depth) scope w nodes h

  -- an expression leaves it true
  pub evaluation_stays : (scope : Scope) (arrays : Arrays) (nodes : List Placed) → Q arrays.list
      → Q (evaluation scope arrays nodes).arrays.list
  unfolding evaluation
  evaluation_stays scope arrays nodes h =
      worker_holds 16 0 scope (record { arrays = arrays; given = []; strings = 0 }) nodes h

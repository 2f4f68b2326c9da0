use Rattle.std.proofs.Common.{◌≡◌, ℕ, zero, suc, ◌+◌, ◌-◌, ◌<◌, ◌≤◌, Bool, true, false, nat_le, if◌then◌else◌}
use Rattle.std.proofs.Common.{List, length, arith, refl, sym, ap, ◌∙◌, Option, Some, None}
use Rattle.std.proofs.lemmas.Bool.{lt-leb}
use Rattle.pr_interpreter.specs.Evaluation.{Scope, Working, element, give, in_array, through, worked}
use Rattle.pr_interpreter.specs.Memory.{added, undimensioned, undimensioned_bytes}
use Rattle.pr_interpreter.specs.Working.{element_of}
use Rattle.pr_interpreter.specs.declared.given.Given.{Given}
use Rattle.pr_interpreter.specs.declared.given.Given.TheVariants.{Stopped}
use Rattle.pr_interpreter.specs.declared.expressions.Placed.{Placed}
use Rattle.pr_interpreter.specs.declared.memory.Array.{Array}
use Rattle.pr_interpreter.specs.declared.memory.Arrays.{Arrays}
use Rattle.pr_interpreter.specs.declared.names.Name.{Name}
use Rattle.pr_interpreter.specs.declared.values.Halt.TheVariants.{FullMemory, FullStack}

abbrev pub some_given : Given → Option Given
some_given g = Some g

abbrev pub none_given : Option Given
none_given = None

abbrev pub no_array : Option Array
no_array = None

no_given : (g : Given) → some_given g ≡ None → ⊥
no_given g e = cc

same_given : (g h : Given) → some_given g ≡ Some h → g ≡ h
same_given g h e = cc

-- nodes are worked out one after another, if functions may still be called
pub worked_more : (depth place : ℕ) (scope : Scope) (w : Working) (nodes : List Placed) → 0 < depth
    → through (worked (depth - 1)) scope w nodes ≡ worked depth place scope w nodes
worked_more zero place scope w nodes h = absurd (omega arith)
worked_more (suc depth) place scope w nodes h =
    let less : suc depth - 1 ≡ depth = omega arith in rw less refl

pub worked_none : (depth place : ℕ) (scope : Scope) (w : Working) (nodes : List Placed) → depth ≡ 0
    → give (Stopped (FullStack place)) w ≡ worked depth place scope w nodes
worked_none depth place scope w nodes e = rw e refl

-- ---- elements of arrays

-- an element of an array that there is
pub in_array_some : (room place : ℕ) (name : Name) (is : List ℕ) (w v : Working) (o : Option Array) (g : Given)
    → some_given g ≡ element_of o is → v ≡ give g w → v ≡ in_array room place name is w o
unfolding in_array
in_array_some room place name is w v None g e given = absurd (no_given g e)
in_array_some room place name is w v (Some a) g e given =
    given ∙ ap (λ (h : Given). give h w) (same_given g (element a is) e)

-- and of one that there is not
pub in_array_none : (room place : ℕ) (name : Name) (is : List ℕ) (w v : Working) (o : Option Array)
    → none_given ≡ element_of o is → v ≡ in_array room place name is w no_array → v ≡ in_array room place name is w o
in_array_none room place name is w v None e given = given
in_array_none room place name is w v (Some a) e given = absurd (no_given (element a is) (sym e))

-- ---- an array that is used before DIM

abbrev pub elements_bytes : Name → List ℕ → ℕ
elements_bytes name is = undimensioned_bytes name.kind (length is)

-- it has too many dimensions
pub new_large : (room place : ℕ) (name : Name) (is : List ℕ) (w v : Working) → room ≤ 65535
    → 65535 < elements_bytes name is → v ≡ give (Stopped (FullMemory place)) w
    → v ≡ in_array room place name is w no_array
unfolding in_array
new_large room place name is w v small large given =
    rw (lt-leb (w.arrays.bytes + elements_bytes name is) room (omega arith)) given

-- there is room
pub new_added : (room place : ℕ) (name : Name) (is : List ℕ) (w v : Working) (a : Array) (g : Given) (bytes : ℕ)
    (b : Bool) (arrays : Arrays) → a ≡ undimensioned name (length is) → g ≡ element a is → bytes ≡ elements_bytes name is
    → b ≡ nat_le (w.arrays.bytes + bytes) room
    → arrays ≡ (if b then added a (w.arrays.bytes + bytes) w.arrays else w.arrays) → b ≡ true
    → v ≡ give g (record w { arrays = arrays }) → v ≡ in_array room place name is w no_array
unfolding in_array
new_added room place name is w v a g bytes b arrays array value size below left test given =
    let fits : nat_le (w.arrays.bytes + elements_bytes name is) room ≡ true
    = ap (λ (n : ℕ). nat_le (w.arrays.bytes + n) room) (sym size) ∙ (sym below ∙ test) in
    let new = undimensioned name (length is) in
    let after : arrays ≡ added new (w.arrays.bytes + elements_bytes name is) w.arrays
    = left
    ∙ (ap (λ (c : Bool). if c then added a (w.arrays.bytes + bytes) w.arrays else w.arrays) test
    ∙ (ap (λ (x : Array). added x (w.arrays.bytes + bytes) w.arrays) array
    ∙ ap (λ (n : ℕ). added new (w.arrays.bytes + n) w.arrays) size)) in
    rw fits (given
    ∙ (ap (λ (x : Given). give x (record w { arrays = arrays })) (value ∙ ap (λ (x : Array). element x is) array)
    ∙ ap (λ (x : Arrays). give (element new is) (record w { arrays = x })) after))

-- there is none
pub new_full : (room place : ℕ) (name : Name) (is : List ℕ) (w v : Working) (a : Array) (bytes : ℕ) (b : Bool)
    (arrays : Arrays) → bytes ≡ elements_bytes name is → b ≡ nat_le (w.arrays.bytes + bytes) room
    → arrays ≡ (if b then added a (w.arrays.bytes + bytes) w.arrays else w.arrays) → b ≡ false
    → v ≡ give (Stopped (FullMemory place)) (record w { arrays = arrays }) → v ≡ in_array room place name is w no_array
unfolding in_array
new_full room place name is w v a bytes b arrays size below left test given =
    let fits : nat_le (w.arrays.bytes + elements_bytes name is) room ≡ false
    = ap (λ (n : ℕ). nat_le (w.arrays.bytes + n) room) (sym size) ∙ (sym below ∙ test) in
    let after : arrays ≡ w.arrays
    = left ∙ ap (λ (c : Bool). if c then added a (w.arrays.bytes + bytes) w.arrays else w.arrays) test in
    rw fits (given ∙ ap (λ (x : Arrays). give (Stopped (FullMemory place)) (record w { arrays = x })) after)

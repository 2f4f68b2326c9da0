-- Trusted: variables, arrays and functions, by their names.
use Rattle.std.specs.Prelude.{ℕ, ◌+◌, ◌*◌, ◌^◌, ◌==◌, ◌&&◌, Bool, true, false, not, List, [], ◌∷◌, ◌++◌, replicate}
use Rattle.std.specs.Prelude.{slice_index_or, nat_le, nat_lt, if◌then◌else◌, Option, Some, None}
use Rattle.pr_interpreter.specs.declared.memory.Array.{Array}
use Rattle.pr_interpreter.specs.declared.memory.Arrays.{Arrays}
use Rattle.pr_interpreter.specs.declared.memory.Function.{Function}
use Rattle.pr_interpreter.specs.declared.memory.Parameter.{Parameter}
use Rattle.pr_interpreter.specs.declared.memory.Variable.{Variable}
use Rattle.pr_interpreter.specs.declared.names.Kind.{Kind}
use Rattle.pr_interpreter.specs.declared.names.Kind.TheVariants.{Number as Numeric, Text as Letters, Whole}
use Rattle.pr_interpreter.specs.declared.names.Name.{Name}
use Rattle.pr_interpreter.specs.declared.values.Value.{Value}
use Rattle.pr_interpreter.specs.declared.values.Value.TheVariants.{Number, Text}
use Rattle.pr_interpreter.specs.Numbers.{Known, zero_number}

-- ---- names

abbrev pub same_second : Option ℕ → Option ℕ → Bool
same_second None None = true
same_second None (Some d) = false
same_second (Some c) None = false
same_second (Some c) (Some d) = c == d

abbrev pub same_kind : Kind → Kind → Bool
same_kind Numeric Numeric = true
same_kind Numeric Whole = false
same_kind Numeric Letters = false
same_kind Whole Numeric = false
same_kind Whole Whole = true
same_kind Whole Letters = false
same_kind Letters Numeric = false
same_kind Letters Whole = false
same_kind Letters Letters = true

unfoldable pub same_name : Name → Name → Bool
same_name a b = (a.first == b.first) && same_second a.second b.second && same_kind a.kind b.kind

-- TI and TI$, the clock
unfoldable pub is_clock : Name → Bool
is_clock n = (n.first == 84) && same_second n.second (Some 73) && not (same_kind n.kind Whole)

-- ST, the status
unfoldable pub is_status : Name → Bool
is_status n = (n.first == 83) && same_second n.second (Some 84) && same_kind n.kind Numeric

-- ---- variables

-- what a variable has before it is given a value
abbrev pub first_value : Kind → Value
first_value Numeric = Number zero_number
first_value Whole = Number zero_number
first_value Letters = Text []

-- what a variable has
abbrev pub variable_value : Name → List Variable → Value
variable_value name [] = first_value name.kind
variable_value name (v ∷ vs) = if same_name name v.name then v.value else variable_value name vs

-- what the variable of a function that is worked out stands for
abbrev pub parameter_of : Name → List Parameter → Option Known
parameter_of name [] = None
parameter_of name (p ∷ ps) = if same_name name p.name then Some p.value else parameter_of name ps

abbrev pub parameter : Name → Known → Parameter
parameter name n = record { name = name; value = n }

-- ---- functions

abbrev pub function_of : Name → List Function → Option Function
function_of name [] = None
function_of name (f ∷ fs) = if same_name name f.name then Some f else function_of name fs

-- ---- arrays

abbrev pub array_of : Name → List Array → Option Array
array_of name [] = None
array_of name (a ∷ more) = if same_name name a.name then Some a else array_of name more

-- how many bytes an element has
abbrev pub element_bytes : Kind → ℕ
element_bytes Numeric = 5
element_bytes Whole = 2
element_bytes Letters = 3

-- how many bytes an array takes with so many dimensions and elements
abbrev pub array_bytes : Kind → ℕ → ℕ → ℕ
array_bytes kind dimensions elements = 5 + 2 * dimensions + element_bytes kind * elements

-- an array that is used before DIM: in each dimension it has elements 0 to 10
abbrev pub undimensioned : Name → ℕ → Array
undimensioned name count = record { name = name; bounds = replicate count 10; elements = [] }

abbrev pub undimensioned_bytes : Kind → ℕ → ℕ
undimensioned_bytes kind count = array_bytes kind count (11 ^ count)

abbrev pub no_arrays : Arrays
no_arrays = record { list = []; bytes = 0 }

abbrev pub added : Array → ℕ → Arrays → Arrays
added a bytes arrays = record { list = arrays.list ++ a ∷ []; bytes = bytes }

-- one more array, if the bytes of all are not more than there are for arrays
abbrev pub with_array : ℕ → Array → ℕ → Arrays → Option Arrays
with_array room a bytes arrays =
    if nat_le (arrays.bytes + bytes) room then Some (added a (arrays.bytes + bytes) arrays) else None

-- The place of an element among those of its array, after a place for the dimensions before: the last index runs
-- fastest. None if an index is too great, or there are more or fewer than dimensions. No array has more than 65536.
abbrev pub place_of : ℕ → List ℕ → List ℕ → Option ℕ
place_of n [] [] = Some n
place_of n [] (i ∷ is) = None
place_of n (b ∷ bs) [] = None
place_of n (b ∷ bs) (i ∷ is) =
    if nat_le i b && nat_lt (n * (b + 1) + i) 65536 then place_of (n * (b + 1) + i) bs is else None

-- the element at a place
abbrev pub element_at : Array → ℕ → Value
element_at a n = slice_index_or a.elements n (first_value a.name.kind)

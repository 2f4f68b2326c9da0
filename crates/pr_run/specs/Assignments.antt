-- Trusted: what is assigned to: variables, and elements of arrays. DIM and CLR.
use Rattle.std.specs.Prelude.{ℕ, ◌+◌, ◌-◌, ◌*◌, ◌==◌, ◌||◌, Bool, false, List, [], ◌∷◌, ◌++◌, length, replicate}
use Rattle.std.specs.Prelude.{slice_set, nat_le, if◌then◌else◌, Option, Some, None, Ok, Err}
use Rattle.pr_interpreter.specs.declared.expressions.Placed.{Placed}
use Rattle.pr_interpreter.specs.declared.memory.Array.{Array}
use Rattle.pr_interpreter.specs.declared.memory.Arrays.{Arrays}
use Rattle.pr_interpreter.specs.declared.memory.Variable.{Variable}
use Rattle.pr_interpreter.specs.declared.names.Kind.{Kind}
use Rattle.pr_interpreter.specs.declared.names.Kind.TheVariants.{Number as Numeric, Text as Letters, Whole as Short}
use Rattle.pr_interpreter.specs.declared.names.Name.{Name}
use Rattle.pr_interpreter.specs.declared.statements.Target.{Target}
use Rattle.pr_interpreter.specs.declared.values.BasicError.TheVariants.{BadSubscript, RedimensionedArray, Syntax}
use Rattle.pr_interpreter.specs.declared.values.Value.{Value}
use Rattle.pr_interpreter.specs.Memory.{array_bytes, array_of, first_value, is_clock, is_status, place_of}
use Rattle.pr_interpreter.specs.Memory.{same_name, undimensioned, undimensioned_bytes, with_array}
use Rattle.pr_run.specs.declared.ending.Ending.{Ending}
use Rattle.pr_run.specs.declared.ending.Ending.TheVariants.{Error, Refused}
use Rattle.pr_run.specs.declared.ending.Refusal.TheVariants.{FullMemory, FullStack, NotTaken, OpenFiles}
use Rattle.pr_run.specs.declared.programs.Program.{Program}
use Rattle.pr_run.specs.declared.uses.Use.{Use}
use Rattle.pr_run.specs.Memory.{bytes_for_arrays, fits, strings_with}
use Rattle.pr_run.specs.States.{State, cleared}
use Rattle.pr_run.specs.Uses.{Valued, Worked, and_then, kept, statement_use, use_at, use_of, used, whole_of}
use Rattle.pr_run.specs.Worked.{each, every, then_on, valued, worked}

-- ---- where a value is kept

-- an item takes the place of the first one that is wanted, or comes at the end
abbrev pub replaced : {A : Type 0} → (A → Bool) → A → List A → List A
replaced wanted a [] = a ∷ []
replaced wanted a (x ∷ xs) = if wanted x then a ∷ xs else x ∷ replaced wanted a xs

-- a variable has a value
unfoldable pub with_variable : Name → Value → List Variable → List Variable
with_variable name v vs = replaced (λ x. same_name name x.name) (record { name = name; value = v }) vs

-- elements, of which those after the last one have a first value, with another value at a place
abbrev pub with_element : Value → ℕ → Value → List Value → List Value
with_element first n v es = slice_set (es ++ replicate (n + 1 - length es) first) n v

abbrev pub array_with : ℕ → Value → Array → Array
array_with n v a = record a { elements = with_element (first_value a.name.kind) n v a.elements }

-- an element of an array of these has a value
abbrev pub with_element_of : Name → ℕ → Value → Option Array → List Array → List Array
with_element_of name n v None list = list
with_element_of name n v (Some a) list = replaced (λ x. same_name name x.name) (array_with n v a) list

unfoldable pub with_value_at : Name → ℕ → Value → Arrays → Arrays
with_value_at name n v arrays =
    record arrays { list = with_element_of name n v (array_of name arrays.list) arrays.list }

-- a value is kept: in a variable, or in an array at a place among its elements
abbrev pub stored_at : Name → Option ℕ → Value → ℕ → State → State
stored_at name None v strings s = record s { variables = with_variable name v s.variables; strings = strings }
stored_at name (Some n) v strings s = record s { arrays = with_value_at name n v s.arrays; strings = strings }

abbrev pub stored : Name → Option ℕ → Value → State → State
stored name at v s = stored_at name at v (strings_with name at v s) s

-- an item comes at the end, unless there is one that is wanted
abbrev pub added_unless : {A : Type 0} → (A → Bool) → A → List A → List A
added_unless wanted a [] = a ∷ []
added_unless wanted a (x ∷ xs) = if wanted x then x ∷ xs else x ∷ added_unless wanted a xs

-- there is a variable, 0 or empty if there was none
unfoldable pub declared : Name → List Variable → List Variable
declared name vs =
    added_unless (λ x. same_name name x.name) (record { name = name; value = first_value name.kind }) vs

abbrev pub with_declared : Name → State → State
with_declared name s = record s { variables = declared name s.variables }

-- the run goes on in a state if the machine surely has the memory for it
abbrev pub in_memory : Program → Use → State → Worked State
in_memory p u s = if fits p s then Ok s else Err (Refused FullMemory u.place)

-- ---- elements of arrays

-- an index of an element
unfoldable pub index : Program → Use → State → List Placed → Worked (Valued ℕ)
index p u s nodes = then_on (worked p s nodes) (λ v t. valued t (used u (whole_of 32767 v)))

-- indices of an element that a statement names: with more than five the machine's stack may be full
unfoldable pub indices : Program → Use → State → List (List Placed) → Worked (Valued (List ℕ))
indices p u s is = if nat_le (length is) 5 then every (index p u) [] s is else Err (Refused FullStack u.place)

-- one more array, if the machine surely has the memory for it
abbrev pub made_array : Use → State → Option Arrays → Worked State
made_array u s None = Err (Refused FullMemory u.place)
made_array u s (Some arrays) = Ok (record s { arrays = arrays })

-- an array that is used before DIM
abbrev pub made_undimensioned : Program → Use → State → Name → ℕ → Worked State
made_undimensioned p u s name count =
    let bytes = undimensioned_bytes name.kind count in
    made_array u s (with_array (bytes_for_arrays p s) (undimensioned name count) bytes s.arrays)

abbrev pub with_its_array : Program → Use → State → Name → ℕ → Option Array → Worked State
with_its_array p u s name count None = made_undimensioned p u s name count
with_its_array p u s name count (Some a) = Ok s

abbrev pub place_or : Use → State → Option ℕ → Worked (Valued (Option ℕ))
place_or u s None = Err (Error BadSubscript u.line)
place_or u s (Some n) = Ok (record { value = Some n; after = s })

abbrev pub place_in : Use → State → List ℕ → Option Array → Worked (Valued (Option ℕ))
place_in u s is None = Err (Error BadSubscript u.line)
place_in u s is (Some a) = place_or u s (place_of 0 a.bounds is)

-- the place of an element in its array, which is made if it is used before DIM
unfoldable pub element_in : Program → Use → State → Name → List ℕ → Worked (Valued (Option ℕ))
element_in p u s name is =
    and_then (with_its_array p u s name (length is) (array_of name s.arrays.list))
    (λ t. place_in u t is (array_of name t.arrays.list))

-- where a target's value is kept; none for a variable
abbrev pub place_for : Program → State → Target → List (List Placed) → Worked (Valued (Option ℕ))
place_for p s t [] = Ok (record { value = None; after = s })
place_for p s t (i ∷ is) = let u = use_at p s t.place in
    then_on (indices p u s (i ∷ is)) (λ found r. element_in p u r t.name found)

-- TI and ST cannot be assigned to; TI$ sets the clock, which is not taken
abbrev pub is_system : Name → List (List Placed) → Bool
is_system name [] = is_clock name || is_status name
is_system name (i ∷ is) = false

abbrev pub system_ending : Use → Kind → Ending
system_ending u Letters = Refused NotTaken u.place
system_ending u Numeric = Error Syntax u.line
system_ending u Short = Error Syntax u.line

unfoldable pub target_place : Program → State → Target → Worked (Valued (Option ℕ))
target_place p s t =
    if is_system t.name t.indices then Err (system_ending (use_at p s t.place) t.name.kind)
    else place_for p s t t.indices

-- ---- LET

-- a value is kept as the kind of the name wants it
abbrev pub assigned : Program → Use → Name → Option ℕ → Value → State → Worked State
assigned p u name at v s = and_then (used u (kept name.kind v)) (λ w. in_memory p u (stored name at w s))

-- LET: where the value is kept is worked out first
unfoldable pub let_statement : Program → State → Target → List Placed → Worked State
let_statement p s t nodes =
    then_on (target_place p s t)
    (λ at r. then_on (worked p r nodes) (λ v u. assigned p (use_of p u nodes) t.name at v u))

-- ---- DIM

-- how many elements there are
abbrev pub element_count : List ℕ → ℕ
element_count [] = 1
element_count (b ∷ bs) = (b + 1) * element_count bs

-- an array is made, if there is none of its name
abbrev pub dimensioned : Program → Use → State → Name → List ℕ → Option Array → Worked State
dimensioned p u s name bounds (Some a) = Err (Error RedimensionedArray u.line)
dimensioned p u s name bounds None =
    let a : Array = record { name = name; bounds = bounds; elements = [] } in
    let bytes = array_bytes name.kind (length bounds) (element_count bounds) in
    made_array u s (with_array (bytes_for_arrays p s) a bytes s.arrays)

-- a variable is not changed, but there is one
abbrev pub dimension_with : Program → State → Target → List (List Placed) → Worked State
dimension_with p s t [] = in_memory p (use_at p s t.place) (with_declared t.name s)
dimension_with p s t (i ∷ is) = let u = use_at p s t.place in
    then_on (indices p u s (i ∷ is)) (λ bounds r. dimensioned p u r t.name bounds (array_of t.name r.arrays.list))

unfoldable pub dimension : Program → State → Target → Worked State
dimension p s t =
    if is_system t.name t.indices then Err (system_ending (use_at p s t.place) t.name.kind)
    else dimension_with p s t t.indices

-- DIM
unfoldable pub dim_statement : Program → State → List Target → Worked State
dim_statement p s ts = each (dimension p) s ts

-- ---- CLR

-- CLR forgets the variables, and what is open; also files, which no script can do
abbrev pub clear_if : Use → State → List ℕ → Worked State
clear_if u s [] = if s.channel == 0 then Ok (cleared s) else Err (Refused OpenFiles u.place)
clear_if u s (f ∷ fs) = Err (Refused OpenFiles u.place)

unfoldable pub clear_statement : Program → State → Worked State
clear_statement p s = clear_if (statement_use p s) s s.files

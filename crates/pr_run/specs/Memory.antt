-- Trusted: the machine's memory. It has 38911 bytes for a program, its variables, its arrays and its strings; a run is
-- refused where it may need more.
use Rattle.std.specs.Prelude.{ℕ, ◌+◌, ◌-◌, ◌*◌, Bool, length, min, nat_le, Option, Some, None}
use Rattle.pr_interpreter.specs.declared.memory.Array.{Array}
use Rattle.pr_interpreter.specs.declared.names.Name.{Name}
use Rattle.pr_interpreter.specs.declared.names.Kind.{Kind}
use Rattle.pr_interpreter.specs.declared.names.Kind.TheVariants.{Number as Numeric, Text as Letters, Whole as Short}
use Rattle.pr_interpreter.specs.declared.values.Value.{Value}
use Rattle.pr_interpreter.specs.declared.values.Value.TheVariants.{Number, Text}
use Rattle.pr_interpreter.specs.Memory.{array_of, element_at, first_value, variable_value}
use Rattle.pr_run.specs.declared.programs.Program.{Program}
use Rattle.pr_run.specs.States.{State}

-- ---- strings

-- how many bytes a value takes as a string
abbrev pub string_bytes : Value → ℕ
string_bytes (Number n) = 0
string_bytes (Text t) = length t

-- the value of an element at a place of an array
abbrev pub element_value : Name → ℕ → Option Array → Value
element_value name n None = first_value name.kind
element_value name n (Some a) = element_at a n

-- what a variable has, or an element at a place of the array of a name
abbrev pub value_of : Name → Option ℕ → State → Value
value_of name None s = variable_value name s.variables
value_of name (Some n) s = element_value name n (array_of name s.arrays.list)

-- numbers take no bytes as strings; from 65535 on, which no machine has, bytes are not counted
abbrev pub strings_by : Kind → ℕ → ℕ → ℕ
strings_by Letters before after = min after 65535
strings_by Numeric before after = before
strings_by Short before after = before

-- how many bytes the strings of variables and elements take when one has another value: those of the old one are free
abbrev pub strings_with : Name → Option ℕ → Value → State → ℕ
strings_with name at v s =
    strings_by name.kind s.strings (s.strings - string_bytes (value_of name at s) + string_bytes v)

-- ---- all

-- how many bytes a program takes: its text, and five for each line
abbrev pub program_bytes : Program → ℕ
program_bytes p = length p.text + 5 * length p.lines

-- how many there are: 1100 are for four strings of at most 255 bytes, three that an expression keeps and one that is
-- made, and for a variable that comes to be before its value
abbrev pub memory_limit : ℕ
memory_limit = 38911 - 1100

-- how many are taken, but for arrays: 7 for each variable and function
unfoldable pub bytes_without_arrays : Program → State → ℕ
bytes_without_arrays p s = program_bytes p + 7 * (length s.variables + length s.functions) + s.strings

-- how many there are for arrays
abbrev pub bytes_for_arrays : Program → State → ℕ
bytes_for_arrays p s = memory_limit - bytes_without_arrays p s

-- the machine surely has the memory for a program and a state
abbrev pub fits : Program → State → Bool
fits p s = nat_le (bytes_without_arrays p s + s.arrays.bytes) memory_limit
